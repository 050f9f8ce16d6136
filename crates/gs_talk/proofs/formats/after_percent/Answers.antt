use Rattle.std.proofs.Common.{refl}
use Rattle.gs_tree.specs.Formats.{literally, percent_d, percent_s}
use Rattle.gs_talk.proofs.Rendering.{after_two}
use Rattle.gs_talk.proofs.formats.after_percent.Goals as goal

pub returns-in-100 : goal.returns-in-100
returns-in-100 c = after_two c.args.format.now percent_d 100 c.if-format-eq1.false c.requires.some c.requires.percent c.in-100.is (λ rest. refl)

pub returns-in-115 : goal.returns-in-115
returns-in-115 c = after_two c.args.format.now percent_s 115 c.if-format-eq1.false c.requires.some c.requires.percent c.in-115.is (λ rest. refl)

pub returns-in-37 : goal.returns-in-37
returns-in-37 c = after_two c.args.format.now (literally 37) 37 c.if-format-eq1.false c.requires.some c.requires.percent c.in-37.is (λ rest. refl)
