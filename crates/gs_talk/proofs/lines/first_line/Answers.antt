use Rattle.std.proofs.Common.{◌∙◌, ap, ℕ, take}
use Rattle.std.specs.List.{list_all}
use Rattle.gs_talk.proofs.LineBytes.{in_line, taken_pass}
use Rattle.gs_talk.proofs.lines.first_line.Goals as goal

pub returns-clause-line : goal.returns-clause-line
returns-clause-line c = ap (λ (n : ℕ). take n c.args.bytes.now) c.line_len.ensures

pub returns-clause-one : goal.returns-clause-one
returns-clause-one c = ap (λ (n : ℕ). list_all in_line (take n c.args.bytes.now)) c.line_len.ensures ∙ taken_pass in_line c.args.bytes.now
