use Rattle.std.proofs.Common.{◌≡◌, ℕ, ◌<◌, List, length, sym, subst, rules}
use Rattle.gs_report.specs.Generator.{program_text}
use Rattle.gs_report.proofs.Sizes.{program_short}
use Rattle.gs_report.proofs.generator.make.Goals as goal

pub returns-clause-short : goal.returns-clause-short
returns-clause-short c = λ few.
    let is : c.of.result ≡ program_text c.args.seed c.args.n = search rules in
    subst (λ (l : List ℕ). length l < 55000) (sym is) (program_short c.args.seed c.args.n few)
