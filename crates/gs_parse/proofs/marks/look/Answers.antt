use Rattle.gs_parse.proofs.Looks.{looked, looked_past}
use Rattle.std.proofs.Common.{◌≤◌, subst, ℕ}
use Rattle.gs_parse.proofs.marks.look.Goals as goal

pub returns-then-at-len-clause-shows : goal.returns-then-at-len-clause-shows
returns-then-at-len-clause-shows c = looked c.args.tokens.now c.args.at c.mark.result c.mark.ensures

pub returns-clause-shows : goal.returns-clause-shows
returns-clause-shows c = looked_past c.args.tokens.now c.args.at (subst (λ (n : ℕ). n ≤ c.args.at) c.len.ensures c.if-at-len.false)
