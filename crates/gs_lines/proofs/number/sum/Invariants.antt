use Rattle.std.proofs.Common.{◌≡◌, pos}
use Rattle.gs_lines.specs.Lines.{lines}
use Rattle.gs_lines.specs.Number.{sum_from}
use Rattle.gs_lines.proofs.number.sum.Given as goal

abbrev pub invariant-loop-line : goal.invariant-loop-line
invariant-loop-line l = sum_from l.total l.line-iterator ≡ sum_from (pos 0) (lines l.fn.bytes)
