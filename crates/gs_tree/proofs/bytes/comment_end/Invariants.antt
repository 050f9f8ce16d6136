use Rattle.std.proofs.Common.{ℕ, ◌+◌, ◌<◌}
use Rattle.gs_tree.specs.Bytes.{EndsAt}
use Rattle.gs_tree.proofs.bytes.comment_end.Given as goal

abbrev pub invariant-loop-i : goal.invariant-loop-i
invariant-loop-i l = (k : ℕ) → k + 1 < l.i → ¬ EndsAt l.bytes k
