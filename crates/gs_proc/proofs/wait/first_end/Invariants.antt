use Rattle.std.proofs.Common.{◌≡◌, vec_len}
use Rattle.gs_proc.specs.Tasks.{calls}
use Rattle.gs_proc.proofs.wait.first_end.Given as goal

abbrev pub invariant-loop-place : goal.invariant-loop-place
invariant-loop-place g l = (calls l.tasks.items ≡ calls l.initial.tasks.items) × (vec_len l.tasks ≡ l.place-end)
