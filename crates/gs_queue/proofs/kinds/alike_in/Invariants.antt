use Rattle.std.proofs.Common.{◌≡◌, ◌<◌, ℕ, Some, false}
use Rattle.std.specs.List.{slice_get}
use Rattle.gs_broker.specs.declared.choice.Ready.{Ready}
use Rattle.gs_queue.specs.Fronts.{are_alike}
use Rattle.gs_queue.proofs.kinds.alike_in.Given as goal

abbrev pub invariant-loop-f : goal.invariant-loop-f
invariant-loop-f l = (g : Ready) (i : ℕ) → i < l.f-index → slice_get l.fronts i ≡ Some g → are_alike g l.r ≡ false
