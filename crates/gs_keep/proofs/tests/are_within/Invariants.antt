use Rattle.std.proofs.Common.{◌<◌, ℕ, get_or}
use Rattle.gs_types.specs.declared.value.Value.{Value}
use Rattle.gs_keep.specs.Given.{IsWithin}
use Rattle.gs_keep.proofs.tests.are_within.Given as goal

abbrev pub invariant-loop-v : goal.invariant-loop-v
invariant-loop-v l = (k : ℕ) → k < l.v-index → (d : Value) → IsWithin (get_or l.outs k d)
