use Rattle.std.proofs.Common.{◌≡◌, ◌+◌, ◌++◌, drop}
use Rattle.gs_idl.specs.Interface.{params_at}
use Rattle.gs_keep.specs.Given.{output_places}
use Rattle.gs_keep.proofs.outputs.output_places.Given as goal

abbrev pub invariant-loop-i : goal.invariant-loop-i
invariant-loop-i l =
    l.places.items ++ output_places (l.i + 1) (drop l.i (params_at l.idl.ops l.op))
    ≡ output_places 1 (params_at l.idl.ops l.op)
