use Rattle.std.proofs.Common.{◌≡◌, ◌-◌, ◌^◌, min, take}
use Rattle.gs_tree.specs.Bytes.{decimal}
use Rattle.gs_tree.proofs.bytes.decimal.Given as goal

abbrev pub invariant-loop-d : goal.invariant-loop-d
invariant-loop-d l = l.v ≡ min (decimal (take l.d-index l.digits)) (2 ^ 64 - 1)
