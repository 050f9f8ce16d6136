use Rattle.std.proofs.Common.{◌≡◌, map, drop}
use Rattle.gs_idl.specs.Interface.{op_place}
use Rattle.gs_idl.specs.Token.{further}
use Rattle.gs_idl.specs.View.{op_of}
use Rattle.gs_idl.proofs.idl.place_of.Given as goal

abbrev pub invariant-loop-i : goal.invariant-loop-i
invariant-loop-i l = op_place (map op_of l.ops) l.name ≡ further l.i (op_place (map op_of (drop l.i l.ops)) l.name)
