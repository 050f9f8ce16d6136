-- The code's operations as clauses see them.
use Rattle.std.specs.Prelude.{ℕ, map, Vec}
use Rattle.std.specs.declared.alloc.Global.{Global}
use Rattle.gs_idl.specs.Interface.{Param, Signature, Interface}
use Rattle.gs_idl.specs.declared.idl.Parameter.{Parameter}
use Rattle.gs_idl.specs.declared.idl.Operation.{Operation}

abbrev pub param_of : Parameter → Param
param_of p = record { dir = p.dir; kind = p.kind; name = p.name.items }

abbrev pub op_of : Operation → Signature
op_of o = record { name = o.name.items; params = map param_of o.params.items }

abbrev pub interface_by : Vec ℕ Global → Vec Operation Global → Interface
interface_by name ops = record { name = name.items; ops = map op_of ops.items }
