use Rattle.std.proofs.Common.{◌≡◌, drop, map}
use Rattle.gs_idl.specs.Machine.{has_param}
use Rattle.gs_idl.specs.View.{param_of}
use Rattle.gs_idl.proofs.reader.has_param.Given as goal

abbrev pub invariant-loop-param : goal.invariant-loop-param
invariant-loop-param l = has_param l.name (map param_of (drop l.param-index l.params)) ≡ has_param l.name (map param_of l.params)
