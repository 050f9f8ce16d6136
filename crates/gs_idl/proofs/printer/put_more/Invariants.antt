use Rattle.std.proofs.Common.{◌≡◌, ◌++◌, drop, map}
use Rattle.gs_idl.specs.Printed.{more_text}
use Rattle.gs_idl.specs.View.{param_of}
use Rattle.gs_idl.proofs.printer.put_more.Given as goal

abbrev pub invariant-loop-param : goal.invariant-loop-param
invariant-loop-param l = l.out.items ++ more_text (map param_of (drop l.param-index l.params)) ≡ l.initial.out.items ++ more_text (map param_of l.params)
