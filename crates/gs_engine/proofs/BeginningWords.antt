-- How a call ends that answers nothing.
use Rattle.std.proofs.Common.{Result, Ok, Err}
use Rattle.gs_finish.specs.declared.halt.Halt.{Halt}

abbrev pub done : Result (Unit {0}) Halt
done = Ok tt

abbrev pub halt : Halt → Result (Unit {0}) Halt
halt e = Err e
