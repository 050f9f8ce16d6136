use Rattle.std.proofs.Common.{◌≡◌, take}
use Rattle.gs_types.specs.Job.{inputs}
use Rattle.gs_site.proofs.copies.inputs_of.Given as goal

abbrev pub invariant-loop-arg : goal.invariant-loop-arg
invariant-loop-arg l = l.ins.items ≡ inputs (take l.arg-index l.args)
