use Rattle.std.proofs.Common.{nat_eq, take}
use Rattle.std.specs.HashMap.{get}
use Rattle.gs_plan.specs.Scan.{AddsReads}
use Rattle.gs_plan.proofs.scan.read_files.Given as goal

abbrev pub invariant-loop-name : goal.invariant-loop-name
invariant-loop-name l = AddsReads (λ name. get nat_eq l.writers name) (take l.name-index l.reads) l.task l.fn.ties l.ties
