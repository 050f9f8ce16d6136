use Rattle.std.proofs.Common.{subst}
use Rattle.gs_disk.specs.Moments.{Remembers}
use Rattle.gs_disk.specs.Mem.{MemState, as_disk}
use Rattle.gs_disk.proofs.Kept.{disk_of, remembers_same}
use Rattle.gs_disk.proofs.mem.MemDiskDisk.len.Goals as goal

pub returns-then-is_failing-clause-remembers : goal.returns-then-is_failing-clause-remembers
returns-then-is_failing-clause-remembers c = subst (λ (s : MemState). Remembers (as_disk s) (disk_of c.self.inside.held c.self.inside.past.value c.is_failing.new.self.faults c.is_failing.new.self.refusals)) c.self.view_is (remembers_same c.self.inside.held c.self.inside.past.value c.self.inside.calls.faults c.self.inside.calls.refusals c.is_failing.new.self.faults c.is_failing.new.self.refusals)

pub returns-clause-remembers : goal.returns-clause-remembers
returns-clause-remembers c = subst (λ (s : MemState). Remembers (as_disk s) (disk_of c.self.inside.held c.self.inside.past.value c.is_failing.new.self.faults c.is_failing.new.self.refusals)) c.self.view_is (remembers_same c.self.inside.held c.self.inside.past.value c.self.inside.calls.faults c.self.inside.calls.refusals c.is_failing.new.self.faults c.is_failing.new.self.refusals)
