use Rattle.std.proofs.Common.{ap, subst}
use Rattle.gs_disk.specs.Folder.{Same}
use Rattle.gs_disk.specs.Moments.{Passes, Remembers}
use Rattle.gs_disk.specs.Mem.{MemState, as_disk, folder_of, files_of}
use Rattle.gs_disk.proofs.Kept.{disk_of, passes, remembers, remembers_same}
use Rattle.gs_disk.proofs.Kept.{settles_follows, settled_sound, leaves_only}
use Rattle.gs_disk.proofs.mem.MemDiskDisk.sync.Goals as goal

pub returns-clause-remembers : goal.returns-clause-remembers
returns-clause-remembers c = subst (λ (s : MemState). Remembers (as_disk s) (disk_of c.self.inside.held c.self.inside.past.value c.is_failing.new.self.faults c.is_failing.new.self.refusals)) c.self.view_is (remembers_same c.self.inside.held c.self.inside.past.value c.self.inside.calls.faults c.self.inside.calls.refusals c.is_failing.new.self.faults c.is_failing.new.self.refusals)

pub invariant_of-self : goal.invariant_of-self
invariant_of-self c = settled_sound c.sync.new.now c.sync.ensures.done c.sync.ensures.touched

pub returns-then-not-is_failing-clause-images : goal.returns-then-not-is_failing-clause-images
returns-then-not-is_failing-clause-images c =
    subst (λ (s : MemState). Passes Same (as_disk s) (disk_of c.sync.new.now c.note.new.past.value c.is_failing.new.self.faults c.is_failing.new.self.refusals)) c.self.view_is
    (passes Same c.self.inside.held c.sync.new.now c.of-was.result c.of-was.ensures c.self.inside.past c.self.inside.calls.faults c.self.inside.calls.refusals c.is_failing.new.self.faults c.is_failing.new.self.refusals (settles_follows c.self.inside.held c.sync.new.now (ap (λ m. folder_of (files_of m)) c.sync.ensures.files) c.sync.ensures.done) c.note.new.past.value c.note.ensures)

pub returns-then-not-is_failing-clause-only : goal.returns-then-not-is_failing-clause-only
returns-then-not-is_failing-clause-only c = leaves_only c.sync.new.now c.note.new.past.value c.is_failing.new.self.faults c.is_failing.new.self.refusals c.sync.ensures.done

pub returns-then-not-is_failing-clause-remembers : goal.returns-then-not-is_failing-clause-remembers
returns-then-not-is_failing-clause-remembers c =
    subst (λ (s : MemState). Remembers (as_disk s) (disk_of c.sync.new.now c.note.new.past.value c.is_failing.new.self.faults c.is_failing.new.self.refusals)) c.self.view_is
    (remembers c.self.inside.held c.sync.new.now c.of-was.result c.of-was.ensures c.self.inside.past c.self.inside.calls.faults c.self.inside.calls.refusals c.is_failing.new.self.faults c.is_failing.new.self.refusals c.note.new.past.value c.note.ensures)
