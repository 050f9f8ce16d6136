use Rattle.std.proofs.Common.{[], ◌∷◌, subst}
use Rattle.gs_disk.specs.Folder.{KeepsOthers}
use Rattle.gs_disk.specs.Moments.{Passes, Remembers}
use Rattle.gs_disk.specs.Mem.{MemState, as_disk}
use Rattle.gs_disk.proofs.Kept.{disk_of, passes, remembers, renames_follows, renames_sound}
use Rattle.gs_disk.proofs.mem.MemDiskDisk.create.Goals as goal

pub invariant_of-self : goal.invariant_of-self
invariant_of-self c = renames_sound c.args.name.now c.self.inside.held c.create-done.new.now c.create-done.ensures.went c.self.invariant

pub invariant_of-self-in-Ok : goal.invariant_of-self-in-Ok
invariant_of-self-in-Ok c = renames_sound c.args.name.now c.self.inside.held c.create-done.new.now c.create-done.ensures.went c.self.invariant

pub invariant_of-self-in-Err : goal.invariant_of-self-in-Err
invariant_of-self-in-Err c = renames_sound c.args.name.now c.self.inside.held c.create-done.new.now c.create-done.ensures.went c.self.invariant

pub returns-then-fails-clause-images : goal.returns-then-fails-clause-images
returns-then-fails-clause-images c =
    subst (λ (s : MemState). Passes (KeepsOthers (c.args.name.now ∷ [])) (as_disk s) (disk_of c.create-done.new.now c.note.new.past.value c.is_failing-fails.new.self.faults c.is_failing-fails.new.self.refusals)) c.self.view_is
    (passes (KeepsOthers (c.args.name.now ∷ [])) c.self.inside.held c.create-done.new.now c.of-was.result c.of-was.ensures c.self.inside.past c.self.inside.calls.faults c.self.inside.calls.refusals c.is_failing-fails.new.self.faults c.is_failing-fails.new.self.refusals (renames_follows c.args.name.now c.self.inside.held c.create-done.new.now c.create-done.ensures.went) c.note.new.past.value c.note.ensures)

pub returns-then-fails-clause-remembers : goal.returns-then-fails-clause-remembers
returns-then-fails-clause-remembers c =
    subst (λ (s : MemState). Remembers (as_disk s) (disk_of c.create-done.new.now c.note.new.past.value c.is_failing-fails.new.self.faults c.is_failing-fails.new.self.refusals)) c.self.view_is
    (remembers c.self.inside.held c.create-done.new.now c.of-was.result c.of-was.ensures c.self.inside.past c.self.inside.calls.faults c.self.inside.calls.refusals c.is_failing-fails.new.self.faults c.is_failing-fails.new.self.refusals c.note.new.past.value c.note.ensures)

pub returns-in-Ok-clause-images : goal.returns-in-Ok-clause-images
returns-in-Ok-clause-images c =
    subst (λ (s : MemState). Passes (KeepsOthers (c.args.name.now ∷ [])) (as_disk s) (disk_of c.create-done.new.now c.note.new.past.value c.is_failing-fails.new.self.faults c.is_failing-fails.new.self.refusals)) c.self.view_is
    (passes (KeepsOthers (c.args.name.now ∷ [])) c.self.inside.held c.create-done.new.now c.of-was.result c.of-was.ensures c.self.inside.past c.self.inside.calls.faults c.self.inside.calls.refusals c.is_failing-fails.new.self.faults c.is_failing-fails.new.self.refusals (renames_follows c.args.name.now c.self.inside.held c.create-done.new.now c.create-done.ensures.went) c.note.new.past.value c.note.ensures)

pub returns-in-Ok-clause-remembers : goal.returns-in-Ok-clause-remembers
returns-in-Ok-clause-remembers c =
    subst (λ (s : MemState). Remembers (as_disk s) (disk_of c.create-done.new.now c.note.new.past.value c.is_failing-fails.new.self.faults c.is_failing-fails.new.self.refusals)) c.self.view_is
    (remembers c.self.inside.held c.create-done.new.now c.of-was.result c.of-was.ensures c.self.inside.past c.self.inside.calls.faults c.self.inside.calls.refusals c.is_failing-fails.new.self.faults c.is_failing-fails.new.self.refusals c.note.new.past.value c.note.ensures)

pub returns-in-Err-clause-images : goal.returns-in-Err-clause-images
returns-in-Err-clause-images c =
    subst (λ (s : MemState). Passes (KeepsOthers (c.args.name.now ∷ [])) (as_disk s) (disk_of c.create-done.new.now c.note.new.past.value c.refuse.new.self.faults c.refuse.new.self.refusals)) c.self.view_is
    (passes (KeepsOthers (c.args.name.now ∷ [])) c.self.inside.held c.create-done.new.now c.of-was.result c.of-was.ensures c.self.inside.past c.self.inside.calls.faults c.self.inside.calls.refusals c.refuse.new.self.faults c.refuse.new.self.refusals (renames_follows c.args.name.now c.self.inside.held c.create-done.new.now c.create-done.ensures.went) c.note.new.past.value c.note.ensures)

pub returns-in-Err-clause-remembers : goal.returns-in-Err-clause-remembers
returns-in-Err-clause-remembers c =
    subst (λ (s : MemState). Remembers (as_disk s) (disk_of c.create-done.new.now c.note.new.past.value c.refuse.new.self.faults c.refuse.new.self.refusals)) c.self.view_is
    (remembers c.self.inside.held c.create-done.new.now c.of-was.result c.of-was.ensures c.self.inside.past c.self.inside.calls.faults c.self.inside.calls.refusals c.refuse.new.self.faults c.refuse.new.self.refusals c.note.new.past.value c.note.ensures)
