use Rattle.std.proofs.Common.{◌≡◌, [], ◌∷◌, None, sym, subst}
use Rattle.gs_disk.specs.Folder.{KeepsOthers, Same}
use Rattle.gs_disk.specs.Moments.{Passes, Remembers}
use Rattle.gs_disk.specs.Mem.{MemState, as_disk, folder_of, reads}
use Rattle.gs_disk.proofs.Kept.{disk_of, passes, remembers, removes, remove_follows, remove_sound, same_follows}
use Rattle.gs_disk.proofs.mem.MemDiskDisk.remove.Goals as goal

pub invariant_of-self : goal.invariant_of-self
invariant_of-self c = remove_sound c.args.name.now c.self.inside.held c.remove.new.now (reads c.self.inside.held c.args.name.now) (removes c.args.name.now c.self.inside.held c.remove.new.now c.remove.ensures.absent c.remove.ensures.went) c.self.invariant

pub invariant_of-self-2 : goal.invariant_of-self-2
invariant_of-self-2 c = remove_sound c.args.name.now c.self.inside.held c.remove.new.now (reads c.self.inside.held c.args.name.now) (removes c.args.name.now c.self.inside.held c.remove.new.now c.remove.ensures.absent c.remove.ensures.went) c.self.invariant

pub returns-then-fails-clause-images : goal.returns-then-fails-clause-images
returns-then-fails-clause-images c =
    subst (λ (s : MemState). Passes (KeepsOthers (c.args.name.now ∷ [])) (as_disk s) (disk_of c.remove.new.now c.note.new.past.value c.is_failing-fails.new.self.faults c.is_failing-fails.new.self.refusals)) c.self.view_is
    (passes (KeepsOthers (c.args.name.now ∷ [])) c.self.inside.held c.remove.new.now c.of-was.result c.of-was.ensures c.self.inside.past c.self.inside.calls.faults c.self.inside.calls.refusals c.is_failing-fails.new.self.faults c.is_failing-fails.new.self.refusals (remove_follows c.args.name.now c.self.inside.held c.remove.new.now (reads c.self.inside.held c.args.name.now) (removes c.args.name.now c.self.inside.held c.remove.new.now c.remove.ensures.absent c.remove.ensures.went)) c.note.new.past.value c.note.ensures)

pub returns-then-fails-clause-remembers : goal.returns-then-fails-clause-remembers
returns-then-fails-clause-remembers c =
    subst (λ (s : MemState). Remembers (as_disk s) (disk_of c.remove.new.now c.note.new.past.value c.is_failing-fails.new.self.faults c.is_failing-fails.new.self.refusals)) c.self.view_is
    (remembers c.self.inside.held c.remove.new.now c.of-was.result c.of-was.ensures c.self.inside.past c.self.inside.calls.faults c.self.inside.calls.refusals c.is_failing-fails.new.self.faults c.is_failing-fails.new.self.refusals c.note.new.past.value c.note.ensures)

pub returns-then-fails-clause-idle : goal.returns-then-fails-clause-idle
returns-then-fails-clause-idle c = λ none.
    subst (λ (s : MemState). Passes Same (as_disk s) (disk_of c.remove.new.now c.note.new.past.value c.is_failing-fails.new.self.faults c.is_failing-fails.new.self.refusals)) c.self.view_is
    (passes Same c.self.inside.held c.remove.new.now c.of-was.result c.of-was.ensures c.self.inside.past c.self.inside.calls.faults c.self.inside.calls.refusals c.is_failing-fails.new.self.faults c.is_failing-fails.new.self.refusals (same_follows _ _ (c.remove.ensures.absent (subst (λ (s : MemState). folder_of s.files c.args.name.now ≡ None) (sym c.self.view_is) none))) c.note.new.past.value c.note.ensures)

pub returns-clause-images : goal.returns-clause-images
returns-clause-images c =
    subst (λ (s : MemState). Passes (KeepsOthers (c.args.name.now ∷ [])) (as_disk s) (disk_of c.remove.new.now c.note.new.past.value c.is_failing-fails.new.self.faults c.is_failing-fails.new.self.refusals)) c.self.view_is
    (passes (KeepsOthers (c.args.name.now ∷ [])) c.self.inside.held c.remove.new.now c.of-was.result c.of-was.ensures c.self.inside.past c.self.inside.calls.faults c.self.inside.calls.refusals c.is_failing-fails.new.self.faults c.is_failing-fails.new.self.refusals (remove_follows c.args.name.now c.self.inside.held c.remove.new.now (reads c.self.inside.held c.args.name.now) (removes c.args.name.now c.self.inside.held c.remove.new.now c.remove.ensures.absent c.remove.ensures.went)) c.note.new.past.value c.note.ensures)

pub returns-clause-remembers : goal.returns-clause-remembers
returns-clause-remembers c =
    subst (λ (s : MemState). Remembers (as_disk s) (disk_of c.remove.new.now c.note.new.past.value c.is_failing-fails.new.self.faults c.is_failing-fails.new.self.refusals)) c.self.view_is
    (remembers c.self.inside.held c.remove.new.now c.of-was.result c.of-was.ensures c.self.inside.past c.self.inside.calls.faults c.self.inside.calls.refusals c.is_failing-fails.new.self.faults c.is_failing-fails.new.self.refusals c.note.new.past.value c.note.ensures)

pub returns-clause-idle : goal.returns-clause-idle
returns-clause-idle c = λ none.
    subst (λ (s : MemState). Passes Same (as_disk s) (disk_of c.remove.new.now c.note.new.past.value c.is_failing-fails.new.self.faults c.is_failing-fails.new.self.refusals)) c.self.view_is
    (passes Same c.self.inside.held c.remove.new.now c.of-was.result c.of-was.ensures c.self.inside.past c.self.inside.calls.faults c.self.inside.calls.refusals c.is_failing-fails.new.self.faults c.is_failing-fails.new.self.refusals (same_follows _ _ (c.remove.ensures.absent (subst (λ (s : MemState). folder_of s.files c.args.name.now ≡ None) (sym c.self.view_is) none))) c.note.new.past.value c.note.ensures)
