use Rattle.std.proofs.Common.{◌≡◌, ℕ, List, [], ◌∷◌, Some, subst}
use Rattle.gs_disk.specs.Folder.{KeepsOthers}
use Rattle.gs_disk.specs.Moments.{EachNow, Passes, Remembers}
use Rattle.gs_disk.specs.Mem.{MemState, as_disk}
use Rattle.gs_disk.proofs.Kept.{disk_of, passes, remembers, adds_follows, adds_sound, adds_here}
use Rattle.gs_disk.proofs.mem.MemDisk.add.Goals as goal

pub invariant_of-self-2 : goal.invariant_of-self-2
invariant_of-self-2 c = adds_sound c.args.name c.in-Ok.copy.items c.self.inside.held c.add.new.now c.in_default-add.ensures.added c.self.invariant

pub returns-clause-synced : goal.returns-clause-synced
returns-clause-synced c =
    subst (λ (bytes : List ℕ). EachNow (λ image. image c.args.name ≡ Some bytes) (disk_of c.add.new.now c.note.new.past.value c.self.inside.calls.faults c.self.inside.calls.refusals)) c.in-Ok.ensures.items
    (adds_here c.args.name c.in-Ok.copy.items c.self.inside.held c.add.new.now c.note.new.past.value c.self.inside.calls.faults c.self.inside.calls.refusals c.in_default-add.ensures.added)

pub returns-clause-images : goal.returns-clause-images
returns-clause-images c =
    subst (λ (s : MemState). Passes (KeepsOthers (c.args.name ∷ [])) (as_disk s) (disk_of c.add.new.now c.note.new.past.value c.self.inside.calls.faults c.self.inside.calls.refusals)) c.self.view_is
    (passes (KeepsOthers (c.args.name ∷ [])) c.self.inside.held c.add.new.now c.of-was.result c.of-was.ensures c.self.inside.past c.self.inside.calls.faults c.self.inside.calls.refusals c.self.inside.calls.faults c.self.inside.calls.refusals
    (adds_follows c.args.name c.in-Ok.copy.items c.self.inside.held c.add.new.now c.in_default-add.ensures.added) c.note.new.past.value c.note.ensures)

pub returns-clause-remembers : goal.returns-clause-remembers
returns-clause-remembers c =
    subst (λ (s : MemState). Remembers (as_disk s) (disk_of c.add.new.now c.note.new.past.value c.self.inside.calls.faults c.self.inside.calls.refusals)) c.self.view_is
    (remembers c.self.inside.held c.add.new.now c.of-was.result c.of-was.ensures c.self.inside.past c.self.inside.calls.faults c.self.inside.calls.refusals c.self.inside.calls.faults c.self.inside.calls.refusals c.note.new.past.value c.note.ensures)
