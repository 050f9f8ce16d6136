-- What keeping a task's outputs does to the disk of a store.
use Rattle.std.specs.Prelude.{◌≡◌, ◌⊎◌, ℕ, ◌==◌, true, List, ◌∷◌, [], ◌++◌, Option, Result, OnOk, if◌then◌else◌}
use Rattle.gs_types.specs.declared.note.Version.{Version}
use Rattle.gs_types.specs.declared.note.Version.TheVariants.{Original, Out, Main}
use Rattle.gs_disk.specs.Folder.{Folder, DiskState, KeepsOthers}
use Rattle.gs_disk.specs.Moments.{LeavesOnly, EachNow, Always}
use Rattle.gs_log.specs.Names.{log_name}
use Rattle.gs_entries.specs.Entries.{entry}
use Rattle.gs_entries.specs.declared.entry.Entry.{Entry}
use Rattle.gs_store.specs.Keeps.{Base, Keeps}
use Rattle.gs_store.specs.Spans.{Stays}
use Rattle.gs_store.specs.State.{StoreState, IsDiskOf, with_entry}
use Rattle.gs_store.specs.declared.err.StoreErr.{StoreErr}
use Rattle.gs_keep.specs.Given.{PlacedFile, file_at, file_names, AreRead}

-- the files of task n were put, and no entry names them: whatever each image kept, each image
-- keeps, at every moment
pub record PutsFiles {T : Type 0} (store : StoreState) (n : ℕ) (files : List PlacedFile)
    (old new : DiskState) (result : Result T StoreErr) : Type 0 where
  pub any_moment : Stays store.entries old new
  pub read : OnOk result (AreRead n files new.folder)
  pub others : KeepsOthers (file_names n files) old.folder new.folder
  pub disk : IsDiskOf store new

-- version files, of which those of task n are these
abbrev pub outs_with : (n : ℕ) → List PlacedFile → (Version → Option (List ℕ)) → Version
    → Option (List ℕ)
outs_with n files outs (Original x) = outs (Original x)
outs_with n files outs (Out m place) = if m == n then file_at files place else outs (Out m place)
outs_with n files outs (Main k) = outs (Main k)

-- the same, but that the version files of task n are to be these
abbrev pub with_files : (n : ℕ) → List PlacedFile → Base → Base
with_files n files base = record {
  free = base.free;
  users = base.users;
  outs = outs_with n files base.outs;
}

-- the new entry, which is within the limits, and the files that it names
pub record HasDone (es : List Entry) (e : Entry) (n : ℕ) (files : List PlacedFile) (base : Base)
    (image : Folder) : Type 0 where
  pub kept : Keeps (with_files n files base) (es ++ e ∷ []) image
  pub fits : entry.fits e ≡ true

-- whatever each image kept, an image keeps, or it has the new entry and its files
abbrev pub KeepsOrDone : List Entry → Entry → (n : ℕ) → List PlacedFile → Base → Folder → Type 0
KeepsOrDone es e n files base image = Keeps base es image ⊎ HasDone es e n files base image

-- the outputs of task n were kept, with these files and with this entry: what each image keeps at
-- every moment, and once the call has answered Ok; and what reads
pub record KeepsOutputs {T : Type 0} (store : StoreState) (e : Entry) (n : ℕ)
    (files : List PlacedFile) (old new : DiskState) (result : Result T StoreErr) : Type 0 where
  pub any_moment : (base : Base) → EachNow (Keeps base store.entries) old
      → Always (KeepsOrDone store.entries e n files base) old new
  pub after : OnOk result ((base : Base) → EachNow (Keeps base store.entries) old
      → EachNow (HasDone store.entries e n files base) new)
  pub only : OnOk result (LeavesOnly new.folder new)
  pub read : OnOk result (AreRead n files new.folder)
  pub others : KeepsOthers (log_name ∷ file_names n files) old.folder new.folder
  pub disk : OnOk result (IsDiskOf (with_entry store e) new)
