-- The user's files that a run leaves, as its gate names them.
use Rattle.std.specs.Prelude.{◌≡◌, ℕ, List, [], ◌∷◌, Option, Some, None, slice_index_or}
use Rattle.gs_types.specs.declared.note.Version.{Version}
use Rattle.gs_types.specs.declared.note.FinalNote.{FinalNote}
use Rattle.gs_disk.specs.Folder.{Folder}
use Rattle.gs_entries.specs.declared.entry.Entry.{Entry}
use Rattle.gs_entries.specs.declared.entry.GateNote.{GateNote}
use Rattle.gs_store.specs.Names.{version_name}
use Rattle.gs_store.specs.Ordered.{gate_in}
use Rattle.gs_store.specs.Versions.{Kept}

-- a user's file, the version that it is to have, and its length
pub record Final : Type 0 where
  pub name : List ℕ
  pub version : Version
  pub len : ℕ

-- a final's name is told by its number
abbrev pub final_of : List (List ℕ) → FinalNote → Final
final_of names f = record {
  name = slice_index_or names f.name [];
  version = f.version;
  len = f.len;
}

abbrev pub finals_in : List (List ℕ) → List FinalNote → List Final
finals_in names [] = []
finals_in names (f ∷ fs) = final_of names f ∷ finals_in names fs

abbrev pub finals_at : Option GateNote → List Final
finals_at None = []
finals_at (Some g) = finals_in g.names g.finals

-- the finals of a record, in order of first writing; none before its gate
abbrev pub finals_of : List Entry → List Final
finals_of es = finals_at (gate_in es)

abbrev pub names_of : List Final → List (List ℕ)
names_of [] = []
names_of (f ∷ fs) = f.name ∷ names_of fs

abbrev pub kept_of : List Final → List Kept
kept_of [] = []
kept_of (f ∷ fs) = (f.version, f.len) ∷ kept_of fs

-- each of these files reads as its version's file read before
abbrev pub AreSet : List Final → Folder → Folder → Type 0
AreSet [] old new = Unit {0}
AreSet (f ∷ fs) old new = (new f.name ≡ old (version_name f.version)) × AreSet fs old new
