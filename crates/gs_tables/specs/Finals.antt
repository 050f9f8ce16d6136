-- The files that were written, as the tables tell them.
use Rattle.std.specs.Prelude.{◌≡◌, ℕ, true, List, [], ◌∷◌, slice_get, Some, bytes_eq}
use Rattle.std.specs.List.{list_any}
use Rattle.std.specs.Bool.{⊤}
use Rattle.gs_types.specs.declared.note.Version.{Version}
use Rattle.gs_types.specs.declared.note.Version.TheVariants.{Original, Out, Main}
use Rattle.gs_types.specs.declared.note.FinalNote.{FinalNote}
use Rattle.gs_names.specs.Writes.{latest}
use Rattle.gs_names.specs.Table.{names_in, writes_in}
use Rattle.gs_tables.specs.Lengths.{main_length}
use Rattle.gs_tables.specs.Outs.{noted_in, noted_length}
use Rattle.gs_tables.specs.Rows.{row_at, row_outs}
use Rattle.gs_tables.specs.declared.row.Row.{Row}
use Rattle.gs_tables.specs.declared.tables.Tables.{Tables}

-- how many bytes a version has that a task left, or that the program closed
abbrev pub made_length : List Row → (mains : List ℕ) → Version → ℕ
made_length rows mains (Original name) = 0
made_length rows mains (Out n place) = noted_length (noted_in (row_outs (row_at rows n)) place)
made_length rows mains (Main k) = main_length mains k

-- a file as the tables tell it: the number of its name, where it has one, its last version, and
-- that one's length
pub record IsTold (t : Tables) (x : List ℕ) (f : FinalNote) : Type 0 where
  pub name : list_any (bytes_eq x) (names_in t.names) ≡ true
      → slice_get (names_in t.names) f.name ≡ Some x
  pub version : f.version ≡ latest x (writes_in t.names)
  pub len : f.len ≡ made_length t.rows.items t.mains.items f.version

abbrev pub AreTold : Tables → List (List ℕ) → List FinalNote → Type 0
AreTold t [] [] = ⊤
AreTold t [] (f ∷ fs) = ⊥
AreTold t (x ∷ xs) [] = ⊥
AreTold t (x ∷ xs) (f ∷ fs) = IsTold t x f × AreTold t xs fs
