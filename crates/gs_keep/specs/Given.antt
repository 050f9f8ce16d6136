-- What a task gave at its places, and the files among it.
use Rattle.std.specs.Prelude.{◌≡◌, ◌≢◌, ℕ, zero, suc, ◌<◌, ◌≤◌, ◌==◌, List, [], ◌∷◌, All, map, length, Option, Some, None, if◌then◌else◌}
use Rattle.std.specs.List.{zip}
use Rattle.std.proofs.Common.{arith}
use Rattle.gs_idl.specs.Interface.{Param, is_output}
use Rattle.gs_types.specs.Job.{IsFile, IsInt, IsStr, Fit}
use Rattle.gs_types.specs.declared.limits.TheConstants.{FILE_LIMIT}
use Rattle.gs_types.specs.declared.job.Arg.{Arg}
use Rattle.gs_types.specs.declared.job.Arg.TheVariants.{Given, Both, OutFile, OutInt, OutStr}
use Rattle.gs_types.specs.declared.note.OutNote.{OutNote}
use Rattle.gs_types.specs.declared.value.Value.{Value}
use Rattle.gs_types.specs.declared.value.Value.TheVariants as value
use Rattle.gs_disk.specs.Folder.{Folder, Outside}
use Rattle.gs_entries.specs.declared.entry.Entry.{Entry}
use Rattle.gs_entries.specs.declared.entry.Entry.TheVariants as made
use Rattle.gs_store.specs.Names.{out_name}
use Rattle.gs_history.specs.Notes.{note_of}
use Rattle.gs_tables.specs.Outs.{outs_noted}

-- ---- outputs and their places

-- the places that give something, from this one on
abbrev pub output_places : (place : ℕ) → List Param → List ℕ
output_places place [] = []
output_places place (p ∷ ps) = if is_output p.dir then place ∷ output_places (suc place) ps
    else output_places (suc place) ps

-- an output and its place
abbrev pub Placed : Type 0
Placed = ℕ × Value

-- each output and its place, in order
abbrev pub placed : List Param → List Value → List Placed
placed ps outs = zip (output_places 1 ps) outs

-- what is noted of an output
abbrev pub noted : Placed → OutNote
noted x = record { place = x.0; v = note_of x.1 }

-- each place is above the one before
abbrev pub AreAbove : (low : ℕ) → List ℕ → Type 0
AreAbove low [] = Unit {0}
AreAbove low (place ∷ places) = (low < place) × AreAbove place places

-- a file is within its limit; a number and a string are so by their types
abbrev pub IsWithin : Value → Type 0
IsWithin (value.File bytes) = length bytes ≤ FILE_LIMIT
IsWithin (value.Int v) = Unit {0}
IsWithin (value.Str s) = Unit {0}

file_within : (v : Value) → IsFile v → IsWithin v
file_within (value.File bytes) f = f
file_within (value.Int v) f = absurd f
file_within (value.Str s) f = absurd f

int_within : (v : Value) → IsInt v → IsWithin v
int_within (value.File bytes) f = absurd f
int_within (value.Int v) f = tt
int_within (value.Str s) f = absurd f

string_within : (v : Value) → IsStr v → IsWithin v
string_within (value.File bytes) f = absurd f
string_within (value.Int v) f = absurd f
string_within (value.Str s) f = tt

within_first : (v : Value) (outs : List Value) → IsWithin v → All IsWithin outs
    → All IsWithin (v ∷ outs)
within_first v outs here more zero d lt = here
within_first v outs here more (suc k) d lt = more k d (omega arith)

-- outputs that fit a job's places are within their limits
pub fit_within : (args : List Arg) (outs : List Value) → Fit args outs → All IsWithin outs
fit_within [] [] f k d lt = absurd (omega arith)
fit_within [] (v ∷ outs) f k d lt = absurd f
fit_within (Given v ∷ args) outs f k d lt = fit_within args outs f k d lt
fit_within (Both bytes ∷ args) [] f k d lt = absurd f
fit_within (Both bytes ∷ args) (v ∷ outs) f k d lt =
    within_first v outs (file_within v f.0) (fit_within args outs f.1) k d lt
fit_within (OutFile ∷ args) [] f k d lt = absurd f
fit_within (OutFile ∷ args) (v ∷ outs) f k d lt =
    within_first v outs (file_within v f.0) (fit_within args outs f.1) k d lt
fit_within (OutInt ∷ args) [] f k d lt = absurd f
fit_within (OutInt ∷ args) (v ∷ outs) f k d lt =
    within_first v outs (int_within v f.0) (fit_within args outs f.1) k d lt
fit_within (OutStr ∷ args) [] f k d lt = absurd f
fit_within (OutStr ∷ args) (v ∷ outs) f k d lt =
    within_first v outs (string_within v f.0) (fit_within args outs f.1) k d lt

-- ---- files

-- a file's bytes and the place that gave it
abbrev pub PlacedFile : Type 0
PlacedFile = ℕ × List ℕ

abbrev pub file_first : (place : ℕ) → Value → List PlacedFile → List PlacedFile
file_first place (value.File bytes) more = (place, bytes) ∷ more
file_first place (value.Int v) more = more
file_first place (value.Str s) more = more

-- the files among outputs
abbrev pub files_in : List Placed → List PlacedFile
files_in [] = []
files_in (x ∷ xs) = file_first x.0 x.1 (files_in xs)

-- the file that a place gave
abbrev pub file_at : List PlacedFile → (place : ℕ) → Option (List ℕ)
file_at [] place = None
file_at (f ∷ fs) place = if f.0 == place then Some f.1 else file_at fs place

-- the names of the files of task n
abbrev pub file_names : (n : ℕ) → List PlacedFile → List (List ℕ)
file_names n fs = map (λ f. out_name n f.0) fs

-- each file of task n reads as its bytes
abbrev pub AreRead : (n : ℕ) → List PlacedFile → Folder → Type 0
AreRead n [] folder = Unit {0}
AreRead n (f ∷ fs) folder = (folder (out_name n f.0) ≡ Some f.1) × AreRead n fs folder

-- a name that is none of the task's version files is none of these
pub outside_files : (n : ℕ) (fs : List PlacedFile) (x : List ℕ)
    → ((place : ℕ) → x ≢ out_name n place) → Outside (file_names n fs) x
outside_files n [] x apart = tt
outside_files n (f ∷ fs) x apart = (apart f.0, outside_files n fs x apart)

-- ---- the entry

-- the entry that task n, of an operation with these parameters, gave this
abbrev pub done_entry : (n op : ℕ) → List Param → List Value → Entry
done_entry n op ps outs = made.Done n op (outs_noted 1 ps outs)
