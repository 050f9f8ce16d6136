-- What a task gave, as it is noted.
use Rattle.std.specs.Prelude.{ℕ, suc, ◌==◌, List, [], ◌∷◌, Option, Some, None, if◌then◌else◌}
use Rattle.gs_idl.specs.Interface.{Param, is_output}
use Rattle.gs_types.specs.declared.note.Note.{Note}
use Rattle.gs_types.specs.declared.note.Note.TheVariants as note
use Rattle.gs_types.specs.declared.note.OutNote.{OutNote}
use Rattle.gs_types.specs.declared.value.Value.{Value}
use Rattle.gs_history.specs.Notes.{note_of}

abbrev pub first_noted : (place : ℕ) → List Value → (List Value → List OutNote) → List OutNote
first_noted place [] more = []
first_noted place (v ∷ outs) more = record { place = place; v = note_of v } ∷ more outs

-- each output is noted at its place, from this one on
abbrev pub outs_noted : (place : ℕ) → List Param → List Value → List OutNote
outs_noted place [] outs = []
outs_noted place (p ∷ ps) outs = if is_output p.dir
    then first_noted place outs (outs_noted (suc place) ps) else outs_noted (suc place) ps outs

-- what is noted at a place
abbrev pub noted_at : List OutNote → (place : ℕ) → Option Note
noted_at [] place = None
noted_at (o ∷ outs) place = if o.place == place then Some o.v else noted_at outs place

-- the length of a file that is noted
abbrev pub noted_length : Option Note → ℕ
noted_length None = 0
noted_length (Some (note.File len)) = len
noted_length (Some (note.Int v)) = 0
noted_length (Some (note.Str s)) = 0

abbrev pub noted_in : Option (List OutNote) → (place : ℕ) → Option Note
noted_in None place = None
noted_in (Some outs) place = noted_at outs place
