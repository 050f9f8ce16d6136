-- What is noted of the variables.
use Rattle.std.specs.Prelude.{ℕ, List, [], ◌∷◌, Option, Some, None}
use Rattle.gs_tree.specs.declared.tree.VarKind.{VarKind}
use Rattle.gs_tree.specs.declared.tree.VarKind.TheVariants as kind
use Rattle.gs_tree.specs.Program.{Name}
use Rattle.gs_types.specs.declared.note.Note.{Note}
use Rattle.gs_types.specs.declared.note.Note.TheVariants as note
use Rattle.gs_types.specs.declared.note.VarNote.{VarNote}
use Rattle.gs_talk.specs.declared.slot.Slot.{Slot}
use Rattle.gs_talk.specs.declared.slot.Slot.TheVariants.{Held, Due}
use Rattle.gs_talk.specs.Values.{int_of, text_of}

-- the number or string of a variable of this kind; nothing of a handle, nor of a variable that
-- waits
abbrev pub note_in : VarKind → Slot → Option Note
note_in kind.Int (Held v) = Some (note.Int (int_of v))
note_in kind.Int (Due n place) = None
note_in kind.Str (Held v) = Some (note.Str (text_of v))
note_in kind.Str (Due n place) = None
note_in kind.Handle slot = None

abbrev pub noted_first : List ℕ → Option Note → List VarNote → List VarNote
noted_first name None notes = notes
noted_first name (Some n) notes = record { name = name; v = n } ∷ notes

-- in the order of declaration
abbrev pub notes_of : List (Name × VarKind) → List Slot → List VarNote
notes_of [] slots = []
notes_of (v ∷ vars) [] = []
notes_of (v ∷ vars) (slot ∷ slots) = noted_first v.0.text (note_in v.1 slot)
    (notes_of vars slots)
