-- What earlier calls recorded.
use Rattle.std.specs.Prelude.{ℕ, nat_eq, Bool, true, false, List, drop, Option, Some, None, option_map, if◌then◌else◌}
use Rattle.indexmap.specs.IndexMap.{get}
use Rattle.gs_idl.specs.Interface.{Param}
use Rattle.gs_idl.specs.declared.idl.ParamKind.{ParamKind}
use Rattle.gs_types.specs.declared.note.Note.{Note}
use Rattle.gs_types.specs.declared.note.OutNote.{OutNote}
use Rattle.gs_history.specs.Setup.{Noting}
use Rattle.gs_history.specs.Notes.{kind_of, same_kind, gives_first, is_form}
use Rattle.gs_tables.specs.declared.noted.DoneNote.{DoneNote}
use Rattle.gs_tables.specs.declared.noted.Notes.{Notes}

abbrev pub noting_of : DoneNote → Noting
noting_of x = record { index = x.index; n = x.n; op = x.op; outs = x.outs }

-- the note of task n
abbrev pub found_in : Notes → ℕ → Option DoneNote
found_in notes n = get nat_eq notes.map n

abbrev pub noting_in : Notes → ℕ → Option Noting
noting_in notes n = option_map noting_of (found_in notes n)

abbrev pub is_kind : ParamKind → Note → Bool
is_kind kind v = same_kind kind (kind_of v)

-- what the note says that the task gave
abbrev pub noted_outs : Option Noting → Option (List OutNote)
noted_outs o = option_map (λ x. x.outs) o

abbrev pub one_unless : Bool → ℕ
one_unless true = 0
one_unless false = 1

-- the index of a note of another form
abbrev pub misfit_of : Option Noting → (op : ℕ) → List Param → Option ℕ
misfit_of None op ps = None
misfit_of (Some x) op ps = if is_form x op ps then None else Some x.index

-- at a place: the next note is of the place and kind, where it gives something
abbrev pub given_at : (gives : Bool) → (place : ℕ) → ParamKind → List OutNote
    → (List OutNote → Bool) → Bool
given_at true place kind outs more = gives_first place kind outs more
given_at false place kind outs more = more outs

-- the rest is behind so many notes; or the next one isn't the place's
abbrev pub goes_on : Option ℕ → List OutNote → (List OutNote → Bool) → Bool
goes_on None outs more = false
goes_on (Some n) outs more = more (drop n outs)
