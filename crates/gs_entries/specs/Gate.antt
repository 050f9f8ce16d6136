-- The format of what a main program did and left.
use Rattle.std.specs.Prelude.{◌≡◌, ◌<◌, slice_index, ℕ, ◌+◌, Bool, true, false, not, ◌&&◌, nat_lt, nat_le, ◌==◌, bytes_eq, List, [], ◌∷◌, ◌++◌, length, drop, Option, Some, None, if◌then◌else◌}
use Rattle.std.specs.List.{list_any, position_or_len}
use Rattle.gs_types.specs.declared.limits.TheConstants.{PRINTED_LIMIT, VARIABLE_LIMIT, TASK_LIMIT, ACTION_LIMIT, NAME_LIMIT}
use Rattle.gs_types.specs.declared.note.VarNote.{VarNote}
use Rattle.gs_types.specs.declared.note.FinalNote.{FinalNote}
use Rattle.gs_types.specs.declared.action.Action.{Action}
use Rattle.gs_types.specs.declared.action.Action.TheVariants as acts
use Rattle.gs_fields.specs.Format.{Format, four, bytes, pair, only, via, counted}
use Rattle.gs_entries.specs.Notes.{name, var, final, up_to}
use Rattle.gs_entries.specs.Actions.{action}
use Rattle.gs_entries.specs.declared.entry.GateNote.{GateNote}

-- the last action is End, and no other is
abbrev pub ends_once : Bool → List Action → Bool
ends_once ended [] = ended
ends_once true (a ∷ more) = false
ends_once false (acts.Call n op reads writes ∷ more) = ends_once false more
ends_once false (acts.Use n k ∷ more) = ends_once false more
ends_once false (acts.Result n ∷ more) = ends_once false more
ends_once false (acts.Read x ∷ more) = ends_once false more
ends_once false (acts.Write x ∷ more) = ends_once false more
ends_once false (acts.Barrier ∷ more) = ends_once false more
ends_once false (acts.End ∷ more) = ends_once true more

-- how many of them are calls
abbrev pub calls_in : List Action → ℕ
calls_in [] = 0
calls_in (acts.Call n op reads writes ∷ more) = 1 + calls_in more
calls_in (acts.Use n k ∷ more) = calls_in more
calls_in (acts.Result n ∷ more) = calls_in more
calls_in (acts.Read x ∷ more) = calls_in more
calls_in (acts.Write x ∷ more) = calls_in more
calls_in (acts.Barrier ∷ more) = calls_in more
calls_in (acts.End ∷ more) = calls_in more

-- the names of an action by their numbers: what a call reads stands before what it writes
abbrev pub named_by : Action → List ℕ
named_by (acts.Call n op reads writes) = reads ++ writes
named_by (acts.Use n k) = []
named_by (acts.Result n) = []
named_by (acts.Read x) = x ∷ []
named_by (acts.Write x) = x ∷ []
named_by acts.Barrier = []
named_by acts.End = []

-- the names that an action writes, by their numbers
abbrev pub written_by : Action → List ℕ
written_by (acts.Call n op reads writes) = writes
written_by (acts.Use n k) = []
written_by (acts.Result n) = []
written_by (acts.Read x) = []
written_by (acts.Write x) = x ∷ []
written_by acts.Barrier = []
written_by acts.End = []

abbrev pub named_in : List Action → List ℕ
named_in [] = []
named_in (a ∷ more) = named_by a ++ named_in more

abbrev pub written_in : List Action → List ℕ
written_in [] = []
written_in (a ∷ more) = written_by a ++ written_in more

-- the number of names behind these, where each is one of those before or the next one
abbrev pub names_behind : ℕ → List ℕ → Option ℕ
names_behind next [] = Some next
names_behind next (i ∷ is) = if nat_lt i next then names_behind next is
    else (if i == next then names_behind (next + 1) is else None)

abbrev pub is_number : Option ℕ → ℕ → Bool
is_number None count = false
is_number (Some n) count = n == count

-- these are all of the names, numbered in the order in which they first stand here
abbrev pub numbers : List ℕ → ℕ → Bool
numbers named count = is_number (names_behind 0 named) count

-- each differs from all those before it
abbrev pub distinct_after : List (List ℕ) → List (List ℕ) → Bool
distinct_after before [] = true
distinct_after before (x ∷ xs) = not (list_any (bytes_eq x) before)
    && distinct_after (before ++ x ∷ []) xs

-- where a name is written first: the number of writings before
abbrev pub first_writing : List ℕ → ℕ → ℕ
first_writing written x = position_or_len (λ y. x == y) written

-- each is of a name that is written, and in order of first writing: none is written first before
-- this place
abbrev pub finals_rise : ℕ → List ℕ → ℕ → List FinalNote → Bool
finals_rise count written low [] = true
finals_rise count written low (f ∷ fs) =
    nat_lt f.name count && (nat_le low (first_writing written f.name)
    && (nat_lt (first_writing written f.name) (length written)
    && finals_rise count written (first_writing written f.name + 1) fs))

abbrev pub gate_ok : GateNote → Bool
gate_ok g =
    ends_once false g.actions && (nat_le (calls_in g.actions) TASK_LIMIT
    && (numbers (named_in g.actions) (length g.names)
    && (distinct_after [] g.names && finals_rise (length g.names) (written_in g.actions) 0
    g.finals)))

abbrev pub names : Format (List (List ℕ))
names = counted (up_to NAME_LIMIT four) name

abbrev pub finals : Format (List FinalNote)
finals = counted (up_to NAME_LIMIT four) final

abbrev pub printed : Format (List ℕ)
printed = only (λ b. nat_le (length b) PRINTED_LIMIT) bytes

abbrev pub vars : Format (List VarNote)
vars = counted (up_to VARIABLE_LIMIT four) var

-- one more than the limit, for the end
abbrev pub actions : Format (List Action)
actions = counted (up_to (ACTION_LIMIT + 1) four) action

abbrev pub put_gate : List (List ℕ) × (List FinalNote × (List ℕ × (List VarNote × List Action)))
    → GateNote
put_gate p = record {
  names = p.0;
  finals = p.1.0;
  text = p.1.1.0;
  vars = p.1.1.1.0;
  actions = p.1.1.1.1;
}

abbrev pub gate_parts : GateNote
    → Option (List (List ℕ) × (List FinalNote × (List ℕ × (List VarNote × List Action))))
gate_parts g = Some (g.names, (g.finals, (g.text, (g.vars, g.actions))))

abbrev pub gate_fields : Format GateNote
gate_fields = via put_gate gate_parts (pair names (pair finals (pair printed (pair vars actions))))

abbrev pub gate : Format GateNote
gate = only gate_ok gate_fields

-- ---- parts of the check

-- where each of `count` names is written first
pub record FirstWritings (written : List ℕ) (count : ℕ) (places : List ℕ) : Type 0 where
  pub count_is : length places ≡ count
  pub each : (x : ℕ) → x < count → slice_index places x ≡ first_writing written x

-- where each of `count` names is written first from a place on
pub record FirstFrom (written : List ℕ) (at count : ℕ) (places : List ℕ) : Type 0 where
  pub count_is : length places ≡ count
  pub each : (x : ℕ) → x < count → slice_index places x ≡ at + first_writing (drop at written) x

-- whether the finals rise, told from where each name is written first
abbrev pub FinalsRise : List ℕ → ℕ → List FinalNote → Bool → Type 0
FinalsRise places writings fs answer =
    (written : List ℕ) → length written ≡ writings → FirstWritings written (length places) places
    → answer ≡ finals_rise (length places) written 0 fs
