-- The variables of a program by their names.
use Rattle.std.specs.Prelude.{◌≡◌, ℕ, List, length, map, set, slice_get, Option, Some, None, ⊤}
use Rattle.gs_tree.specs.declared.tree.VarKind.{VarKind}
use Rattle.gs_tree.specs.declared.tree.VarKind.TheVariants as kind
use Rattle.gs_tree.specs.Program.{Name}
use Rattle.gs_types.specs.declared.value.Value.{Value}
use Rattle.gs_types.specs.declared.value.Value.TheVariants.{Int, Str, File}
use Rattle.gs_talk.specs.declared.slot.Slot.{Slot}
use Rattle.gs_talk.specs.declared.slot.Slot.TheVariants.{Held, Due}
use Rattle.gs_talk.specs.Terms.{place_of}
use Rattle.gs_talk.specs.Talk.{first_slot}

-- in the order of declaration
pub record Variables : Type 0 where
  pub names : List (List ℕ)
  pub kinds : List VarKind
  pub slots : List Slot

abbrev pub variables : (names : List (List ℕ)) (kinds : List VarKind) (slots : List Slot)
    → Variables
variables names kinds slots = record { names = names; kinds = kinds; slots = slots }

-- each name has a kind and a slot
pub record IsPaired (names : List (List ℕ)) (kinds : List VarKind) (slots : List Slot) : Type
    0 where
  pub a_kind : length kinds ≡ length names
  pub a_slot : length slots ≡ length names

-- each with its first value
abbrev pub first_variables : List (Name × VarKind) → Variables
first_variables vars = variables (map (λ v. v.0.text) vars) (map (λ v. v.1) vars)
    (map (λ v. first_slot v.1) vars)

abbrev pub kind_named : Variables → List ℕ → Option VarKind
kind_named vars name = slice_get vars.kinds (place_of vars.names name)

abbrev pub scalar : Option VarKind → Option Slot → Option Slot
scalar None slot = None
scalar (Some kind.Int) slot = slot
scalar (Some kind.Str) slot = slot
scalar (Some kind.Handle) slot = None

-- the slot of the int or string variable of this name
abbrev pub slot_named : Variables → List ℕ → Option Slot
slot_named vars name = scalar (kind_named vars name)
    (slice_get vars.slots (place_of vars.names name))

abbrev pub held_in : Option Slot → Option Value
held_in None = None
held_in (Some (Held v)) = Some v
held_in (Some (Due n place)) = None

-- the task and the place that are waited for
abbrev pub due_in : Option Slot → Option (ℕ × ℕ)
due_in None = None
due_in (Some (Held v)) = None
due_in (Some (Due n place)) = Some (n, place)

-- the variable of this name has this slot; the others keep theirs
abbrev pub with_slot : Variables → List ℕ → Slot → Variables
with_slot vars name slot = record vars { slots = set vars.slots (place_of vars.names name) slot }

-- it is declared, as an int or a string
abbrev pub IsScalar : Option VarKind → Type 0
IsScalar None = ⊥
IsScalar (Some kind.Int) = ⊤
IsScalar (Some kind.Str) = ⊤
IsScalar (Some kind.Handle) = ⊥

abbrev pub IsOf : VarKind → Value → Type 0
IsOf kind.Int (Int v) = ⊤
IsOf kind.Int (Str s) = ⊥
IsOf kind.Int (File bytes) = ⊥
IsOf kind.Str (Int v) = ⊥
IsOf kind.Str (Str s) = ⊤
IsOf kind.Str (File bytes) = ⊥
IsOf kind.Handle v = ⊥

-- it is declared, and the value is of its kind
abbrev pub Takes : Option VarKind → Value → Type 0
Takes None v = ⊥
Takes (Some kind) v = IsOf kind v
