-- Laws of the dialogue: an evaluation begins again after a use.
use Rattle.std.specs.Prelude.{◌≡◌, ℕ, List, Result, Ok, Err}
use Rattle.gs_idl.specs.Interface.{Param}
use Rattle.gs_types.specs.declared.value.Value.{Value}
use Rattle.gs_talk.specs.declared.question.CallArg.{CallArg}
use Rattle.gs_talk.specs.Terms.{Placed}
use Rattle.gs_talk.specs.Values.{Trouble, Kind, Need, value_of, values_of}
use Rattle.gs_talk.specs.Talk.{State, Dialogue, Handed, fails, used, valued, all_valued, passed_valued}
use Rattle.gs_talk.specs.Passed.{passed_values}

-- what is done with a value, or its trouble: go on, stop at the fault, or ask for the variable and
-- begin again
abbrev pub met : {A : Type 0} → (line : ℕ) → State → (A → State → Dialogue)
    → (again : State → Dialogue) → Result A Trouble → Dialogue
met line s go again (Ok v) = go v s
met line s go again (Err (Kind kind)) = fails line kind s
met line s go again (Err (Need i n place)) = used line i n place s (λ v u. again u)

-- an evaluation gives its value or meets its fault; or it asks for a variable's value and begins
-- again
abbrev pub BeginsAgain : Type 0
BeginsAgain = (line : ℕ) (t : Placed) (s : State) (go : Value → State → Dialogue) →
    valued line t s go ≡ met line s go (λ u. valued line t u go) (value_of t s.vars)

-- several begin again from the first
abbrev pub AllBeginAgain : Type 0
AllBeginAgain = (line : ℕ) (ts : List Placed) (s : State) (go : List Value → State → Dialogue) →
    all_valued line ts s go ≡ met line s go (λ u. all_valued line ts u go) (values_of ts s.vars)

-- the arguments of a call begin again from the first
abbrev pub PassedBeginAgain : Type 0
PassedBeginAgain = (line : ℕ) (ps : List Param) (args : List Handed) (s : State)
    (go : List CallArg → State → Dialogue) →
    passed_valued line ps args s go ≡ met line s go (λ u. passed_valued line ps args u go)
    (passed_values ps args s.vars)
