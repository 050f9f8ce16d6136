-- The actions as they are recorded: files are told by the numbers of their names.
use Rattle.std.specs.Prelude.{◌≡◌, ℕ, Bool, true, false, List, [], ◌∷◌, ◌++◌, slice_get, Option, Some, None}
use Rattle.std.specs.Bool.{⊤}
use Rattle.gs_idl.specs.Interface.{Param, reads_file, writes_file}
use Rattle.gs_types.specs.declared.action.Action.{Action}
use Rattle.gs_types.specs.declared.action.Action.TheVariants as made
use Rattle.gs_names.specs.Writes.{with_name}
use Rattle.gs_talk.specs.declared.question.CallArg.{CallArg}
use Rattle.gs_talk.specs.declared.question.CallArg.TheVariants.{File, Int, Str, OutInt, OutStr}
use Rattle.gs_talk.specs.Actions.{Act, Call, Use, Read, Write, Barrier, Ends}
use Rattle.gs_looks.specs.Judgement.{reads_at}

-- ---- names in the order in which they first stand in the actions

-- with these names behind the others, each once
abbrev pub with_names : List (List ℕ) → List (List ℕ) → List (List ℕ)
with_names names [] = names
with_names names (x ∷ xs) = with_names (with_name names x) xs

-- the names of an action: what a call reads stands before what it writes
abbrev pub named_by : Act → List (List ℕ)
named_by (Call n op reads writes) = reads ++ writes
named_by (Use n place) = []
named_by (Read name) = name ∷ []
named_by (Write name) = name ∷ []
named_by Barrier = []
named_by Ends = []

abbrev pub named_from : List (List ℕ) → List Act → List (List ℕ)
named_from names [] = names
named_from names (a ∷ acts) = named_from (with_names names (named_by a)) acts

-- the names of the actions
abbrev pub names_of : List Act → List (List ℕ)
names_of acts = named_from [] acts

-- ---- numbers

-- these are the names' numbers
abbrev pub AreNumbers : (names : List (List ℕ)) → List ℕ → List (List ℕ) → Type 0
AreNumbers names [] [] = ⊤
AreNumbers names [] (x ∷ xs) = ⊥
AreNumbers names (i ∷ is) [] = ⊥
AreNumbers names (i ∷ is) (x ∷ xs) = (slice_get names i ≡ Some x) × AreNumbers names is xs

-- the record is of the action
abbrev pub IsMade : (names : List (List ℕ)) → Action → Act → Type 0
IsMade names (made.Call n op reads writes) (Call m o rs ws) =
    (n ≡ m) × (op ≡ o) × AreNumbers names reads rs × AreNumbers names writes ws
IsMade names (made.Use n place) (Use m at) = (n ≡ m) × (place ≡ at)
IsMade names (made.Read i) (Read x) = slice_get names i ≡ Some x
IsMade names (made.Write i) (Write x) = slice_get names i ≡ Some x
IsMade names made.Barrier Barrier = ⊤
IsMade names made.End Ends = ⊤
IsMade names a act = ⊥

abbrev pub AreMade : (names : List (List ℕ)) → List Action → List Act → Type 0
AreMade names [] [] = ⊤
AreMade names [] (x ∷ acts) = ⊥
AreMade names (a ∷ made) [] = ⊥
AreMade names (a ∷ made) (x ∷ acts) = IsMade names a x × AreMade names made acts

-- ---- the files of a call

abbrev pub writes_by : Option Param → Bool
writes_by None = false
writes_by (Some p) = writes_file p

-- whether a file is left at a place, from 0
abbrev pub writes_at : List Param → ℕ → Bool
writes_at ps i = writes_by (slice_get ps i)

-- the files that are read, or those that are left
abbrev pub file_test : (reads : Bool) → Param → Bool
file_test true = reads_file
file_test false = writes_file

abbrev pub takes : (reads : Bool) → List Param → ℕ → Bool
takes true ps i = reads_at ps i
takes false ps i = writes_at ps i

-- the name of a file that is taken
abbrev pub names_one : (taken : Bool) → CallArg → List (List ℕ)
names_one true (File name) = name ∷ []
names_one false (File name) = []
names_one taken (Int v) = []
names_one taken (Str s) = []
names_one taken OutInt = []
names_one taken OutStr = []
