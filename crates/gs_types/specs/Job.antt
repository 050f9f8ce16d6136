-- What a task takes and gives.
use Rattle.std.specs.Prelude.{◌≡◌, ℕ, ◌≤◌, List, [], ◌∷◌, length, Option, Some}
use Rattle.gs_types.specs.Bytes.{IsText}
use Rattle.gs_types.specs.declared.limits.TheConstants.{FILE_LIMIT}
use Rattle.gs_types.specs.declared.value.Value.{Value}
use Rattle.gs_types.specs.declared.value.Value.TheVariants.{Int, Str, File}
use Rattle.gs_types.specs.declared.job.Arg.{Arg}
use Rattle.gs_types.specs.declared.job.Arg.TheVariants.{Given, Both, OutFile, OutInt, OutStr}

-- the values that a task takes, by place: those that are given, and the files that are taken back
abbrev pub inputs : List Arg → List Value
inputs [] = []
inputs (Given v ∷ args) = v ∷ inputs args
inputs (Both bytes ∷ args) = File bytes ∷ inputs args
inputs (OutFile ∷ args) = inputs args
inputs (OutInt ∷ args) = inputs args
inputs (OutStr ∷ args) = inputs args

-- a file's bytes within the limit of a file
abbrev pub IsFile : Value → Type 0
IsFile (File bytes) = length bytes ≤ FILE_LIMIT
IsFile _ = ⊥

abbrev pub IsInt : Value → Type 0
IsInt (Int v) = Unit {0}
IsInt _ = ⊥

abbrev pub IsStr : Value → Type 0
IsStr (Str s) = IsText s
IsStr _ = ⊥

-- one value for each place that a task gives something at, in order, each of the place's kind and
-- within the limits
abbrev pub Fit : List Arg → List Value → Type 0
Fit [] [] = Unit {0}
Fit [] (v ∷ outs) = ⊥
Fit (Given v ∷ args) outs = Fit args outs
Fit (Both bytes ∷ args) [] = ⊥
Fit (Both bytes ∷ args) (v ∷ outs) = IsFile v × Fit args outs
Fit (OutFile ∷ args) [] = ⊥
Fit (OutFile ∷ args) (v ∷ outs) = IsFile v × Fit args outs
Fit (OutInt ∷ args) [] = ⊥
Fit (OutInt ∷ args) (v ∷ outs) = IsInt v × Fit args outs
Fit (OutStr ∷ args) [] = ⊥
Fit (OutStr ∷ args) (v ∷ outs) = IsStr v × Fit args outs

-- what a law says: for an operation's name and its inputs the outputs, or none
abbrev pub Meaning : Type 0
Meaning = List ℕ → List Value → Option (List Value)

-- a law gives these outputs for a task; outputs that don't fit the places count as none
pub record Gives (law : Meaning) (op : List ℕ) (args : List Arg) (outs : List Value) : Type 0 where
  pub said : law op (inputs args) ≡ Some outs
  pub fit : Fit args outs
