-- What the places of a task give.
use Rattle.std.specs.Prelude.{Bool, true, false, List, [], ◌∷◌, Option, Some, None}
use Rattle.gs_types.specs.Job.{IsFile, IsInt, IsStr}
use Rattle.gs_types.specs.declared.value.Value.{Value}
use Rattle.gs_types.specs.declared.value.Value.TheVariants as value
use Rattle.gs_types.specs.declared.job.Arg.{Arg}
use Rattle.gs_types.specs.declared.job.Arg.TheVariants as arg
use Rattle.gs_proc.specs.declared.call.Place.{Place}
use Rattle.gs_proc.specs.declared.call.Place.TheVariants.{Word, Input, File, Int, Text}

abbrev pub place_of : Arg → Place
place_of (arg.Given (value.Int v)) = Word
place_of (arg.Given (value.Str s)) = Word
place_of (arg.Given (value.File bytes)) = Input
place_of (arg.Both bytes) = File
place_of arg.OutFile = File
place_of arg.OutInt = Int
place_of arg.OutStr = Text

-- a place has a file of the staging folder
abbrev pub is_staged : Place → Bool
is_staged Word = false
is_staged Input = true
is_staged File = true
is_staged Int = true
is_staged Text = true

-- what one place gives: nothing, or a value of its kind within its limit
abbrev pub GivesAt : Place → Option Value → Type 0
GivesAt Word None = Unit {0}
GivesAt Word (Some v) = ⊥
GivesAt Input None = Unit {0}
GivesAt Input (Some v) = ⊥
GivesAt File None = ⊥
GivesAt File (Some v) = IsFile v
GivesAt Int None = ⊥
GivesAt Int (Some v) = IsInt v
GivesAt Text None = ⊥
GivesAt Text (Some v) = IsStr v

-- what places give, in order
abbrev pub GiveAll : List Place → List Value → Type 0
GiveAll [] [] = Unit {0}
GiveAll [] (v ∷ outs) = ⊥
GiveAll (Word ∷ places) outs = GiveAll places outs
GiveAll (Input ∷ places) outs = GiveAll places outs
GiveAll (File ∷ places) [] = ⊥
GiveAll (File ∷ places) (v ∷ outs) = IsFile v × GiveAll places outs
GiveAll (Int ∷ places) [] = ⊥
GiveAll (Int ∷ places) (v ∷ outs) = IsInt v × GiveAll places outs
GiveAll (Text ∷ places) [] = ⊥
GiveAll (Text ∷ places) (v ∷ outs) = IsStr v × GiveAll places outs
