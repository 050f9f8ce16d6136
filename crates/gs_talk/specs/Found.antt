-- What the code's answers say of what was to be found. Want of memory says nothing.
use Rattle.std.specs.Prelude.{◌≡◌, ℕ, List, Result, Ok, Err, ⊤}
use Rattle.std.specs.declared.vec.Vec.{Vec}
use Rattle.std.specs.declared.alloc.Global.{Global}
use Rattle.gs_types.specs.declared.value.Value.{Value}
use Rattle.gs_types.specs.declared.settings.FaultKind.{FaultKind}
use Rattle.gs_talk.specs.declared.error.Trouble as code
use Rattle.gs_talk.specs.declared.error.Trouble.TheVariants as trouble
use Rattle.gs_talk.specs.declared.error.TalkErr.{TalkErr}
use Rattle.gs_talk.specs.declared.error.TalkErr.TheVariants as err
use Rattle.gs_talk.specs.declared.taken.Line.{Line}
use Rattle.gs_talk.specs.declared.taken.Line.TheVariants as line
use Rattle.gs_talk.specs.Values.{Trouble, Kind, Need}
use Rattle.gs_talk.specs.Texts.{Taken, no_more, got}

-- the value or the trouble
abbrev pub Finds : Result Value Trouble → Result Value code.Trouble → Type 0
Finds r (Ok v) = r ≡ Ok v
Finds r (Err (trouble.Kind kind)) = r ≡ Err (Kind kind)
Finds r (Err (trouble.Need i n place)) = r ≡ Err (Need i n place)
Finds r (Err trouble.NoMemory) = ⊤

abbrev pub FindsAll : Result (List Value) Trouble → Result (Vec Value Global) code.Trouble → Type 0
FindsAll r (Ok vs) = r ≡ Ok vs.items
FindsAll r (Err (trouble.Kind kind)) = r ≡ Err (Kind kind)
FindsAll r (Err (trouble.Need i n place)) = r ≡ Err (Need i n place)
FindsAll r (Err trouble.NoMemory) = ⊤

-- the value, the fault, or the task and the place that some variable waits for
abbrev pub Evaluates : Result Value Trouble → Result Value TalkErr → Type 0
Evaluates r (Ok v) = r ≡ Ok v
Evaluates r (Err (err.Kind kind)) = r ≡ Err (Kind kind)
Evaluates r (Err (err.Need n place)) = (i : ℕ) × (r ≡ Err (Need i n place))
Evaluates r (Err err.NoMemory) = ⊤

-- the line, or the end, or the fault; a line waits for no task
abbrev pub TakesLine : Result Taken FaultKind → Result Line TalkErr → Type 0
TakesLine r (Ok line.End) = r ≡ Ok no_more
TakesLine r (Ok (line.Got s next)) = r ≡ Ok (got s next)
TakesLine r (Err (err.Kind kind)) = r ≡ Err kind
TakesLine r (Err (err.Need n place)) = ⊥
TakesLine r (Err err.NoMemory) = ⊤
