-- Which value fits one place of a job.
use Rattle.std.specs.Prelude.{Bool, true, false}
use Rattle.gs_types.specs.Job.{IsFile, IsInt, IsStr}
use Rattle.gs_types.specs.declared.value.Value.{Value}
use Rattle.gs_types.specs.declared.job.Arg.{Arg}
use Rattle.gs_types.specs.declared.job.Arg.TheVariants.{Given, Both, OutFile, OutInt, OutStr}

-- a place gives an output
abbrev pub gives : Arg → Bool
gives (Given v) = false
gives (Both bytes) = true
gives OutFile = true
gives OutInt = true
gives OutStr = true

-- a value is of the place's kind and within its limit
abbrev pub Suits : Arg → Value → Type 0
Suits (Given w) v = ⊥
Suits (Both bytes) v = IsFile v
Suits OutFile v = IsFile v
Suits OutInt v = IsInt v
Suits OutStr v = IsStr v
