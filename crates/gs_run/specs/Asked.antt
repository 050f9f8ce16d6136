-- What the words of the command line ask for.
use Rattle.std.specs.Prelude.{◌≤◌, Result, Ok, Err}
use Rattle.gs_types.specs.declared.limits.TheConstants.{TRIES_LIMIT}
use Rattle.gs_plan.specs.declared.planning.TheConstants.{PLAN_SLOTS}
use Rattle.gs_words.specs.declared.command.Command.{Command}
use Rattle.gs_words.specs.declared.command.Command.TheVariants.{Run, Check, Report, Clean, SelfRun, Plan}
use Rattle.gs_words.specs.declared.command.Usage.{Usage}

-- a command; or nothing, and the words go wrong at this place
abbrev pub Wish : Type 0
Wish = Result Command Usage

-- no run is wished for
abbrev pub IsNoRun : Wish → Type 0
IsNoRun (Ok (Run idl program workers settings)) = ⊥
IsNoRun (Ok (Check idl program)) = Unit {0}
IsNoRun (Ok Report) = Unit {0}
IsNoRun (Ok Clean) = Unit {0}
IsNoRun (Ok (SelfRun seed n)) = Unit {0}
IsNoRun (Ok (Plan slots durations)) = Unit {0}
IsNoRun (Err usage) = Unit {0}

-- nothing is wished for, or what isn't served yet
abbrev pub IsNothing : Wish → Type 0
IsNothing (Ok (Run idl program workers settings)) = ⊥
IsNothing (Ok (Check idl program)) = ⊥
IsNothing (Ok Report) = ⊥
IsNothing (Ok Clean) = ⊥
IsNothing (Ok (SelfRun seed n)) = Unit {0}
IsNothing (Ok (Plan slots durations)) = ⊥
IsNothing (Err usage) = Unit {0}

-- a task is tried once at least, and a plan is for one slot at least; and both have a limit
abbrev pub HasSlots : Wish → Type 0
HasSlots (Ok (Run idl program workers settings)) =
    (1 ≤ settings.tries) × (settings.tries ≤ TRIES_LIMIT)
HasSlots (Ok (Check idl program)) = Unit {0}
HasSlots (Ok Report) = Unit {0}
HasSlots (Ok Clean) = Unit {0}
HasSlots (Ok (SelfRun seed n)) = Unit {0}
HasSlots (Ok (Plan slots durations)) = (1 ≤ slots) × (slots ≤ PLAN_SLOTS)
HasSlots (Err usage) = Unit {0}
