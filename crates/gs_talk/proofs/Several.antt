-- Values one after another.
use Rattle.std.specs.Prelude.{List, ◌++◌, Result, Ok, Err}
use Rattle.gs_types.specs.declared.value.Value.{Value}
use Rattle.gs_talk.specs.Values.{Trouble}

-- the values so far, and then these
abbrev pub after_all : List Value → Result (List Value) Trouble → Result (List Value) Trouble
after_all vs (Ok more) = Ok (vs ++ more)
after_all vs (Err e) = Err e
