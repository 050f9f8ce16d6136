-- A law of the sequential run: its tasks are small.
use Rattle.gs_idl.specs.Interface.{IsOpsSized}
use Rattle.gs_history.specs.Setup.{Setup}
use Rattle.gs_tables.specs.Starts.{AreSmall}

-- where there are at most 64 operations, each with 1 to 16 parameters, costs tell apart each
-- task's operation, and the length of what it reads
abbrev pub TasksAreSmall : Type 0
TasksAreSmall = (s : Setup) → IsOpsSized s.run.texts.ops → AreSmall s
