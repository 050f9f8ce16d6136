-- What is known before and after the steps of a run.
use Rattle.std.specs.Prelude.{◌++◌}
use Rattle.std.specs.Bool.{⊤}
use Rattle.gs_tables.specs.Table.{looked_in}
use Rattle.gs_core.specs.Core.{IsStep}
use Rattle.gs_core.specs.declared.machine.Core.{Core}
use Rattle.gs_core.specs.declared.stage.Step.{Step}
use Rattle.gs_engine.specs.Joined.{Before}

abbrev pub always : Before
always c k h = ⊤

abbrev pub whatever : {T : Type 0} → T → Before
whatever x c k h = ⊤

-- the core needs this next
abbrev pub Needs : Core → Step → Before
Needs core step c k h = IsStep (looked_in core.tables) c.setup k (h ++ c.noted) step
