-- When a core may be asked.
use Rattle.std.specs.Prelude.{◌≡◌}
use Rattle.gs_main.specs.Shown.{talking}
use Rattle.gs_core.specs.declared.machine.Core.{Core}
use Rattle.gs_core.specs.declared.stage.Stage.TheVariants as stage
use Rattle.gs_core.specs.Stages.{IsAnswered}
use Rattle.gs_core.specs.Talker.{IsAwake}

-- it may advance
pub record IsDue (c : Core) : Type 0 where
  pub answered : IsAnswered c.stage
  pub awake : IsAwake c.asked (talking c.main).next

-- it has advanced as far as it can
pub record IsSettled (c : Core) : Type 0 where
  pub settled : c.stage ≡ stage.Settled
  pub awake : IsAwake c.asked (talking c.main).next
