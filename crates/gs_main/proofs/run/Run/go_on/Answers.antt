use Rattle.std.proofs.Common.{sym, ◌∙◌}
use Rattle.gs_main.proofs.run.Run.go_on.Goals as goal

pub moves-preserved : goal.moves-preserved
moves-preserved c = record { waits = c.in-Ok.ensures.1; goes = sym c.in-Ok.ensures.0 ∙ c.moves.invariant.goes }
