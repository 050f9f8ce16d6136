use Rattle.std.proofs.Common.{arith}
use Rattle.std.proofs.lemmas.Grind.{common_steps}
use Rattle.std.proofs.lemmas.List.Folds.{list_any_more}
use Rattle.gs_plan.proofs.scan.write_files.Goals as goal

pub loop-name-preserved : goal.loop-name-preserved
loop-name-preserved c = λ q. grind (arith, common_steps, list_any_more, c.loop-name.invariant q)
