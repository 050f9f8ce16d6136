use Rattle.std.proofs.Common.{arith, rules}
use Rattle.gs_lines.proofs.LineLemmas.{length-lines-le}
use Rattle.gs_lines.proofs.passing.numbered.Goals as goal

pub loop-line-init : goal.loop-line-init
loop-line-init c = let most = length-lines-le c.args.bytes.now in (search rules, grind arith)
