use Rattle.std.proofs.Common.{arith, inl}
use Rattle.gs_lines.proofs.LineLemmas.{length-lines-le}
use Rattle.gs_lines.proofs.passing.number_of_lines.Goals as goal

pub count-requires-clause-fits : goal.count-requires-clause-fits
count-requires-clause-fits c = let most = length-lines-le c.args.bytes.now in inl (grind arith)
