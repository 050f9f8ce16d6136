use Rattle.gs_pieces.proofs.Passing.{twice_found, twice_passed}
use Rattle.gs_pieces.proofs.passed.has_twice.Goals as goal

pub returns-then-is_among : goal.returns-then-is_among
returns-then-is_among c = twice_found c.args.names.now c.loop-i.i c.index-names-i.result c.is_among.result c.loop-i-test.true c.index-names-i.is c.is_among.ensures c.if-is_among.true c.loop-i.invariant

pub loop-i-preserved : goal.loop-i-preserved
loop-i-preserved c = twice_passed c.args.names.now c.loop-i.i c.index-names-i.result c.is_among.result c.loop-i-test.true c.index-names-i.is c.is_among.ensures c.if-is_among.false c.loop-i.invariant
