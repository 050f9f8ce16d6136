use Rattle.std.proofs.Common.{arith, ◌∙◌}
use Rattle.gs_disk.specs.Going.{same_then}
use Rattle.gs_engine.proofs.SealingFinals.{stand_next, all_stand, lacks_next}
use Rattle.gs_engine.proofs.seal.check_finals.Goals as goal

pub returns-in-Err-clause-refused : goal.returns-in-Err-clause-refused
returns-in-Err-clause-refused g c = λ told.
    lacks_next (g.D.Disk.state c.args.disk.now).folder (g.D.Disk.state c.loop-last.disk).folder
    c.args.finals.now c.loop-last.last-index c.last-item.result c.in-Err.halt
    c.loop-last-test.true c.last-item.is (c.loop-last.invariant.same told)
    (c.in-Err.ensures.refused told) (c.loop-last.invariant.stand told)

pub loop-last-preserved : goal.loop-last-preserved
loop-last-preserved g c = record {
  faults = let a = c.loop-last.invariant.faults in let b = c.check_final.ensures.cause.rise in
      omega arith;
  same = λ told. c.check_final.ensures.same told ∙ c.loop-last.invariant.same told;
  images = λ told. same_then (g.D.Disk.state c.args.disk.now) (g.D.Disk.state c.loop-last.disk)
      (g.D.Disk.state c.check_final.new.disk) (c.loop-last.invariant.images told)
      (c.check_final.ensures.images told);
  stand = λ told. stand_next (g.D.Disk.state c.args.disk.now).folder
      (g.D.Disk.state c.loop-last.disk).folder c.args.finals.now c.loop-last.last-index
      c.last-item.result c.loop-last-test.true c.last-item.is (c.loop-last.invariant.same told)
      (c.in_default.ensures.stands told) (c.loop-last.invariant.stand told);
}

pub returns-clause-stand : goal.returns-clause-stand
returns-clause-stand g c = λ told. all_stand (g.D.Disk.state c.args.disk.now).folder
    c.args.finals.now c.loop-last.last-index c.loop-last-test.false
    (c.loop-last.invariant.stand told)
