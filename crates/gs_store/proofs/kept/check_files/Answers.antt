use Rattle.std.proofs.Common.{arith, ◌∙◌}
use Rattle.gs_disk.specs.Going.{same_then}
use Rattle.gs_store.proofs.Checking.{stand_more, refuses_files}
use Rattle.gs_store.proofs.kept.check_files.Goals as goal

pub returns-in-Err-clause-refused : goal.returns-in-Err-clause-refused
returns-in-Err-clause-refused g c = λ told.
    refuses_files (g.D.Disk.state c.args.disk.now).folder (g.D.Disk.state c.loop-file.disk).folder
    c.args.kept.now c.loop-file.file-index c.file-item.result c.in-Err.failure
    c.loop-file-test.true c.file-item.is (c.loop-file.invariant.same told)
    (c.in-Err.ensures.refused told) (c.loop-file.invariant.stand told)

pub loop-file-preserved : goal.loop-file-preserved
loop-file-preserved g c = record {
  faults = let a = c.loop-file.invariant.faults in let b = c.check_file.ensures.cause.faults.rise in
      omega arith;
  refusals = let a = c.loop-file.invariant.refusals in let b =
      c.check_file.ensures.cause.refusals in omega arith;
  same = λ told. c.check_file.ensures.same told ∙ c.loop-file.invariant.same told;
  images = λ told. same_then (g.D.Disk.state c.args.disk.now) (g.D.Disk.state c.loop-file.disk)
      (g.D.Disk.state c.check_file.new.disk) (c.loop-file.invariant.images told)
      (c.check_file.ensures.images told);
  stand = λ told. stand_more (g.D.Disk.state c.args.disk.now).folder
      (g.D.Disk.state c.loop-file.disk).folder c.args.kept.now c.loop-file.file-index
      c.file-item.result c.loop-file-test.true c.file-item.is (c.loop-file.invariant.same told)
      (c.in_default.ensures.stands told) (c.loop-file.invariant.stand told);
}
