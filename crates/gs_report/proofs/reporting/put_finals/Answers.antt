use Rattle.std.proofs.Common.{arith, ◌∙◌}
use Rattle.gs_disk.specs.Going.{same_then}
use Rattle.gs_report.proofs.Fitting.{short_at}
use Rattle.gs_report.proofs.Telling.{stand_more, refuses_more, file_more}
use Rattle.gs_report.proofs.reporting.put_finals.Goals as goal

pub put_final-requires : goal.put_final-requires
put_final-requires g c = record {
  small = short_at c.args.finals.now c.loop-last.last-index c.last-item.result c.requires.fits
      c.loop-last-test.true c.last-item.is;
}

pub returns-in-Err-clause-refused : goal.returns-in-Err-clause-refused
returns-in-Err-clause-refused g c = λ told.
    let told_so = c.in-Err.ensures in
    refuses_more (g.D.Disk.state c.args.disk.now).folder (g.D.Disk.state c.loop-last.disk).folder
    c.args.finals.now c.loop-last.last-index c.last-item.result c.in-Err.failure
    c.loop-last-test.true c.last-item.is (c.loop-last.invariant.same told) (told_so.refused told)
    (c.loop-last.invariant.stand told)

pub loop-last-preserved : goal.loop-last-preserved
loop-last-preserved g c =
    let a = g.D.Disk.state c.args.disk.now in let b = g.D.Disk.state c.loop-last.disk in
    let d = g.D.Disk.state c.put_final.new.disk in
    let inv = c.loop-last.invariant in let ens = c.put_final.ensures in
    let fs = c.args.finals.now in let i = c.loop-last.last-index in let f = c.last-item.result in
    let lt = c.loop-last-test.true in let is = c.last-item.is in
    let now = c.in_default.ensures in
    record {
      faults = omega (arith, inv.faults, ens.cause.faults.rise);
      refusals = omega (arith, inv.refusals, ens.cause.refusals);
      same = λ told. ens.same told ∙ inv.same told;
      images = λ told. same_then a b d (inv.images told) (ens.images told);
      stand = λ told. stand_more a.folder b.folder fs i f lt is (inv.same told)
          (now.stands told) (inv.stand told);
      text = λ told. file_more a.folder b.folder c.args.names.now fs i f c.args.text.now.items
          c.loop-last.text.items c.put_final.new.text.items lt is (inv.same told) (inv.text told)
          (now.text told);
    }
