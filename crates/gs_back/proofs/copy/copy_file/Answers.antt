use Rattle.std.proofs.Common.{arith}
use Rattle.gs_back.proofs.Copies.{piece_set, piece_touches}
use Rattle.gs_back.proofs.copy.copy_file.Goals as goal

pub returns-in_err-write-clause-touches : goal.returns-in_err-write-clause-touches
returns-in_err-write-clause-touches g c = λ told.
    piece_touches c.args.to.now (g.D.Disk.state c.args.disk.now) (g.D.Disk.state c.loop-at.disk)
    (g.D.Disk.state c.read_into.new.self) (g.D.Disk.state c.write.new.self) c.loop-at.at _
    (c.loop-at.invariant.touches told) (c.read_into.ensures.images told)
    (c.read_into.ensures.same told) (c.write.ensures.images told) (c.write.ensures.torn told)

pub loop-at-preserved : goal.loop-at-preserved
loop-at-preserved g c =
    let a = g.D.Disk.state c.args.disk.now in let b = g.D.Disk.state c.loop-at.disk in
    let d = g.D.Disk.state c.read_into.new.self in let e = g.D.Disk.state c.write.new.self in
    record {
      near = omega (arith, c.in_ok-n.ensures.within, c.loop-at-test.true);
      faults = omega (
        arith,
        c.loop-at.invariant.faults,
        c.read_into.ensures.cause.faults.rise,
        c.write.ensures.cause.faults.rise,
      );
      refusals = omega (
        arith,
        c.loop-at.invariant.refusals,
        c.read_into.ensures.cause.refusals.rise,
        c.write.ensures.cause.refusals.rise,
      );
      touches = λ told. piece_touches c.args.to.now a b d e c.loop-at.at _
          (c.loop-at.invariant.touches told) (c.read_into.ensures.images told)
          (c.read_into.ensures.same told) (c.write.ensures.images told)
          (c.write.ensures.torn told);
      copied = λ told bytes file. piece_set c.loop-at.at c.in_ok-n.n c.args.from.now
          c.args.to.now bytes c.loop-at.piece c.read_into.new.buf a.folder b.folder d.folder
          e.folder c.requires.apart file (c.loop-at.invariant.touches told).reads
          (c.loop-at.invariant.copied told bytes file) (c.in_ok-n.ensures.value told)
          (c.read_into.ensures.same told) (c.in_ok-write.ensures.written told);
    }
