use Rattle.std.proofs.Common.{Ok, arith, inl}
use Rattle.gs_site.specs.Site.{disk_of, link_of}
use Rattle.gs_engine.specs.Sane.{moment_of}
use Rattle.gs_engine.specs.Starting.{HasCosts}
use Rattle.gs_engine.specs.Steps.{whatever}
use Rattle.gs_engine.proofs.Counting.{since_then}
use Rattle.gs_engine.proofs.Settling.{done, nothing_goes}
use Rattle.gs_engine.proofs.Rounds.{rounds_then, waits_then, stopped_wait, failing_round}
use Rattle.gs_engine.proofs.Users.{stay_here, stay_then}
use Rattle.gs_engine.proofs.running.drive.Goals as goal

pub loop-i-init : goal.loop-i-init
loop-i-init g c = record {
  answered = c.requires.answered;
  sane = c.requires.sane;
  recorded = c.requires.recorded;
  faults = omega arith;
  rise = omega arith;
  failed = λ is. inl is;
  users = λ told. stay_here (g.D.Disk.state (disk_of c.args.site.now));
  goes = λ told. nothing_goes c.args.core.now c.args.store.now (disk_of c.args.site.now)
      (link_of c.args.site.now) (HasCosts (g.C.CostLaw.cost c.args.p.now.law.value));
}

pub loop-i-preserved : goal.loop-i-preserved
loop-i-preserved g c = record {
  answered = c.in_default.ensures.answered;
  sane = c.in_default.ensures.sane;
  recorded = c.in_default.ensures.recorded;
  faults = let a = c.loop-i.invariant.faults in let b = c.round.ensures.cause.rise in
      let d = c.wait_one.ensures.cause.rise in omega (arith, a, b, d);
  rise = let a = c.loop-i.invariant.rise in let b = c.round.ensures.rise in
      let d = c.wait_one.ensures.rise in omega (arith, a, b, d);
  failed = since_then c.args.failed.now c.round.new.failed c.wait_one.new.failed
      (g.K.Link.faults (link_of c.args.site.now)) (g.K.Link.faults (link_of c.round.new.site))
      (g.K.Link.faults (link_of c.wait_one.new.site))
      (let a = c.loop-i.invariant.rise in let b = c.round.ensures.rise in omega (arith, a, b))
      c.wait_one.ensures.rise
      (since_then c.args.failed.now c.loop-i.failed c.round.new.failed
      (g.K.Link.faults (link_of c.args.site.now)) (g.K.Link.faults (link_of c.loop-i.site))
      (g.K.Link.faults (link_of c.round.new.site)) c.loop-i.invariant.rise c.round.ensures.rise
      c.loop-i.invariant.failed c.round.ensures.failed) c.wait_one.ensures.failed;
  users = λ told. stay_then (g.D.Disk.state (disk_of c.args.site.now))
      (g.D.Disk.state (disk_of c.round.new.site)) (g.D.Disk.state (disk_of c.wait_one.new.site))
      (stay_then (g.D.Disk.state (disk_of c.args.site.now)) (g.D.Disk.state (disk_of c.loop-i.site))
      (g.D.Disk.state (disk_of c.round.new.site)) (c.loop-i.invariant.users told) (c.round.ensures.users told))
      (c.wait_one.ensures.users told);
  goes = λ told. waits_then (moment_of c.round.new.core c.round.new.store c.round.new.site)
      (moment_of c.wait_one.new.core c.wait_one.new.store c.wait_one.new.site)
      (g.C.CostLaw.cost c.args.p.now.law.value) c.in-Ok.verdict whatever done
      (c.loop-i.invariant.goes told) (c.in-Ok.ensures.goes told)
      (c.is_over.ensures.waits c.if-is_over.false).0 (c.in_default.ensures.goes told);
}

pub returns-in-Err-clause-goes : goal.returns-in-Err-clause-goes
returns-in-Err-clause-goes g c = λ told. rounds_then
    (moment_of c.round.new.core c.round.new.store c.round.new.site)
    (g.C.CostLaw.cost c.args.p.now.law.value) (failing_round c.in-Err.halt)
    (c.loop-i.invariant.goes told) (c.in-Err.ensures.goes told)

pub returns-then-is_over-clause-goes : goal.returns-then-is_over-clause-goes
returns-then-is_over-clause-goes g c = λ told. rounds_then
    (moment_of c.round.new.core c.round.new.store c.round.new.site)
    (g.C.CostLaw.cost c.args.p.now.law.value) (Ok c.in-Ok.verdict)
    (c.loop-i.invariant.goes told) (c.in-Ok.ensures.goes told)

pub returns-in-loop-i-clause-goes : goal.returns-in-loop-i-clause-goes
returns-in-loop-i-clause-goes g c = λ told. stopped_wait
    (moment_of c.round.new.core c.round.new.store c.round.new.site)
    (moment_of c.wait_one.new.core c.wait_one.new.store c.wait_one.new.site)
    (g.C.CostLaw.cost c.args.p.now.law.value) c.in-Ok.verdict c.in-Err-wait_one.halt
    (c.loop-i.invariant.goes told) (c.in-Ok.ensures.goes told)
    (c.is_over.ensures.waits c.if-is_over.false).0 (c.in-Err-wait_one.ensures.goes told)

pub returns-in-Err-clause-users : goal.returns-in-Err-clause-users
returns-in-Err-clause-users g c = λ told. stay_then (g.D.Disk.state (disk_of c.args.site.now))
    (g.D.Disk.state (disk_of c.loop-i.site)) (g.D.Disk.state (disk_of c.round.new.site))
    (c.loop-i.invariant.users told) (c.round.ensures.users told)

pub returns-then-is_over-clause-users : goal.returns-then-is_over-clause-users
returns-then-is_over-clause-users g c = λ told. stay_then (g.D.Disk.state (disk_of c.args.site.now))
    (g.D.Disk.state (disk_of c.loop-i.site)) (g.D.Disk.state (disk_of c.round.new.site))
    (c.loop-i.invariant.users told) (c.round.ensures.users told)

pub returns-in-loop-i-clause-users : goal.returns-in-loop-i-clause-users
returns-in-loop-i-clause-users g c = λ told. stay_then (g.D.Disk.state (disk_of c.args.site.now))
    (g.D.Disk.state (disk_of c.round.new.site)) (g.D.Disk.state (disk_of c.wait_one.new.site))
    (stay_then (g.D.Disk.state (disk_of c.args.site.now)) (g.D.Disk.state (disk_of c.loop-i.site))
    (g.D.Disk.state (disk_of c.round.new.site)) (c.loop-i.invariant.users told) (c.round.ensures.users told))
    (c.wait_one.ensures.users told)
