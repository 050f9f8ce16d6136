use Rattle.std.proofs.Common.{◌∙◌, ◌++◌, arith, refl, subst, inl}
use Rattle.gs_core.specs.Core.{IsDueStart}
use Rattle.gs_site.specs.Site.{disk_of, link_of}
use Rattle.gs_engine.specs.Sane.{moment_of}
use Rattle.gs_engine.specs.Starting.{HasCosts, IsDueNow, IsStill}
use Rattle.gs_engine.specs.Steps.{whatever}
use Rattle.gs_engine.proofs.Counting.{since_then}
use Rattle.gs_engine.proofs.Settling.{done, halt, nothing_goes, goes_on, goes_known}
use Rattle.gs_engine.proofs.Users.{stay_here, stay_then}
use Rattle.gs_engine.proofs.start.start_all.Goals as goal

pub loop-i-init : goal.loop-i-init
loop-i-init g c = record {
  settled = c.requires.settled;
  sane = c.requires.sane;
  recorded = c.requires.recorded;
  mark = refl;
  faults = omega arith;
  rise = omega arith;
  failed = λ is. inl is;
  users = λ told. stay_here (g.D.Disk.state (disk_of c.args.site.now));
  goes = λ told. nothing_goes c.args.core.now c.args.store.now (disk_of c.args.site.now)
      (link_of c.args.site.now) (HasCosts (g.C.CostLaw.cost c.args.p.now.law.value));
}

pub loop-i-preserved : goal.loop-i-preserved
loop-i-preserved g c = record {
  settled = c.in_default.ensures.settled;
  sane = c.in_default.ensures.sane;
  recorded = c.in_default.ensures.recorded;
  mark = c.start_one.ensures.mark ∙ c.loop-i.invariant.mark;
  faults = let a = c.loop-i.invariant.faults in let b = c.start_one.ensures.cause.rise in
      omega (arith, a, b);
  rise = let a = c.loop-i.invariant.rise in let b = c.start_one.ensures.rise in
      omega (arith, a, b);
  failed = since_then c.args.failed.now c.loop-i.failed c.start_one.new.failed
      (g.K.Link.faults (link_of c.args.site.now)) (g.K.Link.faults (link_of c.loop-i.site))
      (g.K.Link.faults (link_of c.start_one.new.site)) c.loop-i.invariant.rise
      c.start_one.ensures.rise c.loop-i.invariant.failed c.start_one.ensures.failed;
  users = λ told. stay_then (g.D.Disk.state (disk_of c.args.site.now))
      (g.D.Disk.state (disk_of c.loop-i.site)) (g.D.Disk.state (disk_of c.start_one.new.site))
      (c.loop-i.invariant.users told) (c.start_one.ensures.users told);
  goes = λ told. goes_on (λ y. IsDueNow c.in-Ok-Some.start) (tt {0})
      (moment_of c.start_one.new.core c.args.store.now c.start_one.new.site)
      (IsDueNow c.in-Ok-Some.start) whatever done
      (goes_known (tt {0}) (λ y. IsDueNow c.in-Ok-Some.start) (c.loop-i.invariant.goes told)
      (λ cs k h m q p j. subst (IsDueStart cs.setup m (q ++ cs.noted)) c.in-Ok-Some.field-0-is
      (c.in-Ok-Some.ensures.due cs.setup m (q ++ cs.noted) p j.stands)))
      (λ cs k h m q p due. due) (c.in_default.ensures.goes told);
}

pub returns-in-loop-i-clause-goes : goal.returns-in-loop-i-clause-goes
returns-in-loop-i-clause-goes g c = λ told. goes_on (λ y. IsDueNow c.in-Ok-Some.start) (tt {0})
    (moment_of c.start_one.new.core c.args.store.now c.start_one.new.site)
    (IsDueNow c.in-Ok-Some.start) IsStill (halt c.in-Err-start_one.halt)
    (goes_known (tt {0}) (λ y. IsDueNow c.in-Ok-Some.start) (c.loop-i.invariant.goes told)
    (λ cs k h m q p j. subst (IsDueStart cs.setup m (q ++ cs.noted)) c.in-Ok-Some.field-0-is
    (c.in-Ok-Some.ensures.due cs.setup m (q ++ cs.noted) p j.stands)))
    (λ cs k h m q p due. due) (c.in-Err-start_one.ensures.goes told)

pub returns-in-loop-i-clause-users : goal.returns-in-loop-i-clause-users
returns-in-loop-i-clause-users g c = λ told. stay_then (g.D.Disk.state (disk_of c.args.site.now))
    (g.D.Disk.state (disk_of c.loop-i.site)) (g.D.Disk.state (disk_of c.start_one.new.site))
    (c.loop-i.invariant.users told) (c.start_one.ensures.users told)
