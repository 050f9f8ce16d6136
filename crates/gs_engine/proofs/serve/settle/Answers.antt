use Rattle.std.proofs.Common.{◌∙◌, ℕ, arith, refl, subst}
use Rattle.std.specs.Prelude.{IsErrOf}
use Rattle.gs_finish.specs.declared.halt.Halt.TheVariants.{Disk}
use Rattle.gs_types.specs.History.{History}
use Rattle.gs_history.specs.Setup.{Setup}
use Rattle.gs_core.specs.Core.{Stands, Advances}
use Rattle.gs_site.specs.Site.{disk_of, link_of}
use Rattle.gs_engine.specs.Sane.{moment_of}
use Rattle.gs_engine.specs.Steps.{always}
use Rattle.gs_engine.proofs.Counting.{caused_from}
use Rattle.gs_engine.proofs.Settling.{done, halt, nothing_goes, advance_then, settled_goes}
use Rattle.gs_engine.proofs.Users.{stay_here, stay_then}
use Rattle.gs_engine.proofs.serve.settle.Goals as goal

pub loop-i-init : goal.loop-i-init
loop-i-init g c = record {
  answered = c.requires.answered;
  store = refl;
  sane = c.requires.sane;
  link = refl;
  mark = refl;
  rise = omega arith;
  users = λ told. stay_here (g.D.Disk.state (disk_of c.args.site.now));
  goes = λ told. nothing_goes c.args.core.now c.args.store.now (disk_of c.args.site.now)
      (link_of c.args.site.now) always;
}

pub loop-i-preserved : goal.loop-i-preserved
loop-i-preserved g c = record {
  answered = c.in_default.ensures.answered;
  store = c.settle_one.ensures.store ∙ c.loop-i.invariant.store;
  sane = c.in_default.ensures.sane;
  link = c.settle_one.ensures.link ∙ c.loop-i.invariant.link;
  mark = c.settle_one.ensures.mark ∙ c.loop-i.invariant.mark;
  rise = let a = c.loop-i.invariant.rise in let b = c.settle_one.ensures.cause.rise in
      omega (arith, a, b);
  users = λ told. stay_then (g.D.Disk.state (disk_of c.args.site.now))
      (g.D.Disk.state (disk_of c.loop-i.site)) (g.D.Disk.state (disk_of c.settle_one.new.site))
      (c.loop-i.invariant.users told) (c.settle_one.ensures.users told);
  goes = λ told. advance_then (moment_of c.settle_one.new.core c.settle_one.new.store
      c.settle_one.new.site) c.loop-i.core c.advance.new.self c.loop-i.store
      (disk_of c.loop-i.site) (link_of c.loop-i.site) c.in-Ok.step done
      (c.loop-i.invariant.goes told) c.in-Ok.ensures.advanced c.in-Ok.ensures.mains
      (c.in_default.ensures.goes told);
}

pub returns-in-Ok-Settled-clause-goes : goal.returns-in-Ok-Settled-clause-goes
returns-in-Ok-Settled-clause-goes g c = λ told. settled_goes c.loop-i.core c.advance.new.self
    c.loop-i.store (disk_of c.loop-i.site) (link_of c.loop-i.site) (c.loop-i.invariant.goes told)
    (subst (λ x. (s : Setup) (k : ℕ) (h : History) → Stands c.loop-i.core s k h
    → Advances c.loop-i.core c.advance.new.self s k h x) c.in-Ok-Settled.field-0-is
    c.in-Ok-Settled.ensures.advanced) c.in-Ok-Settled.ensures.mains

pub returns-in-loop-i : goal.returns-in-loop-i
returns-in-loop-i g c = record {
  settled = tt;
  sane = tt;
  store = c.settle_one.ensures.store ∙ c.loop-i.invariant.store;
  link = c.settle_one.ensures.link ∙ c.loop-i.invariant.link;
  mark = c.settle_one.ensures.mark ∙ c.loop-i.invariant.mark;
  refused = λ told. c.in-Err-settle_one.ensures.refused told;
  cause = caused_from (IsErrOf (halt c.in-Err-settle_one.halt) Disk)
      (g.D.Disk.state (disk_of c.args.site.now)).faults
      (g.D.Disk.state (disk_of c.loop-i.site)).faults
      (g.D.Disk.state (disk_of c.settle_one.new.site)).faults
      c.loop-i.invariant.rise c.in-Err-settle_one.ensures.cause;
  users = λ told. stay_then (g.D.Disk.state (disk_of c.args.site.now))
      (g.D.Disk.state (disk_of c.loop-i.site)) (g.D.Disk.state (disk_of c.settle_one.new.site))
      (c.loop-i.invariant.users told) (c.settle_one.ensures.users told);
  goes = λ told. advance_then (moment_of c.settle_one.new.core c.settle_one.new.store
      c.settle_one.new.site) c.loop-i.core c.advance.new.self c.loop-i.store
      (disk_of c.loop-i.site) (link_of c.loop-i.site) c.in-Ok.step
      (halt c.in-Err-settle_one.halt) (c.loop-i.invariant.goes told) c.in-Ok.ensures.advanced
      c.in-Ok.ensures.mains (c.in-Err-settle_one.ensures.goes told);
}
