use Rattle.std.proofs.Common.{◌≡◌, true, false, arith, refl, sym, ap, subst}
use Rattle.std.specs.Prelude.{◌⊎◌, IsErrOf}
use Rattle.gs_types.specs.Counts.{Rises}
use Rattle.gs_types.specs.History.{History}
use Rattle.gs_core.specs.declared.machine.Core.{Core}
use Rattle.gs_core.specs.declared.verdict.Verdict.{Verdict}
use Rattle.gs_finish.specs.declared.halt.Halt.TheVariants.{Disk}
use Rattle.gs_main.specs.Shown.{talking}
use Rattle.gs_queue.specs.Queue.{job_of}
use Rattle.gs_site.specs.Link.{IsIdle}
use Rattle.gs_site.specs.Site.{disk_of, link_of}
use Rattle.gs_store.specs.State.{StoreState}
use Rattle.gs_engine.specs.Beginning.{parts_of}
use Rattle.gs_engine.specs.Running.{Went, IsFruitless}
use Rattle.gs_engine.specs.Sane.{moment_of}
use Rattle.gs_engine.proofs.Concluding.{failing, halted, halt_fruitless}
use Rattle.gs_engine.proofs.Counting.{caused_from}
use Rattle.gs_engine.proofs.Ending.{cut_halt, lacks_halt, caused_halt, idle_end, caused_end}
use Rattle.gs_engine.proofs.Going.{begin_went, drive_went, end_went}
use Rattle.gs_engine.proofs.Misfits.{enters_fit}
use Rattle.gs_engine.proofs.Settling.{found_lacks}
use Rattle.gs_engine.proofs.Users.{stay_then}
use Rattle.gs_engine.proofs.running.go.Goals as goal

pub returns-in-Err-clause-idle : goal.returns-in-Err-clause-idle
returns-in-Err-clause-idle g c = cut_halt StoreState
    (IsIdle (g.K.Link.jobs (link_of c.begin.new.site))) c.stopped.result c.in-Err.halt
    c.stopped.ensures

pub returns-in-Err-clause-refused : goal.returns-in-Err-clause-refused
returns-in-Err-clause-refused g c = λ told.
    lacks_halt (g.D.Disk.state (disk_of c.begin.new.site)).folder c.stopped.result c.in-Err.halt
    c.stopped.ensures (found_lacks (g.D.Disk.state (disk_of c.begin.new.site)).folder
    c.in-Err.halt c.in-Err.ensures.outside)

pub returns-in-Err-clause-cause : goal.returns-in-Err-clause-cause
returns-in-Err-clause-cause g c = caused_halt Core StoreState c.stopped.result c.in-Err.halt
    (g.D.Disk.state (disk_of c.args.site.now)).faults
    (g.D.Disk.state (disk_of c.begin.new.site)).faults
    (g.K.Link.faults (link_of c.args.site.now)) (g.K.Link.faults (link_of c.begin.new.site))
    c.stopped.ensures c.in-Err.ensures.cause
    (let same = ap g.K.Link.faults c.begin.ensures.link in omega (arith, same))

pub returns-in-Err-clause-went : goal.returns-in-Err-clause-went
returns-in-Err-clause-went g c = λ told call enters costs.
    subst (λ f. (before : History) × Went g.K.Link.tells call
    (g.D.Disk.state (disk_of c.args.site.now)) (g.D.Disk.state (disk_of c.begin.new.site))
    (link_of c.begin.new.site) before (failing {T = StoreState} f)) (sym c.stopped.ensures)
    (begin_went StoreState
    (parts_of c.args.texts.now (talking c.args.main) c.args.broker c.args.window)
    c.args.store.entries (disk_of c.args.site.now) (disk_of c.begin.new.site)
    (link_of c.args.site.now) (link_of c.begin.new.site) c.in-Err.halt c.begin.ensures.link
    c.in-Err.ensures.outside (c.begin.ensures.stands told) call enters)

pub returns-in-Err-drive-clause-idle : goal.returns-in-Err-drive-clause-idle
returns-in-Err-drive-clause-idle g c = cut_halt StoreState
    (IsIdle (g.K.Link.jobs (link_of c.drive.new.site))) c.stopped-in-Err-drive.result
    c.in-Err-drive.halt c.stopped-in-Err-drive.ensures

pub returns-in-Err-drive-clause-refused : goal.returns-in-Err-drive-clause-refused
returns-in-Err-drive-clause-refused g c = λ told.
    lacks_halt (g.D.Disk.state (disk_of c.drive.new.site)).folder c.stopped-in-Err-drive.result
    c.in-Err-drive.halt c.stopped-in-Err-drive.ensures (c.in-Err-drive.ensures.refused told)

pub returns-in-Err-drive-clause-cause : goal.returns-in-Err-drive-clause-cause
returns-in-Err-drive-clause-cause g c = caused_halt Verdict StoreState
    c.stopped-in-Err-drive.result c.in-Err-drive.halt
    (g.D.Disk.state (disk_of c.args.site.now)).faults
    (g.D.Disk.state (disk_of c.drive.new.site)).faults
    (g.K.Link.faults (link_of c.args.site.now)) (g.K.Link.faults (link_of c.drive.new.site))
    c.stopped-in-Err-drive.ensures
    (caused_from (IsErrOf (halted {T = Verdict} c.in-Err-drive.halt) Disk)
    (g.D.Disk.state (disk_of c.args.site.now)).faults
    (g.D.Disk.state (disk_of c.begin.new.site)).faults
    (g.D.Disk.state (disk_of c.drive.new.site)).faults c.begin.ensures.cause.rise
    c.in-Err-drive.ensures.cause)
    (let same = ap g.K.Link.faults c.begin.ensures.link in let more = c.drive.ensures.rise in
    omega (arith, same, more))

pub returns-in-Err-drive-clause-went : goal.returns-in-Err-drive-clause-went
returns-in-Err-drive-clause-went g c = λ told call enters costs.
    subst (λ f. (before : History) × Went g.K.Link.tells call
    (g.D.Disk.state (disk_of c.args.site.now)) (g.D.Disk.state (disk_of c.drive.new.site))
    (link_of c.drive.new.site) before (failing {T = StoreState} f))
    (sym c.stopped-in-Err-drive.ensures)
    (drive_went StoreState
    (parts_of c.args.texts.now (talking c.args.main) c.args.broker c.args.window)
    c.args.store.entries (disk_of c.args.site.now) (disk_of c.drive.new.site)
    (link_of c.args.site.now) (moment_of c.in-Ok.core c.begin.new.store c.begin.new.site)
    (link_of c.drive.new.site) (g.C.CostLaw.cost c.args.p.now.law.value) c.in-Err-drive.halt
    (moment_of c.drive.new.core c.drive.new.store c.drive.new.site) refl refl
    (c.begin.ensures.stands told) (c.in-Ok.ensures.begun told) (c.in-Err-drive.ensures.goes told)
    call enters costs)

pub returns-in-Ok-drive-clause-idle : goal.returns-in-Ok-drive-clause-idle
returns-in-Ok-drive-clause-idle g c = λ whole. record {
  none = idle_end (job_of c.drive.new.core.queue) (g.K.Link.jobs (link_of c.drive.new.site))
      (g.K.Link.jobs (link_of c.conclude.new.site)) c.in-Ok-drive.verdict c.conclude.result
      c.in-Ok-drive.ensures.sane.together (ap g.K.Link.jobs c.conclude.ensures.link)
      c.in-Ok-drive.ensures.over c.conclude.ensures.cut whole;
}

pub returns-in-Ok-drive-clause-cause : goal.returns-in-Ok-drive-clause-cause
returns-in-Ok-drive-clause-cause g c = caused_end c.conclude.result
    (g.D.Disk.state (disk_of c.args.site.now)).faults
    (g.D.Disk.state (disk_of c.drive.new.site)).faults
    (g.D.Disk.state (disk_of c.conclude.new.site)).faults
    (g.K.Link.faults (link_of c.args.site.now)) (g.K.Link.faults (link_of c.drive.new.site))
    (g.K.Link.faults (link_of c.conclude.new.site)) false c.drive.new.failed refl
    (let a = c.begin.ensures.cause.rise in let b = c.drive.ensures.cause.rise in
    omega (arith, a, b)) c.conclude.ensures.cause
    (let same = ap g.K.Link.faults c.begin.ensures.link in let more = c.drive.ensures.rise in
    omega (arith, same, more)) (ap g.K.Link.faults c.conclude.ensures.link)
    c.conclude.ensures.blamed
    (subst (λ l. c.drive.new.failed ≡ true → (false ≡ true)
    ⊎ Rises (g.K.Link.faults l) (g.K.Link.faults (link_of c.drive.new.site)))
    c.begin.ensures.link c.drive.ensures.failed)

pub returns-in-Ok-drive-clause-went : goal.returns-in-Ok-drive-clause-went
returns-in-Ok-drive-clause-went g c = λ told call enters costs. end_went StoreState
    (parts_of c.args.texts.now (talking c.args.main) c.args.broker c.args.window)
    c.args.store.entries (disk_of c.args.site.now) (disk_of c.conclude.new.site)
    (link_of c.args.site.now) (moment_of c.in-Ok.core c.begin.new.store c.begin.new.site)
    (link_of c.conclude.new.site) (g.C.CostLaw.cost c.args.p.now.law.value)
    c.in-Ok-drive.verdict c.conclude.result
    (moment_of c.drive.new.core c.drive.new.store c.drive.new.site) c.conclude.ensures.link
    (c.begin.ensures.stands told) (c.in-Ok.ensures.begun told) (c.in-Ok-drive.ensures.goes told)
    (c.conclude.ensures.concludes told)
    (enters_fit c.args.texts.now c.args.main c.args.broker c.args.window) call enters costs

pub returns-in-Err-clause-users : goal.returns-in-Err-clause-users
returns-in-Err-clause-users g c = λ told fruitless.
    absurd (halt_fruitless StoreState c.in-Err.halt
    (subst (λ e. IsFruitless (failing {T = StoreState} e)) c.stopped.ensures fruitless))

pub returns-in-Err-drive-clause-users : goal.returns-in-Err-drive-clause-users
returns-in-Err-drive-clause-users g c = λ told fruitless.
    absurd (halt_fruitless StoreState c.in-Err-drive.halt
    (subst (λ e. IsFruitless (failing {T = StoreState} e)) c.stopped-in-Err-drive.ensures fruitless))

pub returns-in-Ok-drive-clause-users : goal.returns-in-Ok-drive-clause-users
returns-in-Ok-drive-clause-users g c = λ told fruitless.
    stay_then (g.D.Disk.state (disk_of c.args.site.now))
    (g.D.Disk.state (disk_of c.drive.new.site)) (g.D.Disk.state (disk_of c.conclude.new.site))
    (stay_then (g.D.Disk.state (disk_of c.args.site.now))
    (g.D.Disk.state (disk_of c.begin.new.site)) (g.D.Disk.state (disk_of c.drive.new.site))
    (c.begin.ensures.users told) (c.drive.ensures.users told))
    (c.conclude.ensures.users told fruitless)
