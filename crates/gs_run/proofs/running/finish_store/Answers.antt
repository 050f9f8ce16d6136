use Rattle.std.proofs.Common.{Ok, Err, sym, subst, refl}
use Rattle.gs_entries.specs.Order.{stage_of}
use Rattle.gs_site.specs.Site.{disk_of, link_of}
use Rattle.gs_store.specs.State.{StoreState}
use Rattle.gs_run.specs.Course.{Stood}
use Rattle.gs_run.specs.Halted.{IsFinish}
use Rattle.gs_run.specs.declared.stop.Stop.{Stop}
use Rattle.gs_run.proofs.Finished.{finished, none_lost}
use Rattle.gs_run.proofs.Stops.{halted, halt_blames, halt_fails}
use Rattle.gs_run.proofs.running.finish_store.Goals as goal

pub returns-in-Ok-clause-stood : goal.returns-in-Ok-clause-stood
returns-in-Ok-clause-stood g c = λ told o past stands before.
    finished o c.args.store.entries past (g.D.Disk.state (disk_of c.args.site.now))
    (g.D.Disk.state (disk_of c.finish.new.site)) (g.K.Link.tells (link_of c.finish.new.site))
    (Ok c.in-Ok.store) (c.finish.ensures.stands told o stands)
    (subst (λ l. g.K.Link.tells l past) (sym c.finish.ensures.link) before)
    (c.in-Ok.ensures.closed told o stands) tt

pub returns-in-Err-clause-cause : goal.returns-in-Err-clause-cause
returns-in-Err-clause-cause g c = halt_blames StoreState 0 0 0
    (g.D.Disk.state (disk_of c.args.site.now)).faults
    (g.D.Disk.state (disk_of c.finish.new.site)).faults c.in-Err.halt c.stop_of_halt.result
    c.stop_of_halt.ensures c.in-Err.ensures.cause

pub returns-in-Err-clause-halts : goal.returns-in-Err-clause-halts
returns-in-Err-clause-halts g c =
    halt_fails c.in-Err.halt c.stop_of_halt.result c.stop_of_halt.ensures

pub returns-in-Err-clause-stood : goal.returns-in-Err-clause-stood
returns-in-Err-clause-stood g c = λ told o past stands before.
    subst (λ (e : Stop). Stood {T = StoreState} o c.args.store.entries past
    (g.D.Disk.state (disk_of c.args.site.now))
    (g.D.Disk.state (disk_of c.finish.new.site)) (g.K.Link.tells (link_of c.finish.new.site))
    (IsFinish {T = StoreState} (Err e)) (Err e)) (sym c.stop_of_halt.ensures)
    (finished o c.args.store.entries past (g.D.Disk.state (disk_of c.args.site.now))
    (g.D.Disk.state (disk_of c.finish.new.site)) (g.K.Link.tells (link_of c.finish.new.site))
    (halted {T = StoreState} c.in-Err.halt) (c.finish.ensures.stands told o stands)
    (subst (λ l. g.K.Link.tells l past) (sym c.finish.ensures.link) before) tt
    (none_lost o (g.D.Disk.state (disk_of c.args.site.now)).folder c.args.store.entries
    (stage_of c.args.store.entries) (halted {T = StoreState} c.in-Err.halt) refl
    c.requires.ended stands.stands (c.in-Err.ensures.refused told)))
