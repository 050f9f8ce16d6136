use Rattle.std.proofs.Common.{◌∙◌, Result, ap, subst, sym, is_some}
use Rattle.std.proofs.lemmas.Result.{err_from_is_err_and}
use Rattle.gs_types.specs.History.{failed}
use Rattle.gs_site.specs.Site.{disk_of, link_of, mark_of}
use Rattle.gs_site.specs.declared.link.Event.TheVariants.{Finished}
use Rattle.gs_life.proofs.Calls.{ok_gives}
use Rattle.gs_engine.specs.Joined.{Goes}
use Rattle.gs_engine.specs.Sane.{IsRecorded, moment_of}
use Rattle.gs_engine.specs.Steps.{whatever}
use Rattle.gs_engine.specs.Waiting.{IsStillNow}
use Rattle.gs_finish.specs.declared.halt.Halt.{Halt}
use Rattle.gs_engine.proofs.Settling.{halt}
use Rattle.gs_engine.proofs.Launching.{goes_unstarted, recorded_by}
use Rattle.gs_engine.proofs.WaitingEnds.{finish_within, finish_told, fail_flew, fail_told, recorded_finished, failed_goes}
use Rattle.gs_engine.specs.Users.{UsersStay}
use Rattle.gs_engine.proofs.wait.wait_one.Goals as goal

pub returns-in_err-n-clause-goes : goal.returns-in_err-n-clause-goes
returns-in_err-n-clause-goes g c = λ told.
    let p = err_from_is_err_and c.from_residual.result c.from_residual.ensures.1 in
    subst (λ (r : Result (Unit {0}) Halt). Goes g.D.Disk.state g.K.Link.tells g.K.Link.jobs
    (λ l. g.K.L.Law.meaning (g.K.Link.law l))
    (moment_of c.args.core.now c.args.store.now c.args.site.now)
    (moment_of c.args.core.now c.args.store.now c.next.new.self) IsStillNow whatever r)
    (sym (p.1 ∙ ap (λ (e : Halt). halt e) p.2))
    (goes_unstarted c.args.core.now c.args.store.now (disk_of c.args.site.now)
    (disk_of c.next.new.self) (link_of c.args.site.now) (link_of c.next.new.self)
    c.next.ensures.disk c.in_err-n.ensures.told IsStillNow whatever)

pub finished_one-requires-clause-within : goal.finished_one-requires-clause-within
finished_one-requires-clause-within g c = finish_within g.K.Link.jobs g.K.Link.faults
    (link_of c.args.site.now) (link_of c.next.new.self) c.in_ok-n.field-0 c.in-Finished.n
    c.items.result.now
    (c.in-Finished.is ∙ ap (Finished c.in-Finished.n) (sym c.items.ensures))
    c.in_ok-n.ensures.ended

pub returns-in-Finished-clause-recorded : goal.returns-in-Finished-clause-recorded
returns-in-Finished-clause-recorded g c =
    let old = link_of c.args.site.now in
    let new = link_of c.next.new.self in
    let es = c.args.store.now.entries in
    let es_new = c.finished_one.new.store.entries in
    let mark = mark_of c.args.site.now in
    let told = finish_told g.K.Link.tells g.K.Link.jobs g.K.Link.faults g.K.L.Law.meaning
    g.K.Link.law old new c.in_ok-n.field-0 c.in-Finished.n c.items.result.now
    (c.in-Finished.is ∙ ap (Finished c.in-Finished.n) (sym c.items.ensures))
    c.in_ok-n.ensures.ended c.in_ok-n.ensures.told c.in_ok-n.ensures.by_law
    c.next.ensures.law in
    ok_gives c.finished_one.result c.finished_one.ensures.done (λ marks.
    subst (λ l. IsRecorded g.K.Link.tells es_new l (mark_of c.finished_one.new.site))
    (sym c.finished_one.ensures.link)
    (subst (λ m. IsRecorded g.K.Link.tells es_new new m)
    (sym (c.finished_one.ensures.mark ∙ c.next.ensures.mark))
    (recorded_finished g.K.Link.tells old new mark c.in-Finished.n c.items.result.now es es_new
    (g.met.K.Link.one new) (g.met.K.Link.all new old) told.told marks c.requires.recorded)))

pub returns-in-Finished-clause-goes : goal.returns-in-Finished-clause-goes
returns-in-Finished-clause-goes g c = λ told.
    let ended = finish_told g.K.Link.tells g.K.Link.jobs g.K.Link.faults g.K.L.Law.meaning
    g.K.Link.law (link_of c.args.site.now) (link_of c.next.new.self) c.in_ok-n.field-0
    c.in-Finished.n c.items.result.now
    (c.in-Finished.is ∙ ap (Finished c.in-Finished.n) (sym c.items.ensures))
    c.in_ok-n.ensures.ended c.in_ok-n.ensures.told c.in_ok-n.ensures.by_law
    c.next.ensures.law in
    subst (λ d. Goes g.D.Disk.state g.K.Link.tells g.K.Link.jobs
    (λ l. g.K.L.Law.meaning (g.K.Link.law l))
    (record {
      core = c.args.core.now;
      store = c.args.store.now;
      disk = d;
      link = link_of c.args.site.now;
    })
    (moment_of c.finished_one.new.core c.finished_one.new.store c.finished_one.new.site)
    IsStillNow whatever c.finished_one.result) c.next.ensures.disk
    (c.finished_one.ensures.goes told (link_of c.args.site.now) ended)

pub returns-in-Failed-clause-recorded : goal.returns-in-Failed-clause-recorded
returns-in-Failed-clause-recorded g c =
    let old = link_of c.args.site.now in
    let new = link_of c.next.new.self in
    recorded_by g.K.Link.tells c.args.store.now.entries old new (mark_of c.args.site.now)
    (mark_of c.next.new.self) (failed c.in-Failed.n) c.next.ensures.mark (g.met.K.Link.one new)
    (g.met.K.Link.all new old)
    (fail_told g.K.Link.tells old new c.in_ok-n.field-0 c.in-Failed.n c.in-Failed.is
    c.in_ok-n.ensures.told) (λ n has. has) c.requires.recorded

pub returns-in-Failed-clause-goes : goal.returns-in-Failed-clause-goes
returns-in-Failed-clause-goes g c = λ told.
    let old = link_of c.args.site.now in
    let new = link_of c.next.new.self in
    let fails = fail_flew g.K.Link.jobs g.K.Link.faults old new c.in_ok-n.field-0 c.in-Failed.n
    c.in-Failed.is c.in_ok-n.ensures.ended in
    failed_goes c.args.core.now c.failed.new.self c.args.store.now (disk_of c.args.site.now)
    (disk_of c.next.new.self) old new c.in-Failed.n c.next.ensures.disk c.requires.settled
    (c.requires.sane.together c.in-Failed.n ∙ ap is_some fails.flew) c.failed.ensures.tables
    c.failed.ensures.stage c.failed.ensures.stands fails.flies
    (ap g.K.L.Law.meaning c.next.ensures.law)
    (fail_told g.K.Link.tells old new c.in_ok-n.field-0 c.in-Failed.n c.in-Failed.is
    c.in_ok-n.ensures.told)

pub returns-in-Finished-clause-users : goal.returns-in-Finished-clause-users
returns-in-Finished-clause-users g c = λ told. subst (λ d. UsersStay (g.D.Disk.state d)
    (g.D.Disk.state (disk_of c.finished_one.new.site))) c.next.ensures.disk
    (c.finished_one.ensures.users told)
