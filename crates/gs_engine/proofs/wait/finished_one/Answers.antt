use Rattle.std.proofs.Common.{subst}
use Rattle.gs_site.specs.Site.{disk_of, link_of}
use Rattle.gs_engine.specs.Waiting.{SameMains, KeepsGiven}
use Rattle.gs_engine.proofs.Waiting.{marks_done, still_running, given_notes, no_notes}
use Rattle.gs_engine.proofs.WaitingEnds.{sane_ended, finished_goes, finished_halts}
use Rattle.gs_engine.specs.Users.{UsersStay}
use Rattle.gs_engine.proofs.wait.finished_one.Goals as goal

pub returns-in-Ok-clause-sane : goal.returns-in-Ok-clause-sane
returns-in-Ok-clause-sane g c =
    let marks = marks_done c.args.store.now c.keep.new.store c.args.n c.in-Ok.notes
    c.in-Ok.ensures.adds in
    sane_ended c.args.core.now c.finished.new.self c.args.store.now c.keep.new.store
    (disk_of c.args.site.now) c.keep.new.disk (link_of c.args.site.now) c.args.n c.requires.ended
    c.finished.ensures.program c.finished.ensures.jobs
    (still_running c.args.store.now c.keep.new.store c.args.n c.in-Ok.notes c.in-Ok.ensures.adds
    c.requires.ended.stage) c.in-Ok.ensures.disk marks.others

pub returns-in-Ok-clause-done : goal.returns-in-Ok-clause-done
returns-in-Ok-clause-done g c = marks_done c.args.store.now c.keep.new.store c.args.n
    c.in-Ok.notes c.in-Ok.ensures.adds

pub returns-in-Ok-clause-goes : goal.returns-in-Ok-clause-goes
returns-in-Ok-clause-goes g c = λ told link ended. finished_goes c.args.core.now
    c.finished.new.self c.args.store.now c.keep.new.store (disk_of c.args.site.now) c.keep.new.disk
    link (link_of c.args.site.now) c.args.n c.args.outs.now c.in-Ok.notes c.requires.settled
    c.requires.ended.flew c.finished.ensures.mains c.finished.ensures.stage
    c.finished.ensures.stands
    (marks_done c.args.store.now c.keep.new.store c.args.n c.in-Ok.notes c.in-Ok.ensures.adds)
    c.in-Ok.ensures.notes
    (subst (λ d. SameMains (g.D.Disk.state d).folder (g.D.Disk.state c.keep.new.disk).folder)
    c.disk.ensures.value (c.keep.ensures.mains told))
    (subst (λ d. KeepsGiven c.args.core.now c.args.store.now.entries c.keep.new.store.entries
    c.args.n c.args.outs.now (g.D.Disk.state d) (g.D.Disk.state c.keep.new.disk)
    (given_notes c.in-Ok.notes)) c.disk.ensures.value (c.in-Ok.ensures.keeps told)) ended

pub returns-in-Err-clause-goes : goal.returns-in-Err-clause-goes
returns-in-Err-clause-goes g c = λ told link ended. finished_halts c.args.core.now
    c.args.store.now c.keep.new.store (disk_of c.args.site.now) c.keep.new.disk link
    (link_of c.args.site.now) c.args.n c.args.outs.now c.in-Err.halt
    c.in-Err.ensures.found c.requires.ended.flew
    (subst (λ d. KeepsGiven c.args.core.now c.args.store.now.entries c.keep.new.store.entries
    c.args.n c.args.outs.now (g.D.Disk.state d) (g.D.Disk.state c.keep.new.disk)
    (no_notes c.in-Err.halt)) c.disk.ensures.value (c.in-Err.ensures.keeps told)) ended

pub returns-in-Ok-clause-users : goal.returns-in-Ok-clause-users
returns-in-Ok-clause-users g c = λ told. subst (λ d. UsersStay (g.D.Disk.state d)
    (g.D.Disk.state c.keep.new.disk)) c.disk.ensures.value (c.keep.ensures.users told)

pub returns-in-Err-clause-users : goal.returns-in-Err-clause-users
returns-in-Err-clause-users g c = λ told. subst (λ d. UsersStay (g.D.Disk.state d)
    (g.D.Disk.state c.keep.new.disk)) c.disk.ensures.value (c.keep.ensures.users told)
