use Rattle.std.proofs.Common.{ap, refl, Err, Ok}
use Rattle.gs_site.specs.Site.{disk_of, link_of}
use Rattle.gs_run.specs.Ready.{stop_unready}
use Rattle.gs_run.proofs.Conclusions.{carries, ran_as, ran_unready, ran_stopped, ran_put, stays_closed, text_closed}
use Rattle.gs_run.proofs.Users.{users_carried}
use Rattle.gs_run.proofs.running.run_texts.Goals as goal

pub returns-in-Err-clause-ran : goal.returns-in-Err-clause-ran
returns-in-Err-clause-ran g c =
    let old = g.D.Disk.state c.disk.result.now in
    let new = g.D.Disk.state c.prepare.new.disk in
    ran_as c.args.words.now.settings g.D.Disk.tells g.O.Sink.tells old
    (g.D.Disk.state (disk_of c.args.site.now)) new _ _ _ _ _ _ _ _ _ c.args.words.now.idl
    c.args.words.now.program c.args.words.now.workers (Err (stop_unready c.in-Err.unready))
    (Err c.stop_unready.result) (ap g.D.Disk.state c.disk.ensures.value)
    (ap Err c.stop_unready.ensures)
    (ran_unready c.args.words.now.settings g.D.Disk.tells g.O.Sink.tells old new
    (g.K.L.Law.meaning (g.K.Link.law (link_of c.args.site.now)))
    (g.K.Link.tells (link_of c.args.site.now)) (g.K.Link.faults (link_of c.args.site.now))
    (g.O.Sink.faults c.args.out.now) (g.O.Sink.written c.args.out.now) c.args.words.now.idl
    c.args.words.now.program c.args.words.now.workers c.in-Err.unready c.in-Err.ensures.ends
    c.in-Err.ensures.unready c.in-Err.ensures.same c.in-Err.ensures.images
    (λ told. g.met.D.Disk.reads_an_image told c.disk.result.now))

pub returns-in-Err-carry_out-clause-ran : goal.returns-in-Err-carry_out-clause-ran
returns-in-Err-carry_out-clause-ran g c =
    let old = g.D.Disk.state c.disk.result.now in
    let mid = g.D.Disk.state c.prepare.new.disk in
    let new = g.D.Disk.state (disk_of c.carry_out.new.site) in
    let law = g.K.L.Law.meaning (g.K.Link.law (link_of c.args.site.now)) in
    ran_as c.args.words.now.settings g.D.Disk.tells g.O.Sink.tells old
    (g.D.Disk.state (disk_of c.args.site.now)) new _ _ _ _ _ _ _ _ _ c.args.words.now.idl
    c.args.words.now.program c.args.words.now.workers (Err c.in-Err-carry_out.stop)
    (Err c.in-Err-carry_out.stop) (ap g.D.Disk.state c.disk.ensures.value) refl
    (ran_stopped c.args.words.now.settings g.D.Disk.tells g.O.Sink.tells old mid new law
    (g.K.Link.tells (link_of c.args.site.now)) (g.K.Link.tells (link_of c.carry_out.new.site))
    (g.K.Link.faults (link_of c.args.site.now)) (g.K.Link.faults (link_of c.carry_out.new.site))
    (g.O.Sink.faults c.args.out.now) (g.O.Sink.written c.args.out.now) c.args.words.now.idl
    c.args.words.now.program c.args.words.now.workers c.in-Ok.ready c.in-Err-carry_out.stop
    c.in-Ok.ensures.rise c.in-Err-carry_out.ensures.halts c.in-Err-carry_out.ensures.cause
    c.in-Ok.ensures.ready
    (carries c.args.words.now.settings g.D.Disk.tells old mid new law
    (g.K.Link.tells (link_of c.args.site.now)) (g.K.Link.tells (link_of c.carry_out.new.site))
    c.args.words.now.idl c.args.words.now.program c.args.words.now.workers c.in-Ok.ready
    (Err c.in-Err-carry_out.stop) c.in-Ok.ensures.stage c.in-Ok.ensures.ready
    c.in-Ok.ensures.loaded c.in-Ok.ensures.images
    (λ told. g.met.D.Disk.reads_an_image told c.disk.result.now)
    (λ told. g.met.D.Disk.reads_an_image told c.prepare.new.disk)
    c.in-Err-carry_out.ensures.stood)
    (stays_closed g.D.Disk.tells old mid new c.args.words.now.idl c.args.words.now.program
    c.args.words.now.workers c.in-Ok.ready c.in-Ok.ensures.ready c.in-Ok.ensures.same
    c.in-Ok.ensures.images (λ at. ap g.D.Disk.state (c.in-Err-carry_out.ensures.still at)))
    (users_carried g.D.Disk.tells old mid new c.in-Err-carry_out.stop c.in-Ok.ensures.images
    c.in-Err-carry_out.ensures.users))

pub returns-in-Ok-carry_out-clause-ran : goal.returns-in-Ok-carry_out-clause-ran
returns-in-Ok-carry_out-clause-ran g c =
    let old = g.D.Disk.state c.disk.result.now in
    let mid = g.D.Disk.state c.prepare.new.disk in
    let new = g.D.Disk.state (disk_of c.carry_out.new.site) in
    let law = g.K.L.Law.meaning (g.K.Link.law (link_of c.args.site.now)) in
    let text = c.put_text.ensures.text in
    ran_as c.args.words.now.settings g.D.Disk.tells g.O.Sink.tells old
    (g.D.Disk.state (disk_of c.args.site.now)) new _ _ _ _ _ _ _ _ _ c.args.words.now.idl
    c.args.words.now.program c.args.words.now.workers c.put_text.result c.put_text.result
    (ap g.D.Disk.state c.disk.ensures.value) refl
    (ran_put c.args.words.now.settings g.D.Disk.tells g.O.Sink.tells old new law
    (g.K.Link.tells (link_of c.args.site.now)) (g.K.Link.tells (link_of c.carry_out.new.site))
    (g.K.Link.faults (link_of c.args.site.now)) (g.K.Link.faults (link_of c.carry_out.new.site))
    (g.O.Sink.faults c.args.out.now) (g.O.Sink.faults c.put_text.new.out)
    (g.O.Sink.written c.args.out.now) (g.O.Sink.written c.put_text.new.out)
    c.args.words.now.idl c.args.words.now.program c.args.words.now.workers c.in-Ok.ready
    c.in-Ok-carry_out.store text.0.text c.put_text.result c.in-Ok.ensures.ready
    (carries c.args.words.now.settings g.D.Disk.tells old mid new law
    (g.K.Link.tells (link_of c.args.site.now)) (g.K.Link.tells (link_of c.carry_out.new.site))
    c.args.words.now.idl c.args.words.now.program c.args.words.now.workers c.in-Ok.ready
    (Ok c.in-Ok-carry_out.store) c.in-Ok.ensures.stage c.in-Ok.ensures.ready
    c.in-Ok.ensures.loaded c.in-Ok.ensures.images
    (λ told. g.met.D.Disk.reads_an_image told c.disk.result.now)
    (λ told. g.met.D.Disk.reads_an_image told c.prepare.new.disk)
    c.in-Ok-carry_out.ensures.stood)
    (λ told o closed. text_closed o c.in-Ok-carry_out.store new text.0
    (g.met.D.Disk.reads_an_image told (disk_of c.carry_out.new.site))
    (c.in-Ok-carry_out.ensures.disk told) c.put_text.ensures.in_order text.1 closed) text.2
    (stays_closed g.D.Disk.tells old mid new c.args.words.now.idl c.args.words.now.program
    c.args.words.now.workers c.in-Ok.ready c.in-Ok.ensures.ready c.in-Ok.ensures.same
    c.in-Ok.ensures.images (λ at. ap g.D.Disk.state (c.in-Ok-carry_out.ensures.still at))))
