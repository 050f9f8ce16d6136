use Rattle.std.proofs.Common.{ap, ◌∙◌}
use Rattle.gs_entries.specs.Entries.{Spells}
use Rattle.gs_store.specs.State.{StoreState}
use Rattle.gs_store.proofs.Adding.{adds, adds_failed, adds_done, log_of_some, log_pushed, list_is}
use Rattle.gs_store.proofs.Counting.{room_for, pushed_in_order}
use Rattle.gs_store.proofs.store.Store.add.Goals as goal

pub append-requires-clause-room : goal.append-requires-clause-room
append-requires-clause-room g c =
    let list = log_of_some c.self.inside.log _ c.self.inside.book c.in-Some.is c.self.invariant.0 in
    room_for _ c.self.inside.book list c.self.invariant.1

pub invariant_of-self-in-Ok : goal.invariant_of-self-in-Ok
invariant_of-self-in-Ok g c =
    let list = log_of_some c.self.inside.log _ c.self.inside.book c.in-Some.is c.self.invariant.0 in
    let same = ap (λ (s : StoreState). s.entries) c.self.view_is in
    let spells : Spells c.args.e c.deref.result.now = record {
      is = c.deref.ensures.value ∙ c.in_ok-payload.ensures.spelled.is;
      fits = c.requires.fits;
    } in (
      log_pushed _ c.append.new.log _ c.self.inside.book c.push.new.self c.args.e list spells
          c.in_default.ensures.list c.in-Ok.ensures.ok,
      pushed_in_order c.self.inside.book c.args.self.now.entries c.push.new.self c.args.e same
          c.self.invariant.1 c.requires.fits c.requires.order c.in-Ok.ensures.ok,
    )

pub returns-in-Err-clause-adds : goal.returns-in-Err-clause-adds
returns-in-Err-clause-adds g c = λ told.
    let a = g.D.Disk.state c.args.disk.now in let b = g.D.Disk.state c.append.new.disk in
    let same = ap (λ (s : StoreState). s.entries) c.self.view_is in
    let list = list_is c.args.self.now c.self.inside.log _ c.self.inside.book same c.in-Some.is
    c.self.invariant.0 in
    let payload = c.deref.ensures.value ∙ c.in_ok-payload.ensures.spelled.is in
    let reads = g.met.D.Disk.reads_an_image told c.args.disk.now in
    let all = adds c.append.result c.args.self.now c.args.e _ _ a b reads
    (c.requires.disk_of_store told) list payload (c.append.ensures.appends told) in
    adds_failed c.append.result c.in-Err.failure c.args.self.now c.args.e a b all

pub returns-in-Ok-clause-adds : goal.returns-in-Ok-clause-adds
returns-in-Ok-clause-adds g c = λ told.
    let a = g.D.Disk.state c.args.disk.now in let b = g.D.Disk.state c.append.new.disk in
    let same = ap (λ (s : StoreState). s.entries) c.self.view_is in
    let list = list_is c.args.self.now c.self.inside.log _ c.self.inside.book same c.in-Some.is
    c.self.invariant.0 in
    let payload = c.deref.ensures.value ∙ c.in_ok-payload.ensures.spelled.is in
    let reads = g.met.D.Disk.reads_an_image told c.args.disk.now in
    let all = adds c.append.result c.args.self.now c.args.e _ _ a b reads
    (c.requires.disk_of_store told) list payload (c.append.ensures.appends told) in
    adds_done c.append.result c.in_default.field-0 c.args.self.now c.args.e a b c.in_default.is all

pub returns-clause-adds : goal.returns-clause-adds
returns-clause-adds g c = λ told.
    let a = g.D.Disk.state c.args.disk.now in let b = g.D.Disk.state c.append.new.disk in
    let same = ap (λ (s : StoreState). s.entries) c.self.view_is in
    let list = list_is c.args.self.now c.self.inside.log _ c.self.inside.book same c.in-Some.is
    c.self.invariant.0 in
    let payload = c.deref.ensures.value ∙ c.in_ok-payload.ensures.spelled.is in
    let reads = g.met.D.Disk.reads_an_image told c.args.disk.now in
    let all = adds c.append.result c.args.self.now c.args.e _ _ a b reads
    (c.requires.disk_of_store told) list payload (c.append.ensures.appends told) in
    adds_failed c.append.result _ c.args.self.now c.args.e a b all
