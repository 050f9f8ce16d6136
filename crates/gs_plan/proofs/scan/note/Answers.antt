use Rattle.std.proofs.Common.{List, reverse, take, sym, subst, arith}
use Rattle.gs_types.specs.declared.action.Action.{Action}
use Rattle.gs_types.specs.declared.action.Action.TheVariants as act
use Rattle.gs_plan.specs.Scan.{ScannedOf}
use Rattle.gs_plan.proofs.Newest.{numbered_first, calls_first, next_action, numbered_next}
use Rattle.gs_plan.proofs.Noting.{where_ok, all_ok, writer_in, note_use, note_result, note_read, note_write, note_barrier, note_end, note_call}
use Rattle.gs_plan.proofs.scan.note.Goals as goal

pub call-requires-clause-few : goal.call-requires-clause-few
call-requires-clause-few c = omega (arith, c.requires.scanned.ties.each, calls_first c.args.actions.now c.args.at, c.requires.few)

pub overflow_sub-n : goal.overflow_sub-n
overflow_sub-n c = (numbered_next c.args.actions.now c.args.at c.index-actions-at.result (act.Use c.in-Use.n c.in-Use.place) c.requires.at c.index-actions-at.is c.in-Use.is c.requires.numbered).0

pub need_one-requires : goal.need_one-requires
need_one-requires c =
    let number = numbered_next c.args.actions.now c.args.at c.index-actions-at.result (act.Use c.in-Use.n c.in-Use.place) c.requires.at c.index-actions-at.is c.in-Use.is c.requires.numbered in
    omega (arith, number.0, number.1, calls_first c.args.actions.now c.args.at, c.requires.few)

pub overflow_sub-n-in-Result : goal.overflow_sub-n-in-Result
overflow_sub-n-in-Result c = (numbered_next c.args.actions.now c.args.at c.index-actions-at.result (act.Result c.in-Result.n) c.requires.at c.index-actions-at.is c.in-Result.is c.requires.numbered).0

pub need_one-requires-in-Result : goal.need_one-requires-in-Result
need_one-requires-in-Result c =
    let number = numbered_next c.args.actions.now c.args.at c.index-actions-at.result (act.Result c.in-Result.n) c.requires.at c.index-actions-at.is c.in-Result.is c.requires.numbered in
    omega (arith, number.0, number.1, calls_first c.args.actions.now c.args.at, c.requires.few)

pub need_one-requires-in-Some : goal.need_one-requires-in-Some
need_one-requires-in-Some c =
    let earlier = reverse (take c.args.at c.args.actions.now) in
    let inside = writer_in earlier c.args.scan.now c.in-Read.name c.in-Some.task c.requires.scanned (numbered_first c.args.actions.now c.args.at c.requires.numbered) (sym c.in-Some.ensures) in
    omega (arith, inside, calls_first c.args.actions.now c.args.at, c.requires.few)

pub need_all-requires-clause-few : goal.need_all-requires-clause-few
need_all-requires-clause-few c = omega (arith, c.requires.scanned.ties.each, calls_first c.args.actions.now c.args.at, c.requires.few)

pub need_all-requires-in-End-clause-few : goal.need_all-requires-in-End-clause-few
need_all-requires-in-End-clause-few c = omega (arith, c.requires.scanned.ties.each, calls_first c.args.actions.now c.args.at, c.requires.few)

pub returns-in-Call : goal.returns-in-Call
returns-in-Call c =
    let xs = c.args.actions.now in
    let a = act.Call c.in-Call.n c.in-Call.op c.in-Call.reads c.in-Call.writes in
    let number = numbered_next xs c.args.at c.index-actions-at.result a c.requires.at c.index-actions-at.is c.in-Call.is c.requires.numbered in
    let next = next_action xs c.args.at c.index-actions-at.result a c.requires.at c.index-actions-at.is c.in-Call.is in
    rw next (where_ok c.call.result _ _ c.call.ensures (λ adds. note_call (reverse (take c.args.at xs)) c.in-Call.n c.in-Call.op c.in-Call.reads c.in-Call.writes c.items.result.now c.items-in-Call.result.now c.args.scan.now c.call.new.scan
    c.requires.scanned (numbered_first xs c.args.at c.requires.numbered) number adds (sym c.items.ensures) (sym c.items-in-Call.ensures)))

pub returns-in-Use : goal.returns-in-Use
returns-in-Use c =
    let xs = c.args.actions.now in
    let a = act.Use c.in-Use.n c.in-Use.place in
    let number = numbered_next xs c.args.at c.index-actions-at.result a c.requires.at c.index-actions-at.is c.in-Use.is c.requires.numbered in
    let next = next_action xs c.args.at c.index-actions-at.result a c.requires.at c.index-actions-at.is c.in-Use.is in
    rw next (all_ok c.need_one.result _ _ _ _ c.need_one.ensures.ties c.need_one.ensures.writers c.need_one.ensures.barred
    (λ p q r. note_use (reverse (take c.args.at xs)) c.in-Use.n c.in-Use.place c.args.scan.now c.need_one.new.scan c.requires.scanned number.0 number.1 p q r))

pub returns-in-Result : goal.returns-in-Result
returns-in-Result c =
    let xs = c.args.actions.now in
    let a = act.Result c.in-Result.n in
    let number = numbered_next xs c.args.at c.index-actions-at.result a c.requires.at c.index-actions-at.is c.in-Result.is c.requires.numbered in
    let next = next_action xs c.args.at c.index-actions-at.result a c.requires.at c.index-actions-at.is c.in-Result.is in
    rw next (all_ok c.need_one-in-Result.result _ _ _ _ c.need_one-in-Result.ensures.ties c.need_one-in-Result.ensures.writers c.need_one-in-Result.ensures.barred
    (λ p q r. note_result (reverse (take c.args.at xs)) c.in-Result.n c.args.scan.now c.need_one-in-Result.new.scan c.requires.scanned number.0 number.1 p q r))

pub returns-in-Some : goal.returns-in-Some
returns-in-Some c =
    let xs = c.args.actions.now in
    let next = next_action xs c.args.at c.index-actions-at.result (act.Read c.in-Read.name) c.requires.at c.index-actions-at.is c.in-Read.is in
    rw next (all_ok c.need_one-in-Some.result _ _ _ _ c.need_one-in-Some.ensures.ties c.need_one-in-Some.ensures.writers c.need_one-in-Some.ensures.barred
    (λ p q r. note_read (reverse (take c.args.at xs)) c.in-Read.name c.in-Some.task c.args.scan.now c.need_one-in-Some.new.scan c.requires.scanned (numbered_first xs c.args.at c.requires.numbered) (sym c.in-Some.ensures) p q r))

pub returns-in-Write : goal.returns-in-Write
returns-in-Write c =
    let xs = c.args.actions.now in
    let next = next_action xs c.args.at c.index-actions-at.result (act.Write c.in-Write.name) c.requires.at c.index-actions-at.is c.in-Write.is in
    let P : List Action → Type 0 = λ ys. ScannedOf ys c.write_one.new.scan in
    subst P (sym next) (note_write (reverse (take c.args.at xs)) c.in-Write.name c.args.scan.now c.write_one.new.scan c.requires.scanned c.write_one.ensures.ties c.write_one.ensures.writers c.write_one.ensures.barred)

pub returns-in-Barrier : goal.returns-in-Barrier
returns-in-Barrier c =
    let xs = c.args.actions.now in
    let next = next_action xs c.args.at c.index-actions-at.result act.Barrier c.requires.at c.index-actions-at.is c.in-Barrier.is in
    rw next (all_ok c.need_all.result _ _ _ _ c.need_all.ensures.ties c.need_all.ensures.writers c.need_all.ensures.barred
    (λ p q r. note_barrier (reverse (take c.args.at xs)) c.args.scan.now c.need_all.new.scan c.requires.scanned (numbered_first xs c.args.at c.requires.numbered) p q r))

pub returns-in-End : goal.returns-in-End
returns-in-End c =
    let xs = c.args.actions.now in
    let next = next_action xs c.args.at c.index-actions-at.result act.End c.requires.at c.index-actions-at.is c.in-End.is in
    rw next (all_ok c.need_all-in-End.result _ _ _ _ c.need_all-in-End.ensures.ties c.need_all-in-End.ensures.writers c.need_all-in-End.ensures.barred
    (λ p q r. note_end (reverse (take c.args.at xs)) c.args.scan.now c.need_all-in-End.new.scan c.requires.scanned (numbered_first xs c.args.at c.requires.numbered) p q r))
