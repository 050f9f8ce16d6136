use Rattle.std.proofs.Common.{sym}
use Rattle.std.specs.Prelude.{not}
use Rattle.gs_broker.specs.Text.{bad_name, bad_slots, twice, too_many, stands, are_distinct, taken}
use Rattle.gs_broker.specs.Reading.{parts_by, names_of}
use Rattle.gs_broker.proofs.Lines.{or_first, not_taken, one_more, full, is_once, made_same}
use Rattle.gs_broker.proofs.line.read_worker.Goals as goal

pub returns-in_default : goal.returns-in_default
returns-in_default c = λ line has. bad_name (parts_by c.args.fields.now) has c.in_default.ensures

pub returns-in_default-slots_of : goal.returns-in_default-slots_of
returns-in_default-slots_of c = λ line has. bad_slots (parts_by c.args.fields.now) has c.in-Some.ensures.1 c.in_default-slots_of.ensures

pub returns-in-Err : goal.returns-in-Err
returns-in-Err c = not_taken c.args.idl.now.ops (parts_by c.args.fields.now) c.args.workers.now c.in-Some-slots_of.slots c.in-Err.stop c.in-Some.ensures.1 c.in-Some-slots_of.ensures c.in-Err.ensures

pub returns-then-has_name : goal.returns-then-has_name
returns-then-has_name c = λ line has.
    let p = parts_by c.args.fields.now in
    twice p c.in-Some-slots_of.slots (record { parts = has; name = c.in-Some.ensures.1; digits = c.in-Some-slots_of.ensures; known = c.in-Ok.ensures.0 })
    (or_first (stands p.name (names_of c.args.workers.now)) (not (are_distinct p.operations)) (sym c.if-has_name.ensures))

pub returns-then-workers-ge-WORKER_LIMIT : goal.returns-then-workers-ge-WORKER_LIMIT
returns-then-workers-ge-WORKER_LIMIT c = λ line has.
    let p = parts_by c.args.fields.now in
    too_many p c.in-Some-slots_of.slots (record { parts = has; name = c.in-Some.ensures.1; digits = c.in-Some-slots_of.ensures; known = c.in-Ok.ensures.0 })
    (is_once (stands p.name (names_of c.args.workers.now)) (are_distinct p.operations) (sym c.if-has_name.ensures) c.in-Ok.ensures.1)
    (full c.args.workers.now c.if-workers-ge-WORKER_LIMIT.true)

pub returns : goal.returns
returns c =
    let p = parts_by c.args.fields.now in
    one_more c.args.idl.now.ops p c.args.workers.now _ c.in-Some.ensures.1 c.in-Some-slots_of.ensures c.in-Ok.ensures.0
    (is_once (stands p.name (names_of c.args.workers.now)) (are_distinct p.operations) (sym c.if-has_name.ensures) c.in-Ok.ensures.1)
    c.if-workers-ge-WORKER_LIMIT.false
    (made_same c.in-Some-slots_of.slots c.in-Some.name p.name c.in_ok-program.program.items p.program c.in-Ok.takes.items (taken c.args.idl.now.ops p.operations)
    c.in-Some.ensures.0 c.in_ok-program.ensures c.in-Ok.ensures.2)
