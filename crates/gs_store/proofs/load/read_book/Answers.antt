use Rattle.std.proofs.Common.{◌<◌, ◌≤◌, length, arith}
use Rattle.gs_store.proofs.Payloads.{read_none, read_step, refused_at, all_read}
use Rattle.gs_store.proofs.load.read_book.Goals as goal

pub loop-i-init : goal.loop-i-init
loop-i-init c = read_none c.new-book.result c.args.log.now c.new-book.ensures

pub returns-in-Err-NotEntry-clause-refused : goal.returns-in-Err-NotEntry-clause-refused
returns-in-Err-NotEntry-clause-refused c =
    let lt : c.loop-i.i < length c.args.log.now = omega arith in
    refused_at c.loop-i.book c.args.log.now c.loop-i.i c.payload.result.now lt
    c.payload.ensures.value (rw c.in-Err-NotEntry.field-0-is at c.in-Err-NotEntry.ensures).0
    c.loop-i.invariant.count c.loop-i.invariant.so_far

pub loop-i-preserved : goal.loop-i-preserved
loop-i-preserved c =
    let lt : c.loop-i.i < length c.args.log.now = omega arith in
    let t = c.in-Ok.ensures in
    read_step c.loop-i.book c.take.new.self c.args.log.now c.loop-i.i c.payload.result.now t.0 lt
    c.payload.ensures.value c.payload.ensures.bytes t.1 t.2 c.loop-i.invariant

pub returns-clause-read : goal.returns-clause-read
returns-clause-read c =
    let le : length c.args.log.now ≤ c.loop-i.i = omega arith in
    let r = c.loop-i.invariant in
    all_read c.loop-i.book c.args.log.now c.loop-i.i le r.so_far r.is r.in_order
