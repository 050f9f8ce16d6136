use Rattle.std.proofs.Common.{◌≤◌, arith}
use Rattle.gs_core.proofs.Freed.{lists_then, listed_more}
use Rattle.gs_core.proofs.starting.list_all.Goals as goal

pub loop-i-preserved : goal.loop-i-preserved
loop-i-preserved c =
    let t = c.args.tables.now in
    let a = c.args.queue.now in
    let b = c.loop-i.queue in
    let d = c.list_open.new.queue in
    let i = c.loop-i.i in
    let is = c.loop-i.invariant in
    let now = c.list_open.ensures in
    record {
      more = lists_then t a b d is.more now.more;
      full = λ m pos le. listed_more t a b d i is.more now.more is.full now.full m pos le;
    }

pub returns-clause-full : goal.returns-clause-full
returns-clause-full c m s k h task holds at opened numbered idle =
    let count = c.count-i-end.ensures in
    let end = c.loop-i-test.false in
    let le = numbered.1 in
    let last : m ≤ c.loop-i.i = omega arith in
    c.loop-i.invariant.full m numbered.0 last s k h task holds at opened numbered idle
