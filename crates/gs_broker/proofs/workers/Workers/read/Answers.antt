use Rattle.std.proofs.Common.{List, [], sym, subst, arith}
use Rattle.gs_broker.specs.Text.{Entry, AreLines, LinesSay, too_long, empty}
use Rattle.gs_broker.specs.Reading.{spelled}
use Rattle.gs_broker.specs.Listed.{entries_in, count_of}
use Rattle.gs_broker.specs.declared.kind.WorkersKind.TheVariants.{TooLong, Empty}
use Rattle.gs_broker.proofs.Lines.{length_entries, no_entries}
use Rattle.gs_broker.proofs.OneList.{refused, unread}
use Rattle.gs_broker.proofs.workers.Workers.read.Goals as goal

pub returns-then-bytes-gt-TEXT_LIMIT : goal.returns-then-bytes-gt-TEXT_LIMIT
returns-then-bytes-gt-TEXT_LIMIT c = refused c.args.idl.now.ops c.args.bytes.now 0 TooLong (too_long c.if-bytes-gt-TEXT_LIMIT.true)

pub returns-in-Err : goal.returns-in-Err
returns-in-Err c =
    unread c.args.idl.now.ops c.args.bytes.now (spelled c.as_slice.result.now) c.in-Err.e c.if-bytes-gt-TEXT_LIMIT.false
    (subst (λ (ls : List _). AreLines c.args.bytes.now (spelled ls)) (sym c.as_slice.ensures.value) c.in_ok-lines.ensures.lines) c.in-Err.ensures

pub returns-then-count-eq0 : goal.returns-then-count-eq0
unfolding entries_in count_of
returns-then-count-eq0 c =
    let ops = c.args.idl.now.ops in
    let none = no_entries c.read_lines.new.workers.list.items (let n = c.count.ensures.count in let z = c.if-count-eq0.true in omega arith) in
    let said = subst (λ (ws : List Entry). LinesSay ops (spelled c.as_slice.result.now) [] ws) none c.in_default.ensures in
    refused ops c.args.bytes.now 0 Empty
    (empty (spelled c.as_slice.result.now) c.if-bytes-gt-TEXT_LIMIT.false
    (subst (λ (ls : List _). AreLines c.args.bytes.now (spelled ls)) (sym c.as_slice.ensures.value) c.in_ok-lines.ensures.lines) said)

pub returns : goal.returns
unfolding entries_in count_of
returns c = record {
  short = c.if-bytes-gt-TEXT_LIMIT.false;
  lines = spelled c.as_slice.result.now;
  parted = subst (λ (ls : List _). AreLines c.args.bytes.now (spelled ls)) (sym c.as_slice.ensures.value) c.in_ok-lines.ensures.lines;
  said = c.in_default.ensures;
  some = (let n = c.count.ensures.count in let z = c.if-count-eq0.false in let e = length_entries c.read_lines.new.workers.list.items in omega arith);
}
