use Rattle.std.proofs.Common.{List, sym, subst}
use Rattle.gs_list.specs.Lines.{AreLines, spelled}
use Rattle.gs_plan.specs.Durations.{too_long}
use Rattle.gs_plan.specs.declared.kind.DurKind.TheVariants.{TooLong}
use Rattle.gs_plan.proofs.Giving.{are_durations}
use Rattle.gs_plan.proofs.OneSaying.{refused, unread}
use Rattle.gs_plan.proofs.reader.durations.Goals as goal

pub returns-then-bytes-gt-TEXT_LIMIT-clause-says : goal.returns-then-bytes-gt-TEXT_LIMIT-clause-says
returns-then-bytes-gt-TEXT_LIMIT-clause-says c = refused c.args.idl.now.ops c.args.bytes.now 0 TooLong (too_long c.if-bytes-gt-TEXT_LIMIT.true)

pub returns-in-Err-clause-says : goal.returns-in-Err-clause-says
returns-in-Err-clause-says c =
    unread c.args.idl.now.ops c.args.bytes.now (spelled c.as_slice.result.now) c.in-Err.e c.if-bytes-gt-TEXT_LIMIT.false
    (subst (λ (ls : List _). AreLines c.args.bytes.now (spelled ls)) (sym c.as_slice.ensures.value) c.in_ok-lines.ensures.lines) c.in-Err.ensures

pub returns-clause-fit : goal.returns-clause-fit
returns-clause-fit c =
    are_durations c.args.idl.now.ops (spelled c.as_slice.result.now) c.read_lines.new.given.items c.in_ok-durations.durations.items c.in_default.ensures c.in_ok-durations.ensures
