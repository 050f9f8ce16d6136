use Rattle.std.proofs.Common.{take}
use Rattle.std.specs.Iterator.Adapters.{take_source, take_count}
use Rattle.gs_lines.specs.Lines.{lines, file_of}
use Rattle.gs_lines.proofs.LineLemmas.{take_turn}
use Rattle.gs_lines.proofs.passing.first_lines.Goals as goal

pub loop-line-preserved : goal.loop-line-preserved
loop-line-preserved c =
    let all = file_of (take c.args.n (lines c.args.bytes.now)) in
    let old = c.loop-line.line-iterator in
    let new = c.next.new.self in
    take_turn c.loop-line.file.items c.push_line.new.file.items all c.in-Some.line.now (take_count
    old) (take_count new) (take_source old) (take_source new)
    c.in-Some.ensures.steps.1 c.in-Some.ensures.steps.0 c.in_ok-push_line.ensures
    c.loop-line.invariant
