use Rattle.std.proofs.Common.{take, []}
use Rattle.gs_broker.specs.Text.{LinesSay}
use Rattle.gs_broker.specs.Reading.{spelled}
use Rattle.gs_broker.specs.Listed.{entries_in}
use Rattle.gs_broker.proofs.reader.read_lines.Given as goal

abbrev pub invariant-loop-place : goal.invariant-loop-place
invariant-loop-place l = LinesSay l.idl.ops (take l.place (spelled l.lines)) [] (entries_in l.workers)
