use Rattle.std.proofs.Common.{◌≡◌, ◌≤◌, ◌-◌, ◌++◌, length, take}
use Rattle.gs_types.proofs.sink.put_all.Given as goal

abbrev pub invariant-loop-done : goal.invariant-loop-done
invariant-loop-done g l = record {
  within : l.done ≤ length l.bytes;
  rise : g.S.Sink.faults l.fn.sink ≤ g.S.Sink.faults l.sink;
  written : g.S.Sink.tells → g.S.Sink.written l.sink ≡ g.S.Sink.written l.fn.sink ++ take l.done l.bytes;
}

abbrev pub decreases-loop-done : goal.decreases-loop-done
decreases-loop-done g l = length l.bytes - l.done
