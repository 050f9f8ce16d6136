use Rattle.std.proofs.Common.{◌≤◌}
use Rattle.gs_back.proofs.Setting.{AreSetTo}
use Rattle.gs_back.proofs.back.set_finals.Given as goal

abbrev pub invariant-loop-last : goal.invariant-loop-last
invariant-loop-last g l = record {
  faults : (g.D.Disk.state l.fn.disk).faults ≤ (g.D.Disk.state l.disk).faults;
  refusals : (g.D.Disk.state l.fn.disk).refusals ≤ (g.D.Disk.state l.disk).refusals;
  so_far : g.D.Disk.tells
      → AreSetTo l.g l.last-index (g.D.Disk.state l.fn.disk) (g.D.Disk.state l.disk);
}
