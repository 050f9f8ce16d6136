use Rattle.std.proofs.Common.{◌≤◌}
use Rattle.gs_back.proofs.Removing.{IsRemovedTo}
use Rattle.gs_back.proofs.removal.remove_stored.Given as goal

abbrev pub invariant-loop-name : goal.invariant-loop-name
invariant-loop-name g l = record {
  faults : (g.D.Disk.state l.fn.disk).faults ≤ (g.D.Disk.state l.disk).faults;
  refusals : (g.D.Disk.state l.fn.disk).refusals ≤ (g.D.Disk.state l.disk).refusals;
  so_far : g.D.Disk.tells
      → IsRemovedTo l.names l.name-index (g.D.Disk.state l.fn.disk) (g.D.Disk.state l.disk);
}
