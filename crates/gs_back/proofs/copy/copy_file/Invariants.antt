use Rattle.std.proofs.Common.{◌≡◌, ◌-◌, ◌+◌, ◌≤◌, ℕ, List, [], ◌∷◌, Some}
use Rattle.gs_store.specs.Spans.{TouchesOnly}
use Rattle.gs_back.proofs.Copies.{IsCopied}
use Rattle.gs_back.proofs.copy.copy_file.Given as goal

abbrev pub decreases-loop-at : goal.decreases-loop-at
decreases-loop-at g l = l.len - l.at

abbrev pub invariant-loop-at : goal.invariant-loop-at
invariant-loop-at g l = record {
  near : l.at ≤ l.len + 4096;
  faults : (g.D.Disk.state l.fn.disk).faults ≤ (g.D.Disk.state l.disk).faults;
  refusals : (g.D.Disk.state l.fn.disk).refusals ≤ (g.D.Disk.state l.disk).refusals;
  touches : g.D.Disk.tells
      → TouchesOnly (l.to ∷ []) (g.D.Disk.state l.fn.disk) (g.D.Disk.state l.disk);
  copied : g.D.Disk.tells → (bytes : List ℕ)
      → (g.D.Disk.state l.fn.disk).folder l.from ≡ Some bytes
      → IsCopied l.from l.to l.at (g.D.Disk.state l.fn.disk).folder
      (g.D.Disk.state l.disk).folder bytes;
}
