use Rattle.std.proofs.Common.{◌≡◌, ◌≤◌, take}
use Rattle.gs_disk.specs.Folder.{Same}
use Rattle.gs_disk.specs.Moments.{Passes}
use Rattle.gs_store.specs.Versions.{AllStand, finals_kept}
use Rattle.gs_engine.proofs.seal.check_finals.Given as goal

abbrev pub invariant-loop-last : goal.invariant-loop-last
invariant-loop-last g l = record {
  faults : (g.D.Disk.state l.fn.disk).faults ≤ (g.D.Disk.state l.disk).faults;
  same : g.D.Disk.tells → (g.D.Disk.state l.disk).folder ≡ (g.D.Disk.state l.fn.disk).folder;
  images : g.D.Disk.tells → Passes Same (g.D.Disk.state l.fn.disk) (g.D.Disk.state l.disk);
  stand : g.D.Disk.tells
      → AllStand (g.D.Disk.state l.fn.disk).folder (take l.last-index (finals_kept l.finals));
}
