use Rattle.std.proofs.Common.{◌≡◌, ◌≤◌, take}
use Rattle.gs_disk.specs.Folder.{Same}
use Rattle.gs_disk.specs.Moments.{Passes}
use Rattle.gs_store.specs.Versions.{AllStand}
use Rattle.gs_store.proofs.kept.check_files.Given as goal

abbrev pub invariant-loop-file : goal.invariant-loop-file
invariant-loop-file g l = record {
  faults : (g.D.Disk.state l.fn.disk).faults ≤ (g.D.Disk.state l.disk).faults;
  refusals : (g.D.Disk.state l.fn.disk).refusals ≤ (g.D.Disk.state l.disk).refusals;
  same : g.D.Disk.tells → (g.D.Disk.state l.disk).folder ≡ (g.D.Disk.state l.fn.disk).folder;
  images : g.D.Disk.tells → Passes Same (g.D.Disk.state l.fn.disk) (g.D.Disk.state l.disk);
  stand : g.D.Disk.tells → AllStand (g.D.Disk.state l.fn.disk).folder (take l.file-index l.kept);
}
