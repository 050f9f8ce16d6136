use Rattle.std.proofs.Common.{◌≡◌, ◌≤◌, ◌++◌, take}
use Rattle.std.specs.List.{flat_map}
use Rattle.gs_disk.specs.Folder.{Same}
use Rattle.gs_disk.specs.Moments.{Passes}
use Rattle.gs_store.specs.Versions.{AllStand, finals_kept}
use Rattle.gs_report.specs.Report.{file_line}
use Rattle.gs_report.proofs.reporting.put_finals.Given as goal

abbrev pub invariant-loop-last : goal.invariant-loop-last
invariant-loop-last g l = record {
  faults : (g.D.Disk.state l.fn.disk).faults ≤ (g.D.Disk.state l.disk).faults;
  refusals : (g.D.Disk.state l.fn.disk).refusals ≤ (g.D.Disk.state l.disk).refusals;
  same : g.D.Disk.tells → (g.D.Disk.state l.disk).folder ≡ (g.D.Disk.state l.fn.disk).folder;
  images : g.D.Disk.tells → Passes Same (g.D.Disk.state l.fn.disk) (g.D.Disk.state l.disk);
  stand : g.D.Disk.tells
      → AllStand (g.D.Disk.state l.fn.disk).folder (finals_kept (take l.last-index l.finals));
  text : g.D.Disk.tells → l.text.items ≡ l.fn.text.items
      ++ flat_map (file_line (g.D.Disk.state l.fn.disk).folder l.names) (take l.last-index l.finals);
}
