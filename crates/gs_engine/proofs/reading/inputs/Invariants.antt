use Rattle.std.proofs.Common.{◌≡◌, ◌≤◌, take}
use Rattle.gs_disk.specs.Folder.{Same}
use Rattle.gs_disk.specs.Moments.{Passes}
use Rattle.gs_engine.specs.Reading.{AreGiven}
use Rattle.gs_engine.proofs.reading.inputs.Given as goal

abbrev pub invariant-loop-x : goal.invariant-loop-x
invariant-loop-x g l = record {
  faults : (g.D.Disk.state l.fn.disk).faults ≤ (g.D.Disk.state l.disk).faults;
  same : g.D.Disk.tells → (g.D.Disk.state l.disk).folder ≡ (g.D.Disk.state l.fn.disk).folder;
  images : g.D.Disk.tells → Passes Same (g.D.Disk.state l.fn.disk) (g.D.Disk.state l.disk);
  given : g.D.Disk.tells
      → AreGiven (g.D.Disk.state l.fn.disk).folder (take l.x-index l.xs) l.args;
}
