use Rattle.std.proofs.Common.{◌≡◌, true, map, take, Ok}
use Rattle.std.specs.List.{zip}
use Rattle.gs_fields.specs.Format.{all_fit}
use Rattle.gs_entries.specs.Notes.{out}
use Rattle.gs_keep.specs.Given.{noted, files_in}
use Rattle.gs_keep.specs.Kept.{PutsFiles}
use Rattle.gs_keep.proofs.Causing.{Rose}
use Rattle.gs_keep.proofs.outputs.put_outputs.Given as goal

abbrev pub invariant-loop-i : goal.invariant-loop-i
invariant-loop-i g l = record {
  same : l.store ≡ l.fn.store;
  noted_so_far : l.notes ≡ map noted (take l.i (zip l.places l.outs));
  fit : all_fit out l.notes ≡ true;
  rose : Rose (g.D.Disk.state l.fn.disk) (g.D.Disk.state l.disk);
  puts : g.D.Disk.tells → PutsFiles {T = Unit {0}} l.fn.store l.n
      (files_in (take l.i (zip l.places l.outs))) (g.D.Disk.state l.fn.disk)
      (g.D.Disk.state l.disk) (Ok tt);
}
