use Rattle.std.proofs.Common.{ℕ, List, take}
use Rattle.gs_disk.specs.Mem.{files_of, folder_of, ranges_of}
use Rattle.gs_disk.specs.Crash.{FillsFile}
use Rattle.gs_disk.proofs.crash.fill_ranges.Given as goal

abbrev pub invariant-loop-touch : goal.invariant-loop-touch
invariant-loop-touch l = (x : List ℕ) → FillsFile (ranges_of (take l.touch-index l.touched)) x l.b (folder_of (files_of l.fn.files) x) (folder_of (files_of l.files) x)
