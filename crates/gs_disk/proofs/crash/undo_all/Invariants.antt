use Rattle.std.proofs.Common.{length}
use Rattle.gs_disk.specs.Folder.{Folder}
use Rattle.gs_disk.specs.Mem.{files_of, folder_of}
use Rattle.gs_disk.specs.Steps.{LeadBack}
use Rattle.gs_disk.proofs.crash.undo_all.Given as goal

abbrev pub invariant-loop-touch : goal.invariant-loop-touch
invariant-loop-touch l = (synced : Folder) → LeadBack l.fn.touched.items (folder_of (files_of l.fn.files)) synced → LeadBack l.touched.items (folder_of (files_of l.files)) synced

abbrev pub decreases-loop-touch : goal.decreases-loop-touch
decreases-loop-touch l = length l.touched.items
