use Rattle.gs_disk.specs.Mem.{files_of, folder_of}
use Rattle.gs_disk.proofs.Filling.{filled_more}
use Rattle.gs_disk.proofs.crash.fill_ranges.Goals as goal

pub loop-touch-preserved : goal.loop-touch-preserved
loop-touch-preserved c = λ x.
    filled_more c.args.touched.now c.loop-touch.touch-index c.touch-item.result x c.args.b (folder_of (files_of c.args.files.now) x) (folder_of (files_of c.loop-touch.files) x) (folder_of (files_of c.fill_range.new.files) x) c.loop-touch-test.true c.touch-item.is (c.loop-touch.invariant x) (c.fill_range.ensures x)
