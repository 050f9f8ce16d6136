use Rattle.std.proofs.Common.{◌+◌, ◌≤◌, length, take}
use Rattle.gs_disk.specs.Folder.{overwritten}
use Rattle.gs_disk.proofs.Updates.{written, some_for, none_written}
use Rattle.gs_disk.proofs.files.unwrite.Goals as goal

pub restore-requires : goal.restore-requires
restore-requires c = some_for c.args.files.now c.args.name.now c.in-Some.file.now (λ file. (c.args.at + length c.args.before.now ≤ c.args.end) × (c.args.end ≤ length file)) c.in-Some.ensures.value c.requires

pub returns-in-Some : goal.returns-in-Some
returns-in-Some c =
    written c.args.files.now (c.get_mut.follows.lender c.restore.new.file) c.args.name.now c.in-Some.file.now c.restore.new.file (λ file. overwritten c.args.at c.args.before.now (take c.args.end file)) c.in-Some.ensures.value ((c.get_mut.follows.holds c.restore.new.file).3) c.restore.ensures

pub returns-in-None : goal.returns-in-None
returns-in-None c = none_written c.args.files.now c.args.name.now _ c.in-None.ensures.value
