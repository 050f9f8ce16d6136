use Rattle.std.proofs.Common.{sym, ap, subst}
use Rattle.gs_disk.specs.Folder.{Folder}
use Rattle.gs_disk.specs.Images.{IsImage}
use Rattle.gs_disk.specs.Crash.{IsKept}
use Rattle.gs_disk.specs.Mem.{MemState, folder_of, files_of, unsynced, unsynced_of, reads}
use Rattle.gs_disk.proofs.Filling.{kept_by, image_by}
use Rattle.gs_disk.proofs.mem.MemDisk.crash.Goals as goal

pub returns-in-Ok-clause-kept : goal.returns-in-Ok-clause-kept
returns-in-Ok-clause-kept c =
    subst (λ (s : MemState). IsKept c.args.keep (unsynced s) (folder_of s.files) (folder_of c.of.result.files)) c.self.view_is
    (subst (λ (f : Folder). IsKept c.args.keep (unsynced_of c.self.inside.held) (reads c.self.inside.held) f) (sym (ap (λ (s : MemState). folder_of s.files) c.of.ensures))
    (kept_by c.args.keep c.self.inside.held (folder_of (files_of c.leave.new.files)) (c.self.invariant.whole c.if-not-is_whole.false) c.in-Ok.ensures))

pub returns-in-Ok-clause-image : goal.returns-in-Ok-clause-image
returns-in-Ok-clause-image c =
    subst (λ (s : MemState). IsImage (unsynced s) (folder_of s.files) (folder_of c.of.result.files)) c.self.view_is
    (subst (λ (f : Folder). IsImage (unsynced_of c.self.inside.held) (reads c.self.inside.held) f) (sym (ap (λ (s : MemState). folder_of s.files) c.of.ensures))
    (image_by c.args.keep c.self.inside.held (folder_of (files_of c.leave.new.files)) c.self.invariant (kept_by c.args.keep c.self.inside.held (folder_of (files_of c.leave.new.files)) (c.self.invariant.whole c.if-not-is_whole.false) c.in-Ok.ensures)))
