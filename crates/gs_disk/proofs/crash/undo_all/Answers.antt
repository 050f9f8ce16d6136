use Rattle.std.proofs.Common.{List, subst}
use Rattle.gs_disk.specs.Folder.{Folder}
use Rattle.gs_disk.specs.Mem.{files_of, folder_of}
use Rattle.gs_disk.specs.Steps.{LeadBack}
use Rattle.gs_disk.specs.declared.now.Touch.{Touch}
use Rattle.gs_disk.proofs.Undoing.{leads_last}
use Rattle.gs_disk.proofs.Filling.{undone_one}
use Rattle.gs_disk.proofs.crash.undo_all.Goals as goal

pub undo-requires : goal.undo-requires
undo-requires c =
    let leads = subst (λ (ts : List Touch). LeadBack ts (folder_of (files_of c.loop-touch.files)) c.requires.0) c.in-Some.ensures.items (c.loop-touch.invariant c.requires.0 c.requires.1) in
    let last = leads_last c.pop.new.self.items c.in-Some.touch (folder_of (files_of c.loop-touch.files)) c.requires.0 leads in
    (last.0, last.2)

pub loop-touch-preserved : goal.loop-touch-preserved
loop-touch-preserved c = λ synced began.
    let leads = subst (λ (ts : List Touch). LeadBack ts (folder_of (files_of c.loop-touch.files)) synced) c.in-Some.ensures.items (c.loop-touch.invariant synced began) in
    let last = leads_last c.pop.new.self.items c.in-Some.touch (folder_of (files_of c.loop-touch.files)) synced leads in
    let same = undone_one c.in-Some.touch (folder_of (files_of c.loop-touch.files)) last.0 (folder_of (files_of c.undo.new.files)) last.2 c.in_ok-undo.ensures in
    subst (λ (f : Folder). LeadBack c.pop.new.self.items f synced) same last.1
