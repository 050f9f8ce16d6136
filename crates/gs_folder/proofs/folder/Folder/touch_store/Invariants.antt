use Rattle.std.proofs.Common.{◌≡◌}
use Rattle.gs_folder.proofs.folder.Folder.touch_store.Given as goal

abbrev pub invariant-loop-name : goal.invariant-loop-name
invariant-loop-name g l = l.self ≡ l.fn.self
