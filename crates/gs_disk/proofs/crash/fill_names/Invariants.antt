use Rattle.std.proofs.Common.{◌≡◌, ℕ, List, [], ◌∷◌, take, Some}
use Rattle.gs_disk.specs.Folder.{Outside}
use Rattle.gs_disk.specs.Mem.{files_of, folder_of, names_of}
use Rattle.gs_disk.proofs.crash.fill_names.Given as goal

abbrev pub invariant-loop-touch : goal.invariant-loop-touch
invariant-loop-touch l = record {
  named : (x : List ℕ) → (Outside (names_of (take l.touch-index l.touched)) x → ⊥) → folder_of (files_of l.files) x ≡ Some (l.b ∷ []);
  others : (x : List ℕ) → Outside (names_of (take l.touch-index l.touched)) x → folder_of (files_of l.files) x ≡ folder_of (files_of l.fn.files) x;
}
