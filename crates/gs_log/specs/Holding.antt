-- Which list a folder holds.
use Rattle.std.specs.Prelude.{◌≡◌, ◌⊎◌, ℕ, List, [], ◌∷◌, ◌++◌, Some, None, IsSome}
use Rattle.gs_disk.specs.Folder.{Folder, KeepsOthers}
use Rattle.gs_log.specs.Names.{log_name, mark_name}
use Rattle.gs_log.specs.Grammar.{IsLog}

-- the mark stands, and the file of the log is one with this list
pub record Holds (list : List (List ℕ)) (folder : Folder) : Type 0 where
  pub marked : IsSome (folder mark_name)
  pub bytes : List ℕ
  pub file : folder log_name ≡ Some bytes
  pub log : IsLog list bytes

-- the list as it was, or with the payload, and then all other files are as they read
abbrev pub IsBeforeOrAfter : List (List ℕ) → List ℕ → Folder → Folder → Type 0
IsBeforeOrAfter list payload as_read image = Holds list image
    ⊎ (Holds (list ++ payload ∷ []) image × KeepsOthers (log_name ∷ []) as_read image)

-- no mark, or an empty list, and then all other files are as they read
abbrev pub IsNoneOrEmpty : Folder → Folder → Type 0
IsNoneOrEmpty as_read image = (image mark_name ≡ None)
    ⊎ (Holds [] image × KeepsOthers (log_name ∷ mark_name ∷ []) as_read image)
