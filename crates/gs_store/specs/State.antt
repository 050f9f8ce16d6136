-- What a store is, and when a disk is that of a store.
use Rattle.std.specs.Prelude.{◌≡◌, ℕ, Bool, true, List, [], ◌∷◌, ◌++◌, Option, Some, None, is_some}
use Rattle.gs_disk.specs.Folder.{DiskState}
use Rattle.gs_disk.specs.Moments.{EachNow}
use Rattle.gs_log.specs.Names.{mark_name}
use Rattle.gs_entries.specs.declared.entry.Entry.{Entry}
use Rattle.gs_store.specs.Keeps.{spelled}
use Rattle.gs_store.specs.Spans.{Agreed}

-- whether there is a log, and the entries
pub record StoreState : Type 0 where
  pub marked : Bool
  pub entries : List Entry

-- a store with a log in which nothing is recorded
abbrev pub no_entries : StoreState
no_entries = record { marked = true; entries = [] }

-- a store with one entry more
abbrev pub with_entry : StoreState → Entry → StoreState
with_entry store e = record { marked = true; entries = store.entries ++ e ∷ [] }

-- the log has the entries' payloads, and without a log there are none
abbrev pub IsLogOf : Option (List (List ℕ)) → List Entry → Type 0
IsLogOf None es = es ≡ []
IsLogOf (Some list) es = list ≡ spelled es

-- the disk is that of the store: its images agree on the store's entries, on the users' files and
-- on the version files that the entries name, and have the mark exactly where there is a log
pub record IsDiskOf (store : StoreState) (s : DiskState) : Type 0 where
  pub agreed : Agreed store.entries s
  pub mark : EachNow (λ image. is_some (image mark_name) ≡ store.marked) s
