-- What a loaded store is, and what a folder is of which none is loaded.
use Rattle.std.specs.Prelude.{◌≡◌, ◌≢◌, ℕ, List, [], length, Option, Some, None, is_some, IsSome, Ok}
use Rattle.gs_types.specs.declared.note.Version.{Version}
use Rattle.gs_disk.specs.Folder.{Folder, DiskState}
use Rattle.gs_disk.specs.Moments.{LeavesOnly}
use Rattle.gs_log.specs.Names.{log_name, mark_name}
use Rattle.gs_log.specs.Grammar.{IsNoLog}
use Rattle.gs_log.specs.Holding.{Holds}
use Rattle.gs_entries.specs.Order.{records, IsFirst}
use Rattle.gs_entries.specs.declared.entry.Entry.{Entry}
use Rattle.gs_store.specs.Keeps.{spelled, HasEntries}
use Rattle.gs_store.specs.Versions.{Kept, len_of, AllStand, kept_in, IsFirstLost}
use Rattle.gs_store.specs.Names.{version_name}
use Rattle.gs_store.specs.Ordered.{AreInOrder}
use Rattle.gs_store.specs.State.{StoreState, IsDiskOf}
use Rattle.gs_store.specs.declared.err.StoreErr.{StoreErr}
use Rattle.gs_store.specs.declared.err.StoreErr.TheVariants.{BadLog, BadRecord, LostVersion, DiskFault, NoMemory}

-- the folder has the store's entries, which are read from their payloads in order, and the files
-- that they name
pub record IsStoreOf (store : StoreState) (folder : Folder) : Type 0 where
  pub mark : is_some (folder mark_name) ≡ store.marked
  pub entries : HasEntries store.entries folder
  pub read : records [] (spelled store.entries) ≡ Ok store.entries
  pub files : AllStand folder (kept_in store.entries)

-- what a file is where checking it gives this error
abbrev pub RefusesFile : Folder → Version → ℕ → StoreErr → Type 0
RefusesFile folder v kept (BadLog at) = ⊥
RefusesFile folder v kept (BadRecord index) = ⊥
RefusesFile folder v kept (LostVersion w len found) = (w ≡ v) × (len ≡ kept)
    × (found ≡ len_of folder v) × (found ≢ Some kept)
RefusesFile folder v kept DiskFault = Unit {0}
RefusesFile folder v kept NoMemory = Unit {0}

abbrev pub RefusesFiles : Folder → List Kept → StoreErr → Type 0
RefusesFiles folder ks (BadLog at) = ⊥
RefusesFiles folder ks (BadRecord index) = ⊥
RefusesFiles folder ks (LostVersion v kept found) = IsFirstLost folder ks v kept found
RefusesFiles folder ks DiskFault = Unit {0}
RefusesFiles folder ks NoMemory = Unit {0}

-- these are the entries that the payloads are, in order
pub record IsReadFrom (list : List (List ℕ)) (es : List Entry) : Type 0 where
  pub read : records [] list ≡ Ok es
  pub is : list ≡ spelled es
  pub in_order : AreInOrder es

-- what payloads are where reading them gives this error
abbrev pub RefusesList : List (List ℕ) → StoreErr → Type 0
RefusesList list (BadLog at) = ⊥
RefusesList list (BadRecord index) = IsFirst list index
RefusesList list (LostVersion v kept found) = ⊥
RefusesList list DiskFault = ⊥
RefusesList list NoMemory = Unit {0}

-- what a folder is where opening its log gives this error
abbrev pub RefusesLog : Folder → StoreErr → Type 0
RefusesLog folder (BadLog at) = IsSome (folder mark_name) × IsNoLog (folder log_name) at
RefusesLog folder (BadRecord index) = ⊥
RefusesLog folder (LostVersion v kept found) = ⊥
RefusesLog folder DiskFault = Unit {0}
RefusesLog folder NoMemory = Unit {0}

-- the payloads of a folder's log, of which the one at this index is the first that is no entry or
-- stands out of order
pub record HasBadRecord (folder : Folder) (index : ℕ) : Type 0 where
  pub list : List (List ℕ)
  pub held : Holds list folder
  pub first : IsFirst list index

-- the entries of a folder's log, and the first version that they name whose file is lost
pub record HasLost (folder : Folder) (v : Version) (kept : ℕ) (found : Option ℕ) : Type 0 where
  pub es : List Entry
  pub held : Holds (spelled es) folder
  pub read : records [] (spelled es) ≡ Ok es
  pub first : IsFirstLost folder (kept_in es) v kept found

-- what a folder is where loading the store from it gives this error: the log is bad, else a record,
-- else a file
abbrev pub Refuses : Folder → StoreErr → Type 0
Refuses folder (BadLog at) = IsSome (folder mark_name) × IsNoLog (folder log_name) at
Refuses folder (BadRecord index) = HasBadRecord folder index
Refuses folder (LostVersion v kept found) = HasLost folder v kept found
Refuses folder DiskFault = Unit {0}
Refuses folder NoMemory = Unit {0}

-- the bytes are those of a version's file that has the length
pub record IsVersion (folder : Folder) (v : Version) (len : ℕ) (bytes : List ℕ) : Type 0 where
  pub is : folder (version_name v) ≡ Some bytes
  pub long : length bytes ≡ len

-- the log of a folder: none exactly where it has no mark
abbrev pub IsLogIn : Folder → Option (List (List ℕ)) → Type 0
IsLogIn folder None = folder mark_name ≡ None
IsLogIn folder (Some list) = Holds list folder

-- a store was loaded from this disk, which has one image
pub record IsLoaded (s : DiskState) (store : StoreState) : Type 0 where
  pub found : IsStoreOf store s.folder
  pub disk : IsDiskOf store s
  pub only : LeavesOnly s.folder s
