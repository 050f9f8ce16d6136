-- What a call does to what a disk in memory holds, and what leads back to the last sync.
use Rattle.std.specs.Prelude.{◌≡◌, ◌⊎◌, ℕ, ◌+◌, ◌≤◌, IsTrue, List, [], ◌∷◌, ◌++◌, filter, length, take, drop, Vec, Option, Some, option_map}
use Rattle.std.specs.declared.alloc.Global.{Global}
use Rattle.gs_disk.specs.Folder.{Folder, KeepsOthers, overwritten}
use Rattle.gs_disk.specs.Images.{IsLeft}
use Rattle.gs_disk.specs.Crash.{HasByte}
use Rattle.gs_disk.specs.Mem.{files_of, names_of, ranges_of, touched_name, Puts, done_of, unsynced_of, with_name, with_range, with_file, is_other, reads}
use Rattle.gs_disk.specs.declared.crash.Keep.{Keep}
use Rattle.gs_disk.specs.declared.crash.Keep.TheVariants.{Nothing, All, Byte}
use Rattle.gs_disk.specs.declared.now.Touch.{Touch}
use Rattle.gs_disk.specs.declared.now.Touch.TheVariants.{Renamed, Written}
use Rattle.gs_disk.specs.declared.now.Now.{Now}

-- older is newer with this call undone
abbrev pub Undone : Touch → Folder → Folder → Type 0
Undone (Renamed name before) newer older = Puts name (option_map (λ v. v.items) before) newer older
Undone (Written name at len before end) newer older =
    (file : List ℕ) × (newer name ≡ Some file) × (at + length before.items ≤ end)
    × (end ≤ length file) × Puts name (Some (overwritten at before.items (take end file))) newer
    older

-- with these calls undone, the last of them first, the newest folder is that of the sync
abbrev pub LeadBack : List Touch → Folder → Folder → Type 0
LeadBack [] newest synced = synced ≡ newest
LeadBack (t ∷ ts) newest synced = (older : Folder) × LeadBack ts newest older
    × Undone t older synced

-- the calls that were kept are all that was done since the last sync, and they lead back to it
pub record TellsAll (now : Now) : Type 0 where
  pub names : names_of now.touched.items ≡ (done_of now).renamed
  pub ranges : ranges_of now.touched.items ≡ (done_of now).written
  pub leads : LeadBack now.touched.items (reads now) (unsynced_of now).synced

-- all is told where each call was kept, and what reads differs from the folder of the sync only as
-- an image may
pub record IsSound (now : Now) : Type 0 where
  pub whole : IsTrue now.is_whole → TellsAll now
  pub stands : IsLeft (unsynced_of now) (reads now)

-- nothing was done
pub record Stays (old new : Now) : Type 0 where
  pub files : files_of new.files ≡ files_of old.files
  pub since : new.since.value ≡ old.since.value
  pub touched : new.touched.items ≡ old.touched.items
  pub is_whole : new.is_whole ≡ old.is_whole

-- what stood at a name was kept
pub record KeepsName (name : List ℕ) (old new : Now) : Type 0 where
  pub before : Option (Vec ℕ Global)
  pub stood : option_map (λ v. v.items) before ≡ reads old name
  pub touched : new.touched.items ≡ old.touched.items ++ Renamed name before ∷ []

-- a name was touched, and no other file changed
pub record Renames (name : List ℕ) (old new : Now) : Type 0 where
  pub done : done_of new ≡ with_name name (done_of old)
  pub kept : IsTrue new.is_whole → IsTrue old.is_whole × KeepsName name old new
  pub others : KeepsOthers (name ∷ []) (reads old) (reads new)

-- what stood in a range of a file was kept
pub record KeepsRange (name : List ℕ) (at len : ℕ) (old new : Now) : Type 0 where
  pub file : List ℕ
  pub stood : reads old name ≡ Some file
  pub before : Vec ℕ Global
  pub part : before.items ≡ take len (drop at file)
  pub touched : new.touched.items ≡ old.touched.items ++ Written name at len before (length file)
      ∷ []

-- a range of a file that stands was touched, and its bytes are these, or nothing changed
pub record Writes (name : List ℕ) (at : ℕ) (bytes : List ℕ) (old new : Now) : Type 0 where
  pub file : List ℕ
  pub stood : reads old name ≡ Some file
  pub room : at ≤ length file
  pub done : done_of new ≡ with_range (record { name = name; at = at; len = length bytes })
      (done_of old)
  pub kept : IsTrue new.is_whole → IsTrue old.is_whole × KeepsRange name at (length bytes) old new
  pub change : (files_of new.files ≡ files_of old.files)
      ⊎ Puts name (Some (overwritten at bytes file)) (reads old) (reads new)

-- a synced file was put there, and what was done to its name is forgotten
pub record Adds (name bytes : List ℕ) (old new : Now) : Type 0 where
  pub put : Puts name (Some bytes) (reads old) (reads new)
  pub done : done_of new ≡ with_file name bytes (done_of old)
  pub touched : new.touched.items ≡ filter (λ t. is_other name (touched_name t)) old.touched.items
  pub is_whole : new.is_whole ≡ old.is_whole

-- the folder with these calls undone, the folder as it reads, or the bytes b
abbrev pub LeavesBy : Keep → List Touch → Folder → Folder → Type 0
LeavesBy Nothing ts reads left = LeadBack ts reads left
LeavesBy All ts reads left = left ≡ reads
LeavesBy (Byte b) ts reads left = HasByte b
    (record { synced = reads; renamed = names_of ts; written = ranges_of ts }) reads left
