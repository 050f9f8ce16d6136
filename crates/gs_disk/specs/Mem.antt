-- A disk in memory as clauses see it, and what each call of it counts.
use Rattle.std.specs.Prelude.{◌≡◌, ◌≢◌, ◌↔◌, ◌==◌, ◌||◌, ◌⊎◌, ℕ, ◌-◌, ◌≤◌, Bool, false, IsTrue, if◌then◌else◌, bytes_eq, List, [], ◌∷◌, ◌++◌, filter, length, map, Vec, Option, Some, None, option_map, Result, IsErrOf, OnErr}
use Rattle.std.proofs.Math.Bool.{not}
use Rattle.std.specs.List.{list_any}
use Rattle.std.specs.Map.{lookup}
use Rattle.std.specs.BTreeMap.{is_at}
use Rattle.std.specs.Ordering.{nat_cmp}
use Rattle.std.specs.Cmp.Lexicographic.{slice_cmp}
use Rattle.std.specs.declared.collections.BTreeMap.{BTreeMap}
use Rattle.std.specs.declared.alloc.Global.{Global}
use Rattle.gs_disk.specs.Folder.{Folder, DiskState}
use Rattle.gs_disk.specs.Images.{Range, Unsynced, IsImage}
use Rattle.gs_types.specs.Counts.{up}
use Rattle.gs_disk.specs.Counts.{Counts}
use Rattle.gs_disk.specs.declared.disk.DiskErr.{DiskErr}
use Rattle.gs_disk.specs.declared.disk.DiskErr.TheVariants.{Fault}
use Rattle.gs_disk.specs.declared.now.Touch.{Touch}
use Rattle.gs_disk.specs.declared.now.Touch.TheVariants.{Renamed, Written}
use Rattle.gs_disk.specs.declared.now.Since.{Since, Synced, Named', Wrote', Added'}
use Rattle.gs_disk.specs.declared.now.Now.{Now}
use Rattle.gs_disk.specs.declared.now.Past.{Past, Start, Then'}

-- the names that stand, in rising order, each with its bytes
abbrev pub Files : Type 0
Files = List (List ℕ × List ℕ)

abbrev pub files_of : BTreeMap (List ℕ) (Vec ℕ Global) Global → Files
files_of m = map (λ e. (e.0, e.1.items)) m.entries

abbrev pub folder_of : Files → Folder
folder_of files x = lookup (is_at (slice_cmp nat_cmp x)) files

-- the file of a name is changed, added or taken away, and no other
pub record Puts (name : List ℕ) (file : Option (List ℕ)) (old new : Folder) : Type 0 where
  pub here : new name ≡ file
  pub others : (x : List ℕ) → x ≢ name → new x ≡ old x

-- the names that were created or removed
abbrev pub names_of : List Touch → List (List ℕ)
names_of [] = []
names_of (Renamed name before ∷ ts) = name ∷ names_of ts
names_of (Written name at len before end ∷ ts) = names_of ts

-- the ranges that were written
abbrev pub ranges_of : List Touch → List Range
ranges_of [] = []
ranges_of (Renamed name before ∷ ts) = ranges_of ts
ranges_of (Written name at len before end ∷ ts) = record { name = name; at = at; len = len }
    ∷ ranges_of ts

-- the name that a call touched
abbrev pub touched_name : Touch → List ℕ
touched_name (Renamed name before) = name
touched_name (Written name at len before end) = name

-- the files at the last sync, of two of one name the first, and the names and ranges that were
-- touched since
pub record Done : Type 0 where
  pub synced : Files
  pub renamed : List (List ℕ)
  pub written : List Range

-- a sync that succeeded
abbrev pub settled : Files → Done
settled files = record { synced = files; renamed = []; written = [] }

-- a name was created or removed
abbrev pub with_name : List ℕ → Done → Done
with_name name d = record d { renamed = d.renamed ++ name ∷ [] }

-- a file was removed, where it was present
abbrev pub with_removal : List ℕ → Option (List ℕ) → Done → Done
with_removal name None d = d
with_removal name (Some bytes) d = with_name name d

-- a range was written
abbrev pub with_range : Range → Done → Done
with_range range d = record d { written = d.written ++ range ∷ [] }

abbrev pub is_other : List ℕ → List ℕ → Bool
is_other name x = not (bytes_eq name x)

-- a synced file of these bytes was put there, whatever was done to its name; what was done to other
-- names stays
abbrev pub with_file : List ℕ → List ℕ → Done → Done
with_file name bytes d = record {
  synced = (name, bytes) ∷ d.synced;
  renamed = filter (is_other name) d.renamed;
  written = filter (λ r. is_other name r.name) d.written;
}

abbrev pub done_by : Since → Done
done_by (Synced files) = settled (files_of files.value)
done_by (Named' name s before) = with_name name (done_by before)
done_by (Wrote' name at len s before) = with_range (record { name = name; at = at; len = len })
    (done_by before)
done_by (Added' name bytes s before) = with_file name bytes.value.items (done_by before)

-- what a disk in memory holds: the files as they read, and what was done since the last sync
pub record Held : Type 0 where
  pub files : Files
  pub done : Done

abbrev pub done_of : Now → Done
done_of now = done_by now.since.value

abbrev pub held_by : Now → Held
held_by now = record { files = files_of now.files; done = done_of now }

abbrev pub unsynced_in : Done → Unsynced
unsynced_in d = record { synced = folder_of d.synced; renamed = d.renamed; written = d.written }

abbrev pub unsynced_of : Now → Unsynced
unsynced_of now = unsynced_in (done_of now)

abbrev pub reads : Now → Folder
reads now = folder_of (files_of now.files)

-- what it held at each moment behind, the newest first
abbrev pub behind : Past → List Held
behind Start = []
behind (Then' was p before) = held_by was.value ∷ behind before

-- a crash at some moment behind, from the given one on, might have left this
abbrev pub LeftBehind : List Held → ℕ → Folder → Type 0
LeftBehind [] t image = ⊥
LeftBehind (was ∷ before) t image = ((t ≤ length before)
    × IsImage (unsynced_in was.done) (folder_of was.files) image) ⊎ LeftBehind before t image

-- `past` is what it held before each call that might change it, `failing` are the numbers of the
-- calls that are to fail, `asked` is the number of calls since they were given, and `working` is
-- how many calls are left before the disk stops, where it is to stop
pub record MemState : Type 0 where
  pub files : Files
  pub done : Done
  pub past : List Held
  pub failing : List ℕ
  pub asked : ℕ
  pub working : Option ℕ
  pub calls : ℕ
  pub faults : ℕ
  pub refusals : ℕ

abbrev pub held_in : MemState → Held
held_in s = record { files = s.files; done = s.done }

abbrev pub unsynced : MemState → Unsynced
unsynced s = unsynced_in s.done

abbrev pub as_disk : MemState → DiskState
as_disk s = record {
  folder = folder_of s.files;
  moment = length s.past;
  left_since = λ t image. IsImage (unsynced s) (folder_of s.files) image
      ⊎ LeftBehind s.past t image;
  faults = s.faults;
  refusals = s.refusals;
}

-- a disk of which no call was made, with these files synced
abbrev pub fresh : Files → MemState
fresh files = record {
  files = files;
  done = settled files;
  past = [];
  failing = [];
  asked = 0;
  working = None;
  calls = 0;
  faults = 0;
  refusals = 0;
}

-- what is counted, and which calls are to fail
pub record CallState : Type 0 where
  pub failing : List ℕ
  pub asked : ℕ
  pub working : Option ℕ
  pub calls : ℕ
  pub faults : ℕ
  pub refusals : ℕ

-- no call works any more
abbrev pub is_stopped : Option ℕ → Bool
is_stopped None = false
is_stopped (Some n) = n == 0

-- the next call is one that is to fail
abbrev pub fails_after : List ℕ → ℕ → Option ℕ → Bool
fails_after failing asked working = is_stopped working || list_any (λ n. n == up asked) failing

abbrev pub fails_next : MemState → Bool
fails_next s = fails_after s.failing s.asked s.working

-- one fewer
abbrev pub one_fewer : Option ℕ → Option ℕ
one_fewer working = option_map (λ n. n - 1) working

-- with one more call
abbrev pub counted : CallState → CallState
counted s = record s {
  asked = up s.asked;
  working = one_fewer s.working;
  calls = up s.calls;
  faults = if fails_after s.failing s.asked s.working then up s.faults else s.faults;
}

-- one call was counted. It failed where it was to, and did nothing where it failed
pub record IsCall {T : Type 0} (old new : MemState) (result : Result T DiskErr) : Type 0 where
  pub failing : new.failing ≡ old.failing
  pub asked : new.asked ≡ up old.asked
  pub working : new.working ≡ one_fewer old.working
  pub calls : new.calls ≡ up old.calls
  pub fault : IsErrOf result Fault ↔ IsTrue (fails_next old)
  pub counts : Counts (as_disk old) (as_disk new) result
  pub idle : OnErr result (new.files ≡ old.files)

-- this was done since the last sync, and a crash at the moment before may have left what was told
-- then
pub record Notes (done : Done) (old new : MemState) : Type 0 where
  pub done_is : new.done ≡ done
  pub behind : new.past ≡ held_in old ∷ old.past

-- nothing more was done, and no moment passed
pub record NotesNothing (old new : MemState) : Type 0 where
  pub done_is : new.done ≡ old.done
  pub behind : new.past ≡ old.past
