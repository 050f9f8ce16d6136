-- What is read for a task or for the program.
use Rattle.std.specs.Prelude.{◌≡◌, ◌≢◌, ℕ, Bool, true, false, List, Option, Some, option_map, slice_get}
use Rattle.std.specs.Bool.{⊤}
use Rattle.gs_types.specs.History.{History}
use Rattle.gs_types.specs.declared.job.Arg.{Arg}
use Rattle.gs_types.specs.declared.job.Arg.TheVariants as arg
use Rattle.gs_types.specs.declared.value.Value.TheVariants as value
use Rattle.gs_types.specs.declared.note.Version.{Version}
use Rattle.gs_types.specs.declared.note.Version.TheVariants.{Original, Out, Main}
use Rattle.gs_disk.specs.Folder.{Folder}
use Rattle.gs_disk.specs.Name.{IsUser}
use Rattle.gs_store.specs.Names.{version_name}
use Rattle.gs_store.specs.Versions.{len_of}
use Rattle.gs_talk.specs.Seq.{Content, Known, Files, World}
use Rattle.gs_talk_laws.specs.Versions.{version_value}
use Rattle.gs_history.specs.Frontier.{IsThere}
use Rattle.gs_tables.specs.Starts.{AreStartArgs}
use Rattle.gs_tables.specs.declared.row.StartArg.{StartArg}
use Rattle.gs_tables.specs.declared.row.StartArg.TheVariants as start
use Rattle.gs_finish.specs.declared.halt.Halt.{Halt}
use Rattle.gs_finish.specs.declared.halt.Halt.TheVariants.{Disk, NoMemory, Lost}

-- an original is a user's file
abbrev pub IsOwn : Version → Type 0
IsOwn (Original x) = IsUser x
IsOwn (Out n place) = ⊤
IsOwn (Main k) = ⊤

-- what stands under a version
abbrev pub held : Folder → Version → Option Content
held folder v = option_map Known (folder (version_name v))

-- a file that is passed in, and given back or not
abbrev pub file_input : List ℕ → (both : Bool) → Arg
file_input bytes true = arg.Both bytes
file_input bytes false = arg.Given (value.File bytes)

-- what a version holds in the sequential run that is there, stands in its file
abbrev pub VersionsStand : Files → World → History → Folder → Type 0
VersionsStand first w h folder = (v : Version) (bytes : List ℕ) → IsOwn v → IsThere h v
    → version_value first w v ≡ Some (Known bytes) → folder (version_name v) ≡ Some bytes

-- what the sequential run has at these places, if the versions stand
abbrev pub AreGiven : Folder → List StartArg → List Arg → Type 0
AreGiven folder xs got = (first : Files) (w : World) (h : History) (args : List Arg)
    → VersionsStand first w h folder → AreStartArgs first w h xs args → got ≡ args

-- the file of one of these places lacks its length
pub record LacksInput (folder : Folder) (xs : List StartArg) (v : Version) (kept : ℕ)
    (found : Option ℕ) : Type 0 where
  pub place : ℕ
  pub both : Bool
  pub at : slice_get xs place ≡ Some (start.From v kept both)
  pub own : IsOwn v
  pub found_is : found ≡ len_of folder v
  pub lost : found ≢ Some kept

abbrev pub LacksOne : Folder → List StartArg → Halt → Type 0
LacksOne folder xs (Lost v kept found) = LacksInput folder xs v kept found
LacksOne folder xs Disk = ⊤
LacksOne folder xs NoMemory = ⊤

-- the file of a version that is lost lacks the length that was kept
abbrev pub LacksLength : Folder → Halt → Type 0
LacksLength folder (Lost v kept found) = (found ≡ len_of folder v) × (found ≢ Some kept)
LacksLength folder Disk = ⊤
LacksLength folder NoMemory = ⊤
