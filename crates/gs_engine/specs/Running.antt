-- How a run goes, and how it ends.
use Rattle.std.specs.Prelude.{◌≡◌, ◌≢◌, ℕ, ◌++◌, List, Some, IsSome, true, Result, Ok, Err, OnOk}
use Rattle.std.specs.Bool.{⊤}
use Rattle.gs_types.specs.Counts.{Caused}
use Rattle.gs_types.specs.History.{History, outs_in}
use Rattle.gs_entries.specs.Order.{has_done}
use Rattle.gs_disk.specs.Folder.{Folder, DiskState}
use Rattle.gs_disk.specs.Moments.{EachNow, Always}
use Rattle.gs_entries.specs.declared.entry.Entry.{Entry}
use Rattle.gs_site.specs.Recorded.{HasDone}
use Rattle.gs_store.specs.Keeps.{HasEntries}
use Rattle.gs_store.specs.Versions.{len_of}
use Rattle.gs_history.specs.Good.{Good, GoesOn, IsQuiet}
use Rattle.gs_history.specs.Setup.{Setup}
use Rattle.gs_history.specs.Notes.{AreNoted}
use Rattle.gs_core.specs.Core.{IsVerdict}
use Rattle.gs_core.specs.declared.verdict.Verdict.{Verdict}
use Rattle.gs_core.specs.declared.verdict.Verdict.TheVariants as verdict
use Rattle.gs_finish.specs.declared.halt.Halt.{Halt}
use Rattle.gs_finish.specs.declared.halt.Halt.TheVariants as halt
use Rattle.gs_life.specs.Origin.{Origin}
use Rattle.gs_life.specs.Stands.{IsRunning, Stands, StandsClosed}
use Rattle.gs_engine.specs.Beginning.{Call}
use Rattle.gs_engine.specs.Joined.{Course, Before}
use Rattle.gs_engine.specs.Starting.{IsStill}
use Rattle.gs_engine.specs.declared.running.RunFault.{RunFault}
use Rattle.gs_engine.specs.declared.running.RunFault.TheVariants as fault

-- ---- a round

-- how the run stands after a round
abbrev pub HasRound : Verdict → Before
HasRound v c k h = IsVerdict c.setup k (h ++ c.noted) v × IsStill v c k h

-- no ready task can be started
abbrev pub IsQuietNow : Before
IsQuietNow c k h = IsQuiet c.setup (h ++ c.noted)

-- an entry has a task of another form
abbrev pub IsMisfitVerdict : Verdict → Type 0
IsMisfitVerdict verdict.More = ⊥
IsMisfitVerdict verdict.Ended = ⊥
IsMisfitVerdict verdict.FuelOut = ⊥
IsMisfitVerdict (verdict.Fault line kind) = ⊥
IsMisfitVerdict (verdict.TaskLost n) = ⊥
IsMisfitVerdict (verdict.WorkersLost n) = ⊥
IsMisfitVerdict (verdict.Misfit index) = ⊤

-- ---- how a run ends

abbrev pub fault_of_halt : Halt → RunFault
fault_of_halt halt.Disk = fault.Disk
fault_of_halt halt.NoMemory = fault.NoMemory
fault_of_halt (halt.Lost v kept found) = fault.Lost v kept found

-- the run stops in the middle: its jobs in flight are given up
abbrev pub IsCut : RunFault → Type 0
IsCut (fault.Program line kind) = ⊥
IsCut fault.FuelOut = ⊥
IsCut (fault.TaskLost n) = ⊥
IsCut (fault.WorkersLost n) = ⊥
IsCut (fault.BadRecord index) = ⊤
IsCut (fault.Lost v kept found) = ⊤
IsCut fault.Disk = ⊤
IsCut fault.NoMemory = ⊤

abbrev pub IsCutShort : {T : Type 0} → Result T RunFault → Type 0
IsCutShort (Ok x) = ⊥
IsCutShort (Err e) = IsCut e

-- a task, or the workers of one, failed too often
abbrev pub IsGivenUp : {T : Type 0} → Result T RunFault → Type 0
IsGivenUp (Ok x) = ⊥
IsGivenUp (Err (fault.Program line kind)) = ⊥
IsGivenUp (Err fault.FuelOut) = ⊥
IsGivenUp (Err (fault.TaskLost n)) = ⊤
IsGivenUp (Err (fault.WorkersLost n)) = ⊤
IsGivenUp (Err (fault.BadRecord index)) = ⊥
IsGivenUp (Err (fault.Lost v kept found)) = ⊥
IsGivenUp (Err fault.Disk) = ⊥
IsGivenUp (Err fault.NoMemory) = ⊥

abbrev pub IsDiskFault : {T : Type 0} → Result T RunFault → Type 0
IsDiskFault (Ok x) = ⊥
IsDiskFault (Err (fault.Program line kind)) = ⊥
IsDiskFault (Err fault.FuelOut) = ⊥
IsDiskFault (Err (fault.TaskLost n)) = ⊥
IsDiskFault (Err (fault.WorkersLost n)) = ⊥
IsDiskFault (Err (fault.BadRecord index)) = ⊥
IsDiskFault (Err (fault.Lost v kept found)) = ⊥
IsDiskFault (Err fault.Disk) = ⊤
IsDiskFault (Err fault.NoMemory) = ⊥

-- no count of faults falls; a fault of the disk is one that its count shows, and what is given up
-- failed, as the link's count shows
pub record RunCaused {T : Type 0} (disk disk_new link link_new : ℕ) (result : Result T RunFault)
    : Type 0 where
  pub of_disk : Caused (IsDiskFault result) disk disk_new
  pub of_link : Caused (IsGivenUp result) link link_new

-- the run is over, with no results: the program met a fault or had no fuel, or a task was lost
abbrev pub IsFruitless : {T : Type 0} → Result T RunFault → Type 0
IsFruitless (Ok x) = ⊥
IsFruitless (Err (fault.Program line kind)) = ⊤
IsFruitless (Err fault.FuelOut) = ⊤
IsFruitless (Err (fault.TaskLost n)) = ⊤
IsFruitless (Err (fault.WorkersLost n)) = ⊤
IsFruitless (Err (fault.BadRecord index)) = ⊥
IsFruitless (Err (fault.Lost v kept found)) = ⊥
IsFruitless (Err fault.Disk) = ⊥
IsFruitless (Err fault.NoMemory) = ⊥

-- the file of a version that is lost lacks the length that was kept
abbrev pub LacksLengthIn : Folder → RunFault → Type 0
LacksLengthIn folder (fault.Program line kind) = ⊤
LacksLengthIn folder fault.FuelOut = ⊤
LacksLengthIn folder (fault.TaskLost n) = ⊤
LacksLengthIn folder (fault.WorkersLost n) = ⊤
LacksLengthIn folder (fault.BadRecord index) = ⊤
LacksLengthIn folder (fault.Lost v kept found) = (found ≡ len_of folder v) × (found ≢ Some kept)
LacksLengthIn folder fault.Disk = ⊤
LacksLengthIn folder fault.NoMemory = ⊤

-- ---- what a run has done

-- each image has the entries of a run that goes on, and the user's files are those at first
abbrev pub StandsRunning : Origin → Folder → Type 0
StandsRunning o folder = (es : List Entry) × HasEntries es folder × IsRunning o folder es

-- each task that has finished is done by the entries of each image
abbrev pub KeepsDone : History → DiskState → Type 0
KeepsDone h s = (n : ℕ) → IsSome (outs_in h n) → EachNow (HasDone n) s

-- what the answer says of the sequential run and of the history. No version is lost
abbrev pub Shows : {T : Type 0} → Setup → History → Result T RunFault → Type 0
Shows s h (Ok x) = (k : ℕ) × IsVerdict s k h verdict.Ended
Shows s h (Err (fault.Program line kind)) = (k : ℕ) × IsVerdict s k h (verdict.Fault line kind)
Shows s h (Err fault.FuelOut) = (k : ℕ) × IsVerdict s k h verdict.FuelOut
Shows s h (Err (fault.TaskLost n)) = (k : ℕ) × IsVerdict s k h (verdict.TaskLost n)
Shows s h (Err (fault.WorkersLost n)) = (k : ℕ) × IsVerdict s k h (verdict.WorkersLost n)
Shows s h (Err (fault.BadRecord index)) = (k : ℕ) × IsVerdict s k h (verdict.Misfit index)
Shows s h (Err (fault.Lost v kept found)) = ⊥
Shows s h (Err fault.Disk) = ⊤
Shows s h (Err fault.NoMemory) = ⊤

-- each image stands at every moment, and the answer is shown; where it is Ok each image is closed,
-- and where the run is over with no results it goes on. Unless the run was cut short, each task that
-- has finished is recorded
pub record Concludes {T : Type 0} (c : Course) (h : History) (old new : DiskState)
    (result : Result T RunFault) : Type 0 where
  pub always : Always (Stands c.origin) old new
  pub shows : Shows c.setup (h ++ c.noted) result
  pub kept : (IsCutShort result → ⊥) → KeepsDone (h ++ c.noted) new
  pub running : IsFruitless result → EachNow (StandsRunning c.origin) new
  pub closed : OnOk result (EachNow (StandsClosed c.origin) new)

-- the same of a call, whose history, behind what the entries note, is as it should be, and goes on.
-- Each task that is recorded as the call begins is among those that are noted, and no record is bad
pub record Went {K T : Type 0} (tells : K → History → Type 0) (call : Call) (old new : DiskState)
    (link : K) (noted : History) (result : Result T RunFault) : Type 0 where
  pub always : Always (Stands call.origin) old new
  pub history : History
  pub told : tells link (history ++ call.past)
  pub are : AreNoted call.setup call.setup.notes noted
  pub good : Good call.setup (history ++ noted)
  pub goes_on : GoesOn (history ++ noted)
  pub recorded : (n : ℕ) → has_done call.origin.stood n ≡ true → IsSome (outs_in noted n)
  pub shows : Shows call.setup (history ++ noted) result
  pub kept : (IsCutShort result → ⊥) → KeepsDone (history ++ noted) new
  pub running : IsFruitless result → EachNow (StandsRunning call.origin) new
  pub sound : (index : ℕ) → result ≡ Err (fault.BadRecord index) → ⊥
  pub closed : OnOk result (EachNow (StandsClosed call.origin) new)

-- each image stands at every moment of the call. The link tells a history more, which is as it
-- should be behind what the entries note; the jobs in flight were given up at its end, if at all, where
-- the run was cut short. Each task that is recorded as the call begins is among those that were
-- recorded; and unless the run was cut short, each that has finished is recorded in each image at its
-- end. The answer is shown, and no record is bad. Where it is Ok, the user's files are those that the
-- sequential run leaves, in each image; and where the run is over with no results, it goes on
pub record Ran {K T : Type 0} (tells : K → History → Type 0) (call : Call) (old new : DiskState)
    (link : K) (noted : History) (result : Result T RunFault) : Type 0 where
  pub always : Always (Stands call.origin) old new
  pub history : History
  pub told : tells link (history ++ call.past)
  pub are : AreNoted call.setup call.setup.notes noted
  pub good : Good call.setup (history ++ noted)
  pub whole : (IsCutShort result → ⊥) → GoesOn (history ++ noted)
  pub recorded : (n : ℕ) → has_done call.origin.stood n ≡ true → IsSome (outs_in noted n)
  pub shows : Shows call.setup (history ++ noted) result
  pub kept : (IsCutShort result → ⊥) → KeepsDone (history ++ noted) new
  pub running : IsFruitless result → EachNow (StandsRunning call.origin) new
  pub sound : (index : ℕ) → result ≡ Err (fault.BadRecord index) → ⊥
  pub closed : OnOk result (EachNow (StandsClosed call.origin) new)
