-- What a call of `gs check` did.
use Rattle.std.specs.Prelude.{◌≡◌, ℕ, ◌≤◌, List, ◌++◌, length, take, None, is_some, false, Result, Ok, Err}
use Rattle.gs_types.specs.Counts.{Rises}
use Rattle.gs_disk.specs.Folder.{Folder, DiskState, Same}
use Rattle.gs_disk.specs.Moments.{Passes}
use Rattle.gs_idl.specs.Interface.{Interface}
use Rattle.gs_idl.specs.Printed as idl
use Rattle.gs_tree.specs.Printed as tree
use Rattle.gs_tree.specs.Program.{Program}
use Rattle.gs_check.specs.Faults.{fault_of}
use Rattle.gs_check.specs.Passing.{program_in, interface_in}
use Rattle.gs_check.specs.declared.checked.Checked.{Checked}
use Rattle.gs_run.specs.Sources.{FirstMissing, FirstLong}
use Rattle.gs_run.specs.Texts.{IsWithin, HasBoth, IsWrong}
use Rattle.gs_run.specs.declared.kinds.TextKind.{TextKind}
use Rattle.gs_run.specs.declared.stop.Stop.{Stop}
use Rattle.gs_run.specs.declared.stop.Stop.TheVariants.{Usage, NoText, BadText, OtherRun, BadStore, Fault, FuelOut, TaskLost, WorkersLost, Gated, NoRun, Disk, Sink, Memory}

-- the printed interface, and then the printed program
abbrev pub printed_both : Interface → Program → List ℕ
printed_both i p = idl.printed i ++ tree.printed p

-- those of a checked program
abbrev pub both_printed : Checked → List ℕ
both_printed c = printed_both (interface_in c) (program_in c)

-- it has passed its checks
abbrev pub HasPassed : Checked → Type 0
HasPassed c = is_some (fault_of (interface_in c).ops (program_in c)) ≡ false

-- The first text that is refused, with line and kind: one that is too long as it is read, the IDL
-- first; else the first fault of the two.
pub data CheckRefused (folder : Folder) (idl program : List ℕ) : (name : List ℕ) → (line : ℕ)
    → TextKind → Type 0 where
  long : (name : List ℕ) (line : ℕ) (k : TextKind) → FirstLong folder idl program name line k
      → CheckRefused folder idl program name line k
  wrong : (name : List ℕ) (line : ℕ) (k : TextKind) → IsWithin (folder idl)
      → IsWithin (folder program) → IsWrong (folder idl) (folder program) idl program name line k →
      CheckRefused folder idl program name line k

-- the folder holds an interface and a program that passes its checks
abbrev pub HoldsBoth : Folder → (idl program : List ℕ) → Type 0
HoldsBoth folder idl program = (i : Interface) × (p : Program)
    × HasBoth (folder idl) (folder program) i p

-- what each answer says of the counts of the disk and of the output
abbrev pub CheckCause : (disk_old disk_new out_old out_new : ℕ) → Result Unit Stop → Type 0
CheckCause disk_old disk_new out_old out_new (Ok done) = Unit {0}
CheckCause disk_old disk_new out_old out_new (Err (Usage word)) = ⊥
CheckCause disk_old disk_new out_old out_new (Err (NoText name)) = Unit {0}
CheckCause disk_old disk_new out_old out_new (Err (BadText name line k)) = Unit {0}
CheckCause disk_old disk_new out_old out_new (Err (Fault line k)) = ⊥
CheckCause disk_old disk_new out_old out_new (Err (FuelOut fuel)) = ⊥
CheckCause disk_old disk_new out_old out_new (Err (OtherRun what)) = ⊥
CheckCause disk_old disk_new out_old out_new (Err (TaskLost n)) = ⊥
CheckCause disk_old disk_new out_old out_new (Err (WorkersLost n)) = ⊥
CheckCause disk_old disk_new out_old out_new (Err (BadStore why)) = ⊥
CheckCause disk_old disk_new out_old out_new (Err Gated) = ⊥
CheckCause disk_old disk_new out_old out_new (Err NoRun) = ⊥
CheckCause disk_old disk_new out_old out_new (Err Disk) = Rises disk_old disk_new
CheckCause disk_old disk_new out_old out_new (Err Sink) = Rises out_old out_new
CheckCause disk_old disk_new out_old out_new (Err Memory) = Unit {0}

-- what each answer says of the folder
abbrev pub CheckJudged : Folder → (idl program : List ℕ) → Result Unit Stop → Type 0
CheckJudged folder idl program (Ok done) = HoldsBoth folder idl program
CheckJudged folder idl program (Err (Usage word)) = ⊥
CheckJudged folder idl program (Err (NoText name)) = FirstMissing folder idl program name
CheckJudged folder idl program (Err (BadText name line k)) =
    CheckRefused folder idl program name line k
CheckJudged folder idl program (Err (Fault line k)) = ⊥
CheckJudged folder idl program (Err (FuelOut fuel)) = ⊥
CheckJudged folder idl program (Err (OtherRun what)) = ⊥
CheckJudged folder idl program (Err (TaskLost n)) = ⊥
CheckJudged folder idl program (Err (WorkersLost n)) = ⊥
CheckJudged folder idl program (Err (BadStore why)) = ⊥
CheckJudged folder idl program (Err Gated) = ⊥
CheckJudged folder idl program (Err NoRun) = ⊥
CheckJudged folder idl program (Err Disk) = Unit {0}
CheckJudged folder idl program (Err Sink) = HoldsBoth folder idl program
CheckJudged folder idl program (Err Memory) = Unit {0}

-- what each answer wrote: both printed texts; where the output failed, a first part of them; else
-- nothing
abbrev pub CheckWrote : (told : Type 0) → Folder → (idl program : List ℕ) → (old new : List ℕ)
    → Result Unit Stop → Type 0
CheckWrote told folder idl program old new (Ok done) =
    (i : Interface) × (p : Program) × (fault_of i.ops p ≡ None)
    × (told → HasBoth (folder idl) (folder program) i p) × (new ≡ old ++ printed_both i p)
CheckWrote told folder idl program old new (Err (Usage word)) = new ≡ old
CheckWrote told folder idl program old new (Err (NoText name)) = new ≡ old
CheckWrote told folder idl program old new (Err (BadText name line k)) = new ≡ old
CheckWrote told folder idl program old new (Err (Fault line k)) = new ≡ old
CheckWrote told folder idl program old new (Err (FuelOut fuel)) = new ≡ old
CheckWrote told folder idl program old new (Err (OtherRun what)) = new ≡ old
CheckWrote told folder idl program old new (Err (TaskLost n)) = new ≡ old
CheckWrote told folder idl program old new (Err (WorkersLost n)) = new ≡ old
CheckWrote told folder idl program old new (Err (BadStore why)) = new ≡ old
CheckWrote told folder idl program old new (Err Gated) = new ≡ old
CheckWrote told folder idl program old new (Err NoRun) = new ≡ old
CheckWrote told folder idl program old new (Err Disk) = new ≡ old
CheckWrote told folder idl program old new (Err Sink) =
    (i : Interface) × (p : Program) × (fault_of i.ops p ≡ None)
    × (told → HasBoth (folder idl) (folder program) i p)
    × ((k : ℕ) × (k ≤ length (printed_both i p)) × (new ≡ old ++ take k (printed_both i p)))
CheckWrote told folder idl program old new (Err Memory) = new ≡ old

-- what a call did with the names of an IDL and a program, on a disk that tells its folder where
-- `told` holds, and an output that tells what was written where `wrote` holds
pub record RanCheck (told wrote : Type 0) (old new : DiskState) (out_old out_new : ℕ)
    (written_old written_new : List ℕ) (idl program : List ℕ) (answer : Result Unit Stop)
    : Type 0 where
  pub cause : CheckCause old.faults new.faults out_old out_new answer
  pub judged : told → CheckJudged old.folder idl program answer
  pub same : told → (x : List ℕ) → new.folder x ≡ old.folder x
  -- a crash within the call leaves nothing that one before it could not have left
  pub images : told → Passes Same old new
  pub written : wrote → CheckWrote told old.folder idl program written_old written_new answer
