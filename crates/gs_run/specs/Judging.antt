-- How the texts of a command are judged.
use Rattle.std.specs.Prelude.{◌≡◌, ℕ, ◌≤◌, List, length, Option, Some, None, Result, Ok, Err}
use Rattle.gs_types.specs.Counts.{Rises}
use Rattle.gs_entries.specs.declared.entry.Texts.{Texts}
use Rattle.gs_idl.specs.Interface.{Signature, Interface}
use Rattle.gs_idl.specs.Grammar.{IsFault}
use Rattle.gs_tree.specs.View.{program_of}
use Rattle.gs_tree.specs.declared.tree.Tree.{Tree}
use Rattle.gs_parse.specs.Faulty.{IsTextFault}
use Rattle.gs_check.specs.Passing.{program_in, interface_in}
use Rattle.gs_check.specs.declared.checked.Checked.{Checked}
use Rattle.gs_broker.specs.Answer.{IsRefused}
use Rattle.gs_broker.specs.Listed.{entries_in}
use Rattle.gs_broker.specs.declared.workers.Workers.{Workers}
use Rattle.gs_run.specs.Served.{HasList, SayBoth, Served, Refused}
use Rattle.gs_run.specs.Texts.{IsBeyond, HasInterface, HasProgram, HasBoth, IsWrong}
use Rattle.gs_run.specs.Unserved.{unserved}
use Rattle.gs_run.specs.declared.kinds.TextKind.{TextKind}
use Rattle.gs_run.specs.declared.kinds.TextKind.TheVariants as kind
use Rattle.gs_run.specs.declared.refusal.Refusal.{Refusal}
use Rattle.gs_run.specs.declared.refusal.Refusal.TheVariants.{NoText, BadText, Disk, Memory}
use Rattle.gs_run.specs.declared.judge.Plan.{Plan}
use Rattle.gs_run.specs.declared.texts.Text.{Text}
use Rattle.gs_run.specs.declared.texts.Text.TheVariants.{Long, Read}

-- what was read of a text's file
abbrev pub IsTextOf : Option (List ℕ) → Text → Type 0
IsTextOf file Long = IsBeyond file
IsTextOf file (Read bytes) = (file ≡ Some bytes) × (length bytes ≤ 65536)

-- what was read of a file that may be absent
abbrev pub IsFileOf : Option (List ℕ) → Option Text → Type 0
IsFileOf file None = file ≡ None
IsFileOf file (Some t) = IsTextOf file t

-- judging texts fails only by their faults, or for want of memory
abbrev pub JudgedOnly : {T : Type 0} → Result T Refusal → Type 0
JudgedOnly (Ok t) = Unit {0}
JudgedOnly (Err (NoText n)) = ⊥
JudgedOnly (Err (BadText n line k)) = Unit {0}
JudgedOnly (Err Disk) = ⊥
JudgedOnly (Err Memory) = Unit {0}

abbrev pub InterfaceFault : Option (List ℕ) → ℕ → TextKind → Type 0
InterfaceFault file line (kind.Idl k) = (text : List ℕ) × (file ≡ Some text) × IsFault text line k
InterfaceFault file line (kind.Program k) = ⊥
InterfaceFault file line (kind.Check k) = ⊥
InterfaceFault file line (kind.Durations k) = ⊥
InterfaceFault file line (kind.Workers k) = ⊥
InterfaceFault file line kind.NoWorker = ⊥

-- the interface that a file holds, or its fault
abbrev pub InterfaceOf : Option (List ℕ) → (name : List ℕ) → Result Interface Refusal → Type 0
InterfaceOf file name (Ok i) = HasInterface file i
InterfaceOf file name (Err (NoText n)) = ⊥
InterfaceOf file name (Err (BadText n line k)) = (n ≡ name) × InterfaceFault file line k
InterfaceOf file name (Err Disk) = ⊥
InterfaceOf file name (Err Memory) = Unit {0}

abbrev pub ProgramFault : Option (List ℕ) → ℕ → TextKind → Type 0
ProgramFault file line (kind.Idl k) = ⊥
ProgramFault file line (kind.Program k) = (text : List ℕ) × (file ≡ Some text)
    × IsTextFault text line k
ProgramFault file line (kind.Check k) = ⊥
ProgramFault file line (kind.Durations k) = ⊥
ProgramFault file line (kind.Workers k) = ⊥
ProgramFault file line kind.NoWorker = ⊥

-- the program that a file holds, or its fault
abbrev pub TreeOf : Option (List ℕ) → (name : List ℕ) → Result Tree Refusal → Type 0
TreeOf file name (Ok tree) = HasProgram file (program_of tree)
TreeOf file name (Err (NoText n)) = ⊥
TreeOf file name (Err (BadText n line k)) = (n ≡ name) × ProgramFault file line k
TreeOf file name (Err Disk) = ⊥
TreeOf file name (Err Memory) = Unit {0}

-- the interface and the checked program that two files hold, or the first fault
abbrev pub BothOf : (idl_file program_file : Option (List ℕ)) → (idl program : List ℕ)
    → Result Checked Refusal → Type 0
BothOf idl_file program_file idl program (Ok c) = HasBoth idl_file program_file (interface_in c)
    (program_in c)
BothOf idl_file program_file idl program (Err (NoText n)) = ⊥
BothOf idl_file program_file idl program (Err (BadText n line k)) =
    IsWrong idl_file program_file idl program n line k
BothOf idl_file program_file idl program (Err Disk) = ⊥
BothOf idl_file program_file idl program (Err Memory) = Unit {0}

abbrev pub ListFault : List Signature → Option (List ℕ) → ℕ → TextKind → Type 0
ListFault ops file line (kind.Idl k) = ⊥
ListFault ops file line (kind.Program k) = ⊥
ListFault ops file line (kind.Check k) = ⊥
ListFault ops file line (kind.Durations k) = ⊥
ListFault ops file line (kind.Workers k) = (text : List ℕ) × (file ≡ Some text)
    × IsRefused ops text line k
ListFault ops file line kind.NoWorker = ⊥

-- the workers that a file lists, or its fault
abbrev pub ListOf : List Signature → Option (List ℕ) → (name : List ℕ) → Result Workers Refusal
    → Type 0
ListOf ops file name (Ok workers) = HasList ops file (entries_in workers)
ListOf ops file name (Err (NoText n)) = ⊥
ListOf ops file name (Err (BadText n line k)) = (n ≡ name) × ListFault ops file line k
ListOf ops file name (Err Disk) = ⊥
ListOf ops file name (Err Memory) = Unit {0}

-- the plan is of these, and each operation that the program calls has a worker
pub record IsPlanFor (checked : Checked) (workers : Workers) (plan : Plan) : Type 0 where
  pub checked_is : plan.checked ≡ checked
  pub workers_are : plan.workers ≡ workers
  pub all : unserved (interface_in checked).ops (entries_in workers) (program_in checked).body ≡ None

-- one has none: the first call of such
abbrev pub LacksWorker : (program : List ℕ) → Checked → Workers → Refusal → Type 0
LacksWorker program checked workers refusal = (line : ℕ)
    × (unserved (interface_in checked).ops (entries_in workers) (program_in checked).body
    ≡ Some line) × (refusal ≡ BadText program line kind.NoWorker)

-- the texts say what the plan is of
abbrev pub SaysPlan : Texts → Plan → Type 0
SaysPlan t plan = SayBoth t (interface_in plan.checked) (program_in plan.checked)

-- what the texts and a worker list's file say together, or the first fault
abbrev pub PlanOf : Texts → (file : Option (List ℕ)) → (idl program workers : List ℕ)
    → Result Plan Refusal → Type 0
PlanOf t file idl program workers (Ok plan) = Served t file (interface_in plan.checked)
    (program_in plan.checked) (entries_in plan.workers)
PlanOf t file idl program workers (Err (NoText n)) = ⊥
PlanOf t file idl program workers (Err (BadText n line k)) =
    Refused t file idl program workers n line k
PlanOf t file idl program workers (Err Disk) = ⊥
PlanOf t file idl program workers (Err Memory) = Unit {0}

-- the same, where the worker list is read before the texts are judged
abbrev pub JudgeTold : Texts → (file : Option (List ℕ)) → (idl program workers : List ℕ)
    → Result Plan Refusal → Type 0
JudgeTold t file idl program workers (Ok plan) =
    PlanOf t file idl program workers (Ok plan)
JudgeTold t file idl program workers (Err (NoText n)) = (n ≡ workers) × (file ≡ None)
JudgeTold t file idl program workers (Err (BadText n line k)) =
    ((text : List ℕ) × (file ≡ Some text)) × Refused t file idl program workers n line k
JudgeTold t file idl program workers (Err Disk) = Unit {0}
JudgeTold t file idl program workers (Err Memory) = Unit {0}

-- reading a text fails only by the disk or for want of memory
abbrev pub TextEnds : ℕ → ℕ → Result (Option Text) Refusal → Type 0
TextEnds old new (Ok t) = Unit {0}
TextEnds old new (Err (NoText name)) = ⊥
TextEnds old new (Err (BadText name line kind)) = ⊥
TextEnds old new (Err Disk) = Rises old new
TextEnds old new (Err Memory) = Unit {0}
