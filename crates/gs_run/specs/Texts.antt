-- What the two texts of a program say, and how they go wrong.
use Rattle.std.specs.Prelude.{◌≡◌, ℕ, ◌<◌, ◌≤◌, List, length, Option, Some, None}
use Rattle.gs_idl.specs.Interface.{Interface}
use Rattle.gs_idl.specs.Grammar.{Says, IsFault}
use Rattle.gs_idl.specs.declared.token.IdlKind.{IdlKind}
use Rattle.gs_tree.specs.Program.{Program}
use Rattle.gs_parse.specs.Faulty.{IsText, IsTextFault}
use Rattle.gs_parse.specs.declared.fault.ParseKind.{ParseKind}
use Rattle.gs_check.specs.Faults.{fault_of}
use Rattle.gs_check.specs.declared.kind.CheckKind.{CheckKind}
use Rattle.gs_run.specs.declared.kinds.TextKind.{TextKind}
use Rattle.gs_run.specs.declared.kinds.TextKind.TheVariants as kind

-- the file holds a text within the limit of texts, or one beyond it
abbrev pub IsWithin : Option (List ℕ) → Type 0
IsWithin file = (text : List ℕ) × (file ≡ Some text) × (length text ≤ 65536)

abbrev pub IsBeyond : Option (List ℕ) → Type 0
IsBeyond file = (text : List ℕ) × (file ≡ Some text) × (65536 < length text)

-- the file holds the text of an interface
pub record HasInterface (file : Option (List ℕ)) (i : Interface) : Type 0 where
  pub text : List ℕ
  pub there : file ≡ Some text
  pub says : Says text i

-- the file holds the text of a program
pub record HasProgram (file : Option (List ℕ)) (p : Program) : Type 0 where
  pub text : List ℕ
  pub there : file ≡ Some text
  pub says : IsText text p

-- the two files hold an interface and a program that passes the checks against it
pub record HasBoth (idl_file program_file : Option (List ℕ)) (i : Interface) (p : Program)
    : Type 0 where
  pub interface : HasInterface idl_file i
  pub program : HasProgram program_file p
  pub passes : fault_of i.ops p ≡ None

-- The first fault of the two texts, by the name of its file, its line and its kind: of the
-- interface, else of the program, else of the checks.
pub data IsWrong (idl_file program_file : Option (List ℕ)) (idl program : List ℕ) : (name : List ℕ)
    → (line : ℕ) → TextKind → Type 0 where
  interface : (text : List ℕ) (line : ℕ) (k : IdlKind) → idl_file ≡ Some text → IsFault text line k
      → IsWrong idl_file program_file idl program idl line (kind.Idl k)
  program : (i : Interface) (text : List ℕ) (line : ℕ) (k : ParseKind) → HasInterface idl_file i
      → program_file ≡ Some text → IsTextFault text line k →
      IsWrong idl_file program_file idl program program line (kind.Program k)
  checks : (i : Interface) (p : Program) (line : ℕ) (k : CheckKind) → HasInterface idl_file i
      → HasProgram program_file p
      → fault_of i.ops p ≡ Some (record { line = line; kind = k })
      → IsWrong idl_file program_file idl program program line (kind.Check k)
