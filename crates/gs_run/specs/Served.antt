-- What the texts of a run say together, and how they are refused.
use Rattle.std.specs.Prelude.{◌≡◌, ℕ, List, Option, Some, None}
use Rattle.gs_entries.specs.declared.entry.Texts.{Texts}
use Rattle.gs_idl.specs.Interface.{Signature, Interface}
use Rattle.gs_tree.specs.Program.{Program}
use Rattle.gs_broker.specs.Answer.{IsRefused}
use Rattle.gs_broker.specs.Text.{Entry, Says}
use Rattle.gs_broker.specs.declared.kind.WorkersKind.{WorkersKind}
use Rattle.gs_run.specs.Texts.{HasBoth, IsWrong}
use Rattle.gs_run.specs.Unserved.{unserved}
use Rattle.gs_run.specs.declared.kinds.TextKind.{TextKind}
use Rattle.gs_run.specs.declared.kinds.TextKind.TheVariants as kind

-- the file holds a list of these workers
pub record HasList (ops : List Signature) (file : Option (List ℕ)) (workers : List Entry)
    : Type 0 where
  pub text : List ℕ
  pub there : file ≡ Some text
  pub says : Says ops text workers

-- the texts say this interface and a program that passes its checks
abbrev pub SayBoth : Texts → Interface → Program → Type 0
SayBoth t i p = HasBoth (Some t.idl) (Some t.program) i p

-- and the file a list of workers, of whom each operation that the program calls has one
pub record Served (t : Texts) (file : Option (List ℕ)) (i : Interface) (p : Program)
    (workers : List Entry) : Type 0 where
  pub both : SayBoth t i p
  pub list : HasList i.ops file workers
  pub all : unserved i.ops workers p.body ≡ None

-- The first fault, by the name of its file, its line and its kind: of the IDL, the program or its
-- checks; else of the worker list; else the first call of an operation that no worker takes.
pub data Refused (t : Texts) (file : Option (List ℕ)) (idl program workers : List ℕ)
    : (name : List ℕ) → (line : ℕ) → TextKind → Type 0 where
  wrong : (name : List ℕ) (line : ℕ) (k : TextKind)
      → IsWrong (Some t.idl) (Some t.program) idl program name line k
      → Refused t file idl program workers name line k
  bad_list : (i : Interface) (p : Program) (text : List ℕ) (line : ℕ) (k : WorkersKind)
      → SayBoth t i p → file ≡ Some text → IsRefused i.ops text line k
      → Refused t file idl program workers workers line (kind.Workers k)
  no_worker : (i : Interface) (p : Program) (list : List Entry) (line : ℕ) → SayBoth t i p
      → HasList i.ops file list → unserved i.ops list p.body ≡ Some line
      → Refused t file idl program workers program line kind.NoWorker
