-- What the reader of worker lists answers.
use Rattle.std.specs.Prelude.{ℕ, List}
use Rattle.gs_idl.specs.Interface.{Signature}
use Rattle.gs_broker.specs.Text.{Entry, Says, IsFault}
use Rattle.gs_broker.specs.declared.kind.WorkersKind.{WorkersKind}
use Rattle.gs_broker.specs.declared.kind.WorkersErr.{WorkersErr}
use Rattle.gs_broker.specs.declared.kind.WorkersErr.TheVariants.{At, NoMemory}

-- the text says no list, and this is its first fault
pub record IsRefused (ops : List Signature) (bytes : List ℕ) (line : ℕ) (kind : WorkersKind) :
    Type 0 where
  pub fault : IsFault ops bytes line kind
  pub nothing : (workers : List Entry) → Says ops bytes workers → ⊥

-- a fault, or want of memory, which no text causes
abbrev pub IsUnread : List Signature → List ℕ → WorkersErr → Type 0
IsUnread ops bytes (At line kind) = IsRefused ops bytes line kind
IsUnread ops bytes NoMemory = Unit {0}
