-- What the reader of worker lists has at hand, as the grammar speaks of it.
use Rattle.std.specs.Prelude.{◌≡◌, ℕ, ◌<◌, ◌≤◌, Bool, true, false, List, [], ◌∷◌, ◌++◌, length, map}
use denote.Ref.{Bor}
use Rattle.gs_types.specs.declared.limits.TheConstants.{SLOT_LIMIT, WORKER_LIMIT}
use Rattle.gs_idl.specs.Interface.{Signature}
use Rattle.gs_broker.specs.Text.{Parts, HasParts, stands, are_each_known, are_known, are_distinct, taken, Entry, LineSays, IsLineFault, GoesWrong}
use Rattle.gs_broker.specs.declared.kind.WorkersKind.{WorkersKind}
use Rattle.gs_broker.specs.declared.kind.WorkersKind.TheVariants.{UnknownOp, Twice}
use Rattle.gs_broker.specs.declared.kind.WorkersErr.{WorkersErr}
use Rattle.gs_broker.specs.declared.kind.WorkersErr.TheVariants.{At, NoMemory}
use Rattle.gs_broker.specs.declared.operations.Marked.{Marked}
use Rattle.gs_broker.specs.declared.operations.Marked.TheVariants.{Once, Again, Unknown}
use Rattle.gs_broker.specs.declared.line.Fields.{Fields}
use Rattle.gs_broker.specs.declared.line.Stop.{Stop}
use Rattle.gs_broker.specs.declared.line.Stop.TheVariants.{Fault, Memory}
use Rattle.gs_broker.specs.declared.workers.Worker.{Worker}

abbrev pub spelled : List (Bor (List ℕ)) → List (List ℕ)
spelled words = map (λ w. w.now) words

-- for each operation whether its name stands among the words
abbrev pub marked : List Signature → List (List ℕ) → List Bool
marked ops words = map (λ o. stands o.name words) ops

-- the operations that words name were marked: none twice, or one again, or one isn't known
abbrev pub AreMarked : List Signature → List (List ℕ) → List Bool → Marked → Type 0
AreMarked ops words takes Once =
    (are_each_known ops words ≡ true) × (are_distinct words ≡ true) × (takes ≡ marked ops words)
AreMarked ops words takes Again =
    (are_each_known ops words ≡ true) × (are_distinct words ≡ false)
AreMarked ops words takes Unknown = are_each_known ops words ≡ false

-- for each operation whether the words give it
abbrev pub IsTaken : List Signature → List (List ℕ) → List Bool → Type 0
IsTaken ops words takes =
    (are_known ops words ≡ true) × (are_distinct words ≡ true) × (takes ≡ taken ops words)

-- a word is no operation's name, or one stands again
abbrev pub IsNotTaken : List Signature → List (List ℕ) → WorkersKind → Type 0
IsNotTaken ops words UnknownOp = are_known ops words ≡ false
IsNotTaken ops words Twice = (are_known ops words ≡ true) × (are_distinct words ≡ false)
IsNotTaken ops words _ = ⊥

-- the reader stopped at a fault of this kind, or memory was wanting
abbrev pub IsStop : (WorkersKind → Type 0) → Stop → Type 0
IsStop is_fault (Fault kind) = is_fault kind
IsStop is_fault Memory = Unit {0}

abbrev pub parts_by : Fields → Parts
parts_by f = record {
  name = f.name.now;
  slots = f.slots.now;
  program = f.program.now;
  operations = spelled f.operations.now;
}

abbrev pub entry_of : Worker → Entry
entry_of w = record {
  name = w.name;
  slots = w.slots;
  program = w.program.items;
  takes = w.takes.items;
}

abbrev pub entries_of : List Worker → List Entry
entries_of ws = map entry_of ws

abbrev pub names_of : List Worker → List (List ℕ)
names_of ws = map (λ e. e.name) (entries_of ws)

-- a line of these parts says one worker more, which is this one
pub record IsNextWorker (ops : List Signature) (p : Parts) (ws : List Worker) (w : Worker) :
    Type 0 where
  pub said : (line : List ℕ) → HasParts line p
      → LineSays ops line (entries_of ws) (entries_of ws ++ entry_of w ∷ [])
  pub room : length ws < WORKER_LIMIT
  pub few : w.slots ≤ SLOT_LIMIT

-- a line of these parts goes wrong first in this way
abbrev pub IsNoWorker : List Signature → Parts → List Worker → WorkersKind → Type 0
IsNoWorker ops p ws kind =
    (line : List ℕ) → HasParts line p → IsLineFault ops line (entries_of ws) kind

abbrev pub err_at : Stop → ℕ → WorkersErr
err_at (Fault kind) line = At line kind
err_at Memory line = NoMemory

-- the first of the lines that goes wrong does so in this way; the lines before it are read
abbrev pub IsLinesStop : List Signature → List (List ℕ) → WorkersErr → Type 0
IsLinesStop ops lines (At line kind) = GoesWrong ops lines line kind
IsLinesStop ops lines NoMemory = Unit {0}
