-- Laws of worker lists.
use Rattle.std.specs.Prelude.{◌≡◌, ℕ, Bool, false, List, Option, Some, None, length, slice_get, option_map, unwrap_or}
use Rattle.gs_idl.specs.Interface.{Signature}
use Rattle.gs_broker.specs.Text.{Entry, Says, IsFault}
use Rattle.gs_broker.specs.declared.kind.WorkersKind.{WorkersKind}
use Rattle.gs_broker.specs.Listed.{count_of, slots_of_list, takes_of_list, program_in, entries_in}
use Rattle.gs_broker.specs.declared.workers.Workers.{Workers}

-- a text says at most one list
abbrev pub SaysOneList : Type 0
SaysOneList = (ops : List Signature) (bytes : List ℕ) (a b : List Entry) →
    Says ops bytes a → Says ops bytes b → a ≡ b

-- a text has at most one first fault, on one line and of one kind
abbrev pub FailsOnce : Type 0
FailsOnce = (ops : List Signature) (bytes : List ℕ) (n m : ℕ) (k j : WorkersKind) →
    IsFault ops bytes n k → IsFault ops bytes m j → (n ≡ m) × (k ≡ j)

abbrev pub slots_by : Option Entry → ℕ
slots_by None = 0
slots_by (Some e) = e.slots

abbrev pub takes_by : Option Entry → ℕ → Bool
takes_by None op = false
takes_by (Some e) op = unwrap_or (slice_get e.takes op) false

-- what the calls say of a list of workers is what stands in its entries
pub record TellsEntries (ws : Workers) : Type 0 where
  pub count : count_of ws ≡ length (entries_in ws)
  pub slots : (w : ℕ) → slots_of_list ws w ≡ slots_by (slice_get (entries_in ws) w)
  pub takes : (w op : ℕ) → takes_of_list ws w op ≡ takes_by (slice_get (entries_in ws) w) op
  pub program : (w : ℕ) →
      program_in ws w ≡ option_map (λ e. e.program) (slice_get (entries_in ws) w)

abbrev pub TellEntries : Type 0
TellEntries = (ws : Workers) → TellsEntries ws
