-- A call at which the machine stands.
use Rattle.std.specs.Prelude.{◌≡◌, ◌<◌, ℕ, List, map, length, Option, Some, None}
use Rattle.std.specs.Borrow.{Bor}
use Rattle.gs_talk.specs.Talk.{Handed}
use Rattle.gs_orders.specs.declared.hand.Handed as code
use Rattle.gs_orders.specs.Steps.{Step, send, handed_of}

-- a call at which the machine stands
pub record CallAt : Type 0 where
  pub line : ℕ
  pub args : List Handed
  pub next : ℕ

abbrev pub call_in : Option Step → Option CallAt
call_in (Some (send line op args next)) = Some (record { line = line; args = args; next = next })
call_in o = None

-- the call's line, its arguments, of which there are fewer than 255, and the place behind it
abbrev pub IsCallAt : Option CallAt → Option (ℕ × Bor (List code.Handed) × ℕ) → Type 0
IsCallAt o None = o ≡ None
IsCallAt o (Some r) = (o ≡ Some (record { line = r.0; args = map handed_of r.1.now; next = r.2 }))
    × (length r.1.now < 255)
