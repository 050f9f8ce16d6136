-- Laws of durations files and of plans.
use Rattle.std.specs.Prelude.{◌≡◌, ℕ, List, length}
use Rattle.gs_types.specs.declared.action.Action.{Action}
use Rattle.gs_idl.specs.Interface.{Signature}
use Rattle.gs_plan.specs.Actions.{precedes, longs_of}
use Rattle.gs_plan.specs.Fits.{Fit}
use Rattle.gs_plan.specs.Durations.{Says, IsFault, AreDurations}
use Rattle.gs_plan.specs.Schedule.{IsByRule, IsChainBack}
use Rattle.gs_plan.specs.declared.kind.DurKind.{DurKind}

-- a text says at most one list of durations
abbrev pub SaysOneList : Type 0
SaysOneList = (ops : List Signature) (bytes a b : List ℕ) →
    Says ops bytes a → Says ops bytes b → a ≡ b

-- a text has at most one first fault, on one line and of one kind
abbrev pub FailsOnce : Type 0
FailsOnce = (ops : List Signature) (bytes : List ℕ) (n m : ℕ) (k j : DurKind) →
    IsFault ops bytes n k → IsFault ops bytes m j → (n ≡ m) × (k ≡ j)

-- a run has one schedule by the rule
abbrev pub OneSchedule : Type 0
OneSchedule = (count : ℕ) (durations : List ℕ) (actions : List Action)
    (slots starts slots' starts' : List ℕ) → Fit (length durations) actions →
    AreDurations (length durations) durations →
    IsByRule count (longs_of durations actions) (precedes actions) slots starts →
    IsByRule count (longs_of durations actions) (precedes actions) slots' starts' →
    (slots ≡ slots') × (starts ≡ starts')

-- a schedule has one chain
abbrev pub OneChain : Type 0
OneChain = (longs starts : List ℕ) (actions : List Action) (a b : List ℕ) →
    IsChainBack longs (precedes actions) starts a →
    IsChainBack longs (precedes actions) starts b → a ≡ b
