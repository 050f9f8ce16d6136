-- What the reader of durations files has at hand, as the grammar speaks of it.
use Rattle.std.specs.Prelude.{ℕ, List, [], ◌∷◌}
use Rattle.gs_idl.specs.Interface.{Signature}
use Rattle.gs_list.specs.Lines.{HasWords}
use Rattle.gs_plan.specs.Durations.{Given, LineSays, IsLineFault, GoesWrong}
use Rattle.gs_plan.specs.declared.kind.DurKind.{DurKind}
use Rattle.gs_plan.specs.declared.kind.DurErr.{DurErr}
use Rattle.gs_plan.specs.declared.kind.DurErr.TheVariants.{At, NoMemory}
use Rattle.gs_plan.specs.declared.line.Stop.{Stop}
use Rattle.gs_plan.specs.declared.line.Stop.TheVariants.{Fault, Memory}

-- the reader stopped at a fault of this kind, or memory was wanting
abbrev pub IsStop : (DurKind → Type 0) → Stop → Type 0
IsStop is_fault (Fault kind) = is_fault kind
IsStop is_fault Memory = Unit {0}

abbrev pub err_at : Stop → ℕ → DurErr
err_at (Fault kind) line = At line kind
err_at Memory line = NoMemory

-- the first of the lines that goes wrong does so in this way; the lines before it are read
abbrev pub IsLinesStop : List Signature → List (List ℕ) → DurErr → Type 0
IsLinesStop ops lines (At line kind) = GoesWrong ops lines line kind
IsLinesStop ops lines NoMemory = Unit {0}

-- a line of these two words says the operation's duration
abbrev pub IsGiven : List Signature → List ℕ → List ℕ → Given → Given → Type 0
IsGiven ops name digits before after =
    (line : List ℕ) → HasWords line (name ∷ digits ∷ []) → LineSays ops line before after

-- a line of these two words goes wrong first in this way
abbrev pub IsNotGiven : List Signature → List ℕ → List ℕ → Given → DurKind → Type 0
IsNotGiven ops name digits before kind =
    (line : List ℕ) → HasWords line (name ∷ digits ∷ []) → IsLineFault ops line before kind
