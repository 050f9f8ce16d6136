-- Which actions a plan takes.
use Rattle.std.specs.Prelude.{◌≡◌, ℕ, suc, ◌+◌, ◌<◌, ◌≤◌, List, [], ◌∷◌, length, reverse}
use Rattle.gs_types.specs.declared.action.Action.{Action}
use Rattle.gs_types.specs.declared.action.Action.TheVariants as act
use Rattle.gs_types.specs.declared.limits.TheConstants.{ACTION_LIMIT, TASK_LIMIT}
use Rattle.gs_plan.specs.Actions.{calls_in}

-- behind so many calls: a call has the next number and one of the operations, and what names a task
-- names one that was called
abbrev pub IsInPlace : ℕ → ℕ → Action → Type 0
IsInPlace ops calls (act.Call n op reads writes) = (n ≡ suc calls) × (op < ops)
IsInPlace ops calls (act.Use n place) = (1 ≤ n) × (n ≤ calls)
IsInPlace ops calls (act.Result n) = (1 ≤ n) × (n ≤ calls)
IsInPlace ops calls (act.Read name) = Unit {0}
IsInPlace ops calls (act.Write name) = Unit {0}
IsInPlace ops calls act.Barrier = Unit {0}
IsInPlace ops calls act.End = Unit {0}

-- each action, newest first, is in place behind those before it
abbrev pub AreInPlace : ℕ → List Action → Type 0
AreInPlace ops [] = Unit {0}
AreInPlace ops (a ∷ earlier) = IsInPlace ops (calls_in earlier) a × AreInPlace ops earlier

-- actions, oldest first, of a run with so many operations
pub record Fit (ops : ℕ) (actions : List Action) : Type 0 where
  pub few : length actions ≤ ACTION_LIMIT + 1
  pub tasks : calls_in (reverse actions) ≤ TASK_LIMIT
  pub each : AreInPlace ops (reverse actions)
