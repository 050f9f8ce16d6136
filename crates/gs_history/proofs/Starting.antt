-- Starts are due, and no worker is given more than it takes.
use Rattle.std.proofs.Common.{◌≡◌, ◌<◌, ◌≤◌, ◌+◌, ℕ, Bool, ap, subst, [], ◌∷◌, arith, Some, inl, inr, if◌then◌else◌}
use Rattle.std.proofs.lemmas.Bool.Decides.{eqb_tells}
use Rattle.gs_types.specs.History.{History, noted, started, refused, finished, failed, abandoned, at_worker, busy}
use Rattle.gs_history.specs.Setup.{Setup}
use Rattle.gs_history.specs.Laws.{EachStartsOnce, SlotsSuffice}
use Rattle.gs_history.proofs.Opening.{calm}

pub each_starts_once : EachStartsOnce
each_starts_once s h n w job good =
    let due = good.1.due in
    record { not_done = due.ready.opened.unfinished; not_flying = due.ready.idle; losses = due.losses }

one_more : (s : Setup) (h : History) (u w : ℕ) → busy h w ≤ s.slots w → busy h u < s.slots u → busy h w + at_worker (Some u) w ≤ s.slots w
one_more s h u w before free = elim (eqb_tells u w) [
  | inl same ↦
      let one : at_worker (Some u) w ≡ 1 = ap (λ (b : Bool). if b then 1 else 0) same.0 in
      let here : busy h w < s.slots w = subst (λ (i : ℕ). busy h i < s.slots i) same.1 free in omega arith
  | inr other ↦
      let none : at_worker (Some u) w ≡ 0 = ap (λ (b : Bool). if b then 1 else 0) other.0 in omega arith
]

pub slots_suffice : SlotsSuffice
slots_suffice s [] w good = omega arith
slots_suffice s (noted n outs ∷ h) w good = let none = (calm s s.notes (noted n outs ∷ h) good).loads w in omega arith
slots_suffice s (started n u job ∷ h) w good = one_more s h u w (slots_suffice s h w good.0) good.1.due.can.free
slots_suffice s (refused n u ∷ h) w good = slots_suffice s h w good.0
slots_suffice s (finished n outs ∷ h) w good = let before = slots_suffice s h w good.0 in omega arith
slots_suffice s (failed n ∷ h) w good = let before = slots_suffice s h w good.0 in omega arith
slots_suffice s (abandoned ∷ h) w good = omega arith
