use Rattle.std.proofs.Common.{ℕ, List, length, get_or, ap, ◌∙◌, arith}
use Rattle.std.proofs.lemmas.List.{length-replicate, get_or-replicate}
use Rattle.gs_plan.proofs.schedule.free_slots.Goals as goal

pub loop-slot-init : goal.loop-slot-init
loop-slot-init c = record {
  places = ap (λ (xs : List ℕ). length xs) c.in_ok-keys.ensures ∙ length-replicate {A = ℕ} 1024 18446744073709551615;
  inside = λ k l. absurd (omega arith);
  outside = λ k l r. ap (λ (xs : List ℕ). get_or xs k 0) c.in_ok-keys.ensures ∙ get_or-replicate {A = ℕ} 1024 k 18446744073709551615 0 r;
}
