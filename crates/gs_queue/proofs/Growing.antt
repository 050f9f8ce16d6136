-- One number more, at which no task is listed.
use Rattle.std.proofs.Common.{◌≡◌, ◌≤◌, ◌-◌, ◌∙◌, ℕ, zero, suc, refl, sym, List, [], ◌∷◌, ◌++◌, arith, Option, None, slice_index}
use Rattle.std.specs.List.{slice_get}
use Rattle.gs_broker.specs.declared.choice.Ready.{Ready}
use Rattle.gs_queue.specs.Fronts.{task_at, last_at, flat, AreFronts}
use Rattle.gs_queue.proofs.Rising.{rises_wider}
use Rattle.gs_queue.proofs.Leading.{Led, led, led_of}

flat_push : (tasks : List (Option Ready)) (n : ℕ) → flat (slice_get (tasks ++ None ∷ []) n) ≡ flat (slice_get tasks n)
flat_push [] zero = refl
flat_push [] (suc n) = refl
flat_push (t ∷ tasks) zero = refl
flat_push (t ∷ tasks) (suc n) = flat_push tasks n

pub task_push : (tasks : List (Option Ready)) (n : ℕ) → task_at (tasks ++ None ∷ []) n ≡ task_at tasks n
task_push tasks zero = refl
task_push tasks (suc n) = flat_push tasks n

index_push : (xs : List ℕ) (i : ℕ) → slice_index (xs ++ 0 ∷ []) i ≡ slice_index xs i
index_push [] zero = refl
index_push [] (suc i) = refl
index_push (x ∷ xs) zero = refl
index_push (x ∷ xs) (suc i) = index_push xs i

pub last_push : (last : List ℕ) (n : ℕ) → last_at (last ++ 0 ∷ []) n ≡ last_at last n
last_push last n = index_push last (n - 1)

-- the fronts are fronts where all is the same
pub same_fronts : (size more : ℕ) (task now : ℕ → Option Ready) (last end : ℕ → ℕ) (fs : List Ready) → size ≤ more → ((n : ℕ) → now n ≡ task n) → ((n : ℕ) → end n ≡ last n) → AreFronts size task last fs → AreFronts more now end fs
same_fronts size more task now last end fs le tasks lasts are = record {
  rising = rises_wider 1 size more fs are.rising le;
  listed = λ f at. tasks f.n ∙ are.listed f at;
  apart = are.apart;
  led = λ n r at. led_of end n r fs (leading n r (led last n r fs (are.led n r (sym (tasks n) ∙ at))));
}
  where
    leading : (n : ℕ) (r : Ready) → Led last n r fs → Led end n r fs
    leading n r l =
        let within = l.within in
        let same = lasts l.front.n in
        record { front = l.front; stands = l.stands; alike = l.alike; first = l.first; within = omega arith }
