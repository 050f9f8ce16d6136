-- Nothing is placed.
use Rattle.std.proofs.Common.{◌≡◌, ℕ, zero, suc, ◌+◌, ◌<◌, ◌≤◌, inl, cond, eqb, List, length, get_or, replicate, arith, refl, ap, sym}
use Rattle.std.proofs.lemmas.Bool.Decides.{nat_tests}
use Rattle.gs_plan.specs.Sums.{total_of}
use Rattle.gs_plan.specs.State.{time_at, open_pair, shut_at, late_at, AreWaiting, IsRun, HasPlaced}
use Rattle.gs_plan.proofs.Totals.{total_same, total_none}
use Rattle.gs_plan.proofs.Waiting.{late_out}
use Rattle.gs_plan.proofs.Stepping.{count_open}

pub all_zero : (n k : ℕ) → ◌≡◌ {A = ℕ} (get_or (replicate {A = ℕ} n 0) k 0) 0
all_zero zero k = refl
all_zero (suc n) zero = refl
all_zero (suc n) (suc k) = all_zero n k

shut_first : (j : ℕ) → shut_at 0 j ≡ 1
shut_first j = grind (arith, nat_tests)

pub waiting_begins : (n : ℕ) (bs fs ns ws ends left ready keys : List ℕ) → ((k : ℕ) → get_or ends k 0 ≡ 0) → ((k : ℕ) → get_or ready k 0 ≡ 0) →
    length left ≡ n → length ready ≡ n → length keys ≡ 16384 → n ≤ 16384 → ((k : ℕ) → k < 16384 → get_or keys k 0 ≡ 18446744073709551615) →
    ((j : ℕ) → j < n → get_or left j 0 ≡ total_of (open_pair fs (λ e. 0) j) (length fs) + 1) →
    AreWaiting n fs (time_at bs ends) (shut_at 0) (late_at ns ws ends 0) ends left ready keys
waiting_begins n bs fs ns ws ends left ready keys none now left_each ready_each keys_each room never counts = record {
  keyed = record {
    keys_each = keys_each;
    left_each = left_each;
    ready_each = ready_each;
    placed = λ j l done. absurd (omega (arith, none j));
    open_key = λ j l is_open waits. never j (omega arith);
    ready_key = λ j l is_open waits. absurd (omega (arith, counts j l));
    outside = λ j l b. never j b;
  };
  left_is = λ j l. omega (
    arith,
    counts j l,
    shut_first j,
    total_same (open_pair fs (λ e. 0) j) (λ e. open_pair fs (time_at bs ends) j e) (length fs) (λ e m. ap (λ v. cond (eqb (get_or fs e 0) j) (cond (eqb v 0) 1 0) 0) (sym (none (get_or bs e 0)))),
  );
  after_pairs = λ e l. omega (arith, none (get_or bs e 0));
  after_needs = λ j l. omega (arith, late_out ns ws ends 0 j (omega arith));
  at_last = λ j t l all need. omega (arith, now j);
}

pub run_begins : (m : ℕ) (longs : List ℕ) (R : ℕ → ℕ → Type 0) (starts ends slots free : List ℕ) → ((k : ℕ) → get_or ends k 0 ≡ 0) →
    length starts ≡ length longs → length ends ≡ length longs → length slots ≡ length longs → length free ≡ 1024 →
    ((s : ℕ) → s < m → get_or free s 0 ≡ 0) → ((s : ℕ) → m ≤ s → s < 1024 → get_or free s 0 ≡ 18446744073709551615) →
    IsRun m longs R starts ends slots free 0
run_begins m longs R starts ends slots free none starts_each ends_each slots_each free_each inside outside = record {
  starts_each = starts_each;
  ends_each = ends_each;
  slots_each = slots_each;
  free_each = free_each;
  end_is = λ j l done. absurd (omega (arith, none j));
  start_is = λ j l done. absurd (omega (arith, none j));
  slot_is = λ j l done. absurd (omega (arith, none j));
  slot_free = λ j l done. absurd (omega (arith, none j));
  ordered = λ i j is done. absurd (omega (arith, none j));
  apart = λ i j below l di dj same. absurd (omega (arith, none j));
  last_on = λ s l. inl (inside s l);
  no_slot = outside;
  at_once = λ j t l before all. absurd (omega arith);
  least_task = λ j k l done less all. absurd (omega (arith, none j));
  least_slot = λ j s l done low. absurd (omega (arith, none j));
}

pub placed_begins : (m n : ℕ) (ends free : List ℕ) → ((k : ℕ) → get_or ends k 0 ≡ 0) → ((s : ℕ) → s < m → get_or free s 0 ≡ 0) → HasPlaced n m ends free 0 0
placed_begins m n ends free none inside = record {
  placed = total_none (λ k. cond (eqb (get_or ends k 0) 0) 0 1) n (λ k l. count_open (get_or ends k 0) (none k));
  ends_within = λ j l. omega (arith, none j);
  free_within = λ s l. omega (arith, inside s l);
  clock_within = omega arith;
}
