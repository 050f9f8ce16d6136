use Rattle.std.proofs.Common.{◌≡◌, ℕ, zero, suc, ◌+◌, ◌-◌, ◌<◌, ◌≤◌, ◌≢◌, ◌⊎◌, inl, inr, cond, eqb, ltb, min, arith}
use Rattle.std.proofs.lemmas.Bool.Decides.{nat_tests, eqb_tells}
use Rattle.gs_plan.specs.Sums.{total_of}
use Rattle.gs_plan.proofs.Totals.{total_split, total_le, total_same, total_none, total_one_of, total_single}

-- what a task with this start and duration has done by the time t
abbrev pub part : ℕ → ℕ → ℕ → ℕ
part start duration t = min (t - start) duration

-- what it does between t and t + 1
abbrev pub unit : ℕ → ℕ → ℕ → ℕ
unit start duration t = part start duration (t + 1) - part start duration t

-- what n tasks have done by the time t
abbrev pub work : (ℕ → ℕ) → (ℕ → ℕ) → ℕ → ℕ → ℕ
work start duration n t = total_of (λ k. part (start k) (duration k) t) n

abbrev pub busy : (ℕ → ℕ) → (ℕ → ℕ) → ℕ → ℕ → ℕ
busy start duration n t = total_of (λ k. unit (start k) (duration k) t) n

pub unit_runs : (s d t : ℕ) → s ≤ t → t < s + d → unit s d t ≡ 1
unit_runs s d t a b = omega arith

pub unit_rests : (s d t : ℕ) → (t < s) ⊎ (s + d ≤ t) → unit s d t ≡ 0
unit_rests s d t (inl a) = omega arith
unit_rests s d t (inr a) = omega arith

pub unit_small : (s d t : ℕ) → unit s d t ≤ 1
unit_small s d t = omega arith

unit_adds : (s d t : ℕ) → part s d (t + 1) ≡ part s d t + unit s d t
unit_adds s d t = omega arith

pub work_next : (st du : ℕ → ℕ) (n t : ℕ) → work st du n (t + 1) ≡ work st du n t + busy st du n t
work_next st du n t = total_split (λ k. part (st k) (du k) (t + 1)) (λ k. part (st k) (du k) t) (λ k. unit (st k) (du k) t) n (λ k l. unit_adds (st k) (du k) t)

pub work_start : (st du : ℕ → ℕ) (n : ℕ) → work st du n 0 ≡ 0
work_start st du n = total_none (λ k. part (st k) (du k) 0) n (λ k l. omega arith)

pub work_end : (st du : ℕ → ℕ) (n t : ℕ) → ((k : ℕ) → k < n → st k + du k ≤ t) → work st du n t ≡ total_of du n
work_end st du n t ended = total_same (λ k. part (st k) (du k) t) du n (λ k l. omega (arith, ended k l))

-- what those do that are on the slots below c, and what those do that are on the slot c
abbrev below : (ℕ → ℕ) → (ℕ → ℕ) → ℕ → ℕ → ℕ
below slot u c k = cond (ltb (slot k) c) (u k) 0

abbrev on : (ℕ → ℕ) → (ℕ → ℕ) → ℕ → ℕ → ℕ
on slot u c k = cond (eqb (slot k) c) (u k) 0

below_next : (a c v : ℕ) → cond (ltb a (suc c)) v 0 ≡ cond (ltb a c) v 0 + cond (eqb a c) v 0
below_next a c v = grind (arith, nat_tests)

below_le : (a c v : ℕ) → cond (ltb a c) v 0 ≤ v
below_le a c v = grind (arith, nat_tests)

below_in : (a c v : ℕ) → a < c → cond (ltb a c) v 0 ≡ v
below_in a c v l = grind (arith, nat_tests)

on_le : (a c v : ℕ) → cond (eqb a c) v 0 ≤ v
on_le a c v = grind (arith, nat_tests)

on_in : (a c v : ℕ) → a ≡ c → cond (eqb a c) v 0 ≡ v
on_in a c v l = grind (arith, nat_tests)

on_out : (a c v : ℕ) → a ≢ c → cond (eqb a c) v 0 ≡ 0
on_out a c v l = grind (arith, nat_tests)

below_none : (a v : ℕ) → cond (ltb a 0) v 0 ≡ 0
below_none a v = grind (arith, nat_tests)

-- where each slot has one at work, the slots below c do c
full_below : (slot u : ℕ → ℕ) (n c : ℕ) →
    ((s : ℕ) → s < c → (k : ℕ) × (k < n) × (slot k ≡ s) × (u k ≡ 1)) → c ≤ total_of (below slot u c) n
full_below slot u n zero full = omega arith
full_below slot u n (suc c) full =
    let (k, l, is, one) = full c (omega arith) in
    let there : on slot u c k ≡ u k = on_in (slot k) c (u k) is in
    let sum = total_split (below slot u (suc c)) (below slot u c) (on slot u c) n (λ i j. below_next (slot i) c (u i)) in
    omega (arith, full_below slot u n c (λ s j. full s (omega arith)), sum, total_one_of (on slot u c) n k l, there, one)

pub full_busy : (slot u : ℕ → ℕ) (n m : ℕ) →
    ((s : ℕ) → s < m → (k : ℕ) × (k < n) × (slot k ≡ s) × (u k ≡ 1)) → m ≤ total_of u n
full_busy slot u n m full =
    omega (arith, full_below slot u n m full, total_le (below slot u m) u n (λ k l. below_le (slot k) m (u k)))

on_alone : (slot u : ℕ → ℕ) (n c : ℕ) →
    ((i j : ℕ) → i < j → j < n → slot i ≡ slot j → (u i ≡ 0) ⊎ (u j ≡ 0)) →
    (i j : ℕ) → i < j → j < n → (on slot u c i ≡ 0) ⊎ (on slot u c j ≡ 0)
on_alone slot u n c alone i j l m =
    elim (eqb_tells (slot i) c) [
      | inr other ↦ inl (on_out (slot i) c (u i) other.1)
      | inl here ↦ elim (eqb_tells (slot j) c) [
        | inr other ↦ inr (on_out (slot j) c (u j) other.1)
        | inl there ↦ let same : slot i ≡ slot j = omega (arith, here.1, there.1) in
            elim (alone i j l m same) [
              | inl none ↦ inl (omega (arith, none, on_le (slot i) c (u i)))
              | inr none ↦ inr (omega (arith, none, on_le (slot j) c (u j)))
            ]
      ]
    ]

-- where no slot has two at work, the slots below c do at most c
legal_below : (slot u : ℕ → ℕ) (n c : ℕ) → ((k : ℕ) → k < n → u k ≤ 1) →
    ((i j : ℕ) → i < j → j < n → slot i ≡ slot j → (u i ≡ 0) ⊎ (u j ≡ 0)) → total_of (below slot u c) n ≤ c
legal_below slot u n zero small alone = omega (arith, total_none (below slot u 0) n (λ k l. below_none (slot k) (u k)))
legal_below slot u n (suc c) small alone =
    let sum = total_split (below slot u (suc c)) (below slot u c) (on slot u c) n (λ i j. below_next (slot i) c (u i)) in
    let one : total_of (on slot u c) n ≤ 1 = total_single (on slot u c) n (λ k l. omega (arith, small k l, on_le (slot k) c (u k))) (λ i j l m. on_alone slot u n c alone i j l m) in
    omega (arith, legal_below slot u n c small alone, sum, one)

pub legal_busy : (slot u : ℕ → ℕ) (n m : ℕ) → ((k : ℕ) → k < n → u k ≤ 1) → ((k : ℕ) → k < n → slot k < m) →
    ((i j : ℕ) → i < j → j < n → slot i ≡ slot j → (u i ≡ 0) ⊎ (u j ≡ 0)) → total_of u n ≤ m
legal_busy slot u n m small on_slot alone =
    let all = total_same (below slot u m) u n (λ k l. below_in (slot k) m (u k) (on_slot k l)) in
    omega (arith, legal_below slot u n m small alone, all)
