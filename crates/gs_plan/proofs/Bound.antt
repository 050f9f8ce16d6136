-- The bound of a schedule by the rule, and what every legal schedule takes.
use Rattle.std.proofs.Common.{◌≡◌, ℕ, zero, suc, ◌+◌, ◌-◌, ◌*◌, ◌<◌, ◌≤◌, ◌⊎◌, inl, inr, List, [], ◌∷◌, ◌++◌, length, get_or, reverse, sum, refl, sym, ap, subst, ◌∙◌, arith, append_assoc}
use Rattle.std.proofs.lemmas.Bool.{cases_lt}
use Rattle.std.proofs.lemmas.List.{reverse-append}
use Rattle.std.proofs.lemmas.List.Sums.{sum_by-cons}
use Rattle.gs_plan.specs.Sums.{total_of}
use Rattle.gs_plan.proofs.Totals.{total_one_of, sum_is_total}
use Rattle.gs_plan.proofs.Work.{work, busy, unit, unit_runs, unit_rests, unit_small, work_next, work_start, work_end, full_busy, legal_busy}
use Rattle.gs_plan.specs.Schedule.{end_of, IsLegal, EndsBy, IsLastEnd, AreAllTaken, MayStart, IsByRule, EndsNoLater, GoesBack, IsChainBack, IsChain, length_of}

-- what the tasks of a schedule have done by the time t
abbrev pub done : List ℕ → List ℕ → ℕ → ℕ
done longs starts t = work (λ k. get_or starts k 0) (λ k. get_or longs k 0) (length longs) t

abbrev working : List ℕ → List ℕ → ℕ → ℕ
working longs starts t = busy (λ k. get_or starts k 0) (λ k. get_or longs k 0) (length longs) t

done_next : (longs starts : List ℕ) (t : ℕ) → done longs starts (t + 1) ≡ done longs starts t + working longs starts t
done_next longs starts t = work_next (λ k. get_or starts k 0) (λ k. get_or longs k 0) (length longs) t

full_working : (m : ℕ) (longs slots starts : List ℕ) (t : ℕ) → AreAllTaken m longs slots starts t → m ≤ working longs starts t
full_working m longs slots starts t full =
    full_busy (λ k. get_or slots k 0) (λ k. unit (get_or starts k 0) (get_or longs k 0) t) (length longs) m
    (λ s l. let (k, inside, is, from, to) = full s l in (k, inside, is, unit_runs (get_or starts k 0) (get_or longs k 0) t from to))

-- while each slot is at work, m units are done at each step
done_full : (m : ℕ) (longs slots starts : List ℕ) (a k : ℕ) → ((t : ℕ) → a ≤ t → t < a + k → AreAllTaken m longs slots starts t) →
    done longs starts a + m * k ≤ done longs starts (a + k)
done_full m longs slots starts a zero full = let at : a + 0 ≡ a = omega arith in rw at (omega arith)
done_full m longs slots starts a (suc k) full =
    let rest = done_full m longs slots starts a k (λ t l h. full t l (omega arith)) in
    let last = full_working m longs slots starts (a + k) (full (a + k) (omega arith) (omega arith)) in
    let next = done_next longs starts (a + k) in
    let at : a + suc k ≡ a + k + 1 = omega arith in
    rw at (omega (arith, rest, last, next))

-- while one task is at work, one unit at least is done at each step
done_task : (longs starts : List ℕ) (x k : ℕ) → x < length longs → k ≤ get_or longs x 0 →
    done longs starts (get_or starts x 0) + k ≤ done longs starts (get_or starts x 0 + k)
done_task longs starts x zero inside le = let at : get_or starts x 0 + 0 ≡ get_or starts x 0 = omega arith in rw at (omega arith)
done_task longs starts x (suc k) inside le =
    let rest = done_task longs starts x k inside (omega arith) in
    let one = unit_runs (get_or starts x 0) (get_or longs x 0) (get_or starts x 0 + k) (omega arith) (omega arith) in
    let some = total_one_of (λ i. unit (get_or starts i 0) (get_or longs i 0) (get_or starts x 0 + k)) (length longs) x inside in
    let next = done_next longs starts (get_or starts x 0 + k) in
    let at : get_or starts x 0 + suc k ≡ get_or starts x 0 + k + 1 = omega arith in
    rw at (omega (arith, rest, one, some, next))

le_trans : {a b c : ℕ} → a ≤ b → b ≤ c → a ≤ c
le_trans h k = omega arith

sums : (p r g s d acc w0 w1 w2 : ℕ) → r + g ≡ s → (p + 1) * r ≤ w0 + p * acc → w0 + (p + 1) * g ≤ w1 → w1 + d ≤ w2 →
    (p + 1) * (s + d) ≤ w2 + p * (acc + d)
sums p r g s d acc w0 w1 w2 at bound wait run = rw (← at) (omega arith)

-- with p + 1 slots: from the time r, by which all that x follows has ended, to the end of x
step_bound : (p : ℕ) (longs : List ℕ) (R : ℕ → ℕ → Type 0) (slots starts : List ℕ) (r acc x : ℕ) → IsByRule (p + 1) longs R slots starts → x < length longs →
    MayStart longs R starts x r → r ≤ get_or starts x 0 → (p + 1) * r ≤ done longs starts r + p * acc →
    (p + 1) * end_of longs starts x ≤ done longs starts (end_of longs starts x) + p * (acc + get_or longs x 0)
step_bound p longs R slots starts r acc x rule inside ended before bound =
    let at : r + (get_or starts x 0 - r) ≡ get_or starts x 0 = omega arith in
    let wait = done_full (p + 1) longs slots starts r (get_or starts x 0 - r) (λ t l h. rule.at_once x t inside (omega arith) (λ i is. le_trans (ended i is) l)) in
    let run = done_task longs starts x (get_or longs x 0) inside (omega arith) in
    let wait2 = rw at at wait in
    sums p r (get_or starts x 0 - r) (get_or starts x 0) (get_or longs x 0) acc (done longs starts r) (done longs starts (get_or starts x 0)) (done longs starts (end_of longs starts x)) at bound wait2 run

-- each task that is followed is one, and comes before those that follow it
pub record Rises (R : ℕ → ℕ → Type 0) (n : ℕ) : Type 0 where
  pub less : (i j : ℕ) → R i j → i < j
  pub inside : (i j : ℕ) → R i j → j < n

no_later : (longs starts : List ℕ) (i b : ℕ) → EndsNoLater longs starts i b → end_of longs starts i ≤ end_of longs starts b
no_later longs starts i b (inl l) = omega arith
no_later longs starts i b (inr e) = omega (arith, e.0)

-- the bound along a chain, told from its back
chain_bound : (p : ℕ) (longs : List ℕ) (R : ℕ → ℕ → Type 0) (slots starts : List ℕ) (j : ℕ) (rest : List ℕ) → Rises R (length longs) →
    IsByRule (p + 1) longs R slots starts → j < length longs → GoesBack longs R starts (j ∷ rest) →
    (p + 1) * end_of longs starts j ≤ done longs starts (end_of longs starts j) + p * length_of longs (j ∷ rest)
chain_bound p longs R slots starts j [] rises rule inside free =
    let one = step_bound p longs R slots starts 0 0 j rule inside (λ i is. absurd (free i is)) (omega arith) (omega arith) in
    let size = sum_by-cons (λ k. get_or longs k 0) j [] in
    omega (arith, one, size)
chain_bound p longs R slots starts j (b ∷ rest) rises rule inside (latest, back) =
    let earlier = chain_bound p longs R slots starts b rest rises rule (omega (arith, rises.less b j latest.one)) back in
    let one = step_bound p longs R slots starts (end_of longs starts b) (length_of longs (b ∷ rest)) j rule inside
    (λ i is. no_later longs starts i b (latest.latest i is)) (rule.legal.ordered b j latest.one) earlier in
    let size = sum_by-cons (λ k. get_or longs k 0) j (b ∷ rest) in
    let turned : length_of longs (b ∷ rest) + get_or longs j 0 ≡ length_of longs (j ∷ (b ∷ rest)) = omega (arith, size) in
    rw (← turned) one

last_is : (longs starts : List ℕ) (end j : ℕ) → IsLastEnd longs starts end → j < length longs → ((i : ℕ) → i < length longs → EndsNoLater longs starts i j) → end_of longs starts j ≡ end
last_is longs starts end j is inside last = elim is.reached [
  | inl none ↦ absurd (omega (arith, none.0))
  | inr (k, l, at) ↦ omega (arith, at, is.by j inside, no_later longs starts k j (last k l))
]

bounded : (p : ℕ) (longs : List ℕ) (R : ℕ → ℕ → Type 0) (slots starts : List ℕ) (end : ℕ) (chain : List ℕ) → Rises R (length longs) →
    IsByRule (p + 1) longs R slots starts → IsLastEnd longs starts end → IsChainBack longs R starts chain →
    (p + 1) * end ≤ total_of (λ k. get_or longs k 0) (length longs) + p * length_of longs chain
bounded p longs R slots starts end [] rises rule is chain = elim is.reached [
  | inl none ↦ rw none.1 (omega arith)
  | inr (k, l, at) ↦ absurd (omega (arith, chain.last))
]
bounded p longs R slots starts end (j ∷ rest) rises rule is chain =
    let (inside, last) = chain.last in
    let at = last_is longs starts end j is inside last in
    let all = work_end (λ k. get_or starts k 0) (λ k. get_or longs k 0) (length longs) end is.by in
    let bound = chain_bound p longs R slots starts j rest rises rule inside chain.back in
    let here = rw at at bound in
    omega (arith, all, here)

pub planned : (m : ℕ) (longs : List ℕ) (R : ℕ → ℕ → Type 0) (slots starts : List ℕ) (end : ℕ) (chain : List ℕ) → 1 ≤ m → Rises R (length longs) →
    IsByRule m longs R slots starts → IsLastEnd longs starts end → IsChainBack longs R starts chain →
    m * end ≤ sum longs + (m - 1) * length_of longs chain
planned zero longs R slots starts end chain some rises rule is back = absurd (omega arith)
planned (suc p) longs R slots starts end chain some rises rule is back =
    let at : suc p ≡ p + 1 = omega arith in
    let less : suc p - 1 ≡ p = omega arith in
    let bound = bounded p longs R slots starts end chain rises (rw at at rule) is back in
    rw (less, at) (omega (arith, sum_is_total longs, bound))

-- ---- every legal schedule

apart_rests : (s d r e t : ℕ) → (s + d ≤ r) ⊎ (r + e ≤ s) → (unit s d t ≡ 0) ⊎ (unit r e t ≡ 0)
apart_rests s d r e t (inl h) = elim (cases_lt t r) [ inl a ↦ inr (unit_rests r e t (inl a)) | inr a ↦ inl (unit_rests s d t (inr (omega arith))) ]
apart_rests s d r e t (inr h) = elim (cases_lt t s) [ inl a ↦ inl (unit_rests s d t (inl a)) | inr a ↦ inr (unit_rests r e t (inr (omega arith))) ]

-- no legal schedule does more than m units at a step
legal_working : (m : ℕ) (longs : List ℕ) (R : ℕ → ℕ → Type 0) (slots starts : List ℕ) (t : ℕ) → IsLegal m longs R slots starts → working longs starts t ≤ m
legal_working m longs R slots starts t legal =
    legal_busy (λ k. get_or slots k 0) (λ k. unit (get_or starts k 0) (get_or longs k 0) t) (length longs) m
    (λ k l. unit_small (get_or starts k 0) (get_or longs k 0) t) legal.on_slot
    (λ i j l h is. apart_rests (get_or starts i 0) (get_or longs i 0) (get_or starts j 0) (get_or longs j 0) t (legal.apart i j l h is))

legal_done : (m : ℕ) (longs : List ℕ) (R : ℕ → ℕ → Type 0) (slots starts : List ℕ) (t : ℕ) → IsLegal m longs R slots starts → done longs starts t ≤ m * t
legal_done m longs R slots starts zero legal = omega (arith, work_start (λ k. get_or starts k 0) (λ k. get_or longs k 0) (length longs))
legal_done m longs R slots starts (suc t) legal =
    let next = done_next longs starts t in
    let at : suc t ≡ t + 1 = omega arith in
    rw at (omega (arith, next, legal_working m longs R slots starts t legal, legal_done m longs R slots starts t legal))

-- the work fits
pub work_least : (m : ℕ) (longs : List ℕ) (R : ℕ → ℕ → Type 0) (slots starts : List ℕ) (end : ℕ) → IsLegal m longs R slots starts → EndsBy longs starts end → sum longs ≤ m * end
work_least m longs R slots starts end legal ends =
    omega (arith, sum_is_total longs, work_end (λ k. get_or starts k 0) (λ k. get_or longs k 0) (length longs) end ends, legal_done m longs R slots starts end legal)

-- and so does a chain, whatever schedule it was found by
chain_runs : (m : ℕ) (longs : List ℕ) (R : ℕ → ℕ → Type 0) (by slots starts : List ℕ) (j : ℕ) (rest : List ℕ) → IsLegal m longs R slots starts →
    GoesBack longs R by (j ∷ rest) → length_of longs (j ∷ rest) ≤ end_of longs starts j
chain_runs m longs R by slots starts j [] legal free = omega (arith, sum_by-cons (λ k. get_or longs k 0) j [])
chain_runs m longs R by slots starts j (b ∷ rest) legal (latest, back) =
    omega (arith, sum_by-cons (λ k. get_or longs k 0) j (b ∷ rest), chain_runs m longs R by slots starts b rest legal back, legal.ordered b j latest.one)

pub chain_least : (m : ℕ) (longs : List ℕ) (R : ℕ → ℕ → Type 0) (by slots starts : List ℕ) (end : ℕ) (chain : List ℕ) → IsLegal m longs R slots starts → EndsBy longs starts end →
    IsChainBack longs R by chain → length_of longs chain ≤ end
chain_least m longs R by slots starts end [] legal ends chain = omega arith
chain_least m longs R by slots starts end (j ∷ rest) legal ends chain =
    omega (arith, chain_runs m longs R by slots starts j rest legal chain.back, ends j chain.last.0)

-- ---- the chain from its front

chain_onto : (longs : List ℕ) (R : ℕ → ℕ → Type 0) (by : List ℕ) (j : ℕ) (rest front : List ℕ) → Rises R (length longs) → j < length longs →
    GoesBack longs R by (j ∷ rest) → IsChain R (length longs) (j ∷ front) → IsChain R (length longs) (reverse (j ∷ rest) ++ front)
chain_onto longs R by j [] front rises inside free is = is
chain_onto longs R by j (b ∷ rest) front rises inside (latest, back) is =
    let low : b < length longs = omega (arith, rises.less b j latest.one) in
    let more = chain_onto longs R by b rest (j ∷ front) rises low back (low, latest.one, is) in
    let turned : reverse (j ∷ (b ∷ rest)) ++ front ≡ reverse (b ∷ rest) ++ (j ∷ front) =
    ap (λ (xs : List ℕ). xs ++ front) (reverse-append (j ∷ []) (b ∷ rest)) ∙ append_assoc (reverse (b ∷ rest)) (j ∷ []) front in
    subst (IsChain R (length longs)) (sym turned) more

pub back_is_chain : (longs : List ℕ) (R : ℕ → ℕ → Type 0) (by chain : List ℕ) → Rises R (length longs) → IsChainBack longs R by chain → IsChain R (length longs) (reverse chain)
back_is_chain longs R by [] rises is = tt
back_is_chain longs R by (j ∷ rest) rises is =
    let all = chain_onto longs R by j rest [] rises is.last.0 is.back is.last.0 in
    subst (IsChain R (length longs)) (append_nil (reverse (j ∷ rest))) all
  where
    append_nil : (xs : List ℕ) → xs ++ [] ≡ xs
    append_nil [] = refl
    append_nil (x ∷ xs) = ap (λ (ys : List ℕ). x ∷ ys) (append_nil xs)
