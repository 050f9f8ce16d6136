-- A task that waits for its producers, one after the other.
use Rattle.std.proofs.Common.{◌≡◌, ℕ, zero, suc, ◌+◌, ◌<◌, Bool, true, false, List, [], ◌∷◌, ◌++◌, length, take, drop, get_or, refl, sym, ap, ◌∙◌, arith, if◌then◌else◌, drop-cons}
use Rattle.std.specs.Prelude.{◌==◌, nat_lt}
use Rattle.std.proofs.lemmas.List.{take_more}
use Rattle.gs_graph.specs.Edges.{ends, all_below}
use Rattle.gs_graph.proofs.Lists.{both, and_true}

ends_push : (n q : ℕ) (ps xs : List ℕ) → ends n q ps (xs ++ n ∷ []) ≡ ends n q ps xs ++ n ∷ []
ends_push n q [] xs = refl
ends_push n q (p ∷ ps) xs = here (p == q) (λ ys. ends_push n q ps ys)
  where
    here : (t : Bool) → ((ys : List ℕ) → ends n q ps (ys ++ n ∷ []) ≡ ends n q ps ys ++ n ∷ [])
        → ends n q ps (if t then (xs ++ n ∷ []) ++ n ∷ [] else xs ++ n ∷ []) ≡ ends n q ps (if t then xs ++ n ∷ [] else xs) ++ n ∷ []
    here true on = on (xs ++ n ∷ [])
    here false on = on xs

-- behind the first producer
ends_first : (n q p : ℕ) (ps xs : List ℕ) → ends n q (p ∷ ps) xs ≡ (if p == q then ends n q ps xs ++ n ∷ [] else ends n q ps xs)
ends_first n q p ps xs = here (p == q)
  where
    here : (t : Bool) → ends n q ps (if t then xs ++ n ∷ [] else xs) ≡ (if t then ends n q ps xs ++ n ∷ [] else ends n q ps xs)
    here true = ends_push n q ps xs
    here false = refl

-- the last producer
ends_last : (n q p : ℕ) (ps xs : List ℕ) → ends n q (ps ++ p ∷ []) xs ≡ (if p == q then ends n q ps xs ++ n ∷ [] else ends n q ps xs)
ends_last n q p [] xs = refl
ends_last n q p (x ∷ ps) xs = ends_last n q p ps (if x == q then xs ++ n ∷ [] else xs)

pub ends_more : (n q : ℕ) (ps xs ys : List ℕ) (i d : ℕ) → i < length ps → ys ≡ ends n q (take i ps) xs → (if get_or ps i d == q then ys ++ n ∷ [] else ys) ≡ ends n q (take (i + 1) ps) xs
ends_more n q ps xs ys i d lt is =
    ap (λ (zs : List ℕ). if get_or ps i d == q then zs ++ n ∷ [] else zs) is
    ∙ sym (ends_last n q (get_or ps i d) (take i ps) xs) ∙ ap (λ (vs : List ℕ). ends n q vs xs) (sym (take_more ps i d lt))

pub ends_less : (n q : ℕ) (ps xs ys : List ℕ) (i d : ℕ) → i < length ps → ys ≡ ends n q (drop i ps) xs → ys ≡ (if get_or ps i d == q then ends n q (drop (i + 1) ps) xs ++ n ∷ [] else ends n q (drop (i + 1) ps) xs)
ends_less n q ps xs ys i d lt is =
    let next : i + 1 ≡ suc i = omega arith in
    is ∙ ap (λ (vs : List ℕ). ends n q vs xs) (drop-cons ps i d lt) ∙ ends_first n q (get_or ps i d) (drop (suc i) ps) xs
    ∙ ap (λ (k : ℕ). if get_or ps i d == q then ends n q (drop k ps) xs ++ n ∷ [] else ends n q (drop k ps) xs) (sym next)

pub below_take : (n i : ℕ) (xs : List ℕ) → all_below n xs ≡ true → all_below n (take i xs) ≡ true
below_take n zero xs e = none xs
  where
    none : (xs : List ℕ) → all_below n (take 0 xs) ≡ true
    none [] = refl
    none (x ∷ xs) = refl
below_take n (suc i) [] e = refl
below_take n (suc i) (x ∷ xs) e = let p = both (nat_lt x n) (all_below n xs) e in and_true (nat_lt x n) (all_below n (take i xs)) p.0 (below_take n i xs p.1)
