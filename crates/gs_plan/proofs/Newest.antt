-- Actions newest first: one more is one in front.
use Rattle.std.proofs.Common.{◌≡◌, ℕ, zero, suc, ◌+◌, ◌<◌, ◌≤◌, List, [], ◌∷◌, ◌++◌, length, take, drop, get_or, reverse, refl, sym, ap, subst, ◌∙◌, arith}
use Rattle.std.proofs.lemmas.List.{reverse-append, take-append-drop}
use Rattle.gs_types.specs.declared.action.Action.{Action}
use Rattle.gs_types.specs.declared.action.Action.TheVariants as act
use Rattle.gs_plan.specs.Actions.{calls_in}
use Rattle.gs_plan.specs.Fits.{IsInPlace, AreInPlace}
use Rattle.gs_plan.specs.Scan.{IsNumbered, AreNumbered}

one_more : (xs : List Action) (i : ℕ) (d : Action) → i < length xs → take (i + 1) xs ≡ take i xs ++ get_or xs i d ∷ []
one_more [] i d lt = absurd (omega arith)
one_more (x ∷ xs) zero d lt = refl
one_more (x ∷ xs) (suc i) d lt =
    let e : suc i + 1 ≡ suc (i + 1) = omega arith in
    ap (λ (n : ℕ). take n (x ∷ xs)) e ∙ ap (λ (ys : List Action). x ∷ ys) (one_more xs i d (omega arith))

pub newest_more : (xs : List Action) (i : ℕ) (d : Action) → i < length xs → reverse (take (i + 1) xs) ≡ get_or xs i d ∷ reverse (take i xs)
newest_more xs i d lt = ap (λ (ys : List Action). reverse ys) (one_more xs i d lt) ∙ reverse-append (take i xs) (get_or xs i d ∷ [])

in_place_behind : (ops : ℕ) (xs ys : List Action) → AreInPlace ops (xs ++ ys) → AreInPlace ops ys
in_place_behind ops [] ys all = all
in_place_behind ops (x ∷ xs) ys all = in_place_behind ops xs ys all.1

-- what comes first is in place
pub in_place_first : (ops : ℕ) (xs : List Action) (i : ℕ) → AreInPlace ops (reverse xs) → AreInPlace ops (reverse (take i xs))
in_place_first ops xs i all =
    let parts : reverse xs ≡ reverse (drop i xs) ++ reverse (take i xs) =
    ap (λ (ys : List Action). reverse ys) (sym (take-append-drop i xs)) ∙ reverse-append (take i xs) (drop i xs) in
    in_place_behind ops (reverse (drop i xs)) (reverse (take i xs)) (subst (AreInPlace ops) parts all)

-- and so is each
pub in_place_at : (ops : ℕ) (xs : List Action) (i : ℕ) (d : Action) → i < length xs → AreInPlace ops (reverse xs) → IsInPlace ops (calls_in (reverse (take i xs))) (get_or xs i d)
in_place_at ops xs i d lt all = (subst (AreInPlace ops) (newest_more xs i d lt) (in_place_first ops xs (i + 1) all)).0

-- ---- numbers

numbered_here : (ops calls : ℕ) (a : Action) → IsInPlace ops calls a → IsNumbered calls a
numbered_here ops calls (act.Call n op r w) h = h.0
numbered_here ops calls (act.Use n place) h = h
numbered_here ops calls (act.Result n) h = h
numbered_here ops calls (act.Read name) h = tt
numbered_here ops calls (act.Write name) h = tt
numbered_here ops calls act.Barrier h = tt
numbered_here ops calls act.End h = tt

pub in_place_numbered : (ops : ℕ) (xs : List Action) → AreInPlace ops xs → AreNumbered xs
in_place_numbered ops [] all = tt
in_place_numbered ops (a ∷ earlier) all = (numbered_here ops (calls_in earlier) a all.0, in_place_numbered ops earlier all.1)

numbered_behind : (xs ys : List Action) → AreNumbered (xs ++ ys) → AreNumbered ys
numbered_behind [] ys all = all
numbered_behind (x ∷ xs) ys all = numbered_behind xs ys all.1

calls_behind : (xs ys : List Action) → calls_in ys ≤ calls_in (xs ++ ys)
calls_behind [] ys = omega arith
calls_behind (x ∷ xs) ys = let r = calls_behind xs ys in omega arith

first_part : (xs : List Action) (i : ℕ) → reverse xs ≡ reverse (drop i xs) ++ reverse (take i xs)
first_part xs i = ap (λ (ys : List Action). reverse ys) (sym (take-append-drop i xs)) ∙ reverse-append (take i xs) (drop i xs)

pub numbered_first : (xs : List Action) (i : ℕ) → AreNumbered (reverse xs) → AreNumbered (reverse (take i xs))
numbered_first xs i all = numbered_behind (reverse (drop i xs)) (reverse (take i xs)) (subst AreNumbered (first_part xs i) all)

pub calls_first : (xs : List Action) (i : ℕ) → calls_in (reverse (take i xs)) ≤ calls_in (reverse xs)
calls_first xs i = let b = calls_behind (reverse (drop i xs)) (reverse (take i xs)) in let e = ap calls_in (first_part xs i) in omega arith

-- the next action, once it is known
pub next_action : (xs : List Action) (i : ℕ) (item a : Action) → i < length xs → item ≡ get_or xs i item → item ≡ a → reverse (take (i + 1) xs) ≡ a ∷ reverse (take i xs)
next_action xs i item a lt is known = newest_more xs i item lt ∙ ap (λ (y : Action). y ∷ reverse (take i xs)) (sym is ∙ known)

pub numbered_next : (xs : List Action) (i : ℕ) (item a : Action) → i < length xs → item ≡ get_or xs i item → item ≡ a → AreNumbered (reverse xs) → IsNumbered (calls_in (reverse (take i xs))) a
numbered_next xs i item a lt is known all = (subst AreNumbered (next_action xs i item a lt is known) (numbered_first xs (i + 1) all)).0
