-- Lists of a plan.
use Rattle.std.proofs.Common.{◌≡◌, ℕ, zero, suc, ◌+◌, ◌-◌, ◌<◌, ◌≤◌, inl, inr, List, [], ◌∷◌, ◌++◌, length, get_or, take, map, reverse, refl, ap, subst, ◌∙◌, arith, length-append}
use Rattle.std.proofs.lemmas.List.{take_more, get_or-reverse, reverse-append}
use Rattle.gs_types.specs.declared.action.Action.{Action}
use Rattle.gs_types.specs.declared.action.Action.TheVariants as act
use Rattle.gs_plan.specs.Actions.{task_of, counted, calls_in, IsNeeded, FollowsIn, precedes, long_of, longs_of}
use Rattle.gs_plan.specs.Fits.{IsInPlace, AreInPlace}
use Rattle.gs_plan.specs.Durations.{AreDurations}
use Rattle.gs_plan.specs.Scan.{AreNumbered}
use Rattle.gs_plan.specs.Schedule.{EndsNoLater, GoesBack, IsChainBack}
use Rattle.gs_plan.proofs.Bound.{Rises}
use Rattle.gs_plan.proofs.Newest.{in_place_numbered}
use Rattle.gs_plan.proofs.Scanning.{numbered_call, writer_called}

-- ---- numbers

map_push : (f : ℕ → ℕ) (xs : List ℕ) (x : ℕ) → map f (xs ++ x ∷ []) ≡ map f xs ++ f x ∷ []
map_push f [] x = refl
map_push f (y ∷ ys) x = ap (λ (zs : List ℕ). f y ∷ zs) (map_push f ys x)

length_reverse : (xs : List ℕ) → length (reverse xs) ≡ length xs
length_reverse [] = refl
length_reverse (x ∷ xs) =
    let e = ap (λ (ys : List ℕ). length ys) (reverse-append (x ∷ []) xs) in
    let l = length-append (reverse xs) (x ∷ []) in
    let r = length_reverse xs in omega arith

pub numbers_more : (back : List ℕ) (i : ℕ) → i < length back → map suc (take (i + 1) (reverse back)) ≡ map suc (take i (reverse back)) ++ (get_or back (length back - 1 - i) 0 + 1) ∷ []
numbers_more back i l =
    let inside : i < length (reverse back) = omega (arith, length_reverse back) in
    let one : suc (get_or back (length back - 1 - i) 0) ≡ get_or back (length back - 1 - i) 0 + 1 = omega arith in
    ap (λ (xs : List ℕ). map suc xs) (take_more (reverse back) i 0 inside)
    ∙ map_push suc (take i (reverse back)) (get_or (reverse back) i 0)
    ∙ ap (λ (x : ℕ). map suc (take i (reverse back)) ++ x ∷ []) (ap suc (get_or-reverse back i 0 l) ∙ one)

-- ---- durations

calls_append : (xs ys : List Action) → calls_in (xs ++ ys) ≡ calls_in xs + calls_in ys
calls_append [] ys = omega arith
calls_append (x ∷ xs) ys = let r = calls_append xs ys in omega arith

one_long : (durations : List ℕ) (a : Action) → length (long_of durations a) ≡ counted (task_of a)
one_long durations (act.Call n op r w) = refl
one_long durations (act.Use n place) = refl
one_long durations (act.Result n) = refl
one_long durations (act.Read name) = refl
one_long durations (act.Write name) = refl
one_long durations act.Barrier = refl
one_long durations act.End = refl

pub length_longs : (durations : List ℕ) (actions : List Action) → length (longs_of durations actions) ≡ calls_in (reverse actions)
length_longs durations [] = refl
length_longs durations (a ∷ later) =
    let e = ap calls_in (reverse-append (a ∷ []) later) in
    let c = calls_append (reverse later) (a ∷ []) in
    let r = length_longs durations later in
    let l = length-append (long_of durations a) (longs_of durations later) in
    let o = one_long durations a in omega arith

in_place_last : (ops : ℕ) (xs : List Action) (a : Action) → AreInPlace ops (xs ++ a ∷ []) → IsInPlace ops 0 a
in_place_last ops [] a all = all.0
in_place_last ops (x ∷ xs) a all = in_place_last ops xs a all.1

-- each operation that is called is one
OpsWithin : ℕ → List Action → Type 0
OpsWithin ops [] = Unit {0}
OpsWithin ops (act.Call n op r w ∷ more) = (op < ops) × OpsWithin ops more
OpsWithin ops (act.Use n place ∷ more) = OpsWithin ops more
OpsWithin ops (act.Result n ∷ more) = OpsWithin ops more
OpsWithin ops (act.Read name ∷ more) = OpsWithin ops more
OpsWithin ops (act.Write name ∷ more) = OpsWithin ops more
OpsWithin ops (act.Barrier ∷ more) = OpsWithin ops more
OpsWithin ops (act.End ∷ more) = OpsWithin ops more

ops_within : (ops : ℕ) (xs : List Action) → AreInPlace ops xs → OpsWithin ops xs
unfolding OpsWithin
ops_within ops [] all = tt
ops_within ops (act.Call n op r w ∷ more) all = (all.0.1, ops_within ops more all.1)
ops_within ops (act.Use n place ∷ more) all = ops_within ops more all.1
ops_within ops (act.Result n ∷ more) all = ops_within ops more all.1
ops_within ops (act.Read name ∷ more) all = ops_within ops more all.1
ops_within ops (act.Write name ∷ more) all = ops_within ops more all.1
ops_within ops (act.Barrier ∷ more) all = ops_within ops more all.1
ops_within ops (act.End ∷ more) all = ops_within ops more all.1

ops_last : (ops : ℕ) (xs : List Action) (a : Action) → OpsWithin ops (xs ++ a ∷ []) → OpsWithin ops (a ∷ []) × OpsWithin ops xs
unfolding OpsWithin
ops_last ops [] a all = (all, tt)
ops_last ops (act.Call n op r w ∷ more) a all = let h = ops_last ops more a all.1 in (h.0, (all.0, h.1))
ops_last ops (act.Use n place ∷ more) a all = ops_last ops more a all
ops_last ops (act.Result n ∷ more) a all = ops_last ops more a all
ops_last ops (act.Read name ∷ more) a all = ops_last ops more a all
ops_last ops (act.Write name ∷ more) a all = ops_last ops more a all
ops_last ops (act.Barrier ∷ more) a all = ops_last ops more a all
ops_last ops (act.End ∷ more) a all = ops_last ops more a all

IsLong : ℕ → Type 0
IsLong d = (1 ≤ d) × (d ≤ 1000000)

longs_each : (durations : List ℕ) (actions : List Action) (k : ℕ) → AreDurations (length durations) durations → OpsWithin (length durations) (reverse actions) →
    k < length (longs_of durations actions) → IsLong (get_or (longs_of durations actions) k 0)
unfolding OpsWithin IsLong
longs_each durations [] k long ops l = absurd (omega arith)
longs_each durations (a ∷ later) k long ops l =
    let parts = ops_last (length durations) (reverse later) a (subst (OpsWithin (length durations)) (reverse-append (a ∷ []) later) ops) in
    here a parts.0 k l (λ q m. longs_each durations later q long parts.1 m)
  where
    here : (b : Action) → OpsWithin (length durations) (b ∷ []) → (q : ℕ) → q < length (longs_of durations (b ∷ later)) →
        ((p : ℕ) → p < length (longs_of durations later) → IsLong (get_or (longs_of durations later) p 0)) → IsLong (get_or (longs_of durations (b ∷ later)) q 0)
    here (act.Call n op r w) within zero m rest = long.each op within.0
    here (act.Call n op r w) within (suc q) m rest = rest q (omega arith)
    here (act.Use n place) within q m rest = rest q m
    here (act.Result n) within q m rest = rest q m
    here (act.Read name) within q m rest = rest q m
    here (act.Write name) within q m rest = rest q m
    here act.Barrier within q m rest = rest q m
    here act.End within q m rest = rest q m

pub longs_are : (durations : List ℕ) (actions : List Action) → AreDurations (length durations) durations → AreInPlace (length durations) (reverse actions) →
    AreDurations (length (longs_of durations actions)) (longs_of durations actions)
unfolding IsLong
longs_are durations actions long all = record {
  count = refl;
  each = λ k l. longs_each durations actions k long (ops_within (length durations) (reverse actions) all) l;
}

-- ---- what follows is later

needed_called : (earlier : List Action) (n : ℕ) → AreNumbered earlier → IsNeeded earlier n → n ≤ calls_in earlier
needed_called [] n all is = absurd is
needed_called (a ∷ earlier) n all (inr before) = let r = needed_called earlier n all.1 before in omega arith
needed_called (act.Call k op r w ∷ earlier) n all (inl is) = absurd is
needed_called (act.Use k place ∷ earlier) n all (inl is) = let h = all.0 in omega (arith, h.1)
needed_called (act.Result k ∷ earlier) n all (inl is) = let h = all.0 in omega (arith, h.1)
needed_called (act.Read name ∷ earlier) n all (inl is) = let h = numbered_call earlier n all.1 (writer_called earlier name n is) in omega (arith, h.1)
needed_called (act.Write name ∷ earlier) n all (inl is) = absurd is
needed_called (act.Barrier ∷ earlier) n all (inl is) = let h = numbered_call earlier n all.1 is in omega (arith, h.1)
needed_called (act.End ∷ earlier) n all (inl is) = let h = numbered_call earlier n all.1 is in omega (arith, h.1)

follows_later : (earlier : List Action) (m n : ℕ) → AreNumbered earlier → FollowsIn earlier m n → (n < m) × (m ≤ calls_in earlier)
follows_later [] m n all is = absurd is
follows_later (a ∷ earlier) m n all (inr before) = let r = follows_later earlier m n all.1 before in (r.0, omega (arith, r.1))
follows_later (act.Call k op r w ∷ earlier) m n all (inl (is, which)) =
    let number = all.0 in
    elim which [
      | inl depends ↦ let h = numbered_call earlier n all.1 (writer_called earlier depends.name n depends.writer) in (omega (arith, h.1, is, number), omega (arith, is, number))
      | inr needed ↦ let h = needed_called earlier n all.1 needed in (omega (arith, h, is, number), omega (arith, is, number))
    ]
follows_later (act.Use k place ∷ earlier) m n all (inl is) = absurd is
follows_later (act.Result k ∷ earlier) m n all (inl is) = absurd is
follows_later (act.Read name ∷ earlier) m n all (inl is) = absurd is
follows_later (act.Write name ∷ earlier) m n all (inl is) = absurd is
follows_later (act.Barrier ∷ earlier) m n all (inl is) = absurd is
follows_later (act.End ∷ earlier) m n all (inl is) = absurd is

pub precedes_rise : (ops : ℕ) (durations : List ℕ) (actions : List Action) → AreInPlace ops (reverse actions) → Rises (precedes actions) (length (longs_of durations actions))
precedes_rise ops durations actions all = record {
  less = λ i j is. omega (arith, (follows_later (reverse actions) (suc j) (suc i) (in_place_numbered ops (reverse actions) all) is).0);
  inside = λ i j is. omega (arith, (follows_later (reverse actions) (suc j) (suc i) (in_place_numbered ops (reverse actions) all) is).1, length_longs durations actions);
}

-- ---- one chain

one_latest : (longs starts : List ℕ) (a b : ℕ) → EndsNoLater longs starts a b → EndsNoLater longs starts b a → a ≡ b
one_latest longs starts a b (inl x) (inl y) = absurd (omega arith)
one_latest longs starts a b (inl x) (inr y) = absurd (omega (arith, y.0))
one_latest longs starts a b (inr x) (inl y) = absurd (omega (arith, x.0))
one_latest longs starts a b (inr x) (inr y) = omega (arith, x.1, y.1)

one_back : (longs : List ℕ) (R : ℕ → ℕ → Type 0) (starts : List ℕ) (j : ℕ) (xs ys : List ℕ) → GoesBack longs R starts (j ∷ xs) → GoesBack longs R starts (j ∷ ys) → xs ≡ ys
one_back longs R starts j [] [] a b = refl
one_back longs R starts j [] (y ∷ ys) a b = absurd (a y b.0.one)
one_back longs R starts j (x ∷ xs) [] a b = absurd (b x a.0.one)
one_back longs R starts j (x ∷ xs) (y ∷ ys) a b =
    let same : x ≡ y = one_latest longs starts x y (b.0.latest x a.0.one) (a.0.latest y b.0.one) in
    let P : ℕ → Type 0 = λ k. GoesBack longs R starts (k ∷ xs) in
    ap (λ (k : ℕ). k ∷ xs) same ∙ ap (λ (zs : List ℕ). y ∷ zs) (one_back longs R starts y xs ys (subst P same a.1) b.1)

pub one_chain : (longs : List ℕ) (R : ℕ → ℕ → Type 0) (starts xs ys : List ℕ) → IsChainBack longs R starts xs → IsChainBack longs R starts ys → xs ≡ ys
one_chain longs R starts [] [] a b = refl
one_chain longs R starts [] (y ∷ ys) a b = let n = b.last.0 in absurd (omega (arith, a.last))
one_chain longs R starts (x ∷ xs) [] a b = let n = a.last.0 in absurd (omega (arith, b.last))
one_chain longs R starts (x ∷ xs) (y ∷ ys) a b =
    let same : x ≡ y = one_latest longs starts x y (b.last.1 x a.last.0) (a.last.1 y b.last.0) in
    let P : ℕ → Type 0 = λ k. GoesBack longs R starts (k ∷ xs) in
    ap (λ (k : ℕ). k ∷ xs) same ∙ ap (λ (zs : List ℕ). y ∷ zs) (one_back longs R starts y xs ys (subst P same a.back) b.back)
