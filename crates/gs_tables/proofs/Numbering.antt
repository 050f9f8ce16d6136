-- Names keep their numbers, and so actions stay mades they are recorded.
use Rattle.std.proofs.Common.{◌≡◌, ℕ, zero, suc, Bool, true, false, refl, sym, ap, ◌∙◌, subst, List, [], ◌∷◌, ◌++◌, Option, Some, None, if◌then◌else◌}
use Rattle.std.specs.Prelude.{bytes_eq}
use Rattle.std.specs.List.{slice_get, list_any}
use Rattle.gs_types.specs.declared.action.Action.{Action}
use Rattle.gs_types.specs.declared.action.Action.TheVariants as made
use Rattle.gs_names.specs.Writes.{with_name}
use Rattle.gs_talk.specs.Actions.{Act, Call, Use, Read, Write, Barrier, Ends}
use Rattle.gs_tables.specs.Marks.{with_names, named_by, named_from, names_of, AreNumbers, IsMade, AreMade}

get_first : (xs : List (List ℕ)) (i : ℕ) (x y : List ℕ) → slice_get xs i ≡ Some x → slice_get (xs ++ y ∷ []) i ≡ Some x
get_first [] i x y e = absurd cc
get_first (z ∷ xs) zero x y e = e
get_first (z ∷ xs) (suc i) x y e = get_first xs i x y e

stays_one : (names : List (List ℕ)) (y : List ℕ) (i : ℕ) (x : List ℕ) → slice_get names i ≡ Some x → slice_get (with_name names y) i ≡ Some x
stays_one names y i x e = of_test (list_any (bytes_eq y) names)
  where
    of_test : (b : Bool) → slice_get (if b then names else names ++ y ∷ []) i ≡ Some x
    of_test true = e
    of_test false = get_first names i x y e

pub stays : (more names : List (List ℕ)) (i : ℕ) (x : List ℕ) → slice_get names i ≡ Some x → slice_get (with_names names more) i ≡ Some x
stays [] names i x e = e
stays (y ∷ more) names i x e = stays more (with_name names y) i x (stays_one names y i x e)

pub with_both : (xs names ys : List (List ℕ)) → with_names (with_names names xs) ys ≡ with_names names (xs ++ ys)
with_both [] names ys = refl
with_both (x ∷ xs) names ys = with_both xs (with_name names x) ys

-- ---- numbers

pub numbers_stay : (more names : List (List ℕ)) (is : List ℕ) (xs : List (List ℕ)) → AreNumbers names is xs → AreNumbers (with_names names more) is xs
numbers_stay more names [] [] are = tt
numbers_stay more names [] (x ∷ xs) are = are
numbers_stay more names (i ∷ is) [] are = are
numbers_stay more names (i ∷ is) (x ∷ xs) are = (stays more names i x are.0, numbers_stay more names is xs are.1)

pub numbers_then : (names : List (List ℕ)) (is js : List ℕ) (xs ys : List (List ℕ)) → AreNumbers names is xs → AreNumbers names js ys → AreNumbers names (is ++ js) (xs ++ ys)
numbers_then names [] js [] ys are more = more
numbers_then names [] js (x ∷ xs) ys are more = absurd are
numbers_then names (i ∷ is) js [] ys are more = absurd are
numbers_then names (i ∷ is) js (x ∷ xs) ys are more = (are.0, numbers_then names is js xs ys are.1 more)

-- ---- actions

one_stays : (more names : List (List ℕ)) (a : Action) (x : Act) → IsMade names a x → IsMade (with_names names more) a x
one_stays more names (made.Call n op reads writes) (Call m o rs ws) is = (is.0, is.1, numbers_stay more names reads rs is.2, numbers_stay more names writes ws is.3)
one_stays more names (made.Call n op reads writes) (Use m at) is = absurd is
one_stays more names (made.Call n op reads writes) (Read y) is = absurd is
one_stays more names (made.Call n op reads writes) (Write y) is = absurd is
one_stays more names (made.Call n op reads writes) Barrier is = absurd is
one_stays more names (made.Call n op reads writes) Ends is = absurd is
one_stays more names (made.Use n place) (Use m at) is = is
one_stays more names (made.Use n place) (Call m o rs ws) is = absurd is
one_stays more names (made.Use n place) (Read y) is = absurd is
one_stays more names (made.Use n place) (Write y) is = absurd is
one_stays more names (made.Use n place) Barrier is = absurd is
one_stays more names (made.Use n place) Ends is = absurd is
one_stays more names (made.Result n) x is = absurd (no_result x is)
  where
    no_result : (x : Act) → IsMade names (made.Result n) x → ⊥
    no_result (Call m o rs ws) is = is
    no_result (Use m at) is = is
    no_result (Read y) is = is
    no_result (Write y) is = is
    no_result Barrier is = is
    no_result Ends is = is
one_stays more names (made.Read i) (Read x) is = stays more names i x is
one_stays more names (made.Read i) (Call m o rs ws) is = absurd is
one_stays more names (made.Read i) (Use m at) is = absurd is
one_stays more names (made.Read i) (Write y) is = absurd is
one_stays more names (made.Read i) Barrier is = absurd is
one_stays more names (made.Read i) Ends is = absurd is
one_stays more names (made.Write i) (Write x) is = stays more names i x is
one_stays more names (made.Write i) (Call m o rs ws) is = absurd is
one_stays more names (made.Write i) (Use m at) is = absurd is
one_stays more names (made.Write i) (Read y) is = absurd is
one_stays more names (made.Write i) Barrier is = absurd is
one_stays more names (made.Write i) Ends is = absurd is
one_stays more names made.Barrier Barrier is = tt
one_stays more names made.Barrier (Call m o rs ws) is = absurd is
one_stays more names made.Barrier (Use m at) is = absurd is
one_stays more names made.Barrier (Read y) is = absurd is
one_stays more names made.Barrier (Write y) is = absurd is
one_stays more names made.Barrier Ends is = absurd is
one_stays more names made.End Ends is = tt
one_stays more names made.End (Call m o rs ws) is = absurd is
one_stays more names made.End (Use m at) is = absurd is
one_stays more names made.End (Read y) is = absurd is
one_stays more names made.End (Write y) is = absurd is
one_stays more names made.End Barrier is = absurd is

pub made_stay : (more names : List (List ℕ)) (mades : List Action) (xs : List Act) → AreMade names mades xs → AreMade (with_names names more) mades xs
made_stay more names [] [] are = tt
made_stay more names [] (x ∷ xs) are = absurd are
made_stay more names (a ∷ mades) [] are = absurd are
made_stay more names (a ∷ mades) (x ∷ xs) are = (one_stays more names a x are.0, made_stay more names mades xs are.1)

pub made_then : (names : List (List ℕ)) (mades : List Action) (xs : List Act) (a : Action) (x : Act) → AreMade names mades xs → IsMade names a x → AreMade names (mades ++ a ∷ []) (xs ++ x ∷ [])
made_then names [] [] a x are is = (is, tt)
made_then names [] (y ∷ xs) a x are is = absurd are
made_then names (b ∷ mades) [] a x are is = absurd are
made_then names (b ∷ mades) (y ∷ xs) a x are is = (are.0, made_then names mades xs a x are.1 is)

-- ---- the names of the actions

named_then : (names : List (List ℕ)) (xs : List Act) (x : Act) → named_from names (xs ++ x ∷ []) ≡ with_names (named_from names xs) (named_by x)
named_then names [] x = refl
named_then names (y ∷ xs) x = named_then (with_names names (named_by y)) xs x

pub names_then : (xs : List Act) (x : Act) → names_of (xs ++ x ∷ []) ≡ with_names (names_of xs) (named_by x)
names_then xs x = named_then [] xs x
