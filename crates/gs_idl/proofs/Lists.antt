-- Lists by index.
use Rattle.std.proofs.Common.{◌≡◌, ℕ, zero, suc, ◌<◌, Bool, true, false, ◌||◌, List, [], ◌∷◌, ◌++◌, length, Some, refl, ap, ◌∙◌, arith, inl, inr, ◌⊎◌}
use Rattle.std.specs.Prelude.{slice_get}
use Rattle.std.specs.List.{list_any}

-- an element of a list with one more is one of the list, or the one more
pub get_snoc : {A : Type 0} (xs : List A) (x y : A) (j : ℕ) → slice_get (xs ++ x ∷ []) j ≡ Some y → ((j < length xs) × (slice_get xs j ≡ Some y)) ⊎ ((j ≡ length xs) × (x ≡ y))
get_snoc [] x y zero e = inr (refl, cc)
get_snoc [] x y (suc j) e = absurd cc
get_snoc (z ∷ zs) x y zero e = inl (omega arith, e)
get_snoc (z ∷ zs) x y (suc j) e =
    elim (get_snoc zs x y j e) [ inl h ↦ inl (omega (arith, h.0), h.1) | inr h ↦ inr (omega (arith, h.0), h.1) ]

pub get_within : {A : Type 0} (xs : List A) (y : A) (j : ℕ) → slice_get xs j ≡ Some y → j < length xs
get_within [] y j e = absurd cc
get_within (z ∷ zs) y zero e = omega arith
get_within (z ∷ zs) y (suc j) e = omega (arith, get_within zs y j e)

pub get_front : {A : Type 0} (xs ys : List A) (y : A) (j : ℕ) → slice_get xs j ≡ Some y → slice_get (xs ++ ys) j ≡ Some y
get_front [] ys y j e = absurd cc
get_front (z ∷ zs) ys y zero e = e
get_front (z ∷ zs) ys y (suc j) e = get_front zs ys y j e

pub get_behind : {A : Type 0} (xs ys : List A) (y : A) → slice_get (xs ++ y ∷ ys) (length xs) ≡ Some y
get_behind [] ys y = refl
get_behind (z ∷ zs) ys y = get_behind zs ys y

or_left : (a b : Bool) → a ≡ true → (a || b) ≡ true
or_left true b e = refl
or_left false b e = absurd cc

or_right : (a b : Bool) → b ≡ true → (a || b) ≡ true
or_right true b e = refl
or_right false b e = e

pub any_at : {A : Type 0} (p : A → Bool) (xs : List A) (y : A) (j : ℕ) → slice_get xs j ≡ Some y → p y ≡ true → list_any p xs ≡ true
any_at p [] y j e h = absurd cc
any_at p (z ∷ zs) y zero e h = or_left (p z) (list_any p zs) (ap p (let f : z ≡ y = cc in f) ∙ h)
any_at p (z ∷ zs) y (suc j) e h = or_right (p z) (list_any p zs) (any_at p zs y j e h)

any_by : {A : Type 0} (p : A → Bool) (z : A) (zs : List A) (b : Bool) → p z ≡ b → (b || list_any p zs) ≡ true → ((list_any p zs ≡ true) → (j : ℕ) × (y : A) × (slice_get zs j ≡ Some y) × (p y ≡ true))
    → (j : ℕ) × (y : A) × (slice_get (z ∷ zs) j ≡ Some y) × (p y ≡ true)
any_by p z zs true e h rec = (0, z, refl, e)
any_by p z zs false e h rec = let r = rec h in (suc r.0, r.1, r.2, r.3)

pub any_found : {A : Type 0} (p : A → Bool) (xs : List A) → list_any p xs ≡ true → (j : ℕ) × (y : A) × (slice_get xs j ≡ Some y) × (p y ≡ true)
any_found p [] e = absurd cc
any_found p (z ∷ zs) e = any_by p z zs (p z) refl e (any_found p zs)
