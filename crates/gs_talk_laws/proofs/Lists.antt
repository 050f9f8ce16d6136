-- Prefixes and places of lists.
use Rattle.std.proofs.Common.{◌≡◌, ◌<◌, ◌≤◌, ◌+◌, ℕ, zero, suc, refl, sym, ap, ◌∙◌, List, [], ◌∷◌, ◌++◌, length, Some, slice_get, ◌⊎◌, inl, inr, append_assoc, append-nil, arith}
use Rattle.gs_talk_laws.specs.Fuels.{IsPrefixOf}
use Rattle.gs_talk_laws.specs.Numbers.{at_number}

pub prefix_same : {A : Type 0} (xs : List A) → IsPrefixOf xs xs
prefix_same xs = ([], append-nil xs)

pub prefix_then : {A : Type 0} (xs ys zs : List A) → IsPrefixOf xs ys → IsPrefixOf ys zs → IsPrefixOf xs zs
prefix_then xs ys zs h k = (h.0 ++ k.0, sym (append_assoc xs h.0 k.0) ∙ ap (λ l. l ++ k.0) h.1 ∙ k.1)

get_front : {A : Type 0} (xs ys : List A) (i : ℕ) (x : A) → slice_get xs i ≡ Some x → slice_get (xs ++ ys) i ≡ Some x
get_front [] ys i x h = absurd (cc)
get_front (y ∷ xs) ys zero x h = h
get_front (y ∷ xs) ys (suc i) x h = get_front xs ys i x h

-- what stands in a list stands in a longer one
pub get_longer : {A : Type 0} (xs ys : List A) (i : ℕ) (x : A) → IsPrefixOf xs ys → slice_get xs i ≡ Some x → slice_get ys i ≡ Some x
get_longer xs ys i x h e = ap (λ l. slice_get l i) (sym h.1) ∙ get_front xs h.0 i x e

pub number_longer : {A : Type 0} (xs ys : List A) (n : ℕ) (x : A) → IsPrefixOf xs ys → at_number xs n ≡ Some x → at_number ys n ≡ Some x
number_longer xs ys zero x h e = absurd (cc)
number_longer xs ys (suc n) x h e = get_longer xs ys n x h e

pub get_within : {A : Type 0} (xs : List A) (i : ℕ) (x : A) → slice_get xs i ≡ Some x → i < length xs
get_within [] i x e = absurd (cc)
get_within (y ∷ xs) zero x e = omega arith
get_within (y ∷ xs) (suc i) x e = let lt = get_within xs i x e in omega arith

pub number_within : {A : Type 0} (xs : List A) (n : ℕ) (x : A) → at_number xs n ≡ Some x → n ≤ length xs
number_within xs zero x e = omega arith
number_within xs (suc n) x e = let lt = get_within xs n x e in omega arith

pub get_last : {A : Type 0} (xs : List A) (x : A) → slice_get (xs ++ x ∷ []) (length xs) ≡ Some x
get_last [] x = refl
get_last (y ∷ xs) x = get_last xs x

pub get_kept : {A : Type 0} (xs ys : List A) (i : ℕ) → i < length xs → slice_get (xs ++ ys) i ≡ slice_get xs i
get_kept [] ys i lt = absurd (omega arith)
get_kept (x ∷ xs) ys zero lt = refl
get_kept (x ∷ xs) ys (suc i) lt = get_kept xs ys i (omega arith)

-- a place of a list with one more is an old one, or the last
pub get_either : {A : Type 0} (xs : List A) (x : A) (i : ℕ) (y : A) → slice_get (xs ++ x ∷ []) i ≡ Some y → (slice_get xs i ≡ Some y) ⊎ ((i ≡ length xs) × (x ≡ y))
get_either [] x zero y h = inr (refl, cc)
get_either [] x (suc i) y h = absurd (cc)
get_either (z ∷ xs) x zero y h = inl h
get_either (z ∷ xs) x (suc i) y h = elim (get_either xs x i y h) [ inl e ↦ inl e | inr e ↦ inr (ap suc e.0, e.1) ]

-- from a place on, these are the rest of a list
abbrev pub RestOf : {A : Type 0} → List A → (place : ℕ) → List A → Type 0
RestOf all place xs = (j : ℕ) → at_number all (place + j) ≡ slice_get xs j

pub here_of : {A : Type 0} (all : List A) (place : ℕ) (x : A) (xs : List A) → RestOf all place (x ∷ xs) → at_number all place ≡ Some x
here_of all place x xs h = let e : place ≡ place + 0 = omega arith in ap (at_number all) e ∙ h 0

pub after_of : {A : Type 0} (all : List A) (place : ℕ) (x : A) (xs : List A) → RestOf all place (x ∷ xs) → RestOf all (suc place) xs
after_of all place x xs h j = let e : suc place + j ≡ place + suc j = omega arith in ap (at_number all) e ∙ h (suc j)

pub all_of : {A : Type 0} (all : List A) → RestOf all 1 all
all_of all j = let e : 1 + j ≡ suc j = omega arith in ap (at_number all) e
