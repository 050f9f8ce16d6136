-- Marking the operations that words name, one word after the other.
use Rattle.std.proofs.Common.{◌≡◌, ◌≢◌, ℕ, zero, suc, ◌+◌, ◌<◌, Bool, true, false, List, [], ◌∷◌, ◌++◌, length, map, take, get_or, Option, Some, None, refl, sym, ap, ◌∙◌, arith, if◌then◌else◌, slice_set, replicate}
use Rattle.std.specs.Prelude.{slice_get, option_map, is_some, not, ◌||◌, ◌&&◌}
use Rattle.std.specs.Str.{bytes_eq}
use denote.Ref.{Bor}
use Rattle.std.proofs.lemmas.Slice.Eq.{bytes_eq-Decides}
use Rattle.gs_idl.specs.Interface.{Signature, KeepRules, op_place}
use Rattle.gs_broker.specs.Text.{stands, are_each_known, are_distinct}
use Rattle.gs_broker.specs.Reading.{spelled, marked}

same_bytes : (a b : List ℕ) → bytes_eq a b ≡ true → a ≡ b
same_bytes a b e = (bytes_eq-Decides a b).0 e

bytes_same : (a b : List ℕ) → a ≡ b → bytes_eq a b ≡ true
bytes_same a b e = (bytes_eq-Decides a b).1 e

bytes_apart : (a b : List ℕ) → a ≢ b → bytes_eq a b ≡ false
bytes_apart a b ne = here (bytes_eq a b) refl
  where
    here : (t : Bool) → bytes_eq a b ≡ t → bytes_eq a b ≡ false
    here true e = absurd (ne (same_bytes a b e))
    here false e = e

bytes_turned : (a b : List ℕ) → bytes_eq a b ≡ bytes_eq b a
bytes_turned a b = here (bytes_eq b a) refl
  where
    here : (t : Bool) → bytes_eq b a ≡ t → bytes_eq a b ≡ bytes_eq b a
    here true e = bytes_same a b (sym (same_bytes b a e)) ∙ sym e
    here false e = bytes_apart a b (λ s. let t = bytes_same b a (sym s) in absurd cc) ∙ sym e

-- ---- one word more

stands_more : (word w : List ℕ) (xs : List (List ℕ)) → stands word (xs ++ w ∷ []) ≡ (stands word xs || bytes_eq word w)
stands_more word w [] = or_false (bytes_eq word w)
  where
    or_false : (b : Bool) → (b || false) ≡ (false || b)
    or_false true = refl
    or_false false = refl
stands_more word w (x ∷ xs) = ap (λ (b : Bool). bytes_eq word x || b) (stands_more word w xs) ∙ moved (bytes_eq word x) (stands word xs) (bytes_eq word w)
  where
    moved : (a b c : Bool) → (a || (b || c)) ≡ ((a || b) || c)
    moved true b c = refl
    moved false b c = refl

stands_same : (word w : List ℕ) (xs : List (List ℕ)) → bytes_eq word w ≡ false → stands word (xs ++ w ∷ []) ≡ stands word xs
stands_same word w xs e = stands_more word w xs ∙ ap (λ (b : Bool). stands word xs || b) e ∙ or_false (stands word xs)
  where
    or_false : (b : Bool) → (b || false) ≡ b
    or_false true = refl
    or_false false = refl

stands_last : (word w : List ℕ) (xs : List (List ℕ)) → bytes_eq word w ≡ true → stands word (xs ++ w ∷ []) ≡ true
stands_last word w xs e = stands_more word w xs ∙ ap (λ (b : Bool). stands word xs || b) e ∙ or_true (stands word xs)
  where
    or_true : (b : Bool) → (b || true) ≡ true
    or_true true = refl
    or_true false = refl

pub distinct_more : (w : List ℕ) (xs : List (List ℕ)) → not (are_distinct (xs ++ w ∷ [])) ≡ (not (are_distinct xs) || stands w xs)
distinct_more w [] = refl
distinct_more w (x ∷ xs) =
    ap (λ (b : Bool). not (not b && are_distinct (xs ++ w ∷ []))) (stands_more x w xs)
    ∙ moved (stands x xs) (bytes_eq x w) (are_distinct (xs ++ w ∷ []))
    ∙ ap (λ (b : Bool). (stands x xs || bytes_eq x w) || b) (distinct_more w xs)
    ∙ ap (λ (b : Bool). (stands x xs || b) || (not (are_distinct xs) || stands w xs)) (bytes_turned x w)
    ∙ sorted (stands x xs) (bytes_eq w x) (are_distinct xs) (stands w xs)
  where
    moved : (a b c : Bool) → not (not (a || b) && c) ≡ ((a || b) || not c)
    moved true b c = refl
    moved false true c = refl
    moved false false c = refl

    sorted : (a b c d : Bool) → ((a || b) || (not c || d)) ≡ (not (not a && c) || (b || d))
    sorted true b c d = refl
    sorted false true true d = refl
    sorted false true false d = refl
    sorted false false true d = refl
    sorted false false false d = refl

-- ---- the marks

AreApart : List Signature → Type 0
AreApart os = (a b : ℕ) (o p : Signature) → slice_get os a ≡ Some o → slice_get os b ≡ Some p → o.name ≡ p.name → a ≡ b

behind : (o : Signature) (os : List Signature) → AreApart (o ∷ os) → AreApart os
unfolding AreApart
behind o os apart = λ a b x y at_a at_b e. let s = apart (suc a) (suc b) x y at_a at_b e in omega arith

-- a word that names no operation marks none
marked_other : (os : List Signature) (w : List ℕ) (xs : List (List ℕ)) → ((j : ℕ) (p : Signature) → slice_get os j ≡ Some p → bytes_eq p.name w ≡ false) → marked os (xs ++ w ∷ []) ≡ marked os xs
marked_other [] w xs other = refl
marked_other (o ∷ os) w xs other =
    ap (λ (b : Bool). b ∷ marked os (xs ++ w ∷ [])) (stands_same o.name w xs (other 0 o refl))
    ∙ ap (λ (bs : List Bool). stands o.name xs ∷ bs) (marked_other os w xs (λ j p at. other (suc j) p at))

-- where a word stands among what comes behind a test
Placed : List Signature → List ℕ → (ℕ → Type 0) → Option ℕ → Type 0
Placed os w P None = ⊥
Placed os w P (Some k) = P k

marked_more_in : (os : List Signature) (w : List ℕ) (xs : List (List ℕ)) (k : ℕ) → AreApart os → op_place os w ≡ Some k → slice_set (marked os xs) k true ≡ marked os (xs ++ w ∷ [])
unfolding AreApart
marked_more_in [] w xs k apart e = absurd cc
marked_more_in (o ∷ os) w xs k apart e = here (bytes_eq o.name w) refl e (op_place os w) refl (λ j at. marked_more_in os w xs j (behind o os apart) at)
  where
    here : (t : Bool) → bytes_eq o.name w ≡ t → (if t then Some 0 else option_map suc (op_place os w)) ≡ Some k
        → (r : Option ℕ) → op_place os w ≡ r → ((j : ℕ) → op_place os w ≡ Some j → slice_set (marked os xs) j true ≡ marked os (xs ++ w ∷ []))
        → slice_set (stands o.name xs ∷ marked os xs) k true ≡ stands o.name (xs ++ w ∷ []) ∷ marked os (xs ++ w ∷ [])
    here true is place r at rest =
        let zero_k : k ≡ 0 = cc in
        let name = same_bytes o.name w is in
        let others = marked_other os w xs (λ j p at_j. bytes_apart p.name w (λ s. let z = apart 0 (suc j) o p refl at_j (name ∙ sym s) in absurd (omega arith))) in
        ap (λ (i : ℕ). slice_set (stands o.name xs ∷ marked os xs) i true) zero_k
        ∙ ap (λ (b : Bool). b ∷ marked os xs) (sym (stands_last o.name w xs is))
        ∙ ap (λ (bs : List Bool). stands o.name (xs ++ w ∷ []) ∷ bs) (sym others)
    here false is place None at rest = let s = ap (option_map suc) at in absurd cc
    here false is place (Some j) at rest =
        let k_is : k ≡ suc j = let s = ap (option_map suc) at in cc in
        ap (λ (i : ℕ). slice_set (stands o.name xs ∷ marked os xs) i true) k_is
        ∙ ap (λ (bs : List Bool). stands o.name xs ∷ bs) (rest j at)
        ∙ ap (λ (b : Bool). b ∷ marked os (xs ++ w ∷ [])) (sym (stands_same o.name w xs is))

pub marked_more : (os : List Signature) (w : List ℕ) (xs : List (List ℕ)) (k : ℕ) → KeepRules os → op_place os w ≡ Some k → slice_set (marked os xs) k true ≡ marked os (xs ++ w ∷ [])
unfolding AreApart
marked_more os w xs k rules e = marked_more_in os w xs k rules.apart e

-- the mark of a word's operation
pub mark_at : (os : List Signature) (w : List ℕ) (xs : List (List ℕ)) (k : ℕ) (d : Bool) → op_place os w ≡ Some k → get_or (marked os xs) k d ≡ stands w xs
mark_at [] w xs k d e = absurd cc
mark_at (o ∷ os) w xs k d e = here (bytes_eq o.name w) refl e (op_place os w) refl (λ j at. mark_at os w xs j d at)
  where
    here : (t : Bool) → bytes_eq o.name w ≡ t → (if t then Some 0 else option_map suc (op_place os w)) ≡ Some k
        → (r : Option ℕ) → op_place os w ≡ r → ((j : ℕ) → op_place os w ≡ Some j → get_or (marked os xs) j d ≡ stands w xs)
        → get_or (stands o.name xs ∷ marked os xs) k d ≡ stands w xs
    here true is place r at rest =
        let zero_k : k ≡ 0 = cc in
        ap (λ (i : ℕ). get_or (stands o.name xs ∷ marked os xs) i d) zero_k ∙ ap (λ (v : List ℕ). stands v xs) (same_bytes o.name w is)
    here false is place None at rest = let s = ap (option_map suc) at in absurd cc
    here false is place (Some j) at rest =
        let k_is : k ≡ suc j = let s = ap (option_map suc) at in cc in
        ap (λ (i : ℕ). get_or (stands o.name xs ∷ marked os xs) i d) k_is ∙ rest j at

pub known_more : (os : List Signature) (w : List ℕ) (xs : List (List ℕ)) (k : ℕ) → op_place os w ≡ Some k → are_each_known os xs ≡ true → are_each_known os (xs ++ w ∷ []) ≡ true
known_more os w [] k e known = ap (λ (r : Option ℕ). is_some r && true) e
known_more os w (x ∷ xs) k e known = here (is_some (op_place os x)) known (λ rest. known_more os w xs k e rest)
  where
    here : (t : Bool) → (t && are_each_known os xs) ≡ true → (are_each_known os xs ≡ true → are_each_known os (xs ++ w ∷ []) ≡ true) → (t && are_each_known os (xs ++ w ∷ [])) ≡ true
    here true h rest = rest h
    here false h rest = absurd cc

pub word_more_at : (words : List (Bor (List ℕ))) (i : ℕ) (d : Bor (List ℕ)) → i < length words → take (i + 1) (spelled words) ≡ take i (spelled words) ++ (get_or words i d).now ∷ []
word_more_at [] i d lt = absurd (omega arith)
word_more_at (x ∷ xs) zero d lt = refl
word_more_at (x ∷ xs) (suc i) d lt =
    let e : suc i + 1 ≡ suc (i + 1) = omega arith in
    ap (λ (n : ℕ). take n (spelled (x ∷ xs))) e ∙ ap (λ (ws : List (List ℕ)). x.now ∷ ws) (word_more_at xs i d (omega arith))

-- a word that isn't known is enough
pub not_known : (os : List Signature) (words : List (Bor (List ℕ))) (i : ℕ) (d : Bor (List ℕ)) → i < length words → op_place os (get_or words i d).now ≡ None → are_each_known os (spelled words) ≡ false
not_known os [] i d lt e = absurd (omega arith)
not_known os (x ∷ xs) zero d lt e = ap (λ (r : Option ℕ). is_some r && are_each_known os (spelled xs)) e
not_known os (x ∷ xs) (suc i) d lt e = here (is_some (op_place os x.now)) (not_known os xs i d (omega arith) e)
  where
    here : (t : Bool) → are_each_known os (spelled xs) ≡ false → (t && are_each_known os (spelled xs)) ≡ false
    here true h = h
    here false h = refl

pub each_alike : (os : List Signature) (b : Bool) (n : ℕ) → n ≡ length os → replicate n b ≡ map (λ o. b) os
each_alike [] b n e = ap (λ (i : ℕ). replicate i b) e
each_alike (o ∷ os) b n e = ap (λ (i : ℕ). replicate i b) e ∙ ap (λ (bs : List Bool). b ∷ bs) (each_alike os b (length os) refl)
