-- Tests of a word.
use Rattle.std.proofs.Common.{◌≡◌, refl, sym, ap, ◌∙◌, ℕ, List, Bool, true, false, Option, Some, None, map, length, ◌<◌, ◌≤◌, ltb, ltb-true, arith}
use Rattle.std.specs.Prelude.{get_or}
use Rattle.std.specs.Option.{option_map}
use Rattle.std.proofs.lemmas.Option.{slice_get-map, slice_get_read, slice_get_past}
use Rattle.std.proofs.lemmas.Bool.Decides.{nat_tests}
use Rattle.std.specs.Prelude.{bytes_eq}
use Rattle.std.specs.Bool.{Decides}
use Rattle.std.specs.List.{slice_get}
use Rattle.std.proofs.lemmas.Slice.Eq.{bytes_eq-Decides}

pub word_test : (o : Option (List ℕ)) (w word : List ℕ) (r : Bool) → o ≡ Some w → r ≡ bytes_eq w word → Decides r (o ≡ Some word)
word_test o w word r is test = (
  λ t. is ∙ ap (λ (l : List ℕ). Some l) ((bytes_eq-Decides w word).0 (sym test ∙ t)),
  λ e. test ∙ (bytes_eq-Decides w word).1 (let same : Some w ≡ Some word = sym is ∙ e in cc),
)

pub word_none : (o : Option (List ℕ)) (word : List ℕ) → o ≡ None → Decides false (o ≡ Some word)
word_none o word none = (λ t. absurd cc, λ e. absurd (let gone : None ≡ Some word = sym none ∙ e in cc))

ltb_past : (i n : ℕ) → ltb i n ≡ false → n ≤ i
ltb_past i n e = grind (arith, nat_tests)

-- an item that was looked up
pub there_at : {A : Type 0} (f : A → List ℕ) (xs ys : List A) (i : ℕ) (x : A) → ys ≡ xs → true ≡ ltb i (length ys) → x ≡ get_or ys i x → slice_get (map f xs) i ≡ Some (f x)
there_at {A} f xs ys i x same within read =
    let lt : i < length ys = ltb-true i (length ys) (sym within) in
    let there : slice_get ys i ≡ Some x = slice_get_read ys (length ys) i x refl lt read in
    slice_get-map f xs i ∙ ap (λ (zs : List A). option_map f (slice_get zs i)) (sym same) ∙ ap (option_map f) there

pub none_at : {A : Type 0} (f : A → List ℕ) (xs ys : List A) (i : ℕ) → ys ≡ xs → false ≡ ltb i (length ys) → slice_get (map f xs) i ≡ None
none_at {A} f xs ys i same past =
    let le : length ys ≤ i = ltb_past i (length ys) (sym past) in
    slice_get-map f xs i ∙ ap (λ (zs : List A). option_map f (slice_get zs i)) (sym same) ∙ ap (option_map f) (slice_get_past ys i le)
