-- There is one rising order of lines.
use Rattle.std.proofs.Common.{◌≡◌, ℕ, zero, suc, ◌+◌, ◌<◌, ◌≤◌, Bool, true, false, refl, ap, sym, ◌∙◌, subst, List, [], ◌∷◌, length, get_or, add-one, arith, if◌then◌else◌}
use Rattle.std.specs.Prelude.{map, sum_by}
use Rattle.std.specs.declared.cmp.Ordering.{Ordering}
use Rattle.std.specs.declared.cmp.Ordering.TheVariants.{Less, Equal, Greater}
use Rattle.std.specs.Ordering.{is_gt, is_lt, is_eq, ordering_reverse}
use Rattle.std.specs.FinMap.{slice_cmp-IsAntisymmetric, nat_cmp-IsAntisymmetric}
use Rattle.std.specs.Str.{bytes_eq}
use Rattle.std.specs.List.Sorted.{IsPermutation, IsSorted, IsSortedBy}
use Rattle.std.proofs.lemmas.Bool.{false≢true}
use Rattle.std.proofs.lemmas.Cmp.{nat_list_cmp_total, tied_itself, upto}
use Rattle.std.proofs.lemmas.Map.Text.{is_eq-slice_cmp}
use Rattle.std.proofs.lemmas.List.Sums.{sum_by-cons}
use Rattle.std.proofs.lemmas.List.Sorted.{sorted_far, ranks_by, sum_by-IsPermutation, IsPermutation-refl, IsPermutation-cons, IsPermutation-trans, IsPermutation-insert}
use Rattle.gs_lines.specs.Order.{by_bytes, placed, rising}

-- a line isn't above another
abbrev pub NotAbove : List ℕ → List ℕ → Type 0
NotAbove x y = is_gt (by_bytes x y) ≡ false

-- nor above any of some
abbrev pub AboveNone : List ℕ → List (List ℕ) → Type 0
AboveNone x [] = Unit {0}
AboveNone x (y ∷ ys) = NotAbove x y × AboveNone x ys

-- each is above none of those behind it
abbrev pub Rises : List (List ℕ) → Type 0
Rises [] = Unit {0}
Rises (x ∷ xs) = AboveNone x xs × Rises xs

-- ---- the order of two lines

equal : (x y : List ℕ) → by_bytes x y ≡ Equal → x ≡ y
equal = slice_cmp-IsAntisymmetric nat_cmp-IsAntisymmetric

turned : (x y : List ℕ) → by_bytes x y ≡ ordering_reverse (by_bytes y x)
turned x y = nat_list_cmp_total.antisymm x y

lt-reverse : (o : Ordering) → is_lt (ordering_reverse o) ≡ is_gt o
lt-reverse Less = refl
lt-reverse Equal = refl
lt-reverse Greater = refl

lt_turned : (x y : List ℕ) → is_lt (by_bytes y x) ≡ is_gt (by_bytes x y)
lt_turned x y = ap is_lt (turned y x) ∙ lt-reverse (by_bytes x y)

above_one : (o : Ordering) → is_gt o ≡ true → is_lt o ≡ false
above_one Less is = absurd (false≢true is)
above_one Equal is = refl
above_one Greater is = refl

not_above_back : (x y : List ℕ) → is_gt (by_bytes x y) ≡ true → NotAbove y x
not_above_back x y above = sym (lt_turned y x) ∙ above_one (by_bytes x y) above

not_above_self : (x : List ℕ) → NotAbove x x
not_above_self x = ap is_gt (tied_itself nat_list_cmp_total x)

same_rank : (x y : List ℕ) → NotAbove x y → NotAbove y x → x ≡ y
same_rank x y one other = elim (by_bytes x y) as (λ (o : Ordering). by_bytes x y ≡ o → x ≡ y) [
  | Less ↦ λ e. absurd (false≢true (sym other ∙ sym (lt_turned y x) ∙ ap is_lt e))
  | Equal ↦ λ e. equal x y e
  | Greater ↦ λ e. absurd (false≢true (sym one ∙ ap is_gt e))
] refl

above_none_through : (x y : List ℕ) (zs : List (List ℕ)) → NotAbove x y → AboveNone y zs → AboveNone
    x zs
above_none_through x y [] first all = tt
above_none_through x y (z ∷ zs) first all =
    (upto nat_list_cmp_total x y z first all.0, above_none_through x y zs first all.1)

-- ---- the rising order rises

placed_under : (x line : List ℕ) (ls : List (List ℕ)) → NotAbove x line → AboveNone x ls → AboveNone
    x (placed line ls)
placed_under x line [] first all = (first, tt)
placed_under x line (other ∷ ls) first all =
    elim (is_gt (by_bytes line other)) as (λ (t : Bool). AboveNone x (if t then other ∷ placed line
    ls else line ∷ other ∷ ls)) [
      | true ↦ (all.0, placed_under x line ls first all.1)
      | false ↦ (first, all)
    ]

placed_rises : (line : List ℕ) (ls : List (List ℕ)) → Rises ls → Rises (placed line ls)
placed_rises line [] rises = (tt, tt)
placed_rises line (other ∷ ls) rises =
    elim (is_gt (by_bytes line other)) as (λ (t : Bool). is_gt (by_bytes line other) ≡ t → Rises (if
    t then other ∷ placed line ls else line ∷ other ∷ ls)) [
      | true ↦ λ e. (
        placed_under other line ls (not_above_back line other e) rises.0,
        placed_rises
            line ls rises.1,
      )
      | false ↦ λ e. ((e, above_none_through line other ls e rises.0), rises)
    ] refl

rising_rises : (ls : List (List ℕ)) → Rises (rising ls)
rising_rises [] = tt
rising_rises (line ∷ ls) = placed_rises line (rising ls) (rising_rises ls)

placed_moves : (line : List ℕ) (ls : List (List ℕ)) → IsPermutation (line ∷ ls) (placed line ls)
placed_moves line [] = IsPermutation-refl (line ∷ [])
placed_moves line (other ∷ ls) =
    elim (is_gt (by_bytes line other)) as (λ (t : Bool). IsPermutation (line ∷ other ∷ ls) (if t
    then other ∷ placed line ls else line ∷ other ∷ ls)) [
      | true ↦ IsPermutation-trans (line ∷ other ∷ ls) (other ∷ line ∷ ls) (other ∷ placed line ls)
          (IsPermutation-insert (other ∷ ls) 1 line)
          (IsPermutation-cons other (line ∷ ls) (placed line ls) (placed_moves line ls))
      | false ↦ IsPermutation-refl (line ∷ other ∷ ls)
    ]

pub rising_moves : (ls : List (List ℕ)) → IsPermutation ls (rising ls)
rising_moves [] = IsPermutation-refl []
rising_moves (line ∷ ls) =
    IsPermutation-trans (line ∷ ls) (line ∷ rising ls) (placed line (rising ls))
    (IsPermutation-cons line ls (rising ls) (rising_moves ls)) (placed_moves line (rising ls))

rising_at : (ls : List (List ℕ)) → Rises ls → (k : ℕ) (d : List ℕ) → suc k < length ls → is_lt
    (by_bytes (get_or ls (suc k) d) (get_or ls k d)) ≡ false
rising_at [] rises k d lt = absurd (omega arith)
rising_at (x ∷ []) rises k d lt = absurd (omega arith)
rising_at (x ∷ y ∷ ls) rises zero d lt = lt_turned x y ∙ rises.0.0
rising_at (x ∷ y ∷ ls) rises (suc k) d lt = rising_at (y ∷ ls) rises.1 k d (omega arith)

pub rising_sorted : (ls : List (List ℕ)) → IsSorted by_bytes (rising ls)
rising_sorted ls = λ k d low lt. rw add-one (rising_at (rising ls) (rising_rises ls) k d (omega
    arith))

-- ---- of lists of the same lines only one rises

-- how often a line is there
abbrev pub times : List ℕ → List (List ℕ) → ℕ
times x [] = 0
times x (y ∷ ys) = (if bytes_eq x y then 1 else 0) + times x ys

times_is : (x : List ℕ) (ys : List (List ℕ)) → times x ys ≡ sum_by (λ y. if bytes_eq x y then 1 else
    0) ys
times_is x [] = refl
times_is x (y ∷ ys) =
    let f : List ℕ → ℕ = λ z. if bytes_eq x z then 1 else 0 in
    ap (λ (n : ℕ). f y + n) (times_is x ys) ∙ sym (sum_by-cons f y ys)

-- a permutation has each as often
times-IsPermutation : (x : List ℕ) (ys zs : List (List ℕ)) → IsPermutation ys zs → times x zs ≡
    times x ys
times-IsPermutation x ys zs moves =
    times_is x zs ∙ sum_by-IsPermutation (λ y. if bytes_eq x y then 1 else 0) ys zs moves ∙ sym
    (times_is x ys)

eq_self : (x : List ℕ) → bytes_eq x x ≡ true
eq_self x = sym (is_eq-slice_cmp x x) ∙ ap is_eq (tied_itself nat_list_cmp_total x)

equal_order : (o : Ordering) → is_eq o ≡ true → o ≡ Equal
equal_order Less is = absurd (false≢true is)
equal_order Equal is = refl
equal_order Greater is = absurd (false≢true is)

eq_same : (x y : List ℕ) → bytes_eq x y ≡ true → x ≡ y
eq_same x y is = equal x y (equal_order (by_bytes x y) (is_eq-slice_cmp x y ∙ is))

not_above_found : (x y : List ℕ) (zs : List (List ℕ)) → AboveNone x zs → 0 < times y zs → NotAbove x
    y
not_above_found x y [] all some = absurd (omega arith)
not_above_found x y (z ∷ zs) all some =
    elim (bytes_eq y z) as (λ (t : Bool). bytes_eq y z ≡ t → 0 < (if t then 1 else 0) + times y zs →
    NotAbove x y) [
      | true ↦ λ e some. subst (λ (w : List ℕ). NotAbove x w) (sym (eq_same y z e)) all.0
      | false ↦ λ e some. not_above_found x y zs all.1 (omega arith)
    ] refl some

once : (x : List ℕ) (xs : List (List ℕ)) → 0 < times x (x ∷ xs)
once x xs = let e : times x (x ∷ xs) ≡ 1 + times x xs = ap (λ (t : Bool). (if t then 1 else 0) +
    times x xs) (eq_self x) in omega arith

one_less : (z x : List ℕ) (xs ys : List (List ℕ)) → times z (x ∷ xs) ≡ times z (x ∷ ys) → times z xs
    ≡ times z ys
one_less z x xs ys same = omega (arith, same)

one_rises : (xs ys : List (List ℕ)) → Rises xs → Rises ys → ((z : List ℕ) → times z xs ≡ times z ys)
    → xs ≡ ys
one_rises [] [] up rises same = refl
one_rises [] (y ∷ ys) up rises same = let some = once y ys in let e : 0 ≡ times y (y ∷ ys) = same y
    in absurd (omega arith)
one_rises (x ∷ xs) [] up rises same = let some = once x xs in let e : times x (x ∷ xs) ≡ 0 = same x
    in absurd (omega arith)
one_rises (x ∷ xs) (y ∷ ys) up rises same =
    let there : 0 < times y (x ∷ xs) = let some = once y ys in let e = same y in omega arith in
    let here : 0 < times x (y ∷ ys) = let some = once x xs in let e = same x in omega arith in
    let low : NotAbove x y = not_above_found x y (x ∷ xs) (not_above_self x, up.0) there in
    let high : NotAbove y x = not_above_found y x (y ∷ ys) (not_above_self y, rises.0) here in
    let first = same_rank x y low high in
    let more : (z : List ℕ) → times z xs ≡ times z ys = λ z. one_less z x xs ys (same z ∙ ap (λ (w :
    List ℕ). times z (w ∷ ys)) (sym first)) in
    ap (λ (w : List ℕ). w ∷ xs) first ∙ ap (λ (ws : List (List ℕ)). y ∷ ws) (one_rises xs ys up.1
    rises.1 more)

-- ---- what a sort gives

under_from : {X : Type 0} (key : X → List ℕ) (x : List ℕ) (ys : List X) (d : X) → ((k : ℕ) → k <
    length ys → is_lt (by_bytes (key (get_or ys k d)) x) ≡ false) → AboveNone x (map key ys)
under_from key x [] d each = tt
under_from key x (y ∷ ys) d each = (
  sym (lt_turned x (key y)) ∙ each 0 (omega arith),
  under_from key
      x ys d (λ k lt. each (suc k) (omega arith)),
)

rises_from : {X : Type 0} (key : X → List ℕ) (xs : List X) → ((i j : ℕ) (d : X) → i ≤ j → j < length
    xs → is_lt (by_bytes (key (get_or xs j d)) (key (get_or xs i d))) ≡ false) → Rises (map key xs)
rises_from key [] far = tt
rises_from key (x ∷ xs) far = (
  under_from key (key x) xs x (λ k lt. far 0 (suc k) x (omega arith) (omega arith)),
  rises_from key xs (λ i j d le lt. far (suc i) (suc j) d (omega arith) (omega arith)),
)

-- the same things in order of a line of each, in terms of the lines
pub sorted_is_rising : {X : Type 0} (key : X → List ℕ) (xs ys : List X) (ls : List (List ℕ)) →
    IsPermutation ls (map key ys) → IsSortedBy (λ x y. is_lt (by_bytes (key x) (key y))) ys → map
    key ys ≡ rising ls
sorted_is_rising key xs ys ls moves up =
    let far = sorted_far (λ x y. is_lt (by_bytes (key x) (key y))) (ranks_by nat_list_cmp_total key)
    ys up in
    one_rises (map key ys) (rising ls) (rises_from key ys far) (rising_rises ls)
    (λ z. times-IsPermutation z ls (map key ys) moves ∙ sym (times-IsPermutation z ls (rising ls)
    (rising_moves ls)))

pub map-self : (ls : List (List ℕ)) → map (λ line. line) ls ≡ ls
map-self [] = refl
map-self (line ∷ ls) = ap (λ (more : List (List ℕ)). line ∷ more) (map-self ls)
