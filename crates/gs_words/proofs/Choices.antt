-- Options, one behind the other.
use Rattle.std.proofs.Common.{◌≡◌, ◌⊎◌, inl, inr, refl, sym, ap, ◌∙◌, subst, arith, ℕ, zero, suc, ◌+◌, ◌*◌, ◌≤◌, List, [], ◌∷◌, ◌++◌, length, take, drop, Option, Some, None, IsSome}
use Rattle.std.specs.Prelude.{get_or}
use Rattle.std.specs.List.{slice_get}
use Rattle.gs_words.specs.declared.given.Flag.{Flag}
use Rattle.gs_words.specs.declared.given.Flag.TheVariants.{Fuel, Window, Tries}
use Rattle.gs_words.specs.declared.given.Given.{Given}
use Rattle.gs_words.specs.Words.{IsNumber, spelled, limit_of, Choice, AreOptions, IsGiven, AreDistinct, or_else, number_by, number_of}
use Rattle.gs_words.specs.Given.{given_by, with_given, HaveGiven, one_unless, free, IsNumberAt, IsFlagAt}
use Rattle.gs_words.proofs.Places.{words_before}

-- ---- spellings

abbrev third : List ℕ → ℕ
third w = get_or w 2 0

pub flag_is : (f g : Flag) → spelled f ≡ spelled g → f ≡ g
flag_is Fuel Fuel e = refl
flag_is Window Window e = refl
flag_is Tries Tries e = refl
flag_is Fuel Window e = let k : ◌≡◌ {A = ℕ} 102 119 = ap third e in absurd (omega arith)
flag_is Fuel Tries e = let k : ◌≡◌ {A = ℕ} 102 116 = ap third e in absurd (omega arith)
flag_is Window Fuel e = let k : ◌≡◌ {A = ℕ} 119 102 = ap third e in absurd (omega arith)
flag_is Window Tries e = let k : ◌≡◌ {A = ℕ} 119 116 = ap third e in absurd (omega arith)
flag_is Tries Fuel e = let k : ◌≡◌ {A = ℕ} 116 102 = ap third e in absurd (omega arith)
flag_is Tries Window e = let k : ◌≡◌ {A = ℕ} 116 119 = ap third e in absurd (omega arith)

-- ---- one option more

pub options_more : (words : List (List ℕ)) (os : List Choice) (w v : List ℕ) (f : Flag) (n : ℕ) → AreOptions words os → w ≡ spelled f → IsNumber 1 (limit_of f) v n → AreOptions (words ++ w ∷ v ∷ []) (os ++ (f, n) ∷ [])
options_more [] [] w v f n are flag number = (flag, number, tt)
options_more [] (o ∷ os) w v f n are flag number = absurd are
options_more (x ∷ []) os w v f n are flag number = absurd are
options_more (x ∷ y ∷ words) [] w v f n are flag number = absurd are
options_more (x ∷ y ∷ words) (o ∷ os) w v f n are flag number = (are.0, are.1, options_more words os w v f n are.2 flag number)

given_more : (f g : Flag) (n : ℕ) (os : List Choice) → IsGiven f (os ++ (g, n) ∷ []) → IsGiven f os ⊎ (g ≡ f)
given_more f g n [] (inl e) = inr e
given_more f g n [] (inr none) = absurd none
given_more f g n (o ∷ os) (inl e) = inl (inl e)
given_more f g n (o ∷ os) (inr later) = elim (given_more f g n os later) [ inl a ↦ inl (inr a) | inr b ↦ inr b ]

given_first : (f : Flag) (os more : List Choice) → IsGiven f os → IsGiven f (os ++ more)
given_first f [] more is = absurd is
given_first f (o ∷ os) more (inl e) = inl e
given_first f (o ∷ os) more (inr later) = inr (given_first f os more later)

pub distinct_more : (os : List Choice) (f : Flag) (n : ℕ) → AreDistinct os → ¬ IsGiven f os → AreDistinct (os ++ (f, n) ∷ [])
distinct_more [] f n once new = (λ none. none, tt)
distinct_more (o ∷ os) f n once new =
    (λ is. elim (given_more o.0 f n os is) [ inl a ↦ once.0 a | inr e ↦ new (inl (sym e)) ], distinct_more os f n once.1 (λ is. new (inr is)))

-- an option that stands behind others wasn't given by them
pub distinct_apart : (os more : List Choice) (o : Choice) → AreDistinct (os ++ o ∷ more) → ¬ IsGiven o.0 os
distinct_apart [] more o once is = is
distinct_apart (x ∷ os) more o once (inl e) = once.0 (at_last os)
  where
    at_last : (xs : List Choice) → IsGiven x.0 (xs ++ o ∷ more)
    at_last [] = inl (sym e)
    at_last (y ∷ xs) = inr (at_last xs)
distinct_apart (x ∷ os) more o once (inr later) = distinct_apart os more o once.1 later

-- ---- what is given

by_itself : (f : Flag) (n : ℕ) → number_by f (f, n) ≡ Some n
by_itself Fuel n = refl
by_itself Window n = refl
by_itself Tries n = refl

by_other : (f g : Flag) (n : ℕ) → (g ≡ f → ⊥) → number_by f (g, n) ≡ None
by_other Fuel Fuel n ne = absurd (ne refl)
by_other Fuel Window n ne = refl
by_other Fuel Tries n ne = refl
by_other Window Fuel n ne = refl
by_other Window Window n ne = absurd (ne refl)
by_other Window Tries n ne = refl
by_other Tries Fuel n ne = refl
by_other Tries Window n ne = refl
by_other Tries Tries n ne = absurd (ne refl)

by_given : (f : Flag) (o : Choice) → IsSome (number_by f o) → o.0 ≡ f
by_given Fuel (Fuel, n) is = refl
by_given Fuel (Window, n) is = absurd cc
by_given Fuel (Tries, n) is = absurd cc
by_given Window (Fuel, n) is = absurd cc
by_given Window (Window, n) is = refl
by_given Window (Tries, n) is = absurd cc
by_given Tries (Fuel, n) is = absurd cc
by_given Tries (Window, n) is = absurd cc
by_given Tries (Tries, n) is = refl

some_either : (a b : Option ℕ) → IsSome (or_else a b) → IsSome a ⊎ IsSome b
some_either None b is = inr is
some_either (Some n) b is = inl refl

pub given_number : (f : Flag) (os : List Choice) → IsSome (number_of f os) → IsGiven f os
given_number f [] is = absurd cc
given_number f (o ∷ os) is = elim (some_either (number_by f o) (number_of f os) is) [ inl a ↦ inl (by_given f o a) | inr b ↦ inr (given_number f os b) ]

some_first : (a b : Option ℕ) (n : ℕ) → a ≡ Some n → IsSome (or_else a b)
some_first None b n e = absurd cc
some_first (Some m) b n e = refl

some_later : (a b : Option ℕ) → IsSome b → IsSome (or_else a b)
some_later None b is = is
some_later (Some n) b is = refl

pub number_given : (f : Flag) (os : List Choice) → IsGiven f os → IsSome (number_of f os)
number_given f [] is = absurd is
number_given f (o ∷ os) (inl e) = some_first (number_by f o) (number_of f os) o.1 (ap (λ (g : Flag). number_by f (g, o.1)) e ∙ by_itself f o.1)
number_given f (o ∷ os) (inr later) = some_later (number_by f o) (number_of f os) (number_given f os later)

or_assoc : (a b c : Option ℕ) → or_else a (or_else b c) ≡ or_else (or_else a b) c
or_assoc None b c = refl
or_assoc (Some n) b c = refl

or_none : (a : Option ℕ) → or_else a None ≡ a
or_none None = refl
or_none (Some n) = refl

number_more : (f g : Flag) (n : ℕ) (os : List Choice) → number_of f (os ++ (g, n) ∷ []) ≡ or_else (number_of f os) (number_by f (g, n))
number_more f g n [] = or_none (number_by f (g, n))
number_more f g n (o ∷ os) = ap (or_else (number_by f o)) (number_more f g n os) ∙ or_assoc (number_by f o) (number_of f os) (number_by f (g, n))

with_itself : (f : Flag) (n : ℕ) (g : Given) → given_by (with_given f n g) f ≡ Some n
with_itself Fuel n g = refl
with_itself Window n g = refl
with_itself Tries n g = refl

with_other : (f h : Flag) (n : ℕ) (g : Given) → (h ≡ f → ⊥) → given_by (with_given h n g) f ≡ given_by g f
with_other Fuel Fuel n g ne = absurd (ne refl)
with_other Fuel Window n g ne = refl
with_other Fuel Tries n g ne = refl
with_other Window Fuel n g ne = refl
with_other Window Window n g ne = absurd (ne refl)
with_other Window Tries n g ne = refl
with_other Tries Fuel n g ne = refl
with_other Tries Window n g ne = refl
with_other Tries Tries n g ne = absurd (ne refl)

same_flag : (f g : Flag) → (f ≡ g) ⊎ (f ≡ g → ⊥)
same_flag Fuel Fuel = inl refl
same_flag Window Window = inl refl
same_flag Tries Tries = inl refl
same_flag Fuel Window = inr (λ e. absurd cc)
same_flag Fuel Tries = inr (λ e. absurd cc)
same_flag Window Fuel = inr (λ e. absurd cc)
same_flag Window Tries = inr (λ e. absurd cc)
same_flag Tries Fuel = inr (λ e. absurd cc)
same_flag Tries Window = inr (λ e. absurd cc)

none_some : (o : Option ℕ) → o ≡ None → IsSome o → ⊥
none_some None e is = absurd cc
none_some (Some n) e is = absurd cc

-- with one option more
pub have_more : (words : List (List ℕ)) (g : Given) (w v : List ℕ) (f : Flag) (n : ℕ) → HaveGiven words g → w ≡ spelled f → given_by g f ≡ None → IsNumber 1 (limit_of f) v n → HaveGiven (words ++ w ∷ v ∷ []) (with_given f n g)
have_more words g w v f n have flag new number =
    let none : number_of f have.choices ≡ None = sym (have.numbers f) ∙ new in
    record {
      choices = have.choices ++ (f, n) ∷ [];
      options = options_more words have.choices w v f n have.options flag number;
      once = distinct_more have.choices f n have.once (λ is. none_some (number_of f have.choices) none (number_given f have.choices is));
      numbers = λ h. elim (same_flag f h) [
        | inl same ↦ subst (λ (x : Flag). given_by (with_given f n g) x ≡ number_of x (have.choices ++ (f, n) ∷ [])) same (with_itself f n g ∙ sym (number_more f f n have.choices ∙ ap (λ (o : Option ℕ). or_else o (number_by f (f, n))) none ∙ by_itself f n))
        | inr ne ↦ with_other h f n g ne ∙ have.numbers h ∙ sym (number_more h f n have.choices ∙ ap (or_else (number_of h have.choices)) (by_other h f n ne) ∙ or_none (number_of h have.choices))
      ];
    }

pub free_less : (g : Given) (f : Flag) (n : ℕ) → given_by g f ≡ None → free (with_given f n g) + 1 ≡ free g
free_less g Fuel n e = let one : one_unless g.fuel ≡ 1 = ap one_unless e in omega arith
free_less g Window n e = let one : one_unless g.window ≡ 1 = ap one_unless e in omega arith
free_less g Tries n e = let one : one_unless g.tries ≡ 1 = ap one_unless e in omega arith

-- where none is left none is new
pub none_free : (g : Given) (f : Flag) → given_by g f ≡ None → 1 ≤ free g
none_free g Fuel e = let one : one_unless g.fuel ≡ 1 = ap one_unless e in omega arith
none_free g Window e = let one : one_unless g.window ≡ 1 = ap one_unless e in omega arith
none_free g Tries e = let one : one_unless g.tries ≡ 1 = ap one_unless e in omega arith

-- ---- options in front of others

-- behind these options another stands
pub record Behind (ws : List (List ℕ)) (os : List Choice) (w : List ℕ) (more : List (List ℕ)) (all : List Choice) : Type 0 where
  pub choice : Choice
  pub later : List Choice
  pub parts : all ≡ os ++ choice ∷ later
  pub flag : w ≡ spelled choice.0
  pub number : (v : List ℕ) × (rest : List (List ℕ)) × (more ≡ v ∷ rest) × IsNumber 1 (limit_of choice.0) v choice.1

choice_is : (a b : Choice) (w v : List ℕ) → w ≡ spelled a.0 → w ≡ spelled b.0 → IsNumber 1 (limit_of a.0) v a.1 → IsNumber 1 (limit_of b.0) v b.1 → a ≡ b
choice_is a b w v e f x y =
    let flag = flag_is a.0 b.0 (sym e ∙ f) in
    let number : a.1 ≡ b.1 = x.says ∙ sym y.says in
    ap (λ (g : Flag). (g, a.1)) flag ∙ ap (λ (n : ℕ). (b.0, n)) number

pub behind : (ws : List (List ℕ)) (os : List Choice) (w : List ℕ) (more : List (List ℕ)) (all : List Choice) → AreOptions ws os → AreOptions (ws ++ w ∷ more) all → Behind ws os w more all
behind [] [] w [] all are whole = absurd whole
behind [] [] w (v ∷ more) [] are whole = absurd whole
behind [] [] w (v ∷ more) (o ∷ all) are whole = record { choice = o; later = all; parts = refl; flag = whole.0; number = (v, more, refl, whole.1) }
behind [] (o ∷ os) w more all are whole = absurd are
behind (x ∷ []) os w more all are whole = absurd are
behind (x ∷ y ∷ ws) [] w more all are whole = absurd are
behind (x ∷ y ∷ ws) (o ∷ os) w more [] are whole = absurd whole
behind (x ∷ y ∷ ws) (o ∷ os) w more (a ∷ all) are whole =
    let rest = behind ws os w more all are.2 whole.2 in
    let same = choice_is a o x y whole.0 are.0 whole.1 are.1 in
    record { choice = rest.choice; later = rest.later; parts = ap (λ (c : Choice). c ∷ all) same ∙ ap (λ (cs : List Choice). o ∷ cs) rest.parts; flag = rest.flag; number = rest.number }

-- ---- the words behind the first four

drop_get : {A : Type 0} (xs : List A) (n i : ℕ) → slice_get (drop n xs) i ≡ slice_get xs (n + i)
drop_get xs zero i = ap (λ (j : ℕ). slice_get xs j) (let e : i ≡ 0 + i = omega arith in e)
drop_get [] (suc n) i = refl
drop_get (x ∷ xs) (suc n) i = drop_get xs n i ∙ ap (λ (j : ℕ). slice_get (x ∷ xs) j) (let e : suc (n + i) ≡ suc n + i = omega arith in e)

take_two : (xs : List (List ℕ)) (n : ℕ) (x y : List ℕ) → slice_get xs n ≡ Some x → slice_get xs (n + 1) ≡ Some y → take (n + 2) xs ≡ take n xs ++ x ∷ y ∷ []
take_two [] n x y e f = absurd cc
take_two (z ∷ []) zero x y e f = absurd cc
take_two (z ∷ w ∷ xs) zero x y e f = let a : z ≡ x = cc in let b : w ≡ y = cc in ap (λ (v : List ℕ). v ∷ w ∷ []) a ∙ ap (λ (v : List ℕ). x ∷ v ∷ []) b
take_two (z ∷ xs) (suc n) x y e f =
    let next : suc n + 1 ≡ suc (n + 1) = omega arith in
    let two : suc n + 2 ≡ suc (n + 2) = omega arith in
    ap (λ (k : ℕ). take k (z ∷ xs)) two ∙ ap (λ (zs : List (List ℕ)). z ∷ zs) (take_two xs n x y e (sym (ap (λ (k : ℕ). slice_get (z ∷ xs) k) next) ∙ f))

pub have_next : (words : List (List ℕ)) (i : ℕ) (g : Given) (f : Flag) (n : ℕ) → HaveGiven (take (2 * i) (drop 4 words)) g → IsFlagAt words (4 + 2 * i) g f → IsNumberAt words (4 + 2 * i + 1) 1 (limit_of f) n → HaveGiven (take (2 * (i + 1)) (drop 4 words)) (with_given f n g)
have_next words i g f n have flag number =
    let first : slice_get (drop 4 words) (2 * i) ≡ Some (spelled f) = drop_get words 4 (2 * i) ∙ flag.there in
    let place : 4 + (2 * i + 1) ≡ 4 + 2 * i + 1 = omega arith in
    let second : slice_get (drop 4 words) (2 * i + 1) ≡ Some number.word = drop_get words 4 (2 * i + 1) ∙ ap (slice_get words) place ∙ number.there in
    let count : 2 * i + 2 ≡ 2 * (i + 1) = omega arith in
    let whole : take (2 * (i + 1)) (drop 4 words) ≡ take (2 * i) (drop 4 words) ++ spelled f ∷ number.word ∷ [] = ap (λ (k : ℕ). take k (drop 4 words)) (sym count) ∙ take_two (drop 4 words) (2 * i) (spelled f) number.word first second in
    subst (λ (ws : List (List ℕ)). HaveGiven ws (with_given f n g)) (sym whole) (have_more (take (2 * i) (drop 4 words)) g (spelled f) number.word f n have refl flag.new number.is)

pub next_count : (words : List (List ℕ)) (i least most n : ℕ) → IsNumberAt words (4 + 2 * i + 1) least most n → 4 + 2 * (i + 1) ≤ length words
next_count words i least most n number = let le = words_before words (4 + 2 * i + 1) number.word number.there in omega arith
