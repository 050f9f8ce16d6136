-- Classes of bytes that share no byte.
use Rattle.std.proofs.Common.{◌≡◌, ℕ, Bool, true, false, ◌&&◌, ◌||◌, not, List, [], ◌∷◌, eqb, refl, ap, ◌∙◌, arith}
use Rattle.std.specs.Prelude.{codes, if◌then◌else◌}
use Rattle.std.proofs.lemmas.Bool.{eqb-true}
use Rattle.std.proofs.lemmas.Bool.Decides.{nat_tests}
use Rattle.gs_tree.specs.Bytes.{is_in, is_blank, is_letter, is_digit, is_double, is_single}

-- each of these bytes passes a test
abbrev pub all_pass : (ℕ → Bool) → List ℕ → Bool
all_pass test [] = true
all_pass test (v ∷ vs) = test v && all_pass test vs

first_of_both : (x y : Bool) → (x && y) ≡ true → x ≡ true
first_of_both true y e = refl
first_of_both false y e = e

second_of_both : (x y : Bool) → (x && y) ≡ true → y ≡ true
second_of_both true y e = e
second_of_both false y e = absurd (cc)

-- a byte of a list passes a test that each of the list passes
pass_first : (test : ℕ → Bool) (v b : ℕ) (rest : Bool) (e : Bool) → eqb b v ≡ e → (e || rest) ≡ true → test v ≡ true → (rest ≡ true → test b ≡ true) → test b ≡ true
pass_first test v b rest true q h here there = ap test (eqb-true b v q) ∙ here
pass_first test v b rest false q h here there = there h

-- a byte of a list passes a test that each of the list passes
pub pass_in : (test : ℕ → Bool) (vs : List ℕ) (b : ℕ) → is_in vs b ≡ true → all_pass test vs ≡ true → test b ≡ true
pass_in test [] b h all = absurd (cc)
pass_in test (v ∷ vs) b h all =
    pass_first test v b (is_in vs b) (eqb b v) refl h (first_of_both (test v) (all_pass test vs) all) (λ r. pass_in test vs b r (second_of_both (test v) (all_pass test vs) all))

not-true : (x : Bool) → not x ≡ true → x ≡ false
not-true true e = absurd (cc)
not-true false e = refl

-- a test that fails where another holds
apart : (x y : Bool) → (x ≡ true → y ≡ false) → y ≡ true → x ≡ false
apart true y h e = absurd (let f = h refl in cc)
apart false y h e = refl

blank-letter : (b : ℕ) → is_blank b ≡ true → is_letter b ≡ false
unfolding is_blank is_letter
blank-letter b h = not-true (is_letter b) (pass_in (λ x. not (is_letter x)) (codes " \t\r\n") b h refl)

blank-digit : (b : ℕ) → is_blank b ≡ true → is_digit b ≡ false
unfolding is_blank is_digit
blank-digit b h = not-true (is_digit b) (pass_in (λ x. not (is_digit x)) (codes " \t\r\n") b h refl)

pub letter-blank : (b : ℕ) → is_letter b ≡ true → is_blank b ≡ false
letter-blank b h = apart (is_blank b) (is_letter b) (blank-letter b) h

pub digit-blank : (b : ℕ) → is_digit b ≡ true → is_blank b ≡ false
digit-blank b h = apart (is_blank b) (is_digit b) (blank-digit b) h

pub digit-letter : (b : ℕ) → is_digit b ≡ true → is_letter b ≡ false
unfolding is_digit is_letter
digit-letter b h = grind (arith, nat_tests)

-- which tests the first byte of a symbol fails
abbrev is_no_other : ℕ → Bool
is_no_other x = not (is_blank x) && not (is_letter x) && not (is_digit x) && not (eqb x 34)

pub record IsApart (b : ℕ) : Type 0 where
  pub no_blank : is_blank b ≡ false
  pub no_letter : is_letter b ≡ false
  pub no_digit : is_digit b ≡ false
  pub no_quote : eqb b 34 ≡ false

apart_by : (b : ℕ) → is_no_other b ≡ true → IsApart b
apart_by b h =
    let three = first_of_both (not (is_blank b) && not (is_letter b) && not (is_digit b)) (not (eqb b 34)) h in
    let two = first_of_both (not (is_blank b) && not (is_letter b)) (not (is_digit b)) three in
    record {
      no_blank = not-true (is_blank b) (first_of_both (not (is_blank b)) (not (is_letter b)) two);
      no_letter = not-true (is_letter b) (second_of_both (not (is_blank b)) (not (is_letter b)) two);
      no_digit = not-true (is_digit b) (second_of_both (not (is_blank b) && not (is_letter b)) (not (is_digit b)) three);
      no_quote = not-true (eqb b 34) (second_of_both (not (is_blank b) && not (is_letter b) && not (is_digit b)) (not (eqb b 34)) h);
    }

pub single-apart : (b : ℕ) → is_single b ≡ true → IsApart b
unfolding is_single is_blank is_letter is_digit
single-apart b h = apart_by b (pass_in is_no_other (codes "(){},;=+-*/%<>!&") b h refl)

double_first : (a b : ℕ) (e : Bool) → (if e then is_in (codes "+-<>=!") a else (is_in (codes "+-&|") a && eqb a b)) ≡ true → is_in (codes "+-<>=!&|") a ≡ true
double_first a b true h = pass_in (is_in (codes "+-<>=!&|")) (codes "+-<>=!") a h refl
double_first a b false h = pass_in (is_in (codes "+-<>=!&|")) (codes "+-&|") a (first_of_both (is_in (codes "+-&|") a) (eqb a b) h) refl

-- no symbol of two bytes begins as a comment does
pub double-apart : (a b : ℕ) → is_double a b ≡ true → IsApart a × (eqb a 47 ≡ false)
unfolding is_double is_blank is_letter is_digit
double-apart a b h =
    let one = double_first a b (eqb b 61) h in
    (apart_by a (pass_in is_no_other (codes "+-<>=!&|") a one refl), not-true (eqb a 47) (pass_in (λ x. not (eqb x 47)) (codes "+-<>=!&|") a one refl))

pub slash-apart : IsApart 47
unfolding is_blank is_letter is_digit
slash-apart = record { no_blank = refl; no_letter = refl; no_digit = refl; no_quote = refl }

pub quote-apart : (is_blank 34 ≡ false) × (is_letter 34 ≡ false) × (is_digit 34 ≡ false)
unfolding is_blank is_letter is_digit
quote-apart = (refl, refl, refl)

pub hash-apart : IsApart 35 × (is_single 35 ≡ false) × (eqb 35 47 ≡ false)
unfolding is_blank is_letter is_digit is_single
hash-apart = (record { no_blank = refl; no_letter = refl; no_digit = refl; no_quote = refl }, refl, refl)

-- no symbol of two bytes begins with a `#`
pub hash-double : (b : ℕ) → is_double 35 b ≡ false
unfolding is_double
hash-double b = by_second (eqb b 61)
  where
    by_second : (e : Bool) → (if e then is_in (codes "+-<>=!") 35 else (is_in (codes "+-&|") 35 && eqb 35 b)) ≡ false
    by_second true = refl
    by_second false = refl

pub is_blank-line_feed : is_blank 10 ≡ true
unfolding is_blank
is_blank-line_feed = refl
