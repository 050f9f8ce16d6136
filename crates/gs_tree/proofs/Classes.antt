-- Classes of bytes and runs of them.
use Rattle.std.proofs.Common.{◌≡◌, ℕ, zero, suc, ◌+◌, ◌<◌, ◌≤◌, Bool, true, false, ◌&&◌, cond, List, [], ◌∷◌, length, take, slice_index, refl, ap, ◌∙◌, arith}
use Rattle.std.specs.List.{take_while}
use Rattle.std.proofs.lemmas.List.Sums.{take_while-cons}
use Rattle.std.proofs.Math.Numerals.{add-one}
use Rattle.std.proofs.lemmas.Bool.Decides.{nat_tests}
use Rattle.std.proofs.lemmas.Bool.{eqb-true}
use Rattle.gs_tree.specs.Bytes.{is_blank, is_letter, is_digit, is_name_byte, is_in_line, is_double, leading}
use Rattle.gs_tree.specs.Lexicon.{is_include}

-- a byte of a class without 0 stands within the text
pub class_within : (p : ℕ → Bool) (bytes : List ℕ) (k : ℕ) → p 0 ≡ false → p (slice_index bytes k) ≡ true → k < length bytes
class_within p [] k z e = absurd (cc)
class_within p (b ∷ bytes) zero z e = omega arith
class_within p (b ∷ bytes) (suc k) z e = omega (arith, class_within p bytes k z e)

pub is_blank-zero : is_blank 0 ≡ false
unfolding is_blank
is_blank-zero = refl

pub is_letter-zero : is_letter 0 ≡ false
unfolding is_letter
is_letter-zero = refl

pub is_digit-zero : is_digit 0 ≡ false
unfolding is_digit
is_digit-zero = refl

pub is_double-zero : (a : ℕ) → is_double a 0 ≡ false
unfolding is_double
is_double-zero a = grind (arith, nat_tests)

-- a letter is a byte of a name
pub is_name_byte-letter : (b : ℕ) → is_letter b ≡ true → is_name_byte b ≡ true
unfolding is_name_byte
is_name_byte-letter b e = rw e refl

length_test : (t : Bool) (b : ℕ) (run : List ℕ) → length (cond t (b ∷ run) []) ≡ cond t (length run + 1) 0
length_test true b run = omega arith
length_test false b run = refl

leading-cons : (p : ℕ → Bool) (b : ℕ) (bytes : List ℕ) → leading p (b ∷ bytes) ≡ cond (p b) (leading p bytes + 1) 0
leading-cons p b bytes = ap length (take_while-cons p b bytes) ∙ length_test (p b) b (take_while p bytes)

more_or_none : (t : Bool) (n m : ℕ) → n ≤ m → cond t (n + 1) 0 ≤ suc m
more_or_none true n m h = omega arith
more_or_none false n m h = omega arith

-- a run ends within its text
pub leading-length : (p : ℕ → Bool) (bytes : List ℕ) → leading p bytes ≤ length bytes
leading-length p [] = omega arith
leading-length p (b ∷ bytes) = rw leading-cons (more_or_none (p b) (leading p bytes) (length bytes) (leading-length p bytes))

-- a run whose first byte is of the class has one byte at least
pub leading-some : (p : ℕ → Bool) (bytes : List ℕ) → 0 < length bytes → p (slice_index bytes 0) ≡ true → 1 ≤ leading p bytes
leading-some p [] h e = absurd (omega arith)
leading-some p (b ∷ bytes) h e = rw leading-cons (rw e (omega arith))

take_test : (t : Bool) (b : ℕ) (bytes run : List ℕ) (n : ℕ) → take n bytes ≡ run → take (cond t (n + 1) 0) (b ∷ bytes) ≡ cond t (b ∷ run) []
take_test true b bytes run n e = rw add-one (ap (λ r. b ∷ r) e)
take_test false b bytes run n e = refl

-- the bytes of a run
pub take-leading : (p : ℕ → Bool) (bytes : List ℕ) → take (leading p bytes) bytes ≡ take_while p bytes
take-leading p [] = refl
take-leading p (b ∷ bytes) = rw (leading-cons, take_while-cons) (take_test (p b) b bytes (take_while p bytes) (leading p bytes) (take-leading p bytes))

middle : (x y z : Bool) → (x && y && z) ≡ true → y ≡ true
middle true true z e = refl
middle true false z e = e
middle false y z e = absurd (cc)

-- an `#include` line begins with its `#`
pub include_first : (is_fresh : Bool) (bytes : List ℕ) → is_include is_fresh bytes ≡ true → slice_index bytes 0 ≡ 35
include_first is_fresh bytes e = eqb-true (slice_index bytes 0) 35 (middle is_fresh _ _ e)

pub is_in_line-hash : is_in_line 35 ≡ true
unfolding is_in_line
is_in_line-hash = refl
