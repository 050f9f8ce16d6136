-- How long a spelling is at most.
use Rattle.std.proofs.Common.{◌≡◌, ℕ, ◌+◌, ◌*◌, ◌≤◌, Bool, true, false, ◌&&◌, List, [], ◌∷◌, ◌++◌, length, Option, Some, None, refl, arith, length-append}
use Rattle.std.proofs.Math.Nat.{mul-le-mul_right}
use Rattle.std.specs.Int.{w32, w64, cast_unsigned}
use Rattle.gs_fields.specs.Fields.{number}
use Rattle.gs_fields.specs.Format.{Format, byte, four, eight, eight_signed, bytes, empty, exactly, never, pair, only, via, tagged, counted, all_fit, spell_all}

-- each spelling of a value has at most n bytes
pub record IsUpTo {A : Type 0} (f : Format A) (n : ℕ) : Type 0 where
  pub short : (a : A) → f.fits a ≡ true → length (f.spell a) ≤ n

both : (a b : Bool) → (a && b) ≡ true → (a ≡ true) × (b ≡ true)
both true b e = (refl, e)
both false b e = absurd cc

pub byte_up : IsUpTo byte 1
byte_up = record { short = λ a fits. omega arith }

four_long : (n : ℕ) → length (number w32 n) ≡ 4
unfolding number
four_long n = refl

eight_long : (n : ℕ) → length (number w64 n) ≡ 8
unfolding number
eight_long n = refl

pub four_up : IsUpTo four 4
four_up = record { short = λ a fits. omega (arith, four_long a) }

pub eight_up : IsUpTo eight 8
eight_up = record { short = λ a fits. omega (arith, eight_long a) }

pub eight_signed_up : IsUpTo eight_signed 8
eight_signed_up = record { short = λ a fits. omega (arith, eight_long (cast_unsigned w64 a)) }

pub empty_up : IsUpTo empty 0
empty_up = record { short = λ a fits. omega arith }

pub exactly_up : (k : ℕ) → IsUpTo (exactly k) 1
exactly_up k = record { short = λ a fits. omega arith }

pub never_up : {A : Type 0} (n : ℕ) → IsUpTo (never {A = A}) n
never_up n = record { short = λ a fits. absurd cc }

-- a byte string that a test keeps short
pub bytes_up : (ok : List ℕ → Bool) (n : ℕ) → ((b : List ℕ) → ok b ≡ true → length b ≤ n) → IsUpTo (only ok bytes) (4 + n)
bytes_up ok n short = record {
  short = λ b fits.
      let h = both _ (ok b) fits in
      omega (arith, short b h.1, length-append (number w32 (length b)) b, four_long (length b));
}

pub pair_up : {A B : Type 0} (f : Format A) (g : Format B) (n m : ℕ) → IsUpTo f n → IsUpTo g m → IsUpTo (pair f g) (n + m)
pair_up f g n m uf ug = record {
  short = λ a fits.
      let h = both (f.fits a.0) (g.fits a.1) fits in
      omega (arith, length-append (f.spell a.0) (g.spell a.1), uf.short a.0 h.0, ug.short a.1 h.1);
}

pub only_up : {A : Type 0} (ok : A → Bool) (f : Format A) (n : ℕ) → IsUpTo f n → IsUpTo (only ok f) n
only_up ok f n uf = record { short = λ a fits. uf.short a (both (f.fits a) (ok a) fits).0 }

via_case : {A : Type 0} (f : Format A) (n : ℕ) (o : Option A) → IsUpTo f n → (elim o as (λ _. Bool) [ Some a ↦ f.fits a | None ↦ false ]) ≡ true → length (elim o as (λ _. List ℕ) [ Some a ↦ f.spell a | None ↦ [] ]) ≤ n
via_case f n (Some a) uf fits = uf.short a fits
via_case f n None uf fits = absurd cc

pub via_up : {A X : Type 0} (put : A → X) (get : X → Option A) (f : Format A) (n : ℕ) → IsUpTo f n → IsUpTo (via put get f) n
via_up put get f n uf = record { short = λ x fits. via_case f n (get x) uf fits }

pub tagged_up : {X : Type 0} (tag_of : X → ℕ) (at : ℕ → Format X) (n : ℕ) → ((t : ℕ) → IsUpTo (at t) n) → IsUpTo (tagged tag_of at) (1 + n)
tagged_up tag_of at n ups = record {
  short = λ x fits.
      let h = both _ ((at (tag_of x)).fits x) fits in
      omega (arith, (ups (tag_of x)).short x h.1);
}

all_up : {A : Type 0} (f : Format A) (n : ℕ) (xs : List A) → IsUpTo f n → all_fit f xs ≡ true → length (spell_all f xs) ≤ length xs * n
all_up f n [] uf fits = omega arith
all_up f n (x ∷ xs) uf fits =
    let h = both (f.fits x) (all_fit f xs) fits in
    omega (arith, length-append (f.spell x) (spell_all f xs), uf.short x h.0, all_up f n xs uf h.1)

pub counted_up : {A : Type 0} (c : Format ℕ) (f : Format A) (k x n : ℕ) → ((m : ℕ) → c.fits m ≡ true → m ≤ k) → IsUpTo c x → IsUpTo f n → IsUpTo (counted c f) (x + k * n)
counted_up c f k x n few uc uf = record {
  short = λ xs fits.
      let h = both (c.fits (length xs)) (all_fit f xs) fits in
      omega (arith, length-append (c.spell (length xs)) (spell_all f xs), uc.short (length xs) h.0, all_up f n xs uf h.1, mul-le-mul_right n (few (length xs) h.0));
}

-- at most n is at most m
pub wider : {A : Type 0} (f : Format A) (n m : ℕ) → n ≤ m → IsUpTo f n → IsUpTo f m
wider f n m le uf = record { short = λ a fits. omega (arith, uf.short a fits) }
