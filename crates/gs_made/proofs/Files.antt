-- The names of the files that are drawn.
use Rattle.std.proofs.Common.{◌≡◌, ℕ, ◌+◌, ◌%◌, ◌^◌, ◌<◌, ◌≤◌, true, List, [], ◌∷◌, ◌++◌, length, refl, arith}
use Rattle.std.specs.Prelude.{nat_le}
use Rattle.std.specs.List.{AllPass, list_all}
use Rattle.std.specs.Fmt.{decimal}
use Rattle.std.proofs.lemmas.List.Elements.{All-nil, All-cons, All-push, All-weaker}
use Rattle.std.proofs.lemmas.List.Sums.{list_all-from_AllPass}
use Rattle.std.proofs.Math.Nat.{mod-lt}
use Rattle.std.proofs.lemmas.Fmt.{decimal_by_steps, length-decimal-le}
use Rattle.std.proofs.lemmas.Bool.{le-leb}
use Rattle.std.proofs.lemmas.Bool.Decides.{nat_tests}
use Rattle.gs_types.specs.Name.{is_name_byte}
use Rattle.gs_types.specs.NameTest.{is_name}
use Rattle.gs_tree.specs.Bytes.{is_digit, is_plain}
use Rattle.gs_report.specs.Generator.{drawn}
use Rattle.gs_made.specs.Texts.{file_named}

-- ---- figures

glyph : (d : ℕ) → d < 10 → is_digit (48 + d) ≡ true
unfolding is_digit
glyph d h = grind (arith, nat_tests)

one_glyph : (n : ℕ) → n < 10 → AllPass is_digit ((48 + n) ∷ [])
one_glyph n h = All-cons (λ d. is_digit d ≡ true) (48 + n) [] (glyph n h) (All-nil (λ d. is_digit d ≡ true))

last_glyph : (n : ℕ) (digits : List ℕ) → 10 ≤ n → AllPass is_digit digits → AllPass is_digit (digits ++ ((48 + n % 10) ∷ []))
last_glyph n digits h each = All-push (λ d. is_digit d ≡ true) digits (48 + n % 10) each (glyph (n % 10) (omega arith))

figures : (n : ℕ) → n < 2 ^ 64 → AllPass is_digit (decimal n)
figures n h = decimal_by_steps (λ m digits. AllPass is_digit digits) one_glyph (λ m digits ten each. last_glyph m digits ten each) n h

-- ---- what the names hold

digit_in_name : (b : ℕ) → is_digit b ≡ true → is_name_byte b ≡ true
unfolding is_digit
digit_in_name b h = rw h refl

digit_is_plain : (b : ℕ) → is_digit b ≡ true → is_plain b ≡ true
unfolding is_digit is_plain
digit_is_plain b h = grind (arith, nat_tests)

pub named_length : (k : ℕ) → k < 16 → length (file_named k) ≤ 3
named_length k h = omega (arith, length-decimal-le 2 k (omega arith) (omega arith) (omega arith))

pub named_plain : (k : ℕ) → k < 16 → AllPass is_plain (file_named k)
unfolding is_plain
named_plain k h =
    All-cons (λ b. is_plain b ≡ true) 102 (decimal k) refl
    (All-weaker (λ b. is_digit b ≡ true) (λ b. is_plain b ≡ true) digit_is_plain (decimal k) (figures k (omega arith)))

named_bytes : (k : ℕ) → k < 16 → AllPass is_name_byte (file_named k)
named_bytes k h =
    All-cons (λ b. is_name_byte b ≡ true) 102 (decimal k) refl
    (All-weaker (λ b. is_digit b ≡ true) (λ b. is_name_byte b ≡ true) digit_in_name (decimal k) (figures k (omega arith)))

pub named_is_name : (k : ℕ) → k < 16 → is_name (file_named k) ≡ true
unfolding is_name
named_is_name k h =
    let some : nat_le 1 (length (file_named k)) ≡ true = le-leb _ _ (omega arith) in
    let short : nat_le (length (file_named k)) 200 ≡ true = le-leb _ _ (omega (arith, named_length k h)) in
    let bytes : list_all is_name_byte (file_named k) ≡ true = list_all-from_AllPass is_name_byte (file_named k) (named_bytes k h) in
    rw (some, short, bytes) refl

pub drawn_low : (x : ℕ) → drawn x % 16 < 16
drawn_low x = mod-lt (drawn x) (omega arith)
