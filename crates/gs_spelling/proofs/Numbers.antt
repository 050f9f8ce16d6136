-- Numbers as they are printed.
use Rattle.std.proofs.Common.{◌≡◌, ℕ, zero, suc, pos, ◌+◌, ◌-◌, ◌*◌, ◌/◌, ◌%◌, ◌^◌, ◌<◌, ◌≤◌, true, false, List, [], ◌∷◌, ◌++◌, length, slice_index, get_or, refl, ap, ◌∙◌, subst, arith}
use Rattle.std.specs.List.{take_while, AllPass}
use Rattle.std.specs.Fmt as fmt
use Rattle.std.proofs.lemmas.List.{get_or_append_left}
use Rattle.std.proofs.lemmas.List.Sums.{fold-append}
use Rattle.std.proofs.lemmas.List.Elements.{All-nil, All-cons, All-push}
use Rattle.std.proofs.lemmas.Fmt.{decimal_by_steps, first_decimal, decimal_nonempty, decimal_digit}
use Rattle.std.proofs.lemmas.Bool.Decides.{nat_tests}
use Rattle.gs_tree.specs.Bytes.{is_digit, decimal, leading}
use Rattle.gs_tree.specs.Lexicon.{greatest, IsToken}
use Rattle.gs_tree.specs.Lexicon as grammar
use Rattle.gs_tree.specs.Lexeme.{numeral}
use Rattle.gs_tree.specs.Sign.{Sign, number}
use Rattle.gs_spelling.proofs.Runs.{take_while-run, leading-run}
use Rattle.gs_spelling.proofs.Cuts.{Cuts, piece_cuts}

-- digits that write a number
record Writes (n : ℕ) (digits : List ℕ) : Type 0 where
  each : AllPass is_digit digits
  value : decimal digits ≡ n

-- a digit's byte is a digit
glyph_digit : (d : ℕ) → d < 10 → is_digit (48 + d) ≡ true
unfolding is_digit
glyph_digit d h = grind (arith, nat_tests)

-- one digit writes a number below ten
one_digit : (n : ℕ) → n < 10 → Writes n ((48 + n) ∷ [])
one_digit n h = record { each = All-cons (λ d. is_digit d ≡ true) (48 + n) [] (glyph_digit n h) (All-nil (λ d. is_digit d ≡ true)); value = omega arith }

-- one digit more writes ten times the number and that digit
last_digit : (n : ℕ) (digits : List ℕ) → 10 ≤ n → Writes (n / 10) digits → Writes n (digits ++ ((48 + n % 10) ∷ []))
last_digit n digits h w =
    let value : decimal (digits ++ ((48 + n % 10) ∷ [])) ≡ 10 * decimal digits + (48 + n % 10 - 48) = fold-append (λ v d. 10 * v + (d - 48)) 0 digits ((48 + n % 10) ∷ []) in
    record {
      each = All-push (λ d. is_digit d ≡ true) digits (48 + n % 10) w.each (glyph_digit (n % 10) (omega arith));
      value = omega (arith, value, w.value);
    }

-- what is printed writes the number
writes : (n : ℕ) → n < 2 ^ 64 → Writes n (fmt.decimal n)
writes n h = decimal_by_steps (λ m digits. Writes m digits) one_digit last_digit n h

-- 0 is written by one digit
zero_digits : (n : ℕ) → n ≡ 0 → fmt.decimal n ≡ 48 ∷ []
zero_digits n e = ap (λ (m : ℕ). fmt.decimal m) e ∙ decimal_digit 0 (omega arith)

-- only a lone digit is a 0 in front
single : (n : ℕ) (digits rest : List ℕ) → slice_index (digits ++ rest) 0 ≡ slice_index digits 0 → (0 < n → 48 < get_or digits 0 0) → (n ≡ 0 → digits ≡ 48 ∷ []) →
    is_digit (slice_index rest 0) ≡ false → slice_index (digits ++ rest) 0 ≡ 48 → is_digit (slice_index (digits ++ rest) 1) ≡ false
single zero digits rest first high zero_is s e = rw (zero_is refl) s
single (suc n) digits rest first high zero_is s e = absurd (omega (arith, high (omega arith)))

-- digits with no 0 before them
number_token : (n : ℕ) (digits rest : List ℕ) → Writes n digits → 0 < length digits → (0 < n → 48 < get_or digits 0 0) → (n ≡ 0 → digits ≡ 48 ∷ []) →
    n ≤ greatest → is_digit (slice_index rest 0) ≡ false → IsToken (digits ++ rest) (numeral (pos n)) (length digits)
number_token n digits rest w some high zero_is h s =
    let first : slice_index (digits ++ rest) 0 ≡ slice_index digits 0 = get_or_append_left digits rest 0 0 some in
    let run : take_while is_digit (digits ++ rest) ≡ digits = take_while-run is_digit digits rest w.each s in
    let digit : is_digit (slice_index (digits ++ rest) 0) ≡ true = ap (λ (b : ℕ). is_digit b) first ∙ w.each 0 0 some in
    let value : decimal (take_while is_digit (digits ++ rest)) ≡ n = ap (λ (r : List ℕ). decimal r) run ∙ w.value in
    let within : decimal (take_while is_digit (digits ++ rest)) ≤ greatest = rw value h in
    let here = grammar.IsToken.number (digits ++ rest) digit (single n digits rest first high zero_is s) within in
    subst (λ (k : ℕ). IsToken (digits ++ rest) (numeral (pos n)) k) (leading-run is_digit digits rest w.each s)
    (subst (λ (v : ℕ). IsToken (digits ++ rest) (numeral (pos v)) (leading is_digit (digits ++ rest))) value here)

-- a number that is printed is a token, before a byte that is no digit
pub decimal_token : (n : ℕ) (rest : List ℕ) → n ≤ greatest → is_digit (slice_index rest 0) ≡ false → IsToken (fmt.decimal n ++ rest) (numeral (pos n)) (length (fmt.decimal n))
decimal_token n rest h s =
    let small : n < 2 ^ 64 = omega arith in
    number_token n (fmt.decimal n) rest (writes n small) (decimal_nonempty n small) (λ p. first_decimal n p small) (zero_digits n) h s

-- and is cut into its sign
pub number_cuts : (n : ℕ) (rest : List ℕ) (signs : List Sign) → n ≤ greatest → is_digit (slice_index rest 0) ≡ false → Cuts rest signs →
    Cuts (fmt.decimal n ++ rest) (number (pos n) ∷ signs)
number_cuts n rest signs h s next = piece_cuts (fmt.decimal n) rest (numeral (pos n)) signs (decimal_token n rest h s) next

-- what a printed number begins with
pub number_first : (n : ℕ) (rest : List ℕ) → n ≤ greatest → is_digit (slice_index (fmt.decimal n ++ rest) 0) ≡ true
number_first n rest h =
    let small : n < 2 ^ 64 = omega arith in
    let some = decimal_nonempty n small in
    let w = writes n small in
    ap (λ (b : ℕ). is_digit b) (get_or_append_left (fmt.decimal n) rest 0 0 some) ∙ w.each 0 0 some

-- a printed 0
pub zero_cuts : (rest : List ℕ) (signs : List Sign) → is_digit (slice_index rest 0) ≡ false → Cuts rest signs → Cuts (48 ∷ rest) (number (pos 0) ∷ signs)
zero_cuts rest signs s next =
    subst (λ (digits : List ℕ). Cuts (digits ++ rest) (number (pos 0) ∷ signs)) (zero_digits 0 refl) (number_cuts 0 rest signs (omega arith) s next)
