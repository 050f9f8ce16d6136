-- Symbols as they are printed.
use Rattle.std.proofs.Common.{◌≡◌, ◌≢◌, ℕ, Bool, true, false, ◌||◌, eqb, ne_eqb, List, [], ◌∷◌, ◌++◌, slice_index, refl, subst, arith}
use Rattle.std.specs.Prelude.{codes, if◌then◌else◌}
use Rattle.std.proofs.lemmas.Bool.{or_right}
use Rattle.gs_tree.specs.declared.tree.Op.{Op}
use Rattle.gs_tree.specs.declared.tree.Op.TheVariants.{Or, And, Eq, Ne, Lt, Le, Gt, Ge, Add, Sub, Mul, Div, Rem}
use Rattle.gs_tree.specs.Bytes.{is_in, is_letter, is_digit, is_double, is_single}
use Rattle.gs_tree.specs.Lexeme.{symbol}
use Rattle.gs_tree.specs.Lexicon as grammar
use Rattle.gs_tree.specs.Words.{single_of, double_of}
use Rattle.gs_tree.specs.Printed.{op_text}
use Rattle.gs_tree.specs.Sign.{Sign, open_paren, close_paren, open_brace, close_brace, comma, semicolon, equal, minus, star, bang, ampersand}
use Rattle.gs_tree.specs.Signs.{sign_of_found}
use Rattle.gs_spelling.specs.Signs.{op_sign}
use Rattle.gs_spelling.proofs.Cuts.{Cuts, piece_cuts, blank_cuts}

-- a symbol of one byte
single_cuts : (b : ℕ) (rest : List ℕ) (signs : List Sign) → is_single b ≡ true → is_double b (slice_index rest 0) ≡ false →
    (b ≡ 47 → (slice_index rest 0 ≢ 47) × (slice_index rest 0 ≢ 42)) → Cuts rest signs → Cuts (b ∷ rest) (sign_of_found (single_of b) ∷ signs)
single_cuts b rest signs s d c next = piece_cuts (b ∷ []) rest symbol signs (grammar.IsToken.single (b ∷ rest) s d c) next

-- a symbol of two bytes
double_cuts : (a b : ℕ) (rest : List ℕ) (signs : List Sign) → is_double a b ≡ true → Cuts rest signs → Cuts (a ∷ b ∷ rest) (sign_of_found (double_of a b) ∷ signs)
double_cuts a b rest signs d next = piece_cuts (a ∷ b ∷ []) rest symbol signs (grammar.IsToken.double (a ∷ b ∷ rest) d) next

-- false in either case
either_false : (t : Bool) → (if t then false else false) ≡ false
either_false true = refl
either_false false = refl

-- one that begins no symbol of two bytes and no comment
lone_cuts : (b : ℕ) (rest : List ℕ) (signs : List Sign) → is_single b ≡ true → is_in (codes "+-<>=!") b ≡ false → is_in (codes "+-&|") b ≡ false → b ≢ 47 →
    Cuts rest signs → Cuts (b ∷ rest) (sign_of_found (single_of b) ∷ signs)
unfolding is_double
lone_cuts b rest signs s e d n next = single_cuts b rest signs s (rw (e, d) (either_false (eqb (slice_index rest 0) 61))) (λ f. absurd (n f)) next

-- `(`
pub open_paren_cuts : (rest : List ℕ) (signs : List Sign) → Cuts rest signs → Cuts (40 ∷ rest) (open_paren ∷ signs)
unfolding is_single
open_paren_cuts rest signs next = lone_cuts 40 rest signs refl refl refl (omega arith) next

-- `)`
pub close_paren_cuts : (rest : List ℕ) (signs : List Sign) → Cuts rest signs → Cuts (41 ∷ rest) (close_paren ∷ signs)
unfolding is_single
close_paren_cuts rest signs next = lone_cuts 41 rest signs refl refl refl (omega arith) next

-- `{`
pub open_brace_cuts : (rest : List ℕ) (signs : List Sign) → Cuts rest signs → Cuts (123 ∷ rest) (open_brace ∷ signs)
unfolding is_single
open_brace_cuts rest signs next = lone_cuts 123 rest signs refl refl refl (omega arith) next

-- `}`
pub close_brace_cuts : (rest : List ℕ) (signs : List Sign) → Cuts rest signs → Cuts (125 ∷ rest) (close_brace ∷ signs)
unfolding is_single
close_brace_cuts rest signs next = lone_cuts 125 rest signs refl refl refl (omega arith) next

-- `;`
pub semicolon_cuts : (rest : List ℕ) (signs : List Sign) → Cuts rest signs → Cuts (59 ∷ rest) (semicolon ∷ signs)
unfolding is_single
semicolon_cuts rest signs next = lone_cuts 59 rest signs refl refl refl (omega arith) next

-- `*`
pub star_cuts : (rest : List ℕ) (signs : List Sign) → Cuts rest signs → Cuts (42 ∷ rest) (star ∷ signs)
unfolding is_single
star_cuts rest signs next = lone_cuts 42 rest signs refl refl refl (omega arith) next

-- a comma and the blank after it
pub comma_cuts : (rest : List ℕ) (signs : List Sign) → Cuts rest signs → Cuts (44 ∷ 32 ∷ rest) (comma ∷ signs)
unfolding is_single
comma_cuts rest signs next = lone_cuts 44 (32 ∷ rest) signs refl refl refl (omega arith) (blank_cuts rest signs next)

-- a symbol of one byte between blanks
spaced_cuts : (b : ℕ) (rest : List ℕ) (signs : List Sign) → is_single b ≡ true → is_double b 32 ≡ false → Cuts rest signs →
    Cuts (32 ∷ b ∷ 32 ∷ rest) (sign_of_found (single_of b) ∷ signs)
spaced_cuts b rest signs s d next =
    blank_cuts (b ∷ 32 ∷ rest) (sign_of_found (single_of b) ∷ signs) (single_cuts b (32 ∷ rest) signs s d (λ e. (omega arith, omega arith)) (blank_cuts rest signs next))

-- a symbol of two bytes between blanks
spaced_double : (a b : ℕ) (rest : List ℕ) (signs : List Sign) → is_double a b ≡ true → Cuts rest signs → Cuts (32 ∷ a ∷ b ∷ 32 ∷ rest) (sign_of_found (double_of a b) ∷ signs)
spaced_double a b rest signs d next =
    blank_cuts (a ∷ b ∷ 32 ∷ rest) (sign_of_found (double_of a b) ∷ signs) (double_cuts a b (32 ∷ rest) signs d (blank_cuts rest signs next))

-- `=` between blanks
pub equal_cuts : (rest : List ℕ) (signs : List Sign) → Cuts rest signs → Cuts (32 ∷ 61 ∷ 32 ∷ rest) (equal ∷ signs)
unfolding is_single is_double
equal_cuts rest signs next = spaced_cuts 61 rest signs refl refl next

-- an operator
pub op_cuts : (op : Op) (rest : List ℕ) (signs : List Sign) → Cuts rest signs → Cuts (op_text op ++ rest) (op_sign op ∷ signs)
unfolding is_single is_double
op_cuts Or rest signs next = spaced_double 124 124 rest signs refl next
op_cuts And rest signs next = spaced_double 38 38 rest signs refl next
op_cuts Eq rest signs next = spaced_double 61 61 rest signs refl next
op_cuts Ne rest signs next = spaced_double 33 61 rest signs refl next
op_cuts Lt rest signs next = spaced_cuts 60 rest signs refl refl next
op_cuts Le rest signs next = spaced_double 60 61 rest signs refl next
op_cuts Gt rest signs next = spaced_cuts 62 rest signs refl refl next
op_cuts Ge rest signs next = spaced_double 62 61 rest signs refl next
op_cuts Add rest signs next = spaced_cuts 43 rest signs refl refl next
op_cuts Sub rest signs next = spaced_cuts 45 rest signs refl refl next
op_cuts Mul rest signs next = spaced_cuts 42 rest signs refl refl next
op_cuts Div rest signs next = spaced_cuts 47 rest signs refl refl next
op_cuts Rem rest signs next = spaced_cuts 37 rest signs refl refl next

-- what a value begins with: a letter, a digit, a quote or `(`
unfoldable pub begins_value : ℕ → Bool
begins_value b = is_letter b || (is_digit b || (eqb b 34 || eqb b 40))

-- a letter begins a value
pub letter_begins : (b : ℕ) → is_letter b ≡ true → begins_value b ≡ true
unfolding begins_value
letter_begins b h = rw h refl

-- a digit begins a value
pub digit_begins : (b : ℕ) → is_digit b ≡ true → begins_value b ≡ true
unfolding begins_value
digit_begins b h = rw h (or_right (is_letter b) true refl)

-- a quote begins a value
pub quote_begins : begins_value 34 ≡ true
unfolding begins_value is_letter is_digit
quote_begins = refl

-- `(` begins a value
pub paren_begins : begins_value 40 ≡ true
unfolding begins_value is_letter is_digit
paren_begins = refl

-- `atoi` and `strcmp` begin a value
pub call_begins : (begins_value 97 ≡ true) × (begins_value 115 ≡ true)
unfolding begins_value is_letter is_digit
call_begins = (refl, refl)

-- a byte that begins no value
no_value : (b v : ℕ) → begins_value v ≡ false → begins_value b ≡ true → b ≡ v → ⊥
no_value b v n h e = let same : begins_value v ≡ true = subst (λ (x : ℕ). begins_value x ≡ true) e h in cc

-- `-` before a value is no part of a longer symbol
minus_double : (b : ℕ) → begins_value b ≡ true → is_double 45 b ≡ false
unfolding is_double begins_value is_letter is_digit
minus_double b h = rw (ne_eqb b 61 (no_value b 61 refl h), ne_eqb 45 b (λ e. no_value b 45 refl h (omega arith))) refl

-- `!` before a value is no part of a longer symbol
bang_double : (b : ℕ) → begins_value b ≡ true → is_double 33 b ≡ false
unfolding is_double begins_value is_letter is_digit
bang_double b h = rw (ne_eqb b 61 (no_value b 61 refl h)) refl

-- `&` before a value is no part of a longer symbol
ampersand_double : (b : ℕ) → begins_value b ≡ true → is_double 38 b ≡ false
unfolding is_double begins_value is_letter is_digit
ampersand_double b h = rw (ne_eqb b 61 (no_value b 61 refl h), ne_eqb 38 b (λ e. no_value b 38 refl h (omega arith))) refl

-- `-` before a value
pub minus_cuts : (rest : List ℕ) (signs : List Sign) → begins_value (slice_index rest 0) ≡ true → Cuts rest signs → Cuts (45 ∷ rest) (minus ∷ signs)
unfolding is_single
minus_cuts rest signs h next = single_cuts 45 rest signs refl (minus_double (slice_index rest 0) h) (λ e. absurd (omega arith)) next

-- `!` before a value
pub bang_cuts : (rest : List ℕ) (signs : List Sign) → begins_value (slice_index rest 0) ≡ true → Cuts rest signs → Cuts (33 ∷ rest) (bang ∷ signs)
unfolding is_single
bang_cuts rest signs h next = single_cuts 33 rest signs refl (bang_double (slice_index rest 0) h) (λ e. absurd (omega arith)) next

-- `&` before a value
pub ampersand_cuts : (rest : List ℕ) (signs : List Sign) → begins_value (slice_index rest 0) ≡ true → Cuts rest signs → Cuts (38 ∷ rest) (ampersand ∷ signs)
unfolding is_single
ampersand_cuts rest signs h next = single_cuts 38 rest signs refl (ampersand_double (slice_index rest 0) h) (λ e. absurd (omega arith)) next
