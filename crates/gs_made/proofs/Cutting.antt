-- Bytes and the marks that they are cut into, on their lines, whatever stands before them.
use Rattle.std.proofs.Common.{◌≡◌, ◌≢◌, ℕ, pos, ◌+◌, ◌-◌, ◌≤◌, Bool, true, false, List, [], ◌∷◌, ◌++◌, length, length-append, take, drop, slice_index, refl, sym, ap, ◌∙◌, subst, lit<, arith, append_assoc}
use Rattle.std.specs.Prelude.{codes, ◌==◌, if◌then◌else◌}
use Rattle.std.specs.List.{AllPass}
use Rattle.std.specs.Fmt.{decimal}
use Rattle.std.proofs.lemmas.Fmt.{decimal_digit}
use Rattle.std.proofs.lemmas.List.{drop-drop, take_at, drop_at}
use Rattle.std.proofs.lemmas.List.Elements.{All-head, All-tail}
use Rattle.gs_tree.specs.Bytes.{is_blank, is_in, is_digit, is_name_byte, is_plain, is_single, is_double, leading}
use Rattle.gs_tree.specs.Quoted.{Quotes, closed, closes, goes_on}
use Rattle.gs_tree.specs.Quoted as q
use Rattle.gs_tree.specs.Lexeme.{Kind, Lexeme, word, numeral, literal, symbol}
use Rattle.gs_tree.specs.Lexicon.{IsGap, IsToken, Lexes, end, gap, token, greatest}
use Rattle.gs_tree.specs.Lexicon as grammar
use Rattle.gs_tree.specs.Sign.{Sign, Mark, number, string, comma, semicolon, open_paren, close_paren, open_brace, close_brace}
use Rattle.gs_tree.specs.Signs.{sign_by, sign_of_word, sign_of_found, marks_of}
use Rattle.gs_tree.specs.Words.{keyword_of, single_of}
use Rattle.gs_spelling.proofs.Runs.{leading-run}
use Rattle.gs_spelling.proofs.Words.{Stops, IsWord, word_first}
use Rattle.gs_spelling.proofs.Numbers.{decimal_token}
use Rattle.gs_grammar.specs.Signs.{at}

-- the tokens of what stands at a place of a text, and that they are these marks
pub record Cutting (text : List ℕ) (place line : ℕ) (is_fresh : Bool) (bytes : List ℕ) (marks : List Mark) : Type 0 where
  pub found : List Lexeme
  pub lexes : Lexes place line is_fresh bytes found
  pub says : marks_of text found ≡ marks

-- these bytes, which begin on this line, are cut into these marks, wherever a text ends in them
pub record Cuts (line : ℕ) (bytes : List ℕ) (marks : List Mark) : Type 0 where
  pub cut : (text : List ℕ) (place : ℕ) (is_fresh : Bool) → drop place text ≡ bytes → Cutting text place line is_fresh bytes marks

-- where the rest of a text ends up, some bytes on
further : (text bytes : List ℕ) (place count : ℕ) → drop place text ≡ bytes → drop (place + count) text ≡ drop count bytes
further text bytes place count e = sym (drop-drop count place text) ∙ ap (λ (r : List ℕ). drop count r) e

-- the bytes that a token takes
taken : (text bytes : List ℕ) (place count : ℕ) → drop place text ≡ bytes → take (place + count - place) (drop place text) ≡ take count bytes
taken text bytes place count e = let n : place + count - place ≡ count = omega arith in rw (n, e) refl

pub end_cuts : (line : ℕ) → Cuts line [] []
end_cuts line = record { cut = λ text place is_fresh e. record { found = []; lexes = end place line is_fresh [] refl; says = refl } }

-- a token's mark, and then the marks of the rest
token_cuts : (line : ℕ) (bytes : List ℕ) (kind : Kind) (count : ℕ) (marks : List Mark) → IsToken bytes kind count → Cuts line (drop count bytes) marks
    → Cuts line bytes (at line (sign_by (take count bytes) kind) ∷ marks)
token_cuts line bytes kind count marks here next = record {
  cut = λ text place is_fresh e.
      let rest = next.cut text (place + count) false (further text bytes place count e) in
      let x : Lexeme = record { kind = kind; from = place; to = place + count; line = line } in
      let same = taken text bytes place count e in
      let all = rest.says in
      record {
        found = x ∷ rest.found;
        lexes = token place line count is_fresh bytes kind rest.found here rest.lexes;
        says = rw same (ap (λ (r : List Mark). at line (sign_by (take count bytes) kind) ∷ r) all);
      };
}

-- the same of a token that takes these bytes
piece_cuts : (line : ℕ) (w rest : List ℕ) (kind : Kind) (marks : List Mark) → IsToken (w ++ rest) kind (length w) → Cuts line rest marks
    → Cuts line (w ++ rest) (at line (sign_by w kind) ∷ marks)
piece_cuts line w rest kind marks here next =
    let onward : Cuts line (drop (length w) (w ++ rest)) marks = subst (λ (r : List ℕ). Cuts line r marks) (sym (drop_at w rest (length w) refl)) next in
    subst (λ (r : List ℕ). Cuts line (w ++ rest) (at line (sign_by r kind) ∷ marks)) (take_at w rest (length w) refl) (token_cuts line (w ++ rest) kind (length w) marks here onward)

-- ---- what parts tokens

blank_cuts : (line : ℕ) (rest : List ℕ) (marks : List Mark) → Cuts line rest marks → Cuts line (32 ∷ rest) marks
unfolding is_blank
blank_cuts line rest marks next = record {
  cut = λ text place is_fresh e.
      let all = next.cut text (place + 1) is_fresh (further text (32 ∷ rest) place 1 e) in
      let here : IsGap is_fresh (32 ∷ rest) 1 0 is_fresh = grammar.IsGap.blank is_fresh (32 ∷ rest) refl (omega arith) in
      let same : line + 0 ≡ line = omega arith in
      let lexes : Lexes (place + 1) (line + 0) is_fresh rest all.found = rw same all.lexes in
      record { found = all.found; lexes = gap place line 1 0 is_fresh is_fresh (32 ∷ rest) all.found here lexes; says = all.says };
}

pub feed_cuts : (line : ℕ) (rest : List ℕ) (marks : List Mark) → Cuts (line + 1) rest marks → Cuts line (10 ∷ rest) marks
feed_cuts line rest marks next = record {
  cut = λ text place is_fresh e.
      let all = next.cut text (place + 1) true (further text (10 ∷ rest) place 1 e) in
      let here : IsGap is_fresh (10 ∷ rest) 1 1 true = grammar.IsGap.line_end is_fresh (10 ∷ rest) refl in
      record { found = all.found; lexes = gap place line 1 1 is_fresh true (10 ∷ rest) all.found here all.lexes; says = all.says };
}

-- ---- tokens

-- a name or a keyword, before a byte that ends it
pub word_cuts : (line : ℕ) (w rest : List ℕ) (s : Sign) (marks : List Mark) → IsWord w → sign_of_word w (keyword_of w) ≡ s → Stops rest → Cuts line rest marks
    → Cuts line (w ++ rest) (at line s ∷ marks)
word_cuts line w rest s marks is sign stops next =
    let run : leading is_name_byte (w ++ rest) ≡ length w = leading-run is_name_byte w rest is.bytes stops in
    let short : leading is_name_byte (w ++ rest) ≤ 64 = rw run is.short in
    let here = grammar.IsToken.name (w ++ rest) (word_first w rest is.first) short in
    subst (λ (g : Sign). Cuts line (w ++ rest) (at line g ∷ marks)) sign (piece_cuts line w rest word marks (subst (λ (k : ℕ). IsToken (w ++ rest) word k) run here) next)

-- a number, before a byte that is no digit
pub number_cuts : (line n : ℕ) (rest : List ℕ) (marks : List Mark) → n ≤ greatest → is_digit (slice_index rest 0) ≡ false → Cuts line rest marks
    → Cuts line (decimal n ++ rest) (at line (number (pos n)) ∷ marks)
number_cuts line n rest marks h stops next = piece_cuts line (decimal n) rest (numeral (pos n)) marks (decimal_token n rest h stops) next

-- plain bytes up to the quote say themselves
quotes : (s : List ℕ) (room : ℕ) (rest : List ℕ) → AllPass is_plain s → length s ≤ room → Quotes room (s ++ (34 ∷ rest)) (closed s (length s + 1))
quotes [] room rest h l = closes room (34 ∷ rest) refl
quotes (b ∷ s) room rest h l =
    let bytes : List ℕ = b ∷ (s ++ (34 ∷ rest)) in
    let others = quotes s (room - 1) rest (All-tail (λ y. is_plain y ≡ true) b s h) (omega arith) in
    let all : Quotes room bytes (closed (b ∷ s) (1 + (length s + 1))) =
    goes_on room b 1 bytes (closed s (length s + 1)) (omega arith) (q.Spells.plain bytes (All-head (λ y. is_plain y ≡ true) b s h)) others in
    let e : 1 + (length s + 1) ≡ length (b ∷ s) + 1 = omega arith in
    subst (λ (k : ℕ). Quotes room bytes (closed (b ∷ s) k)) e all

-- a printed 0
pub zero_cuts : (line : ℕ) (rest : List ℕ) (marks : List Mark) → is_digit (slice_index rest 0) ≡ false → Cuts line rest marks
    → Cuts line (48 ∷ rest) (at line (number (pos 0)) ∷ marks)
zero_cuts line rest marks stops next =
    subst (λ (digits : List ℕ). Cuts line (digits ++ rest) (at line (number (pos 0)) ∷ marks)) (decimal_digit 0 (lit< tt)) (number_cuts line 0 rest marks (omega arith) stops next)

-- a string of plain bytes
pub string_cuts : (line : ℕ) (s rest : List ℕ) (marks : List Mark) → AllPass is_plain s → length s ≤ 1024 → Cuts line rest marks
    → Cuts line (34 ∷ (s ++ (34 ∷ rest))) (at line (string s) ∷ marks)
string_cuts line s rest marks plain short next =
    let w : List ℕ = 34 ∷ (s ++ (34 ∷ [])) in
    let bytes : w ++ rest ≡ 34 ∷ (s ++ (34 ∷ rest)) = ap (λ (r : List ℕ). 34 ∷ r) (append_assoc s (34 ∷ []) rest) in
    let here : IsToken (34 ∷ (s ++ (34 ∷ rest))) (literal s) (1 + (length s + 1)) =
    grammar.IsToken.string (34 ∷ (s ++ (34 ∷ rest))) s (length s + 1) refl (quotes s 1024 rest plain short) in
    let e : 1 + (length s + 1) ≡ length w = omega (arith, length-append s (34 ∷ [])) in
    subst (λ (r : List ℕ). Cuts line r (at line (string s) ∷ marks)) bytes (piece_cuts line w rest (literal s) marks (rw (bytes, ← e) here) next)

-- a symbol of one byte that begins none of two and no comment
pub lone_cuts : (line b : ℕ) (rest : List ℕ) (marks : List Mark) → is_single b ≡ true → is_in (codes "+-<>=!") b ≡ false → is_in (codes "+-&|") b ≡ false → b ≢ 47
    → Cuts line rest marks → Cuts line (b ∷ rest) (at line (sign_of_found (single_of b)) ∷ marks)
unfolding is_double
lone_cuts line b rest marks single e d n next =
    piece_cuts line (b ∷ []) rest symbol marks (grammar.IsToken.single (b ∷ rest) single (rw (e, d) (either_false (slice_index rest 0 == 61))) (λ f. absurd (n f))) next
  where
    either_false : (t : Bool) → (if t then false else false) ≡ false
    either_false true = refl
    either_false false = refl

-- a comma and the blank after it
pub comma_cuts : (line : ℕ) (rest : List ℕ) (marks : List Mark) → Cuts line rest marks → Cuts line (44 ∷ 32 ∷ rest) (at line comma ∷ marks)
unfolding is_single
comma_cuts line rest marks next = lone_cuts line 44 (32 ∷ rest) marks refl refl refl (omega arith) (blank_cuts line rest marks next)

pub open_cuts : (line : ℕ) (rest : List ℕ) (marks : List Mark) → Cuts line rest marks → Cuts line (40 ∷ rest) (at line open_paren ∷ marks)
unfolding is_single
open_cuts line rest marks next = lone_cuts line 40 rest marks refl refl refl (omega arith) next

pub close_cuts : (line : ℕ) (rest : List ℕ) (marks : List Mark) → Cuts line rest marks → Cuts line (41 ∷ rest) (at line close_paren ∷ marks)
unfolding is_single
close_cuts line rest marks next = lone_cuts line 41 rest marks refl refl refl (omega arith) next

-- `;` at a line's end
pub semicolon_cuts : (line : ℕ) (rest : List ℕ) (marks : List Mark) → Cuts (line + 1) rest marks → Cuts line (59 ∷ 10 ∷ rest) (at line semicolon ∷ marks)
unfolding is_single
semicolon_cuts line rest marks next = lone_cuts line 59 (10 ∷ rest) marks refl refl refl (omega arith) (feed_cuts line rest marks next)

-- a brace at a line's end
pub open_brace_cuts : (line : ℕ) (rest : List ℕ) (marks : List Mark) → Cuts (line + 1) rest marks → Cuts line (32 ∷ 123 ∷ 10 ∷ rest) (at line open_brace ∷ marks)
unfolding is_single
open_brace_cuts line rest marks next =
    blank_cuts line (123 ∷ 10 ∷ rest) _ (lone_cuts line 123 (10 ∷ rest) marks refl refl refl (omega arith) (feed_cuts line rest marks next))

pub close_brace_cuts : (line : ℕ) (rest : List ℕ) (marks : List Mark) → Cuts (line + 1) rest marks → Cuts line (125 ∷ 10 ∷ rest) (at line close_brace ∷ marks)
unfolding is_single
close_brace_cuts line rest marks next = lone_cuts line 125 (10 ∷ rest) marks refl refl refl (omega arith) (feed_cuts line rest marks next)
