-- Bytes and the signs that they are cut into, whatever stands before them.
use Rattle.std.proofs.Common.{◌≡◌, ℕ, ◌+◌, ◌-◌, Bool, true, false, List, [], ◌∷◌, ◌++◌, length, take, drop, refl, sym, ap, ◌∙◌, subst, arith}
use Rattle.std.proofs.lemmas.List.{drop-drop, take_at, drop_at}
use Rattle.gs_tree.specs.Bytes.{is_blank}
use Rattle.gs_tree.specs.Lexeme.{Kind, Lexeme}
use Rattle.gs_tree.specs.Lexicon.{IsGap, IsToken, Lexes, end, gap, token}
use Rattle.gs_tree.specs.Lexicon as grammar
use Rattle.gs_tree.specs.Sign.{Sign}
use Rattle.gs_tree.specs.Signs.{sign_by}
use Rattle.gs_spelling.specs.Laws.{signs_in}

-- the tokens of what stands at a place of a text, and that they have these signs
pub record Cutting (text : List ℕ) (at line : ℕ) (is_fresh : Bool) (bytes : List ℕ) (signs : List Sign) : Type 0 where
  pub found : List Lexeme
  pub lexes : Lexes at line is_fresh bytes found
  pub says : signs_in text found ≡ signs

-- these bytes are cut into these signs, wherever a text ends in them
pub record Cuts (bytes : List ℕ) (signs : List Sign) : Type 0 where
  pub cut : (text : List ℕ) (at line : ℕ) (is_fresh : Bool) → drop at text ≡ bytes → Cutting text at line is_fresh bytes signs

-- where the rest of a text ends up, some bytes on
further : (text bytes : List ℕ) (at count : ℕ) → drop at text ≡ bytes → drop (at + count) text ≡ drop count bytes
further text bytes at count e = sym (drop-drop count at text) ∙ ap (λ (r : List ℕ). drop count r) e

-- the bytes that a token takes
taken : (text bytes : List ℕ) (at count : ℕ) → drop at text ≡ bytes → take (at + count - at) (drop at text) ≡ take count bytes
taken text bytes at count e = let n : at + count - at ≡ count = omega arith in rw (n, e) refl

-- nothing is cut into no signs
pub end_cuts : Cuts [] []
end_cuts = record { cut = λ text at line is_fresh e. record { found = []; lexes = end at line is_fresh [] refl; says = refl } }

-- a token's sign, and then the signs of the rest
pub token_cuts : (bytes : List ℕ) (kind : Kind) (count : ℕ) (signs : List Sign) → IsToken bytes kind count → Cuts (drop count bytes) signs →
    Cuts bytes (sign_by (take count bytes) kind ∷ signs)
token_cuts bytes kind count signs here next = record {
  cut = λ text at line is_fresh e.
      let rest = next.cut text (at + count) line false (further text bytes at count e) in
      let x : Lexeme = record { kind = kind; from = at; to = at + count; line = line } in
      let same = taken text bytes at count e in
      let all = rest.says in
      record {
        found = x ∷ rest.found;
        lexes = token at line count is_fresh bytes kind rest.found here rest.lexes;
        says = rw same (ap (λ (r : List Sign). sign_by (take count bytes) kind ∷ r) all);
      };
}

-- the same of a token that takes these bytes
pub piece_cuts : (w rest : List ℕ) (kind : Kind) (signs : List Sign) → IsToken (w ++ rest) kind (length w) → Cuts rest signs → Cuts (w ++ rest) (sign_by w kind ∷ signs)
piece_cuts w rest kind signs here next =
    let then : Cuts (drop (length w) (w ++ rest)) signs = subst (λ (r : List ℕ). Cuts r signs) (sym (drop_at w rest (length w) refl)) next in
    subst (λ (r : List ℕ). Cuts (w ++ rest) (sign_by r kind ∷ signs)) (take_at w rest (length w) refl) (token_cuts (w ++ rest) kind (length w) signs here then)

-- one byte that parts tokens
pub gap_cuts : (bytes : List ℕ) (count lines : ℕ) (signs : List Sign) → ((f : Bool) → (g : Bool) × IsGap f bytes count lines g) → Cuts (drop count bytes) signs → Cuts bytes signs
gap_cuts bytes count lines signs here next = record {
  cut = λ text at line is_fresh e.
      let parts = here is_fresh in
      let rest = next.cut text (at + count) (line + lines) parts.0 (further text bytes at count e) in
      record { found = rest.found; lexes = gap at line count lines is_fresh parts.0 bytes rest.found parts.1 rest.lexes; says = rest.says };
}

-- a space
pub blank_cuts : (rest : List ℕ) (signs : List Sign) → Cuts rest signs → Cuts (32 ∷ rest) signs
unfolding is_blank
blank_cuts rest signs next = gap_cuts (32 ∷ rest) 1 0 signs (λ f. (f, grammar.IsGap.blank f (32 ∷ rest) refl (omega arith))) next

-- a line feed
pub feed_cuts : (rest : List ℕ) (signs : List Sign) → Cuts rest signs → Cuts (10 ∷ rest) signs
feed_cuts rest signs next = gap_cuts (10 ∷ rest) 1 1 signs (λ f. (true, grammar.IsGap.line_end f (10 ∷ rest) refl)) next
