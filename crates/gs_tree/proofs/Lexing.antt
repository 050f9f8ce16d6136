-- A text's tokens so far, and how they go on.
use Rattle.std.proofs.Common.{◌≡◌, ℕ, ◌+◌, ◌<◌, ◌≤◌, Bool, true, false, List, [], ◌∷◌, ◌++◌, length, drop, subst, append_assoc, append-nil, arith}
use Rattle.std.proofs.lemmas.List.{drop-drop}
use Rattle.gs_tree.specs.declared.token.LexKind.{LexKind}
use Rattle.gs_tree.specs.Lexeme.{Kind, Lexeme, fault, IsInOrder}
use Rattle.gs_tree.specs.Lexicon.{Lexes, end, gap, token, stop, IsGap, IsToken, IsFault, IsLexed}

-- what the rest of a text says, after these tokens, is what the text says
pub record SoFar (text : List ℕ) (at line : ℕ) (is_fresh : Bool) (found : List Lexeme) : Type 0 where
  pub goes_on : (more : List Lexeme) → Lexes at line is_fresh (drop at text) more → IsLexed text (found ++ more)

pub so_far-start : (text : List ℕ) → SoFar text 0 1 true []
so_far-start text = record { goes_on = λ more h. h }

pub so_far-gap : (text : List ℕ) (at line count lines : ℕ) (f g : Bool) (found : List Lexeme) → SoFar text at line f found →
    IsGap f (drop at text) count lines g → SoFar text (at + count) (line + lines) g found
so_far-gap text at line count lines f g found before here = record {
  goes_on = λ more h.
      let rest : Lexes (at + count) (line + lines) g (drop count (drop at text)) more = rw drop-drop h in
      before.goes_on more (gap at line count lines f g (drop at text) more here rest);
}

pub so_far-token : (text : List ℕ) (at line count : ℕ) (f : Bool) (kind : Kind) (found : List Lexeme) → SoFar text at line f found →
    IsToken (drop at text) kind count → let x : Lexeme = record { kind = kind; from = at; to = at + count; line = line } in SoFar text (at + count) line false (found ++ x ∷ [])
so_far-token text at line count f kind found before here = record {
  goes_on = λ more h.
      let rest : Lexes (at + count) line false (drop count (drop at text)) more = rw drop-drop h in
      let x : Lexeme = record { kind = kind; from = at; to = at + count; line = line } in
      rw append_assoc (before.goes_on (x ∷ more) (token at line count f (drop at text) kind more here rest));
}

pub so_far-end : (text : List ℕ) (at line : ℕ) (f : Bool) (found : List Lexeme) → SoFar text at line f found → length (drop at text) ≡ 0 → IsLexed text found
so_far-end text at line f found before e =
    subst (λ r. IsLexed text r) (append-nil found) (before.goes_on [] (end at line f (drop at text) e))

pub so_far-stop : (text : List ℕ) (at line : ℕ) (f : Bool) (kind : LexKind) (found : List Lexeme) → SoFar text at line f found →
    IsFault f (drop at text) kind → let x : Lexeme = record { kind = fault kind; from = at; to = at + 1; line = line } in IsLexed text (found ++ x ∷ [])
so_far-stop text at line f kind found before here =
    let x : Lexeme = record { kind = fault kind; from = at; to = at + 1; line = line } in
    before.goes_on (x ∷ []) (stop at line f (drop at text) kind here)

-- one token more
pub in_order-push : (from mid to : ℕ) (xs : List Lexeme) (x : Lexeme) → IsInOrder from mid xs → mid ≤ x.from → x.from < x.to → x.to ≤ to → IsInOrder from to (xs ++ x ∷ [])
in_order-push from mid to [] x h a b c = (omega (arith, h), b, c)
in_order-push from mid to (y ∷ xs) x h a b c = (h.0, h.1, in_order-push y.to mid to xs x h.2 a b c)

-- a later end
pub in_order-widen : (from mid to : ℕ) (xs : List Lexeme) → IsInOrder from mid xs → mid ≤ to → IsInOrder from to xs
in_order-widen from mid to [] h a = omega (arith, h)
in_order-widen from mid to (y ∷ xs) h a = (h.0, h.1, in_order-widen y.to mid to xs h.2 a)
