-- Laws of lines and words.
use Rattle.std.specs.Prelude.{◌≡◌, ℕ, List}
use Rattle.gs_list.specs.Lines.{AreLines, HasWords, HasBadByte}

-- a text has one list of lines
abbrev pub EachTextHasItsLines : Type 0
EachTextHasItsLines = (bytes : List ℕ) (a b : List (List ℕ)) →
    AreLines bytes a → AreLines bytes b → a ≡ b

-- a line has one list of words, or a bad byte, and not both
pub record HasItsWords (line : List ℕ) : Type 0 where
  pub one : (a b : List (List ℕ)) → HasWords line a → HasWords line b → a ≡ b
  pub apart : (words : List (List ℕ)) → HasWords line words → HasBadByte line → ⊥

abbrev pub EachLineHasItsWords : Type 0
EachLineHasItsWords = (line : List ℕ) → HasItsWords line
