-- Laws of texts and formats.
use Rattle.std.specs.Prelude.{◌≡◌, ℕ, List, option_map}
use Rattle.gs_tree.specs.Lexeme.{Lexeme}
use Rattle.gs_tree.specs.Lexicon.{IsLexed}
use Rattle.gs_tree.specs.Formats.{pieces, kinds_of, format_kinds}

-- A text has one list of tokens at most.
abbrev pub OneReading : Type 0
OneReading = (text : List ℕ) (a b : List Lexeme) → IsLexed text a → IsLexed text b → a ≡ b

-- A format takes the kinds of its pieces.
abbrev pub KindsOfPieces : Type 0
KindsOfPieces = (format : List ℕ) → format_kinds format ≡ option_map kinds_of (pieces format)
