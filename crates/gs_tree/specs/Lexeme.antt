-- Tokens as plain data.
use Rattle.std.specs.Prelude.{ℕ, ℤ, ◌<◌, ◌≤◌, List, [], ◌∷◌}
use Rattle.gs_tree.specs.declared.token.Token.{Token}
use Rattle.gs_tree.specs.declared.token.TokenKind.{TokenKind}
use Rattle.gs_tree.specs.declared.token.TokenKind.TheVariants.{Word, Number, Str, Symbol, Bad}
use Rattle.gs_tree.specs.declared.token.LexKind.{LexKind}

-- a name or keyword, a number, a string after its escapes, a symbol, or a lexical fault
pub data Kind : Type 0 where
  word : Kind
  numeral : ℤ → Kind
  literal : List ℕ → Kind
  symbol : Kind
  fault : LexKind → Kind

-- its bytes run from `from` up to, and without, `to`; it begins on `line`
pub record Lexeme : Type 0 where
  pub kind : Kind
  pub from : ℕ
  pub to : ℕ
  pub line : ℕ

abbrev pub kind_of : TokenKind → Kind
kind_of Word = word
kind_of (Number v) = numeral v
kind_of (Str s) = literal s.items
kind_of Symbol = symbol
kind_of (Bad kind) = fault kind

abbrev pub lexeme_of : Token → Lexeme
lexeme_of t = record { kind = kind_of t.kind; from = t.from; to = t.to; line = t.line }

-- a token's bytes stand within a text of so many bytes
abbrev pub IsSpan : ℕ → Token → Type 0
IsSpan end t = (t.from ≤ t.to) × (t.to ≤ end)

-- tokens between two places of a text: each has a byte, and ends before the next begins
abbrev pub IsInOrder : (from to : ℕ) → List Lexeme → Type 0
IsInOrder from to [] = from ≤ to
IsInOrder from to (x ∷ xs) = (from ≤ x.from) × (x.from < x.to) × IsInOrder x.to to xs
