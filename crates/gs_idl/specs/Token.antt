-- The code's words and symbols as marks, and what its steps through a text are.
use Rattle.std.specs.Prelude.{◌≡◌, ℕ, ◌+◌, ◌<◌, ◌≤◌, List, [], ◌∷◌, length, Option, option_map}
use Rattle.gs_idl.specs.Lexicon as l
use Rattle.gs_idl.specs.Lexicon.{IdlMark, mark, begins, Reads}
use Rattle.gs_idl.specs.declared.token.Token.{Token}
use Rattle.gs_idl.specs.declared.token.IdlSign.{IdlSign}
use Rattle.gs_idl.specs.declared.token.IdlSign.TheVariants as s
use Rattle.gs_idl.specs.declared.token.Beginning.{Beginning}
use Rattle.gs_idl.specs.declared.token.Beginning.TheVariants as b
use Rattle.gs_idl.specs.declared.token.Piece.{Piece}
use Rattle.gs_idl.specs.declared.token.Piece.TheVariants.{Passed, Found, Last}

abbrev pub sign_of : IdlSign → l.IdlSign
sign_of (s.Word text) = l.word text.now
sign_of (s.Symbol symbol) = l.symbol symbol
sign_of (s.Bad kind) = l.bad kind
sign_of s.End = l.finish

abbrev pub mark_of : Token → IdlMark
mark_of t = mark t.line (sign_of t.sign)

abbrev pub beginning_of : Beginning → l.Beginning
beginning_of b.Blank = l.a_blank
beginning_of b.Feed = l.a_feed
beginning_of b.Word = l.a_word
beginning_of b.LineComment = l.a_line_comment
beginning_of b.Comment = l.a_comment
beginning_of (b.Symbol symbol) = l.a_symbol symbol
beginning_of b.Nothing = l.nothing

-- so many further on
abbrev pub further : ℕ → Option ℕ → Option ℕ
further i o = option_map (λ n. i + n) o

-- this begins at the front
abbrev pub IsBeginning : l.Beginning → List ℕ → Type 0
IsBeginning what [] = ⊥
IsBeginning what (b ∷ rest) = begins b rest ≡ what

-- the marks of the bytes on this line are those of the piece, and then those of what follows it
abbrev pub Cuts : (line : ℕ) → List ℕ → Piece → Type 0
Cuts line bytes (Passed next rest) = ((ms : List IdlMark) → Reads next rest.now ms
    → Reads line bytes ms) × (length rest.now < length bytes)
    × (next + length rest.now ≤ line + length bytes)
Cuts line bytes (Found token rest) = ((ms : List IdlMark) → Reads line rest.now ms
    → Reads line bytes (mark_of token ∷ ms)) × (length rest.now < length bytes)
Cuts line bytes (Last token) = Reads line bytes (mark_of token ∷ [])
