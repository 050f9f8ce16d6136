-- What a text's tokens show.
use Rattle.std.specs.Prelude.{ℕ, ◌+◌, List, map, count_by}
use Rattle.gs_tree.specs.declared.list.Tokens.{Tokens}
use Rattle.gs_tree.specs.Bytes.{is_line_feed}
use Rattle.gs_tree.specs.Lexeme.{Lexeme, lexeme_of}
use Rattle.gs_tree.specs.Sign.{Mark}
use Rattle.gs_tree.specs.Signs.{marks_of}

abbrev pub text_of : Tokens → List ℕ
text_of t = t.text.items

abbrev pub lexemes_of : Tokens → List Lexeme
lexemes_of t = map lexeme_of t.items.items

-- what the grammar reads
abbrev pub marks_in : Tokens → List Mark
marks_in t = marks_of (text_of t) (lexemes_of t)

-- the line on which a text ends
abbrev pub last_line_of : List ℕ → ℕ
last_line_of text = 1 + count_by is_line_feed text
