-- Which terminal symbol of the grammar stands at a token.
use Rattle.std.specs.Prelude.{ℕ, List, [], ◌∷◌, map, slice_range, Option, Some, None}
use Rattle.gs_tree.specs.declared.token.LexKind.TheVariants.{BadByte}
use Rattle.gs_tree.specs.declared.sign.Keyword.{Keyword}
use Rattle.gs_tree.specs.declared.sign.Keyword.TheVariants.{Main, Int, Char, File, Void, If, Else, While, For, Return, GsOn, GsOff, GsBarrier, GsFOpen, GsFClose, Printf, Fprintf, Sprintf, Fgetline, Atoi, Strcmp, ModeR, ModeW, ModeA}
use Rattle.gs_tree.specs.declared.sign.Symbol.{Symbol}
use Rattle.gs_tree.specs.declared.sign.Symbol.TheVariants.{PlusPlus, MinusMinus, PlusEqual, MinusEqual, LessEqual, GreaterEqual, EqualEqual, NotEqual, AndAnd, OrOr, OpenParen, CloseParen, OpenBrace, CloseBrace, Comma, Semicolon, Equal, Plus, Minus, Star, Slash, Percent, Less, Greater, Bang, Ampersand}
use Rattle.gs_tree.specs.Lexeme.{Kind, Lexeme, word, numeral, literal, symbol, fault}
use Rattle.gs_tree.specs.Words.{keyword_of, double_of, single_of}
use Rattle.gs_tree.specs.Sign.{Sign, Mark, main_, int_, char_, file_, void_, if_, else_, while_, for_, return_, gs_on, gs_off, gs_barrier, gs_fopen, gs_fclose, printf_, fprintf_, sprintf_, fgetline_, atoi_, strcmp_, mode_r, mode_w, mode_a, ident, number, string, plus_plus, minus_minus, plus_equal, minus_equal, less_equal, greater_equal, equal_equal, not_equal, and_and, or_or, open_paren, close_paren, open_brace, close_brace, comma, semicolon, equal, plus, minus, star, slash, percent, less, greater, bang, ampersand, bad}

abbrev pub sign_of_keyword : Keyword → Sign
sign_of_keyword Main = main_
sign_of_keyword Int = int_
sign_of_keyword Char = char_
sign_of_keyword File = file_
sign_of_keyword Void = void_
sign_of_keyword If = if_
sign_of_keyword Else = else_
sign_of_keyword While = while_
sign_of_keyword For = for_
sign_of_keyword Return = return_
sign_of_keyword GsOn = gs_on
sign_of_keyword GsOff = gs_off
sign_of_keyword GsBarrier = gs_barrier
sign_of_keyword GsFOpen = gs_fopen
sign_of_keyword GsFClose = gs_fclose
sign_of_keyword Printf = printf_
sign_of_keyword Fprintf = fprintf_
sign_of_keyword Sprintf = sprintf_
sign_of_keyword Fgetline = fgetline_
sign_of_keyword Atoi = atoi_
sign_of_keyword Strcmp = strcmp_
sign_of_keyword ModeR = mode_r
sign_of_keyword ModeW = mode_w
sign_of_keyword ModeA = mode_a

abbrev pub sign_of_symbol : Symbol → Sign
sign_of_symbol PlusPlus = plus_plus
sign_of_symbol MinusMinus = minus_minus
sign_of_symbol PlusEqual = plus_equal
sign_of_symbol MinusEqual = minus_equal
sign_of_symbol LessEqual = less_equal
sign_of_symbol GreaterEqual = greater_equal
sign_of_symbol EqualEqual = equal_equal
sign_of_symbol NotEqual = not_equal
sign_of_symbol AndAnd = and_and
sign_of_symbol OrOr = or_or
sign_of_symbol OpenParen = open_paren
sign_of_symbol CloseParen = close_paren
sign_of_symbol OpenBrace = open_brace
sign_of_symbol CloseBrace = close_brace
sign_of_symbol Comma = comma
sign_of_symbol Semicolon = semicolon
sign_of_symbol Equal = equal
sign_of_symbol Plus = plus
sign_of_symbol Minus = minus
sign_of_symbol Star = star
sign_of_symbol Slash = slash
sign_of_symbol Percent = percent
sign_of_symbol Less = less
sign_of_symbol Greater = greater
sign_of_symbol Bang = bang
sign_of_symbol Ampersand = ampersand

-- a keyword, or another name
abbrev pub sign_of_word : List ℕ → Option Keyword → Sign
sign_of_word w (Some found) = sign_of_keyword found
sign_of_word w None = ident w

abbrev pub sign_of_found : Option Symbol → Sign
sign_of_found (Some found) = sign_of_symbol found
sign_of_found None = bad BadByte

-- of the bytes of a symbol
abbrev pub sign_of_bytes : List ℕ → Sign
sign_of_bytes (a ∷ []) = sign_of_found (single_of a)
sign_of_bytes (a ∷ b ∷ []) = sign_of_found (double_of a b)
sign_of_bytes bytes = bad BadByte

-- the bytes that a token takes
abbrev pub bytes_at : List ℕ → Lexeme → List ℕ
bytes_at text x = slice_range text x.from x.to

abbrev pub sign_by : List ℕ → Kind → Sign
sign_by bytes word = sign_of_word bytes (keyword_of bytes)
sign_by bytes (numeral v) = number v
sign_by bytes (literal s) = string s
sign_by bytes symbol = sign_of_bytes bytes
sign_by bytes (fault kind) = bad kind

abbrev pub sign_of : (text : List ℕ) → Lexeme → Sign
sign_of text x = sign_by (bytes_at text x) x.kind

abbrev pub mark_of : (text : List ℕ) → Lexeme → Mark
mark_of text x = record { line = x.line; sign = sign_of text x }

-- what the grammar reads of a text with these tokens
abbrev pub marks_of : (text : List ℕ) → List Lexeme → List Mark
marks_of text found = map (mark_of text) found
