-- The keywords and symbols, by their bytes.
use Rattle.std.specs.Prelude.{ℕ, ◌==◌, ◌&&◌, List, Option, Some, None, codes, if◌then◌else◌}
use Rattle.std.specs.Str.{bytes_eq}
use Rattle.std.specs.Option.{option_or}
use Rattle.gs_tree.specs.declared.sign.Keyword.{Keyword}
use Rattle.gs_tree.specs.declared.sign.Keyword.TheVariants.{Main, Int, Char, File, Void, If, Else, While, For, Return, GsOn, GsOff, GsBarrier, GsFOpen, GsFClose, Printf, Fprintf, Sprintf, Fgetline, Atoi, Strcmp, ModeR, ModeW, ModeA}
use Rattle.gs_tree.specs.declared.sign.Symbol.{Symbol}
use Rattle.gs_tree.specs.declared.sign.Symbol.TheVariants.{PlusPlus, MinusMinus, PlusEqual, MinusEqual, LessEqual, GreaterEqual, EqualEqual, NotEqual, AndAnd, OrOr, OpenParen, CloseParen, OpenBrace, CloseBrace, Comma, Semicolon, Equal, Plus, Minus, Star, Slash, Percent, Less, Greater, Bang, Ampersand}

unfoldable pub type_word : List ℕ → Option Keyword
type_word w =
    if bytes_eq w (codes "main") then Some Main else (
    if bytes_eq w (codes "int") then Some Int else (
    if bytes_eq w (codes "char") then Some Char else (
    if bytes_eq w (codes "FILE") then Some File else (
    if bytes_eq w (codes "void") then Some Void else (
    None)))))

unfoldable pub control_word : List ℕ → Option Keyword
control_word w =
    if bytes_eq w (codes "if") then Some If else (
    if bytes_eq w (codes "else") then Some Else else (
    if bytes_eq w (codes "while") then Some While else (
    if bytes_eq w (codes "for") then Some For else (
    if bytes_eq w (codes "return") then Some Return else (
    None)))))

unfoldable pub runtime_word : List ℕ → Option Keyword
runtime_word w =
    if bytes_eq w (codes "GS_On") then Some GsOn else (
    if bytes_eq w (codes "GS_Off") then Some GsOff else (
    if bytes_eq w (codes "GS_Barrier") then Some GsBarrier else (
    if bytes_eq w (codes "GS_FOpen") then Some GsFOpen else (
    if bytes_eq w (codes "GS_FClose") then Some GsFClose else (
    None)))))

unfoldable pub library_word : List ℕ → Option Keyword
library_word w =
    if bytes_eq w (codes "printf") then Some Printf else (
    if bytes_eq w (codes "fprintf") then Some Fprintf else (
    if bytes_eq w (codes "sprintf") then Some Sprintf else (
    if bytes_eq w (codes "fgetline") then Some Fgetline else (
    if bytes_eq w (codes "atoi") then Some Atoi else (
    if bytes_eq w (codes "strcmp") then Some Strcmp else (
    None))))))

unfoldable pub mode_word : List ℕ → Option Keyword
mode_word w =
    if bytes_eq w (codes "R") then Some ModeR else (
    if bytes_eq w (codes "W") then Some ModeW else (
    if bytes_eq w (codes "A") then Some ModeA else (
    None)))

-- the keyword with these bytes
abbrev pub keyword_of : List ℕ → Option Keyword
keyword_of w = option_or (option_or (option_or (option_or (type_word w) (control_word w)) (runtime_word w)) (library_word w)) (mode_word w)

-- ++ -- += -= <= >= == != && ||
abbrev pub double_of : ℕ → ℕ → Option Symbol
double_of a b =
    if a == 43 && b == 43 then Some PlusPlus else (
    if a == 45 && b == 45 then Some MinusMinus else (
    if a == 43 && b == 61 then Some PlusEqual else (
    if a == 45 && b == 61 then Some MinusEqual else (
    if a == 60 && b == 61 then Some LessEqual else (
    if a == 62 && b == 61 then Some GreaterEqual else (
    if a == 61 && b == 61 then Some EqualEqual else (
    if a == 33 && b == 61 then Some NotEqual else (
    if a == 38 && b == 38 then Some AndAnd else (
    if a == 124 && b == 124 then Some OrOr else (
    None))))))))))

-- ( ) { } , ; = + - * / % < > ! &
abbrev pub single_of : ℕ → Option Symbol
single_of a =
    if a == 40 then Some OpenParen else (
    if a == 41 then Some CloseParen else (
    if a == 123 then Some OpenBrace else (
    if a == 125 then Some CloseBrace else (
    if a == 44 then Some Comma else (
    if a == 59 then Some Semicolon else (
    if a == 61 then Some Equal else (
    if a == 43 then Some Plus else (
    if a == 45 then Some Minus else (
    if a == 42 then Some Star else (
    if a == 47 then Some Slash else (
    if a == 37 then Some Percent else (
    if a == 60 then Some Less else (
    if a == 62 then Some Greater else (
    if a == 33 then Some Bang else (
    if a == 38 then Some Ampersand else (
    None))))))))))))))))
