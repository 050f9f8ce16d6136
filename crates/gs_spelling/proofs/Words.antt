-- Names and keywords as they are printed.
use Rattle.std.proofs.Common.{◌≡◌, ℕ, ◌≤◌, true, false, List, [], ◌∷◌, ◌++◌, length, slice_index, Option, Some, refl, subst, arith}
use Rattle.std.specs.Prelude.{codes}
use Rattle.std.specs.List.{AllPass, list_all}
use Rattle.std.proofs.lemmas.Bool.{or_parts}
use Rattle.std.proofs.lemmas.List.Sums.{AllPass-from_list_all}
use Rattle.gs_tree.specs.declared.sign.Keyword.{Keyword}
use Rattle.gs_tree.specs.declared.sign.Keyword.TheVariants.{Main, Int, Char, File, Void, If, Else, While, For, Return, GsOn, GsOff, GsBarrier, GsFOpen, GsFClose, Printf, Fprintf, Sprintf, Fgetline, Atoi, Strcmp, ModeR, ModeW, ModeA}
use Rattle.gs_tree.specs.Bytes.{is_letter, is_digit, is_name_byte, leading}
use Rattle.gs_tree.specs.Words.{type_word, control_word, runtime_word, library_word, mode_word, keyword_of}
use Rattle.gs_tree.specs.Lexeme.{word}
use Rattle.gs_tree.specs.Lexicon.{IsToken}
use Rattle.gs_tree.specs.Lexicon as grammar
use Rattle.gs_tree.specs.Sign.{Sign, ident}
use Rattle.gs_tree.specs.Signs.{sign_of_word, sign_of_keyword}
use Rattle.gs_tree.proofs.Classes.{is_letter-zero}
use Rattle.gs_spelling.specs.Spelled.{IsName}
use Rattle.gs_spelling.proofs.Runs.{leading-run}
use Rattle.gs_spelling.proofs.Cuts.{Cuts, piece_cuts}

-- no byte of a name stands in front
abbrev pub Stops : List ℕ → Type 0
Stops rest = is_name_byte (slice_index rest 0) ≡ false

-- a blank ends a name
pub blank_stops : is_name_byte 32 ≡ false
unfolding is_name_byte is_letter is_digit
blank_stops = refl

-- `(` ends a name
pub open_stops : is_name_byte 40 ≡ false
unfolding is_name_byte is_letter is_digit
open_stops = refl

-- `)` ends a name
pub close_stops : is_name_byte 41 ≡ false
unfolding is_name_byte is_letter is_digit
close_stops = refl

-- a comma ends a name
pub comma_stops : is_name_byte 44 ≡ false
unfolding is_name_byte is_letter is_digit
comma_stops = refl

-- a semicolon ends a name
pub semicolon_stops : is_name_byte 59 ≡ false
unfolding is_name_byte is_letter is_digit
semicolon_stops = refl

-- what ends a name ends a number too
pub stops_digit : (b : ℕ) → is_name_byte b ≡ false → is_digit b ≡ false
unfolding is_name_byte
stops_digit b h = (or_parts (is_letter b) (is_digit b) h).1

-- a name or a keyword
pub record IsWord (w : List ℕ) : Type 0 where
  pub first : is_letter (slice_index w 0) ≡ true
  pub bytes : AllPass is_name_byte w
  pub short : length w ≤ 64

-- the first byte of a word is that of a text that begins with it
pub word_first : (w rest : List ℕ) → is_letter (slice_index w 0) ≡ true → is_letter (slice_index (w ++ rest) 0) ≡ true
word_first [] rest h = absurd (let z = is_letter-zero in cc)
word_first (b ∷ w) rest h = h

-- a word, before a byte that ends it
pub word_cuts : (w rest : List ℕ) (signs : List Sign) → IsWord w → Stops rest → Cuts rest signs → Cuts (w ++ rest) (sign_of_word w (keyword_of w) ∷ signs)
word_cuts w rest signs is s next =
    let run : leading is_name_byte (w ++ rest) ≡ length w = leading-run is_name_byte w rest is.bytes s in
    let short : leading is_name_byte (w ++ rest) ≤ 64 = rw run is.short in
    let here = grammar.IsToken.name (w ++ rest) (word_first w rest is.first) short in
    piece_cuts w rest word signs (subst (λ (k : ℕ). IsToken (w ++ rest) word k) run here) next

-- a name
pub name_cuts : (w rest : List ℕ) (signs : List Sign) → IsName w → Stops rest → Cuts rest signs → Cuts (w ++ rest) (ident w ∷ signs)
name_cuts w rest signs is s next =
    subst (λ (o : Option Keyword). Cuts (w ++ rest) (sign_of_word w o ∷ signs)) is.no_keyword
    (word_cuts w rest signs (record { first = is.first; bytes = is.bytes; short = is.short }) s next)

-- the text of a keyword
abbrev pub keyword_text : Keyword → List ℕ
keyword_text Main = codes "main"
keyword_text Int = codes "int"
keyword_text Char = codes "char"
keyword_text File = codes "FILE"
keyword_text Void = codes "void"
keyword_text If = codes "if"
keyword_text Else = codes "else"
keyword_text While = codes "while"
keyword_text For = codes "for"
keyword_text Return = codes "return"
keyword_text GsOn = codes "GS_On"
keyword_text GsOff = codes "GS_Off"
keyword_text GsBarrier = codes "GS_Barrier"
keyword_text GsFOpen = codes "GS_FOpen"
keyword_text GsFClose = codes "GS_FClose"
keyword_text Printf = codes "printf"
keyword_text Fprintf = codes "fprintf"
keyword_text Sprintf = codes "sprintf"
keyword_text Fgetline = codes "fgetline"
keyword_text Atoi = codes "atoi"
keyword_text Strcmp = codes "strcmp"
keyword_text ModeR = codes "R"
keyword_text ModeW = codes "W"
keyword_text ModeA = codes "A"

-- each keyword is found by its text
keyword_found : (k : Keyword) → keyword_of (keyword_text k) ≡ Some k
unfolding type_word control_word runtime_word library_word mode_word
keyword_found Main = refl
keyword_found Int = refl
keyword_found Char = refl
keyword_found File = refl
keyword_found Void = refl
keyword_found If = refl
keyword_found Else = refl
keyword_found While = refl
keyword_found For = refl
keyword_found Return = refl
keyword_found GsOn = refl
keyword_found GsOff = refl
keyword_found GsBarrier = refl
keyword_found GsFOpen = refl
keyword_found GsFClose = refl
keyword_found Printf = refl
keyword_found Fprintf = refl
keyword_found Sprintf = refl
keyword_found Fgetline = refl
keyword_found Atoi = refl
keyword_found Strcmp = refl
keyword_found ModeR = refl
keyword_found ModeW = refl
keyword_found ModeA = refl

-- a word, by tests
word_by : (w : List ℕ) → is_letter (slice_index w 0) ≡ true → list_all is_name_byte w ≡ true → length w ≤ 64 → IsWord w
word_by w f b s = record { first = f; bytes = AllPass-from_list_all is_name_byte w b; short = s }

-- each is a word
keyword_word : (k : Keyword) → IsWord (keyword_text k)
unfolding is_name_byte is_letter is_digit
keyword_word Main = word_by (codes "main") refl refl (omega arith)
keyword_word Int = word_by (codes "int") refl refl (omega arith)
keyword_word Char = word_by (codes "char") refl refl (omega arith)
keyword_word File = word_by (codes "FILE") refl refl (omega arith)
keyword_word Void = word_by (codes "void") refl refl (omega arith)
keyword_word If = word_by (codes "if") refl refl (omega arith)
keyword_word Else = word_by (codes "else") refl refl (omega arith)
keyword_word While = word_by (codes "while") refl refl (omega arith)
keyword_word For = word_by (codes "for") refl refl (omega arith)
keyword_word Return = word_by (codes "return") refl refl (omega arith)
keyword_word GsOn = word_by (codes "GS_On") refl refl (omega arith)
keyword_word GsOff = word_by (codes "GS_Off") refl refl (omega arith)
keyword_word GsBarrier = word_by (codes "GS_Barrier") refl refl (omega arith)
keyword_word GsFOpen = word_by (codes "GS_FOpen") refl refl (omega arith)
keyword_word GsFClose = word_by (codes "GS_FClose") refl refl (omega arith)
keyword_word Printf = word_by (codes "printf") refl refl (omega arith)
keyword_word Fprintf = word_by (codes "fprintf") refl refl (omega arith)
keyword_word Sprintf = word_by (codes "sprintf") refl refl (omega arith)
keyword_word Fgetline = word_by (codes "fgetline") refl refl (omega arith)
keyword_word Atoi = word_by (codes "atoi") refl refl (omega arith)
keyword_word Strcmp = word_by (codes "strcmp") refl refl (omega arith)
keyword_word ModeR = word_by (codes "R") refl refl (omega arith)
keyword_word ModeW = word_by (codes "W") refl refl (omega arith)
keyword_word ModeA = word_by (codes "A") refl refl (omega arith)

-- a keyword, before a byte that ends it
pub keyword_cuts : (k : Keyword) (rest : List ℕ) (signs : List Sign) → Stops rest → Cuts rest signs → Cuts (keyword_text k ++ rest) (sign_of_keyword k ∷ signs)
keyword_cuts k rest signs s next =
    subst (λ (o : Option Keyword). Cuts (keyword_text k ++ rest) (sign_of_word (keyword_text k) o ∷ signs)) (keyword_found k)
    (word_cuts (keyword_text k) rest signs (keyword_word k) s next)
