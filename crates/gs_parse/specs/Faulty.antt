-- What a main program's text says, and where and how it goes wrong.
use Rattle.std.specs.Prelude.{ℕ, ◌+◌, ◌<◌, ◌≤◌, List, [], ◌∷◌, Result, Ok, Err, length, take as first, drop, ⊤}
use Rattle.gs_tree.specs.Cut.{last_line_of}
use Rattle.gs_tree.specs.Lexeme.{Lexeme}
use Rattle.gs_tree.specs.Lexicon.{IsLexed}
use Rattle.gs_tree.specs.Program.{Program}
use Rattle.gs_tree.specs.Sign.{Sign, Mark, bad}
use Rattle.gs_tree.specs.Signs.{marks_of}
use Rattle.gs_tree.specs.View.{program_of}
use Rattle.gs_tree.specs.declared.token.LexKind.{LexKind}
use Rattle.gs_tree.specs.declared.token.LexKind.TheVariants as lexical
use Rattle.gs_tree.specs.declared.tree.Tree.{Tree}
use Rattle.gs_parse.specs.declared.fault.ParseErr.{ParseErr}
use Rattle.gs_parse.specs.declared.fault.ParseErr.TheVariants.{At, NoMemory}
use Rattle.gs_parse.specs.declared.fault.ParseKind.{ParseKind}
use Rattle.gs_parse.specs.declared.fault.ParseKind.TheVariants.{TooLong, BadByte, OpenComment, OpenString, BadEscape, StringTooLong, LongName, BadNumber, WideNumber, TooDeep, Unexpected}
use Rattle.gs_parse.specs.Reading.{limited, unlimited, SaysProgram, IsBeginning, IsFaultAt}

-- A text of at most 65,536 bytes says a program: its signs do.
pub record IsText (text : List ℕ) (p : Program) : Type 0 where
  pub short : length text ≤ 65536
  pub tokens : List Lexeme
  pub cut : IsLexed text tokens
  pub says : SaysProgram limited (marks_of text tokens) p

-- the line of the first of these signs, or that on which the text ends
abbrev pub line_from : (text : List ℕ) → List Mark → ℕ
line_from text [] = last_line_of text
line_from text (x ∷ xs) = x.line

abbrev pub lexical_kind : LexKind → ParseKind
lexical_kind lexical.BadByte = BadByte
lexical_kind lexical.OpenComment = OpenComment
lexical_kind lexical.OpenString = OpenString
lexical_kind lexical.BadEscape = BadEscape
lexical_kind lexical.StringTooLong = StringTooLong
lexical_kind lexical.LongName = LongName
lexical_kind lexical.BadNumber = BadNumber
lexical_kind lexical.WideNumber = WideNumber

-- of a sign that is allowed here by no reading
abbrev pub kind_of_sign : Sign → ParseKind
kind_of_sign (bad kind) = lexical_kind kind
kind_of_sign _ = Unexpected

abbrev pub kind_from : List Mark → ParseKind
kind_from [] = Unexpected
kind_from (x ∷ xs) = kind_of_sign x.sign

-- The kind of the fault at sign k: `TooDeep` where the signs up to it are a beginning without the limits of depth; else that of the sign.
pub data IsKindAt (signs : List Mark) (k : ℕ) : ParseKind → Type 0 where
  deep : k < length signs → IsBeginning unlimited (first (k + 1) signs) → IsKindAt signs k TooDeep
  unfit : (k < length signs → ¬ IsBeginning unlimited (first (k + 1) signs)) → IsKindAt signs k (kind_from (drop k signs))

-- A text is at fault, on a line and in a way.
pub data IsTextFault (text : List ℕ) : (line : ℕ) → ParseKind → Type 0 where
  too_long : 65536 < length text → IsTextFault text 0 TooLong
  at_sign : (tokens : List Lexeme) (k : ℕ) (kind : ParseKind) → length text ≤ 65536 → IsLexed text tokens →
      IsFaultAt (marks_of text tokens) k → IsKindAt (marks_of text tokens) k kind →
      IsTextFault text (line_from text (drop k (marks_of text tokens))) kind

-- What a text was read as.
unfoldable pub IsReadAs : (text : List ℕ) → Result Tree ParseErr → Type 0
IsReadAs text (Ok tree) = IsText text (program_of tree)
IsReadAs text (Err (At line kind)) = IsTextFault text line kind
IsReadAs text (Err NoMemory) = ⊤
