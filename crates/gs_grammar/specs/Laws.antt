-- Laws of the productions and the grammar of the reader.
use Rattle.std.specs.Prelude.{◌≡◌, ◌↔◌, ◌≤◌, ℕ, List, length}
use Rattle.gs_tree.specs.Lexeme.{Lexeme}
use Rattle.gs_tree.specs.Lexicon.{IsLexed}
use Rattle.gs_tree.specs.Program.{Program}
use Rattle.gs_tree.specs.Sign.{Mark}
use Rattle.gs_tree.specs.Signs.{marks_of}
use Rattle.gs_parse.specs.Faulty.{IsText}
use Rattle.gs_parse.specs.Fits.{ProgramFits}
use Rattle.gs_parse.specs.Reading.{limited, unlimited, SaysProgram}
use Rattle.gs_grammar.specs.Programs.{IsProgram}

-- Without limits of depth, the productions say what the reader's grammar says.
abbrev pub SameUnlimited : Type 0
SameUnlimited = (ts : List Mark) (p : Program) → IsProgram unlimited ts p ↔ SaysProgram unlimited ts p

-- Within them, they do so of a tree that is within the limits of depth.
abbrev pub SameLimited : Type 0
SameLimited = (ts : List Mark) (p : Program) → (IsProgram limited ts p × ProgramFits p) ↔ SaysProgram limited ts p

-- A text of at most 65,536 bytes says a program by the productions, within the limits.
pub record IsProgramText (text : List ℕ) (p : Program) : Type 0 where
  pub short : length text ≤ 65536
  pub tokens : List Lexeme
  pub cut : IsLexed text tokens
  pub says : IsProgram limited (marks_of text tokens) p
  pub fits : ProgramFits p

-- These are the texts that the reader takes.
abbrev pub SameTexts : Type 0
SameTexts = (text : List ℕ) (p : Program) → IsProgramText text p ↔ IsText text p

-- Signs say at most one program by the productions.
abbrev pub OneProgram : Type 0
OneProgram = (ts : List Mark) (p q : Program) → IsProgram unlimited ts p → IsProgram unlimited ts q → p ≡ q
