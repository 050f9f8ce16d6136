-- Laws of printed programs and their signs.
use Rattle.std.specs.Prelude.{◌≡◌, ℕ, List, map, All}
use Rattle.gs_tree.specs.Lexeme.{Lexeme}
use Rattle.gs_tree.specs.Lexicon.{IsLexed}
use Rattle.gs_tree.specs.Printed.{printed}
use Rattle.gs_tree.specs.Program.{Program}
use Rattle.gs_tree.specs.Sign.{Sign, Mark}
use Rattle.gs_tree.specs.Signs.{marks_of}
use Rattle.gs_spelling.specs.Spelled.{SignSpelled, ProgramSpelled}
use Rattle.gs_spelling.specs.Signs.{program_signs}

abbrev pub sign_at : Mark → Sign
sign_at x = x.sign

-- the signs of a text, by its tokens
abbrev pub signs_in : (text : List ℕ) → List Lexeme → List Sign
signs_in text found = map sign_at (marks_of text found)

-- The names, numbers and strings of a text are spelled so that they can be written.
abbrev pub TextsAreSpelled : Type 0
TextsAreSpelled = (text : List ℕ) (found : List Lexeme) → IsLexed text found → All SignSpelled (signs_in text found)

-- The text of a printed program has the program's signs.
abbrev pub PrintsItsSigns : Type 0
PrintsItsSigns = (p : Program) → ProgramSpelled p → (found : List Lexeme) × IsLexed (printed p) found × (signs_in (printed p) found ≡ program_signs p)
