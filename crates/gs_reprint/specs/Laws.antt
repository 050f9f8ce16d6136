-- Laws of the reader and the printer together.
use Rattle.std.specs.Prelude.{◌≡◌, ℕ, ◌≤◌, List, length, map, All}
use Rattle.gs_tree.specs.Printed.{printed}
use Rattle.gs_tree.specs.Program.{Program}
use Rattle.gs_tree.specs.Sign.{Mark}
use Rattle.gs_tree.specs.Unlined.{unlined}
use Rattle.gs_parse.specs.Reading.{limited, SaysProgram}
use Rattle.gs_parse.specs.Faulty.{IsText}
use Rattle.gs_spelling.specs.Spelled.{SignSpelled, ProgramSpelled}
use Rattle.gs_spelling.specs.Signs.{program_signs}
use Rattle.gs_spelling.specs.Laws.{sign_at}
use Rattle.gs_parse.specs.Fits.{ProgramFits}

-- What signs say is within the limits, and spelled as the signs are.
abbrev pub ReadsWithin : Type 0
ReadsWithin = (ts : List Mark) (p : Program) → All SignSpelled (map sign_at ts) → SaysProgram limited ts p → ProgramSpelled p × ProgramFits p

-- The signs of a printed program within the limits say it again, on whatever lines they stand.
abbrev pub SaysAgain : Type 0
SaysAgain = (p : Program) (ts : List Mark) → ProgramFits p → map sign_at ts ≡ program_signs p → (q : Program) × SaysProgram limited ts q × (unlined q ≡ unlined p)

-- The printed form of what a text says, where it isn't too long, says the same but for the lines.
abbrev pub ReadsBack : Type 0
ReadsBack = (text : List ℕ) (p : Program) → IsText text p → length (printed p) ≤ 65536 → (q : Program) × IsText (printed p) q × (unlined q ≡ unlined p)

-- Whatever the printed form says, where it isn't too long, is what the text says but for the lines.
abbrev pub PrintsOnce : Type 0
PrintsOnce = (text : List ℕ) (p q : Program) → IsText text p → length (printed p) ≤ 65536 → IsText (printed p) q → unlined q ≡ unlined p
