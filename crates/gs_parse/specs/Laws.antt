-- Laws of the grammar and of the texts.
use Rattle.std.specs.Prelude.{◌≡◌, ℕ, List, ◌∷◌, drop}
use Rattle.gs_tree.specs.Sign.{Sign, Mark, bad}
use Rattle.gs_tree.specs.Program.{Program}
use Rattle.gs_tree.specs.declared.token.LexKind.{LexKind}
use Rattle.gs_parse.specs.declared.fault.ParseKind.{ParseKind}
use Rattle.gs_parse.specs.Faulty.{IsText, IsTextFault, IsKindAt, lexical_kind}
use Rattle.gs_parse.specs.Reading.{Limits, SaysProgram}
use Rattle.gs_parse.specs.Symbols.{place, bare}

-- Signs of one place differ only in what they hold.
abbrev pub SamePlace : Type 0
SamePlace = (a b : Sign) → place a ≡ place b → bare a ≡ bare b

-- A list of signs says at most one thing.
abbrev pub OneMeaning : Type 0
OneMeaning = (l : Limits) (ts : List Mark) (p q : Program) → SaysProgram l ts p → SaysProgram l ts q → p ≡ q

-- A text says at most one program.
abbrev pub OneProgram : Type 0
OneProgram = (text : List ℕ) (p q : Program) → IsText text p → IsText text q → p ≡ q

-- A text that says a program is at no fault.
abbrev pub SaysOrFails : Type 0
SaysOrFails = (text : List ℕ) (p : Program) (line : ℕ) (kind : ParseKind) → IsText text p → ¬ IsTextFault text line kind

-- A text's fault has one line and one kind.
abbrev pub OneFault : Type 0
OneFault =
    (text : List ℕ) (line other : ℕ) (kind others : ParseKind) → IsTextFault text line kind → IsTextFault text other others →
    (line ≡ other) × (kind ≡ others)

-- Where the sign at a fault is a lexical fault, that is the fault's kind.
abbrev pub LexicalFault : Type 0
LexicalFault =
    (signs : List Mark) (k line : ℕ) (lexical : LexKind) (rest : List Mark) (kind : ParseKind) →
    drop k signs ≡ record { line = line; sign = bad lexical } ∷ rest → IsKindAt signs k kind → kind ≡ lexical_kind lexical
