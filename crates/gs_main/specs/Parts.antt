-- What the parts of an order find.
use Rattle.std.specs.Prelude.{◌≡◌, ℕ, suc, nat_lt, length, List, [], ◌∷◌, Option, Some, None, Result, Ok, Err, ⊤, if◌then◌else◌}
use Rattle.gs_types.specs.declared.settings.FaultKind.{FaultKind}
use Rattle.gs_types.specs.declared.settings.FaultKind.TheVariants.{HandleClosed, WrongMode, TooManyNames}
use Rattle.gs_types.specs.declared.limits.TheConstants.{NAME_LIMIT}
use Rattle.gs_talk.specs.declared.slot.Slot.{Slot}
use Rattle.gs_talk.specs.declared.slot.Slot.TheVariants.{Held, Due}
use Rattle.gs_talk.specs.declared.taken.Line.{Line}
use Rattle.gs_talk.specs.declared.taken.Line.TheVariants as line
use Rattle.gs_talk.specs.Texts.{Taken, no_more, got, read_line_at}
use Rattle.gs_talk.specs.Talk.{State, Opened, writes, fault_if, with_name}
use Rattle.gs_pieces.specs.declared.read_err.ReadErr.{ReadErr}
use Rattle.gs_pieces.specs.declared.read_err.ReadErr.TheVariants as err

-- whether one name more is too many
abbrev pub names_fault : State → List ℕ → Option FaultKind
names_fault s name = fault_if (nat_lt NAME_LIMIT (length (with_name s.names name))) TooManyNames

-- the name, where nothing but the last may stand against it; or what does
abbrev pub Opens : (fault last : Option FaultKind) → List ℕ → Result (List ℕ) FaultKind
    → Type 0
Opens fault last text (Ok name) = (fault ≡ last) × (name ≡ text)
Opens fault last text (Err kind) = fault ≡ Some kind

-- the next line of a file that is open to be read
abbrev pub line_in : Option Opened → Result Taken FaultKind
line_in None = Err HandleClosed
line_in (Some h) = if writes h.mode then Err WrongMode else read_line_at h.content h.at

abbrev pub NextLine : Option Opened → Result Line ReadErr → Type 0
NextLine o (Ok line.End) = line_in o ≡ Ok no_more
NextLine o (Ok (line.Got s next)) = line_in o ≡ Ok (got s next)
NextLine o (Err (err.Kind kind)) = line_in o ≡ Err kind
NextLine o (Err err.NoMemory) = ⊤

-- the first variable that waits, from place i on
abbrev pub first_due : ℕ → List Slot → Option (ℕ × ℕ × ℕ)
first_due i [] = None
first_due i (Held v ∷ vars) = first_due (suc i) vars
first_due i (Due n place ∷ vars) = Some (i, n, place)
