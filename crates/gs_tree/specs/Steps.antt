-- What the parts of the lexical reader answer.
use Rattle.std.specs.Prelude.{◌≡◌, ℕ, ◌<◌, ◌≤◌, List, length, slice_index}
use Rattle.gs_tree.specs.declared.string.Piece.{Piece}
use Rattle.gs_tree.specs.declared.string.Piece.TheVariants.{Byte, End, Fault}
use Rattle.gs_tree.specs.declared.string.Reading.{Reading}
use Rattle.gs_tree.specs.declared.string.Reading.TheVariants.{Closed, Broken}
use Rattle.gs_tree.specs.Quoted.{Spells, IsBroken, Quoted, closed, broken}

-- the piece stands first in the rest of a string, whose value may have `room` more bytes
abbrev pub IsPiece : (room : ℕ) → List ℕ → Piece → Type 0
IsPiece room bytes (Byte value count) = (0 < room) × Spells bytes value count × (1 ≤ count) × (count ≤ length bytes)
IsPiece room bytes End = slice_index bytes 0 ≡ 34
IsPiece room bytes (Fault kind) = IsBroken room bytes kind

abbrev pub quoted_of : Reading → Quoted
quoted_of (Closed value count) = closed value.items count
quoted_of (Broken kind) = broken kind

-- a string ends within its text
abbrev pub IsWithin : ℕ → Reading → Type 0
IsWithin end (Closed value count) = count ≤ end
IsWithin end (Broken kind) = Unit {0}
