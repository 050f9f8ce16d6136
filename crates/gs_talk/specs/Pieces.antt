-- What the code reads of a format.
use Rattle.std.specs.Prelude.{◌≡◌, ◌<◌, ℕ, List, [], ◌∷◌, ◌++◌, length, None, option_map}
use Rattle.gs_tree.specs.Formats.{Piece, literally, percent_d, percent_s, pieces}
use Rattle.gs_types.specs.declared.value.Value.{Value}
use Rattle.gs_talk.specs.Texts.{rendered}
use Rattle.gs_talk.specs.declared.formats.Piece as code
use Rattle.gs_talk.specs.declared.formats.Piece.TheVariants as piece
use Rattle.gs_talk.specs.declared.formats.Beginning.{Beginning}
use Rattle.gs_talk.specs.declared.formats.Beginning.TheVariants as begins

abbrev pub part_of : code.Piece → Piece
part_of (piece.Byte byte) = literally byte
part_of piece.Number = percent_d
part_of piece.Text = percent_s

-- a format has this piece and those of the rest
pub record Continues (format : List ℕ) (p : Piece) (rest : List ℕ) : Type 0 where
  pub pieces_are : pieces format ≡ option_map (λ ps. p ∷ ps) (pieces rest)
  pub shorter : length rest < length format

abbrev pub Begins : (format : List ℕ) → Beginning → Type 0
Begins format begins.End = format ≡ []
Begins format begins.Bad = pieces format ≡ None
Begins format (begins.Piece p rest) = Continues format (part_of p) rest.now

-- a piece is written with its value, whatever follows it; these values are left
abbrev pub Puts : code.Piece → (values left : List Value) → (old new : List ℕ) → Type 0
Puts p values left old new = (more : List Piece) → new ++ rendered more left ≡ old
    ++ rendered (part_of p ∷ more) values
