-- What a format says: its pieces, and the kinds of the values that it takes.
use Rattle.std.specs.Prelude.{ℕ, ◌==◌, List, [], ◌∷◌, Option, Some, None, option_map, if◌then◌else◌}
use Rattle.gs_tree.specs.declared.tree.VarKind.{VarKind}
use Rattle.gs_tree.specs.declared.tree.VarKind.TheVariants.{Int, Str}

-- a byte that stands for itself, an int in decimal, or the bytes of a string
pub data Piece : Type 0 where
  literally : (byte : ℕ) → Piece
  percent_d : Piece
  percent_s : Piece

-- `%%` is one `%`; a `%` before another byte or at the end is in no format
abbrev pub pieces : List ℕ → Option (List Piece)
pieces [] = Some []
pieces (a ∷ []) = if a == 37 then None else Some (literally a ∷ [])
pieces (a ∷ b ∷ rest) =
    if a == 37
    then (if b == 100 then option_map (λ ps. percent_d ∷ ps) (pieces rest) else (
    if b == 115 then option_map (λ ps. percent_s ∷ ps) (pieces rest) else (
    if b == 37 then option_map (λ ps. literally 37 ∷ ps) (pieces rest) else None)))
    else option_map (λ ps. literally a ∷ ps) (pieces (b ∷ rest))

-- the kinds of the values that pieces take
abbrev pub kinds_of : List Piece → List VarKind
kinds_of [] = []
kinds_of (literally byte ∷ ps) = kinds_of ps
kinds_of (percent_d ∷ ps) = Int ∷ kinds_of ps
kinds_of (percent_s ∷ ps) = Str ∷ kinds_of ps

-- `%d` takes an int, `%s` a string, `%%` nothing; another `%` is in no format
abbrev pub format_kinds : List ℕ → Option (List VarKind)
format_kinds [] = Some []
format_kinds (a ∷ []) = if a == 37 then None else Some []
format_kinds (a ∷ b ∷ rest) =
    if a == 37
    then (if b == 100 then option_map (λ ks. Int ∷ ks) (format_kinds rest) else (
    if b == 115 then option_map (λ ks. Str ∷ ks) (format_kinds rest) else (
    if b == 37 then format_kinds rest else None)))
    else format_kinds (b ∷ rest)
