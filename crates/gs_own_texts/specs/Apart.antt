-- Names that aren't among others.
use Rattle.std.specs.Prelude.{ℕ, ◌≢◌, List, [], ◌∷◌}
use Rattle.std.specs.Bool.{⊤}

-- the name is none of these
abbrev pub IsApart : List ℕ → List (List ℕ) → Type 0
IsApart name [] = ⊤
IsApart name (x ∷ xs) = (name ≢ x) × IsApart name xs
