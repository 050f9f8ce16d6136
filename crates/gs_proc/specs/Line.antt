-- A line without its end.
use Rattle.std.specs.Prelude.{ℕ, ◌==◌, List, [], ◌∷◌, if◌then◌else◌}

-- the bytes without one line feed at the end
abbrev pub without_end : List ℕ → List ℕ
without_end [] = []
without_end (b ∷ []) = if b == 10 then [] else (b ∷ [])
without_end (b ∷ c ∷ bytes) = b ∷ without_end (c ∷ bytes)
