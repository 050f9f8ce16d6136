-- The names of version files. What they are doesn't unfold: the facts in `Apart` are what is needed
-- of them.
use Rattle.std.specs.Prelude.{ℕ, ◌^◌, ◌<◌, List, ◌∷◌, ◌++◌, decimal}
use Rattle.gs_types.specs.declared.note.Version.{Version}
use Rattle.gs_types.specs.declared.note.Version.TheVariants.{Original, Out, Main}

-- `.gs.o.N.K`: what task N gave at place K
unfoldable pub out_name : ℕ → ℕ → List ℕ
out_name n k = 46 ∷ 103 ∷ 115 ∷ 46 ∷ 111 ∷ 46 ∷ (decimal n ++ 46 ∷ decimal k)

-- `.gs.m.K`: the content K that the main program wrote
unfoldable pub main_name : ℕ → List ℕ
main_name k = 46 ∷ 103 ∷ 115 ∷ 46 ∷ 109 ∷ 46 ∷ decimal k

-- the file of a version: an original's is the user's own
abbrev pub version_name : Version → List ℕ
version_name (Original x) = x
version_name (Out n k) = out_name n k
version_name (Main k) = main_name k

-- a version that the store keeps
abbrev pub IsKept : Version → Type 0
IsKept (Original x) = ⊥
IsKept (Out n k) = (n < 2 ^ 32) × (k < 2 ^ 8)
IsKept (Main k) = k < 2 ^ 32
