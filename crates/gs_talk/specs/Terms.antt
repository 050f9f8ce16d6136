-- Expressions with their variables by places.
use Rattle.std.specs.Prelude.{ℕ, suc, ℤ, List, [], ◌∷◌, map, if◌then◌else◌}
use Rattle.std.specs.Str.{bytes_eq}
use Rattle.gs_tree.specs.declared.tree.Op.{Op}
use Rattle.gs_tree.specs.Program.{Term, num, lit, var, atoi, strcmp, neg, not_, two}

-- a variable's place is its place in the order of declaration, from 0
pub data Placed : Type 0 where
  number : (v : ℤ) → Placed
  text : (s : List ℕ) → Placed
  at : (i : ℕ) → Placed
  converted : Placed → Placed
  compared : (a b : Placed) → Placed
  negated : Placed → Placed
  inverted : Placed → Placed
  both : Op → (a b : Placed) → Placed

-- the place of a name; past the last where none has it
abbrev pub place_of : (names : List (List ℕ)) → List ℕ → ℕ
place_of [] x = 0
place_of (name ∷ names) x = if bytes_eq name x then 0 else suc (place_of names x)

abbrev pub placed : (names : List (List ℕ)) → Term → Placed
placed names (num line v) = number v
placed names (lit line s) = text s
placed names (var name) = at (place_of names name.text)
placed names (atoi a) = converted (placed names a)
placed names (strcmp a b) = compared (placed names a) (placed names b)
placed names (neg a) = negated (placed names a)
placed names (not_ a) = inverted (placed names a)
placed names (two op a b) = both op (placed names a) (placed names b)

abbrev pub all_placed : (names : List (List ℕ)) → List Term → List Placed
all_placed names ts = map (placed names) ts
