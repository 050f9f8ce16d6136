-- What was written, the newest write first.
use Rattle.std.specs.Prelude.{◌≡◌, ℕ, false, List, [], ◌∷◌, ◌++◌, if◌then◌else◌, map, bytes_eq, slice_get, Option, Some, None}
use Rattle.std.specs.List.{list_any, position_or_len}
use Rattle.indexmap.specs.IndexMap.{insert_entry}
use Rattle.gs_types.specs.declared.note.Version.{Version}
use Rattle.gs_types.specs.declared.note.Version.TheVariants.{Original}
use Rattle.gs_names.specs.declared.writes.Writes.{Writes, Start, Then'}

-- a name and the version that it was given
abbrev pub Write : Type 0
Write = List ℕ × Version

abbrev pub listed : Writes → List Write
listed Start = []
listed (Then' name version v before) = (name.value, version.value) ∷ listed before

-- the last version of a name: the user's own file where it wasn't written
abbrev pub latest : List ℕ → List Write → Version
latest x [] = Original x
latest x (w ∷ ws) = if bytes_eq x w.0 then w.1 else latest x ws

-- a name's number: its place among the names, or behind them if it isn't among them
abbrev pub number_of : List ℕ → List (List ℕ) → ℕ
number_of x xs = position_or_len (bytes_eq x) xs

-- the name has this number; or it isn't among the names
abbrev pub IsNumberOf : (names : List (List ℕ)) → List ℕ → Option ℕ → Type 0
IsNumberOf names x None = list_any (bytes_eq x) names ≡ false
IsNumberOf names x (Some i) = slice_get names i ≡ Some x

-- the names, each once: one more goes behind the others if it isn't among them
abbrev pub with_name : List (List ℕ) → List ℕ → List (List ℕ)
with_name xs x = if list_any (bytes_eq x) xs then xs else xs ++ x ∷ []

-- the names that were written
abbrev pub names_of : List Write → List (List ℕ)
names_of ws = map (λ w. w.0) ws

-- the written names in the order of their first writing
abbrev pub first_written : List Write → List (List ℕ)
first_written [] = []
first_written (w ∷ ws) = with_name (first_written ws) w.0

-- the written names in the order of their first writing, each with its last version: a name that
-- was written keeps its place and takes the version, a new one goes last
abbrev pub finals_of : List Write → List Write
finals_of [] = []
finals_of (w ∷ ws) = insert_entry bytes_eq (finals_of ws) w.0 w.1
