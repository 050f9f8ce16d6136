-- Lines in rising order of their bytes.
use Rattle.std.specs.Prelude.{◌≡◌, ℕ, List, [], ◌∷◌, if◌then◌else◌}
use Rattle.std.specs.Cmp.Lexicographic.{slice_cmp}
use Rattle.std.specs.List.Sorted.{IsPermutation, IsSorted}
use Rattle.std.specs.Ordering.{nat_cmp, is_gt}
use Rattle.std.specs.declared.cmp.Ordering.{Ordering}

-- two lines by their first bytes that differ, each below every longer line that it begins
abbrev pub by_bytes : List ℕ → List ℕ → Ordering
by_bytes = slice_cmp nat_cmp

-- a line among others, in front of the first that it isn't above
abbrev pub placed : List ℕ → List (List ℕ) → List (List ℕ)
placed line [] = line ∷ []
placed line (other ∷ more) =
    if is_gt (by_bytes line other) then other ∷ placed line more else line ∷ other ∷ more

-- the lines in rising order of bytes, repeats kept
abbrev pub rising : List (List ℕ) → List (List ℕ)
rising [] = []
rising (line ∷ more) = placed line (rising more)

-- they are the same lines
abbrev pub KeepsLines : Type 0
KeepsLines = (ls : List (List ℕ)) → IsPermutation ls (rising ls)

-- each is in order with the next
abbrev pub IsInOrder : Type 0
IsInOrder = (ls : List (List ℕ)) → IsSorted by_bytes (rising ls)

-- and no other list is both
abbrev pub IsOnlyOrder : Type 0
IsOnlyOrder = (ls ms : List (List ℕ)) → IsPermutation ls ms → IsSorted by_bytes ms → ms ≡ rising ls
