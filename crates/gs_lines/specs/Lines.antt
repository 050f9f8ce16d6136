-- The lines of a file, a file of lines, and what is made of lines.
use Rattle.std.specs.Prelude.{ℕ, ◌+◌, ◌==◌, List, [], ◌∷◌, ◌++◌, Option, Some, None, if◌then◌else◌}
use Rattle.std.specs.Str.{bytes_eq}
use Rattle.std.specs.Fmt.{decimal}

-- a byte in front of the first of some parts
abbrev pub in_front : ℕ → List (List ℕ) → List (List ℕ)
in_front b [] = (b ∷ []) ∷ []
in_front b (part ∷ parts) = (b ∷ part) ∷ parts

-- a byte in front of some lines: a line feed ends a line
abbrev pub with_byte : ℕ → List (List ℕ) → List (List ℕ)
with_byte b lines = if b == 10 then [] ∷ lines else in_front b lines

-- the parts before each line feed, and the rest behind the last one where it isn't empty
abbrev pub lines : List ℕ → List (List ℕ)
lines [] = []
lines (b ∷ bytes) = with_byte b (lines bytes)

-- a file of these lines: each is followed by a line feed
abbrev pub file_of : List (List ℕ) → List ℕ
file_of [] = []
file_of (line ∷ more) = line ++ 10 ∷ file_of more

-- the first line, or the empty one where there is none
abbrev pub first_of : List (List ℕ) → List ℕ
first_of [] = []
first_of (line ∷ more) = line

-- a line in front of others, unless it equals the one before it
abbrev pub unless_repeated : Option (List ℕ) → List ℕ → List (List ℕ) → List (List ℕ)
unless_repeated None line more = line ∷ more
unless_repeated (Some before) line more = if bytes_eq before line then more else line ∷ more

-- behind the line before, the lines without each that equals the one before it
abbrev pub without_repeats : Option (List ℕ) → List (List ℕ) → List (List ℕ)
without_repeats before [] = []
without_repeats before (line ∷ more) =
    unless_repeated before line (without_repeats (Some line) more)

-- each line after its number, from this one on, and a tab
abbrev pub numbered : ℕ → List (List ℕ) → List (List ℕ)
numbered n [] = []
numbered n (line ∷ more) = (decimal n ++ 9 ∷ line) ∷ numbered (n + 1) more
