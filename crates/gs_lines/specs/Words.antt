-- The words of a line.
use Rattle.std.specs.Prelude.{ℕ, Bool, true, false, ◌||◌, ◌==◌, List, [], ◌∷◌, filter, unwrap_or, slice_get, if◌then◌else◌}
use Rattle.gs_lines.specs.Lines.{in_front}

-- a tab or a space
abbrev pub is_blank : ℕ → Bool
is_blank b = b == 9 || b == 32

-- a byte in front of the parts of a line
abbrev pub with_part : ℕ → List (List ℕ) → List (List ℕ)
with_part b parts = if is_blank b then [] ∷ parts else in_front b parts

-- the parts before, between and behind the blanks of a line
abbrev pub parts : List ℕ → List (List ℕ)
parts [] = [] ∷ []
parts (b ∷ line) = with_part b (parts line)

abbrev pub is_word : List ℕ → Bool
is_word [] = false
is_word (b ∷ part) = true

-- the words of a line: its longest runs of bytes that are no blanks
abbrev pub words : List ℕ → List (List ℕ)
words line = filter is_word (parts line)

-- the word at a place, from 0, or the empty one where the line has no such word
abbrev pub word_at : ℕ → List ℕ → List ℕ
word_at place line = unwrap_or (slice_get (words line) place) []
