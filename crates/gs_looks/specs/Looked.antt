-- Looks at the user's files.
use Rattle.std.specs.Prelude.{◌≡◌, ℕ, ◌<◌, ◌≤◌, List, [], ◌∷◌, length, Option, Some, None, bytes_eq, if◌then◌else◌}
use Rattle.std.specs.Bool.{⊤}
use Rattle.gs_types.specs.declared.limits.TheConstants.{FILE_LIMIT}
use Rattle.gs_talk.specs.Seq.{Content, Known, Files}
use Rattle.gs_looks.specs.declared.look.Look.{Look}
use Rattle.gs_looks.specs.declared.look.Looks.{Looks}
use Rattle.gs_looks.specs.declared.look.Seen.{Seen}
use Rattle.gs_looks.specs.declared.look.Seen.TheVariants.{Absent, TooLong, Len}

-- the files that were looked at, in order
unfoldable pub looks_in : Looks → List Look
looks_in l = l.list.items

abbrev pub looked : List ℕ → Seen → Look
looked name seen = record { name = name; seen = seen }

-- what was seen of a file first
abbrev pub seen_of : List Look → (name : List ℕ) → Option Seen
seen_of [] name = None
seen_of (l ∷ ls) name = if bytes_eq l.name name then Some l.seen else seen_of ls name

-- what was seen is so
abbrev pub IsSeen : Option Content → Seen → Type 0
IsSeen c Absent = c ≡ None
IsSeen c TooLong = (bytes : List ℕ) × (c ≡ Some (Known bytes)) × (FILE_LIMIT < length bytes)
IsSeen c (Len len) =
    (bytes : List ℕ) × (c ≡ Some (Known bytes)) × (length bytes ≤ FILE_LIMIT) × (len ≡ length bytes)

-- all that was seen is so of the user's files
abbrev pub AreSeen : List Look → Files → Type 0
AreSeen [] first = ⊤
AreSeen (l ∷ ls) first = IsSeen (first l.name) l.seen × AreSeen ls first
