-- How many bytes are read that no task gives.
use Rattle.std.specs.Prelude.{ℕ, zero, suc, List, [], ◌∷◌, slice_get, Option, Some, None}
use Rattle.gs_types.specs.declared.note.Version.{Version}
use Rattle.gs_types.specs.declared.note.Version.TheVariants.{Original, Out, Main}
use Rattle.gs_looks.specs.declared.look.Look.{Look}
use Rattle.gs_looks.specs.declared.look.Seen.{Seen}
use Rattle.gs_looks.specs.declared.look.Seen.TheVariants as seen
use Rattle.gs_looks.specs.Looked.{seen_of}

abbrev pub seen_length : Option Seen → ℕ
seen_length None = 0
seen_length (Some seen.Absent) = 0
seen_length (Some seen.TooLong) = 0
seen_length (Some (seen.Len len)) = len

abbrev pub or_zero : Option ℕ → ℕ
or_zero None = 0
or_zero (Some n) = n

-- contents are numbered from 1
abbrev pub main_length : List ℕ → ℕ → ℕ
main_length mains zero = 0
main_length mains (suc k) = or_zero (slice_get mains k)

-- of an original by the looks, and of a content of the program
abbrev pub kept_length : List Look → List ℕ → Option Version → ℕ
kept_length looks mains None = 0
kept_length looks mains (Some (Original name)) = seen_length (seen_of looks name)
kept_length looks mains (Some (Out n place)) = 0
kept_length looks mains (Some (Main k)) = main_length mains k
