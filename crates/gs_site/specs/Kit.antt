-- The law of the kit: what its three operations on files give.
use Rattle.std.specs.Prelude.{ℕ, ◌++◌, List, [], ◌∷◌, length, nat_le, nat_lt, pos, Option, Some, None, codes, bytes_eq, if◌then◌else◌}
use Rattle.gs_types.specs.Job.{Meaning}
use Rattle.gs_types.specs.declared.limits.TheConstants.{FILE_LIMIT}
use Rattle.gs_types.specs.declared.value.Value.{Value}
use Rattle.gs_types.specs.declared.value.Value.TheVariants.{Int, Str, File}

-- a file as the one output, within the limit of a file
abbrev pub file : List ℕ → Option (List Value)
file bytes = if nat_le (length bytes) FILE_LIMIT then Some (File bytes ∷ []) else None

-- a number as the one output, within 64 bits
abbrev pub number : ℕ → Option (List Value)
number n = if nat_lt n 9223372036854775808 then Some (Int (pos n) ∷ []) else None

-- a file followed by another
abbrev pub joined : List Value → Option (List Value)
joined (File a ∷ File b ∷ []) = file (a ++ b)
joined _ = None

-- a file followed by a string and a line feed
abbrev pub grown : List Value → Option (List Value)
grown (File f ∷ Str s ∷ []) = file ((f ++ s) ++ 10 ∷ [])
grown _ = None

-- a file's number of bytes
abbrev pub counted : List Value → Option (List Value)
counted (File f ∷ []) = number (length f)
counted _ = None

abbrev pub kit : Meaning
kit op ins =
    if bytes_eq op (codes "join") then joined ins
    else (if bytes_eq op (codes "grow") then grown ins
    else (if bytes_eq op (codes "count") then counted ins
    else None))
