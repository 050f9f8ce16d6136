-- Bytes of strings.
use Rattle.std.specs.Prelude.{◌≡◌, ℕ, ◌<◌, ◌≤◌, Bool, true, ◌&&◌, ◌||◌, nat_le, ◌==◌, List, length, slice_index}
use Rattle.gs_types.specs.declared.limits.TheConstants.{STRING_LIMIT}

-- a tab, a line feed, a carriage return, or a byte from 32 to 126
abbrev pub is_text_byte : ℕ → Bool
is_text_byte b = b == 9 || b == 10 || b == 13 || (nat_le 32 b && nat_le b 126)

-- each byte below this place is one of a string
abbrev pub ReadsTo : List ℕ → ℕ → Type 0
ReadsTo bytes end = (k : ℕ) → k < end → is_text_byte (slice_index bytes k) ≡ true

-- each is a byte
abbrev pub IsBytes : List ℕ → Type 0
IsBytes b = (i : ℕ) → slice_index b i < 256

-- at most as many bytes as a string may have, each one of a string
pub record IsText (bytes : List ℕ) : Type 0 where
  pub short : length bytes ≤ STRING_LIMIT
  pub each : ReadsTo bytes (length bytes)
