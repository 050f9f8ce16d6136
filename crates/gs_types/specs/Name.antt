-- Which bytes are a name, and where bytes that are none go wrong.
use Rattle.std.specs.Prelude.{◌≡◌, ◌⊎◌, ℕ, ◌<◌, ◌≤◌, Bool, true, false, not, ◌&&◌, ◌||◌, nat_le, ◌==◌, List, length, slice_index}
use Rattle.gs_types.specs.declared.limits.TheConstants.{NAME_LENGTH}

-- a letter, a digit, `.`, `_` or `-`
abbrev pub is_name_byte : ℕ → Bool
is_name_byte b = (nat_le 48 b && nat_le b 57) || (nat_le 65 b && nat_le b 90)
    || (nat_le 97 b && nat_le b 122) || b == 46 || b == 95 || b == 45

-- a name may have this byte at this place: a name doesn't begin with `.`
abbrev pub may_stand : ℕ → ℕ → Bool
may_stand at b = is_name_byte b && not (at == 0 && b == 46)

-- each byte below this place may stand where it is
abbrev pub GoesTo : List ℕ → ℕ → Type 0
GoesTo bytes end = (k : ℕ) → k < end → may_stand k (slice_index bytes k) ≡ true

-- at least one byte and at most as many as a name may have, each of which may stand where it is
pub record IsName (bytes : List ℕ) : Type 0 where
  pub some : 1 ≤ length bytes
  pub short : length bytes ≤ NAME_LENGTH
  pub allowed : GoesTo bytes (length bytes)

-- the first place at which no name goes on
pub record IsBadAt (bytes : List ℕ) (at : ℕ) : Type 0 where
  pub before : GoesTo bytes at
  pub here : ((length bytes ≡ 0) × (at ≡ 0))
      ⊎ (((at < length bytes) × (at < NAME_LENGTH) × (may_stand at (slice_index bytes at) ≡ false))
      ⊎ ((NAME_LENGTH < length bytes) × (at ≡ NAME_LENGTH)))
