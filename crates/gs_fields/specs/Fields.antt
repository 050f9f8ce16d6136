-- The spelling of each field, and reading from left to right.
use Rattle.std.specs.Prelude.{ℕ, ℤ, List, [], ◌∷◌, ◌++◌, length, take, drop, Option, Some, None, nat_lt, if◌then◌else◌}
use Rattle.std.specs.Int.{Width, w32, w64, byte_len, from_le_bytes, to_le_bytes, cast_signed, cast_unsigned}

-- what a reader still has to read, and its place in the whole, from 0
pub record Reader : Type 0 where
  pub at : ℕ
  pub rest : List ℕ

-- a number of this width, its lowest byte first
unfoldable pub number : Width → ℕ → List ℕ
number w n = to_le_bytes w n

-- the length, in four bytes, and the bytes
abbrev pub blob : List ℕ → List ℕ
blob bytes = number w32 (length bytes) ++ bytes

-- eight bytes in two's complement
abbrev pub signed : ℤ → List ℕ
signed v = number w64 (cast_unsigned w64 v)

infixl 10 ◌>>=◌
abbrev pub ◌>>=◌ : {A B : Type 0} → Option A → (A → Option B) → Option B
(Some x) >>= f = f x
None >>= f = None

-- a field is read as its value and the bytes after it: none where the bytes end before the field
-- does
abbrev pub byte_at : List ℕ → Option (ℕ × List ℕ)
byte_at [] = None
byte_at (b ∷ rest) = Some (b, rest)

abbrev pub front_at : ℕ → List ℕ → Option (List ℕ × List ℕ)
front_at len bytes = if nat_lt (length bytes) len then None
    else Some (take len bytes, drop len bytes)

abbrev pub number_at : Width → List ℕ → Option (ℕ × List ℕ)
number_at w bytes = front_at (byte_len w) bytes >>= λ f. Some (from_le_bytes w f.0, f.1)

abbrev pub signed_at : List ℕ → Option (ℤ × List ℕ)
signed_at bytes = number_at w64 bytes >>= λ n. Some (cast_signed w64 n.0, n.1)

abbrev pub blob_at : List ℕ → Option (List ℕ × List ℕ)
blob_at bytes = number_at w32 bytes >>= λ n. front_at n.0 n.1
