-- Strings: what stands between the quotes, and what it says.
use Rattle.std.specs.Prelude.{ℕ, ◌+◌, ◌-◌, ◌<◌, ◌≡◌, ◌≢◌, ◌⊎◌, true, false, List, [], ◌∷◌, length, drop, slice_index, Some, None}
use Rattle.gs_tree.specs.declared.token.LexKind.{LexKind}
use Rattle.gs_tree.specs.declared.token.LexKind.TheVariants.{BadByte, OpenString, BadEscape, StringTooLong}
use Rattle.gs_tree.specs.Bytes.{is_plain, escape_value}

-- One byte of a value, and how many bytes it takes: a plain one, or an escape of two.
pub data Spells : List ℕ → (value count : ℕ) → Type 0 where
  plain : (bytes : List ℕ) → is_plain (slice_index bytes 0) ≡ true → Spells bytes (slice_index bytes 0) 1
  escape : (bytes : List ℕ) (value : ℕ) → slice_index bytes 0 ≡ 92 → escape_value (slice_index bytes 1) ≡ Some value → Spells bytes value 2

-- Why a string can't go on, where its value may have `room` more bytes.
pub data IsBroken : (room : ℕ) → List ℕ → LexKind → Type 0 where
  end : (room : ℕ) (bytes : List ℕ) → length bytes ≡ 0 → IsBroken room bytes OpenString
  line : (room : ℕ) (bytes : List ℕ) → slice_index bytes 0 ≡ 10 → IsBroken room bytes OpenString
  cut : (room : ℕ) (bytes : List ℕ) → 0 < room → slice_index bytes 0 ≡ 92 → length bytes ≡ 1 → IsBroken room bytes OpenString
  cut_line : (room : ℕ) (bytes : List ℕ) → 0 < room → slice_index bytes 0 ≡ 92 → slice_index bytes 1 ≡ 10 → IsBroken room bytes OpenString
  escape : (room : ℕ) (bytes : List ℕ) → 0 < room → slice_index bytes 0 ≡ 92 → 1 < length bytes → slice_index bytes 1 ≢ 10 →
      escape_value (slice_index bytes 1) ≡ None → IsBroken room bytes BadEscape
  long : (bytes : List ℕ) → 0 < length bytes → (is_plain (slice_index bytes 0) ≡ true) ⊎ (slice_index bytes 0 ≡ 92) → IsBroken 0 bytes StringTooLong
  stray : (room : ℕ) (bytes : List ℕ) → 0 < length bytes → is_plain (slice_index bytes 0) ≡ false →
      slice_index bytes 0 ≢ 34 → slice_index bytes 0 ≢ 92 → slice_index bytes 0 ≢ 10 → IsBroken room bytes BadByte

-- A value and how many bytes it takes with the closing quote, or the fault.
pub data Quoted : Type 0 where
  closed : (value : List ℕ) (count : ℕ) → Quoted
  broken : LexKind → Quoted

abbrev pub after : (value count : ℕ) → Quoted → Quoted
after b n (closed value count) = closed (b ∷ value) (n + count)
after b n (broken kind) = broken kind

-- What the bytes after an opening quote say, where the value may have `room` bytes.
pub data Quotes : (room : ℕ) → List ℕ → Quoted → Type 0 where
  closes : (room : ℕ) (bytes : List ℕ) → slice_index bytes 0 ≡ 34 → Quotes room bytes (closed [] 1)
  goes_on : (room value count : ℕ) (bytes : List ℕ) (q : Quoted) → 0 < room → Spells bytes value count →
      Quotes (room - 1) (drop count bytes) q → Quotes room bytes (after value count q)
  breaks : (room : ℕ) (bytes : List ℕ) (kind : LexKind) → IsBroken room bytes kind → Quotes room bytes (broken kind)
