-- The words of a program's text.
use Rattle.std.specs.Prelude.{ℕ, pos, ◌+◌, ◌<◌, ◌≤◌, ◌≡◌, ◌≢◌, Bool, true, false, ◌&&◌, ◌==◌, nat_eq, List, [], ◌∷◌, length, take, drop, slice_index, codes, count_by}
use Rattle.std.specs.List.{take_while, starts_with}
use Rattle.gs_tree.specs.declared.token.LexKind.{LexKind}
use Rattle.gs_tree.specs.declared.token.LexKind.TheVariants.{BadByte, OpenComment, LongName, BadNumber, WideNumber}
use Rattle.gs_tree.specs.Bytes.{is_blank, is_line_blank, is_in_line, is_line_feed, is_letter, is_digit, is_name_byte, is_double, is_single, leading, decimal, EndsAt, EndsFirst}
use Rattle.gs_tree.specs.Quoted.{Quotes, closed, broken}
use Rattle.gs_tree.specs.Lexeme.{Kind, Lexeme, word, numeral, literal, symbol, fault}

-- the greatest number
abbrev pub greatest : ℕ
greatest = 9223372036854775807

-- `#`, blanks of the same line, `include`, where only blanks stand before on the line
abbrev pub is_include : (is_fresh : Bool) → List ℕ → Bool
is_include is_fresh bytes =
    is_fresh && slice_index bytes 0 == 35 && starts_with nat_eq (drop (leading is_line_blank (drop 1 bytes)) (drop 1 bytes)) (codes "include")

-- What parts tokens: how many bytes it takes, how many lines it begins, and whether after it only blanks stand on the line.
pub data IsGap : (is_fresh : Bool) → List ℕ → (count lines : ℕ) → (stays_fresh : Bool) → Type 0 where
  blank : (is_fresh : Bool) (bytes : List ℕ) → is_blank (slice_index bytes 0) ≡ true → slice_index bytes 0 ≢ 10 →
      IsGap is_fresh bytes 1 0 is_fresh
  line_end : (is_fresh : Bool) (bytes : List ℕ) → slice_index bytes 0 ≡ 10 → IsGap is_fresh bytes 1 1 true
  line_comment : (is_fresh : Bool) (bytes : List ℕ) → slice_index bytes 0 ≡ 47 → slice_index bytes 1 ≡ 47 →
      IsGap is_fresh bytes (2 + leading is_in_line (drop 2 bytes)) 0 false
  block_comment : (is_fresh : Bool) (bytes : List ℕ) (count : ℕ) → slice_index bytes 0 ≡ 47 → slice_index bytes 1 ≡ 42 →
      EndsFirst (drop 2 bytes) count → IsGap is_fresh bytes (2 + count + 2) (count_by is_line_feed (take count (drop 2 bytes))) false
  include : (is_fresh : Bool) (bytes : List ℕ) → is_include is_fresh bytes ≡ true → IsGap is_fresh bytes (leading is_in_line bytes) 0 false

-- A token and how many bytes it takes.
pub data IsToken : List ℕ → Kind → (count : ℕ) → Type 0 where
  name : (bytes : List ℕ) → is_letter (slice_index bytes 0) ≡ true → leading is_name_byte bytes ≤ 64 →
      IsToken bytes word (leading is_name_byte bytes)
  number : (bytes : List ℕ) → is_digit (slice_index bytes 0) ≡ true → (slice_index bytes 0 ≡ 48 → is_digit (slice_index bytes 1) ≡ false) →
      decimal (take_while is_digit bytes) ≤ greatest → IsToken bytes (numeral (pos (decimal (take_while is_digit bytes)))) (leading is_digit bytes)
  string : (bytes value : List ℕ) (count : ℕ) → slice_index bytes 0 ≡ 34 → Quotes 1024 (drop 1 bytes) (closed value count) →
      IsToken bytes (literal value) (1 + count)
  double : (bytes : List ℕ) → is_double (slice_index bytes 0) (slice_index bytes 1) ≡ true → IsToken bytes symbol 2
  -- a `/` that begins no comment is one of these
  single : (bytes : List ℕ) → is_single (slice_index bytes 0) ≡ true → is_double (slice_index bytes 0) (slice_index bytes 1) ≡ false →
      (slice_index bytes 0 ≡ 47 → (slice_index bytes 1 ≢ 47) × (slice_index bytes 1 ≢ 42)) → IsToken bytes symbol 1

-- Why neither a gap nor a token stands first.
pub data IsFault : (is_fresh : Bool) → List ℕ → LexKind → Type 0 where
  comment : (is_fresh : Bool) (bytes : List ℕ) → slice_index bytes 0 ≡ 47 → slice_index bytes 1 ≡ 42 →
      ((k : ℕ) → ¬ EndsAt (drop 2 bytes) k) → IsFault is_fresh bytes OpenComment
  long_name : (is_fresh : Bool) (bytes : List ℕ) → is_letter (slice_index bytes 0) ≡ true → 64 < leading is_name_byte bytes →
      IsFault is_fresh bytes LongName
  zero_first : (is_fresh : Bool) (bytes : List ℕ) → slice_index bytes 0 ≡ 48 → is_digit (slice_index bytes 1) ≡ true →
      IsFault is_fresh bytes BadNumber
  wide : (is_fresh : Bool) (bytes : List ℕ) → is_digit (slice_index bytes 0) ≡ true →
      (slice_index bytes 0 ≡ 48 → is_digit (slice_index bytes 1) ≡ false) →
      greatest < decimal (take_while is_digit bytes) → IsFault is_fresh bytes WideNumber
  string : (is_fresh : Bool) (bytes : List ℕ) (kind : LexKind) → slice_index bytes 0 ≡ 34 → Quotes 1024 (drop 1 bytes) (broken kind) →
      IsFault is_fresh bytes kind
  byte : (is_fresh : Bool) (bytes : List ℕ) → 0 < length bytes → is_blank (slice_index bytes 0) ≡ false →
      is_letter (slice_index bytes 0) ≡ false → is_digit (slice_index bytes 0) ≡ false → slice_index bytes 0 ≢ 34 →
      is_double (slice_index bytes 0) (slice_index bytes 1) ≡ false → is_single (slice_index bytes 0) ≡ false →
      is_include is_fresh bytes ≡ false → IsFault is_fresh bytes BadByte

-- The tokens of the rest of a text, before which `at` bytes stand and which begins on `line`. The first fault is the last.
pub data Lexes : (at line : ℕ) (is_fresh : Bool) → List ℕ → List Lexeme → Type 0 where
  end : (at line : ℕ) (is_fresh : Bool) (bytes : List ℕ) → length bytes ≡ 0 → Lexes at line is_fresh bytes []
  gap : (at line count lines : ℕ) (is_fresh stays_fresh : Bool) (bytes : List ℕ) (found : List Lexeme) →
      IsGap is_fresh bytes count lines stays_fresh → Lexes (at + count) (line + lines) stays_fresh (drop count bytes) found →
      Lexes at line is_fresh bytes found
  token : (at line count : ℕ) (is_fresh : Bool) (bytes : List ℕ) (kind : Kind) (found : List Lexeme) →
      IsToken bytes kind count → Lexes (at + count) line false (drop count bytes) found →
      Lexes at line is_fresh bytes (record { kind = kind; from = at; to = at + count; line = line } ∷ found)
  -- a fault's span is its first byte
  stop : (at line : ℕ) (is_fresh : Bool) (bytes : List ℕ) (kind : LexKind) → IsFault is_fresh bytes kind →
      Lexes at line is_fresh bytes (record { kind = fault kind; from = at; to = at + 1; line = line } ∷ [])

-- The tokens of a text. Lines are counted from 1.
abbrev pub IsLexed : List ℕ → List Lexeme → Type 0
IsLexed text found = Lexes 0 1 true text found
