-- Classes of bytes. `slice_index bytes k` is the byte at k, and 0 past the end.
use Rattle.std.specs.Prelude.{ℕ, ◌+◌, ◌-◌, ◌*◌, ◌<◌, ◌≡◌, Bool, false, ◌&&◌, ◌||◌, not, ◌==◌, nat_le, List, [], ◌∷◌, length, codes, slice_index, Option, Some, None, if◌then◌else◌, fold}
use Rattle.std.specs.List.{take_while}

-- one of these bytes
abbrev pub is_in : List ℕ → ℕ → Bool
is_in [] b = false
is_in (v ∷ vs) b = b == v || is_in vs b

-- space, tab, CR and LF
unfoldable pub is_blank : ℕ → Bool
is_blank b = is_in (codes " \t\r\n") b

-- a blank that stays on its line
unfoldable pub is_line_blank : ℕ → Bool
is_line_blank b = is_in (codes " \t\r") b

-- a byte other than LF
unfoldable pub is_in_line : ℕ → Bool
is_in_line b = not (b == 10)

unfoldable pub is_line_feed : ℕ → Bool
is_line_feed b = b == 10

-- a letter or `_`
unfoldable pub is_letter : ℕ → Bool
is_letter b = (nat_le 97 b && nat_le b 122) || (nat_le 65 b && nat_le b 90) || b == 95

unfoldable pub is_digit : ℕ → Bool
is_digit b = nat_le 48 b && nat_le b 57

-- a letter, a digit or `_`
unfoldable pub is_name_byte : ℕ → Bool
is_name_byte b = is_letter b || is_digit b

-- what may stand in a string as it is: tab and the printable bytes but for `"` and `\`
unfoldable pub is_plain : ℕ → Bool
is_plain b = b == 9 || b == 32 || b == 33 || (nat_le 35 b && nat_le b 91) || (nat_le 93 b && nat_le b 126)

-- ++ -- += -= <= >= == != && ||
unfoldable pub is_double : ℕ → ℕ → Bool
is_double a b = if b == 61 then is_in (codes "+-<>=!") a else (is_in (codes "+-&|") a && a == b)

unfoldable pub is_single : ℕ → Bool
is_single a = is_in (codes "(){},;=+-*/%<>!&") a

-- what an escape stands for, by the byte after its `\`: n t r \ "
abbrev pub escape_value : ℕ → Option ℕ
escape_value e =
    if e == 110 then Some 10 else (if e == 116 then Some 9 else (if e == 114 then Some 13 else (if e == 92 then Some 92 else (if e == 34 then Some 34 else None))))

-- how many bytes of a class stand first
abbrev pub leading : (ℕ → Bool) → List ℕ → ℕ
leading p bytes = length (take_while p bytes)

-- the number that digits write
abbrev pub decimal : List ℕ → ℕ
decimal digits = fold (λ v d. 10 * v + (d - 48)) 0 digits

-- `*/` stands at a place
abbrev pub EndsAt : List ℕ → ℕ → Type 0
EndsAt bytes at = (slice_index bytes at ≡ 42) × (slice_index bytes (at + 1) ≡ 47)

-- the first `*/` stands there
pub record EndsFirst (bytes : List ℕ) (at : ℕ) : Type 0 where
  pub here : EndsAt bytes at
  pub before : (k : ℕ) → k < at → ¬ EndsAt bytes k
