-- What formats and lines give.
use Rattle.std.specs.Prelude.{ℕ, suc, ◌+◌, ◌==◌, ℤ, pos, negsuc, nat_le, Bool, not, ◌&&◌, ◌||◌, List, [], ◌∷◌, ◌++◌, length, drop, Option, Some, None, Result, Ok, Err, if◌then◌else◌}
use Rattle.std.specs.List.{take_while, list_all}
use Rattle.std.specs.Fmt.{decimal}
use Rattle.gs_tree.specs.Formats.{Piece, literally, percent_d, percent_s, pieces}
use Rattle.gs_types.specs.declared.limits.TheConstants.{STRING_LIMIT}
use Rattle.gs_types.specs.declared.value.Value.{Value}
use Rattle.gs_types.specs.declared.settings.FaultKind.{FaultKind}
use Rattle.gs_types.specs.declared.settings.FaultKind.TheVariants.{StringTooLong, BadByte}
use Rattle.gs_talk.specs.Values.{int_of, text_of}

-- ---- formats

abbrev pub signed_decimal : ℤ → List ℕ
signed_decimal (pos n) = decimal n
signed_decimal (negsuc n) = 45 ∷ decimal (suc n)

-- the pieces with the values in order; the checks give each piece its value
abbrev pub rendered : List Piece → List Value → List ℕ
rendered [] vs = []
rendered (literally byte ∷ ps) vs = byte ∷ rendered ps vs
rendered (percent_d ∷ ps) [] = rendered ps []
rendered (percent_d ∷ ps) (v ∷ vs) = signed_decimal (int_of v) ++ rendered ps vs
rendered (percent_s ∷ ps) [] = rendered ps []
rendered (percent_s ∷ ps) (v ∷ vs) = text_of v ++ rendered ps vs

abbrev pub rendered_by : Option (List Piece) → List Value → List ℕ
rendered_by None vs = []
rendered_by (Some ps) vs = rendered ps vs

-- what a format gives for these values
unfoldable pub formatted : List ℕ → List Value → List ℕ
formatted format vs = rendered_by (pieces format) vs

-- ---- lines

-- a byte of a line that a string may hold
abbrev pub is_line_byte : ℕ → Bool
is_line_byte b = b == 9 || b == 13 || (nat_le 32 b && nat_le b 126)

-- the bytes from a place on, up to the next line feed or the end
abbrev pub line_at : List ℕ → ℕ → List ℕ
line_at bytes at = take_while (λ b. not (b == 10)) (drop at bytes)

pub data Taken : Type 0 where
  no_more : Taken
  got : (line : List ℕ) (next : ℕ) → Taken

-- behind the line feed, where one stands
abbrev pub next_at : List ℕ → ℕ → ℕ
next_at bytes at = if nat_le (length bytes) (at + length (line_at bytes at)) then length bytes
    else at + length (line_at bytes at) + 1

abbrev pub taken_line : List ℕ → (next : ℕ) → Result Taken FaultKind
taken_line line next =
    if not (nat_le (length line) STRING_LIMIT) then Err StringTooLong
    else (if list_all is_line_byte line then Ok (got line next) else Err BadByte)

-- the line at a place, or the end
unfoldable pub read_line_at : List ℕ → (at : ℕ) → Result Taken FaultKind
read_line_at bytes at = if nat_le (length bytes) at then Ok no_more
    else taken_line (line_at bytes at) (next_at bytes at)
