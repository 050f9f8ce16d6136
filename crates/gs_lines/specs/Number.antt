-- Numbers in lines, and their sum.
use Rattle.std.specs.Prelude.{ℕ, ◌^◌, ℤ, pos, negsuc, ◌+ℤ◌, ◌-ℤ◌, Bool, true, false, ◌&&◌, ◌==◌, nat_le, nat_lt, List, [], ◌∷◌, length, Option, Some, None, option_and_then, if◌then◌else◌}
use Rattle.std.specs.Str.{all_ascii_digits}
use Rattle.std.specs.Str.Parse.{digits_value}

-- -2^63 to 2^63 - 1
abbrev pub fits_64 : ℤ → Bool
fits_64 (pos n) = nat_lt n (2 ^ 63)
fits_64 (negsuc n) = nat_lt n (2 ^ 63)

-- a number within 64 bits
abbrev pub within_64 : ℤ → Option ℤ
within_64 v = if fits_64 v then Some v else None

-- 1 to 19 digits
abbrev pub is_short_numeral : List ℕ → Bool
is_short_numeral digits = nat_le 1 (length digits)
    && (nat_le (length digits) 19 && all_ascii_digits digits)

-- what digits say
abbrev pub digits_number : List ℕ → Option ℕ
digits_number digits = if is_short_numeral digits then Some (digits_value 10 digits) else None

abbrev pub signed : Bool → ℕ → ℤ
signed true n = pos 0 -ℤ pos n
signed false n = pos 0 +ℤ pos n

-- what digits behind a sign say
abbrev pub signed_number : Bool → List ℕ → Option ℤ
signed_number negative digits =
    option_and_then (λ n. within_64 (signed negative n)) (digits_number digits)

-- what a line says: `-` (45) or nothing, and 1 to 19 digits, within 64 bits
abbrev pub number_in : List ℕ → Option ℤ
number_in [] = None
number_in (b ∷ line) = if b == 45 then signed_number true line else signed_number false (b ∷ line)

-- a sum and the number that a line says, within 64 bits
abbrev pub added : ℤ → List ℕ → Option ℤ
added total line = option_and_then (λ v. within_64 (total +ℤ v)) (number_in line)

-- the sum of these lines behind a sum so far
abbrev pub sum_from : ℤ → List (List ℕ) → Option ℤ
sum_from total [] = Some total
sum_from total (line ∷ more) = option_and_then (λ next. sum_from next more) (added total line)
