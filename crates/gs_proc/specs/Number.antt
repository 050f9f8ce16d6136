-- Numbers that tasks write.
use Rattle.std.specs.Prelude.{◌≡◌, ℕ, ℤ, pos, ◌+ℤ◌, ◌-ℤ◌, FitsSigned, ◌≤◌, Bool, true, false, List, [], ◌∷◌, ◌++◌, length}
use Rattle.std.specs.Int.{w64}
use Rattle.std.specs.Str.Parse.{AllDigits, digits_value}

-- 1 to 19 digits
pub record IsShortNumeral (digits : List ℕ) : Type 0 where
  pub some : 1 ≤ length digits
  pub short : length digits ≤ 19
  pub all : AllDigits 10 digits

-- `-` or nothing
abbrev pub minus : Bool → List ℕ
minus true = 45 ∷ []
minus false = []

-- one line feed or nothing
abbrev pub line_feed : Bool → List ℕ
line_feed true = 10 ∷ []
line_feed false = []

abbrev pub signed : Bool → ℕ → ℤ
signed true n = pos 0 -ℤ pos n
signed false n = pos 0 +ℤ pos n

-- these bytes are a number: `-` or nothing, 1 to 19 digits, one line feed or nothing, within 64
-- bits
pub record IsNumber (bytes : List ℕ) (v : ℤ) : Type 0 where
  pub negative : Bool
  pub digits : List ℕ
  pub ended : Bool
  pub numeral : IsShortNumeral digits
  pub spelled : bytes ≡ minus negative ++ (digits ++ line_feed ended)
  pub value : v ≡ signed negative (digits_value 10 digits)
  pub fits : FitsSigned w64 v
