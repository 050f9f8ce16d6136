-- Identifiers, and the words that a main program has for itself.
use Rattle.std.specs.Prelude.{◌≡◌, ℕ, ◌≤◌, Bool, true, ◌&&◌, ◌||◌, nat_le, ◌==◌, List, [], ◌∷◌, length, slice_index}
use Rattle.std.specs.List.{AllPass, list_any}
use Rattle.std.specs.Str.{bytes_eq}
use lib.Chars.{codes}

-- a letter or `_`
abbrev pub is_letter : ℕ → Bool
is_letter b = (nat_le 65 b && nat_le b 90) || (nat_le 97 b && nat_le b 122) || b == 95

-- a letter, `_` or a digit
abbrev pub is_word_byte : ℕ → Bool
is_word_byte b = is_letter b || (nat_le 48 b && nat_le b 57)

-- letters, digits and `_`, of which the first is no digit
pub record IsWord (w : List ℕ) : Type 0 where
  pub some : 1 ≤ length w
  pub first : is_letter (slice_index w 0) ≡ true
  pub each : AllPass is_word_byte w

abbrev pub keywords : List (List ℕ)
keywords =
    codes "main" ∷ codes "int" ∷ codes "char" ∷ codes "FILE" ∷ codes "void" ∷ codes "if"
    ∷ codes "else" ∷ codes "while" ∷ codes "for" ∷ codes "return"
    ∷ codes "GS_On" ∷ codes "GS_Off" ∷ codes "GS_Barrier" ∷ codes "GS_FOpen" ∷ codes "GS_FClose"
    ∷ codes "printf" ∷ codes "fprintf" ∷ codes "sprintf"
    ∷ codes "fgetline" ∷ codes "atoi" ∷ codes "strcmp" ∷ codes "R" ∷ codes "W" ∷ codes "A" ∷ []

unfoldable pub is_keyword : List ℕ → Bool
is_keyword w = list_any (λ k. bytes_eq w k) keywords
