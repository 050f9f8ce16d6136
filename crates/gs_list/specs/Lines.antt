-- The lines of a text, and the words of a line before its comment.
use Rattle.std.specs.Prelude.{◌≡◌, ℕ, ◌≤◌, Bool, true, false, ◌&&◌, ◌||◌, ◌==◌, nat_le, List, [], ◌∷◌, ◌++◌, length, map}
use Rattle.std.specs.List.{All, list_all}
use denote.Ref.{Bor}

abbrev pub is_feed : ℕ → Bool
is_feed b = b == 10

abbrev pub is_hash : ℕ → Bool
is_hash b = b == 35

-- a space, a tab or a carriage return
abbrev pub is_blank : ℕ → Bool
is_blank b = b == 32 || b == 9 || b == 13

abbrev pub is_word_byte : ℕ → Bool
is_word_byte b = nat_le 33 b && nat_le b 126

-- what may stand outside a comment
abbrev pub may_stand : ℕ → Bool
may_stand b = is_blank b || is_word_byte b

abbrev pub NonePass : (ℕ → Bool) → List ℕ → Type 0
NonePass test bytes = All (λ b. test b ≡ false) bytes

-- the lines of a text: a line feed ends a line, and the next one begins behind it
pub data AreLines : List ℕ → List (List ℕ) → Type 0 where
  last : (line : List ℕ) → NonePass is_feed line → AreLines line (line ∷ [])
  more : (bytes line rest : List ℕ) (lines : List (List ℕ)) → bytes ≡ line ++ 10 ∷ rest
      → NonePass is_feed line → AreLines rest lines → AreLines bytes (line ∷ lines)

-- what stands on a line before its comment, which a `#` begins
pub data IsContent : List ℕ → List ℕ → Type 0 where
  bare : (line : List ℕ) → NonePass is_hash line → IsContent line line
  commented : (line content comment : List ℕ) → line ≡ content ++ 35 ∷ comment
      → NonePass is_hash content → IsContent line content

pub record IsWord (word : List ℕ) : Type 0 where
  pub some : 1 ≤ length word
  pub each : All (λ b. is_word_byte b ≡ true) word

-- the words that blanks part
pub data AreWords : List ℕ → List (List ℕ) → Type 0 where
  none : AreWords [] []
  blank : (b : ℕ) (rest : List ℕ) (words : List (List ℕ)) → is_blank b ≡ true
      → AreWords rest words → AreWords (b ∷ rest) words
  last_word : (word : List ℕ) → IsWord word → AreWords word (word ∷ [])
  word_more : (bytes word rest : List ℕ) (b : ℕ) (words : List (List ℕ))
      → bytes ≡ word ++ b ∷ rest → IsWord word → is_blank b ≡ true → AreWords rest words
      → AreWords bytes (word ∷ words)

-- the words of a line, before its comment
pub record HasWords (line : List ℕ) (words : List (List ℕ)) : Type 0 where
  pub content : List ℕ
  pub before : IsContent line content
  pub parted : AreWords content words

-- a byte stands before the comment that is no part of a word and no blank
pub record HasBadByte (line : List ℕ) : Type 0 where
  pub content : List ℕ
  pub before : IsContent line content
  pub bad : list_all may_stand content ≡ false

-- the bytes of slices
abbrev pub spelled : List (Bor (List ℕ)) → List (List ℕ)
spelled words = map (λ w. w.now) words
