-- What the step of the lexical reader answers.
use Rattle.std.specs.Prelude.{◌≡◌, ◌≢◌, ℕ, ◌<◌, ◌≤◌, Bool, false, List, length, slice_index}
use Rattle.gs_tree.specs.declared.step.Step.{Step}
use Rattle.gs_tree.specs.declared.step.Step.TheVariants.{Gap, Token, Fault}
use Rattle.gs_tree.specs.Bytes.{is_blank, is_letter, is_digit}
use Rattle.gs_tree.specs.Lexeme.{kind_of}
use Rattle.gs_tree.specs.Lexicon.{IsGap, IsToken, IsFault}

-- that stands first, and ends within the text
abbrev pub IsStep : (is_fresh : Bool) → List ℕ → Step → Type 0
IsStep is_fresh bytes (Gap count lines stays_fresh) = IsGap is_fresh bytes count lines stays_fresh × (1 ≤ count) × (count ≤ length bytes) × (lines ≤ count)
IsStep is_fresh bytes (Token kind count) = IsToken bytes (kind_of kind) count × (1 ≤ count) × (count ≤ length bytes)
IsStep is_fresh bytes (Fault kind) = IsFault is_fresh bytes kind

-- neither a blank nor a name, a number, a string or a comment begins the bytes
pub record IsOther (bytes : List ℕ) : Type 0 where
  pub some : 0 < length bytes
  pub no_blank : is_blank (slice_index bytes 0) ≡ false
  pub no_letter : is_letter (slice_index bytes 0) ≡ false
  pub no_digit : is_digit (slice_index bytes 0) ≡ false
  pub no_quote : slice_index bytes 0 ≢ 34
  pub no_comment : slice_index bytes 0 ≡ 47 → (slice_index bytes 1 ≢ 47) × (slice_index bytes 1 ≢ 42)
