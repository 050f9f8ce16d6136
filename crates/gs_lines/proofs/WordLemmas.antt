-- Where the first word of a line stands.
use Rattle.std.proofs.Common.{◌≡◌, ℕ, ◌+◌, ◌<◌, zero, suc, Bool, true, false, refl, ap, sym, ◌∙◌, subst, List, [], ◌∷◌, length, take, drop, arith, if◌then◌else◌}
use Rattle.std.specs.Prelude.{not, filter, cond}
use Rattle.std.specs.List.{prefix_len}
use Rattle.gs_lines.specs.Lines.{in_front}
use Rattle.gs_lines.specs.Words.{is_blank, with_part, parts, is_word, words}

abbrev pub no_blank : ℕ → Bool
no_blank b = not (is_blank b)

blank_part : (b : ℕ) (ps : List (List ℕ)) → is_blank b ≡ true → with_part b ps ≡ [] ∷ ps
blank_part b ps e = ap (λ (t : Bool). if t then [] ∷ ps else in_front b ps) e

word_part : (b : ℕ) (ps : List (List ℕ)) → is_blank b ≡ false → with_part b ps ≡ in_front b ps
word_part b ps e = ap (λ (t : Bool). if t then [] ∷ ps else in_front b ps) e

-- blanks in front change no word
pub words-drop : (line : List ℕ) → words (drop (prefix_len is_blank line) line) ≡ words line
words-drop [] = refl
words-drop (b ∷ line) = elim (is_blank b) as (λ (t : Bool). is_blank b ≡ t → words (drop (cond t (1
    + prefix_len is_blank line) 0) (b ∷ line)) ≡ words (b ∷ line)) [
      | true ↦ λ e. rw_one (prefix_len is_blank line) b line ∙ words-drop line ∙ sym (ap (filter
          is_word) (blank_part b (parts line) e))
      | false ↦ λ e. refl
    ] refl
  where
    rw_one : (n b : ℕ) (line : List ℕ) → words (drop (1 + n) (b ∷ line)) ≡ words (drop n line)
    rw_one n b line = let e : 1 + n ≡ suc n = omega arith in ap (λ (k : ℕ). words (drop k (b ∷
        line))) e

-- and no blank is in front of what is behind them
pub prefix_len-drop : (line : List ℕ) → prefix_len is_blank (drop (prefix_len is_blank line) line) ≡
    0
prefix_len-drop [] = refl
prefix_len-drop (b ∷ line) = elim (is_blank b) as (λ (t : Bool). is_blank b ≡ t → prefix_len
    is_blank (drop (cond t (1 + prefix_len is_blank line) 0) (b ∷ line)) ≡ 0) [
      | true ↦ λ e. let one : 1 + prefix_len is_blank line ≡ suc (prefix_len is_blank line) = omega
          arith in
          ap (λ (k : ℕ). prefix_len is_blank (drop k (b ∷ line))) one ∙ prefix_len-drop line
      | false ↦ λ e. ap (λ (t : Bool). cond t (1 + prefix_len is_blank line) 0) e
    ] refl

-- the first part of a line, and the others
record Splits (n : ℕ) (line : List ℕ) : Type 0 where
  more : List (List ℕ)
  is : parts line ≡ take n line ∷ more
  rest : filter is_word more ≡ words (drop n line)

first_part : (line : List ℕ) → Splits (prefix_len no_blank line) line
first_part [] = record { more = []; is = refl; rest = refl }
first_part (b ∷ line) = elim (is_blank b) as (λ (t : Bool). is_blank b ≡ t → Splits (cond (not t) (1
    + prefix_len no_blank line) 0) (b ∷ line)) [
      | true ↦ λ e. record {
        more = parts line;
        is = blank_part b (parts line) e;
        rest = sym (ap (filter
            is_word) (blank_part b (parts line) e));
      }
      | false ↦ λ e. let first = first_part line in let one : suc (prefix_len no_blank line) ≡ 1 +
          prefix_len no_blank line = omega arith in
          subst (λ (n : ℕ). Splits n (b ∷ line)) one (record {
            more = first.more;
            is = word_part b (parts line) e ∙ ap (in_front b) first.is;
            rest = first.rest;
          })
    ] refl

some_word : (n : ℕ) (line : List ℕ) → 0 < n → 0 < length line → is_word (take n line) ≡ true
some_word zero line some there = absurd (omega arith)
some_word (suc n) [] some there = absurd (omega arith)
some_word (suc n) (b ∷ line) some there = refl

some_length : (p : ℕ → Bool) (line : List ℕ) → 0 < prefix_len p line → 0 < length line
some_length p [] some = absurd (omega arith)
some_length p (b ∷ line) some = omega arith

-- a line that begins with a word has it first
pub words-take : (line : List ℕ) → 0 < prefix_len no_blank line → words line ≡ take (prefix_len
    no_blank line) line ∷ words (drop (prefix_len no_blank line) line)
words-take line some =
    let n = prefix_len no_blank line in
    let first = first_part line in
    ap (filter is_word) first.is
    ∙ ap (λ (t : Bool). cond t (take n line ∷ filter is_word first.more) (filter is_word
    first.more)) (some_word n line some (some_length no_blank line some))
    ∙ ap (λ (ws : List (List ℕ)). take n line ∷ ws) first.rest

-- a line that begins neither with a blank nor with a word has none
pub words-none : (line : List ℕ) → prefix_len is_blank line ≡ 0 → prefix_len no_blank line ≡ 0 →
    words line ≡ []
words-none [] a b = refl
words-none (b ∷ line) first other = elim (is_blank b) as (λ (t : Bool). cond t (1 + prefix_len
    is_blank line) 0 ≡ 0 → cond (not t) (1 + prefix_len no_blank line) 0 ≡ 0 → words (b ∷ line) ≡
    []) [
      | true ↦ λ x y. absurd (omega arith)
      | false ↦ λ x y. absurd (omega arith)
    ] first other
