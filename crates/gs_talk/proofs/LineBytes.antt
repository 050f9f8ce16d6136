-- The bytes of a line, and those of a string.
use Rattle.std.proofs.Common.{◌≡◌, ◌∙◌, sym, ap, ℕ, suc, ◌+◌, refl, Bool, true, false, not, ◌&&◌, ◌||◌, List, [], ◌∷◌, length, take, arith, cond, Result, Ok, Err, le-leb, nat_le, if◌then◌else◌}
use Rattle.std.specs.Prelude.{◌==◌}
use Rattle.std.specs.List.{list_all, take_while, prefix_len}
use Rattle.gs_types.specs.declared.limits.TheConstants.{STRING_LIMIT}
use Rattle.gs_types.specs.declared.settings.FaultKind.{FaultKind}
use Rattle.gs_types.specs.declared.settings.FaultKind.TheVariants.{StringTooLong, BadByte}
use Rattle.gs_types.specs.Bytes.{is_text_byte, ReadsTo, IsText}
use Rattle.gs_talk.specs.Texts.{is_line_byte, Taken, got, taken_line}

abbrev pub in_line : ℕ → Bool
in_line b = not (b == 10)

and_parts : (p q : Bool) → (p && q) ≡ true → (p ≡ true) × (q ≡ true)
and_parts true q h = (refl, h)
and_parts false q h = absurd (cc)

and_both : (p q : Bool) → p ≡ true → q ≡ true → (p && q) ≡ true
and_both true q h g = g
and_both false q h g = absurd (cc)

without_one : (p q r s : Bool) → not q ≡ true → (((p || q) || r) || s) ≡ true → ((p || r) || s) ≡ true
without_one true q r s n h = refl
without_one false true r s n h = absurd (cc)
without_one false false r s n h = h

line_byte : (b : ℕ) → in_line b ≡ true → is_text_byte b ≡ true → is_line_byte b ≡ true
line_byte b n h = without_one (b == 9) (b == 10) (b == 13) (nat_le 32 b && nat_le b 126) n h

all_line : (line : List ℕ) → list_all in_line line ≡ true → ReadsTo line (length line) → list_all is_line_byte line ≡ true
all_line [] one each = refl
all_line (x ∷ xs) one each =
    let parts = and_parts (in_line x) (list_all in_line xs) one in
    and_both (is_line_byte x) (list_all is_line_byte xs) (line_byte x parts.0 (each 0 (omega arith))) (all_line xs parts.1 (λ k h. each (suc k) (omega arith)))

chosen : (short all : Bool) → List ℕ → ℕ → Result Taken FaultKind
chosen short all line next = if not short then Err StringTooLong else (if all then Ok (got line next) else Err BadByte)

pub text_taken : (line s : List ℕ) (next : ℕ) → list_all in_line line ≡ true → s ≡ line → IsText line → taken_line line next ≡ Ok (got s next)
unfolding chosen
text_taken line s next one is text =
    ap (λ (b : Bool). chosen b (list_all is_line_byte line) line next) (le-leb (length line) STRING_LIMIT text.short)
    ∙ ap (λ (b : Bool). chosen true b line next) (all_line line one text.each)
    ∙ ap (λ (l : List ℕ). chosen true true l next) (sym is)

-- what is taken while a test holds passes it
pub taken_pass : (p : ℕ → Bool) (xs : List ℕ) → list_all p (take_while p xs) ≡ true
taken_pass p [] = refl
taken_pass p (x ∷ xs) = of_first (p x) refl (taken_pass p xs)
  where
    front : Bool → List ℕ
    front b = take (cond b (1 + prefix_len p xs) 0) (x ∷ xs)

    of_first : (b : Bool) → p x ≡ b → list_all p (take_while p xs) ≡ true → list_all p (front b) ≡ true
    of_first false e rest = refl
    of_first true e rest =
        let n : 1 + prefix_len p xs ≡ suc (prefix_len p xs) = omega arith in
        ap (λ (m : ℕ). list_all p (take m (x ∷ xs))) n ∙ and_both (p x) (list_all p (take_while p xs)) e rest
