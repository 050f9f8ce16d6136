-- A number that is read digit by digit, and stands still at the greatest `u64`.
use Rattle.std.proofs.Common.{◌≡◌, ◌∙◌, sym, ap, ℕ, suc, ◌+◌, ◌*◌, ◌-◌, ◌^◌, ◌<◌, min, List, [], ◌∷◌, arith, Bool, true, false, cond, take, drop, drop-cons, get_or, length, add-one}
use Rattle.std.specs.Prelude.{fold}
use Rattle.std.specs.List.{take_while, prefix_len}
use Rattle.gs_talk.specs.Values.{is_digit}

abbrev pub longer : ℕ → ℕ → ℕ
longer n b = 10 * n + (b - 48)

abbrev pub capped : ℕ → ℕ
capped n = min n (2 ^ 64 - 1)

-- the number that digits write after these
abbrev pub value_from : ℕ → List ℕ → ℕ
value_from n text = fold longer n (take_while is_digit text)

next_same : (a b d : ℕ) → capped a ≡ capped b → capped (10 * a + d) ≡ capped (10 * b + d)
next_same a b d h = omega arith

pub same_from : (digits : List ℕ) (a b : ℕ) → capped a ≡ capped b → capped (fold longer a digits) ≡ capped (fold longer b digits)
same_from [] a b h = h
same_from (x ∷ digits) a b h = same_from digits (longer a x) (longer b x) (next_same a b (x - 48) h)

-- another byte ends them
stops : (n x : ℕ) (text : List ℕ) → is_digit x ≡ false → value_from n (x ∷ text) ≡ n
stops n x text h = ap (λ (b : Bool). fold longer n (take (cond b (1 + prefix_len is_digit text) 0) (x ∷ text))) h

goes_on : (n x : ℕ) (text : List ℕ) → is_digit x ≡ true → value_from n (x ∷ text) ≡ value_from (longer n x) text
goes_on n x text h =
    let e : 1 + prefix_len is_digit text ≡ suc (prefix_len is_digit text) = omega arith in
    ap (λ (b : Bool). fold longer n (take (cond b (1 + prefix_len is_digit text) 0) (x ∷ text))) h
    ∙ ap (λ (m : ℕ). fold longer n (take m (x ∷ text))) e

-- at the place of another byte
pub stops_at : (text : List ℕ) (i n : ℕ) → i < length text → is_digit (get_or text i 0) ≡ false → value_from n (drop i text) ≡ n
stops_at text i n at h = ap (value_from n) (drop-cons text i 0 at) ∙ stops n (get_or text i 0) (drop (suc i) text) h

-- past a digit
pub goes_on_at : (text : List ℕ) (i n next : ℕ) → i < length text → is_digit (get_or text i 0) ≡ true → capped next ≡ capped (longer n (get_or text i 0)) →
    capped (value_from next (drop (i + 1) text)) ≡ capped (value_from n (drop i text))
goes_on_at text i n next at h e =
    ap (λ (k : ℕ). capped (value_from next (drop k text))) (add-one i)
    ∙ same_from (take_while is_digit (drop (suc i) text)) next (longer n (get_or text i 0)) e
    ∙ sym (ap capped (ap (value_from n) (drop-cons text i 0 at) ∙ goes_on n (get_or text i 0) (drop (suc i) text) h))
