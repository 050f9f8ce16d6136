-- Digits, one after another.
use Rattle.std.proofs.Common.{◌≡◌, ℕ, ◌+◌, ◌*◌, ◌^◌, ◌<◌, ◌≤◌, zero, suc, refl, ap, sym, ◌∙◌, subst, List, [], ◌∷◌, ◌++◌, length, take, get_or, add-one, arith}
use Rattle.std.proofs.Math.Seq.{take-suc}
use Rattle.std.proofs.Math.Nat.{pow-le-pow_right}
use Rattle.std.specs.Char.{digit_value}
use Rattle.std.specs.Str.Parse.{AllDigits, digits_value, digits_value_after}

value_push : (n : ℕ) (ds : List ℕ) (d : ℕ) → digits_value_after 10 n (ds ++ d ∷ []) ≡ digits_value_after 10 n ds * 10 + digit_value d
value_push n [] d = refl
value_push n (x ∷ ds) d = value_push (n * 10 + digit_value x) ds d

all_push : (ds : List ℕ) (d : ℕ) → AllDigits 10 ds → digit_value d < 10 → AllDigits 10 (ds ++ d ∷ [])
all_push [] d all here = (here, all)
all_push (x ∷ ds) d all here = (all.0, all_push ds d all.1 here)

pub all_at : (ds : List ℕ) (i : ℕ) → AllDigits 10 ds → i < length ds → digit_value (get_or ds i 0) < 10
all_at [] i all lt = absurd (omega arith)
all_at (x ∷ ds) zero all lt = all.0
all_at (x ∷ ds) (suc i) all lt = all_at ds i all.1 (omega arith)

pub value_next : (ds : List ℕ) (i : ℕ) → i < length ds → digits_value 10 (take (i + 1) ds) ≡ digits_value 10 (take i ds) * 10 + digit_value (get_or ds i 0)
value_next ds i lt = rw add-one (ap (λ (xs : List ℕ). digits_value 10 xs) (take-suc ds i 0 lt) ∙ value_push 0 (take i ds) (get_or ds i 0))

pub all_next : (ds : List ℕ) (i : ℕ) → i < length ds → AllDigits 10 (take i ds) → digit_value (get_or ds i 0) < 10 → AllDigits 10 (take (i + 1) ds)
all_next ds i lt all here = rw add-one (subst (AllDigits 10) (sym (take-suc ds i 0 lt)) (all_push (take i ds) (get_or ds i 0) all here))

pub small_next : (v d i : ℕ) → v < 10 ^ i → d < 10 → v * 10 + d < 10 ^ (i + 1)
small_next v d i lt less = rw add-one (omega arith)

pub small_fits : (v i : ℕ) → v < 10 ^ i → i ≤ 19 → v < 10 ^ 19
small_fits v i lt le =
    let ten : 0 < 10 = omega arith in
    let most : 10 ^ i ≤ 10 ^ 19 = pow-le-pow_right ten le in
    omega arith
