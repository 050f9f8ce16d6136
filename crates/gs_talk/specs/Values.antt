-- Values: arithmetic, comparisons, numbers in texts, and the value of an expression.
use Rattle.std.specs.Prelude.{ℕ, zero, suc, ◌^◌, ◌+◌, ◌*◌, ◌-◌, ◌==◌, ℤ, pos, negsuc, ◌+ℤ◌, ◌-ℤ◌, ◌*ℤ◌, int_lt, int_le, int_div, int_rem, nat_lt, nat_le, Bool, true, false, not, ◌&&◌, ◌||◌, List, [], ◌∷◌, drop, fold, slice_get, Option, Some, None, Result, Ok, Err, if◌then◌else◌}
use Rattle.std.specs.List.{take_while, prefix_len}
use Rattle.std.specs.Ordering.{nat_cmp}
use Rattle.std.specs.Cmp.Lexicographic.{slice_cmp}
use Rattle.std.specs.declared.cmp.Ordering.{Ordering}
use Rattle.std.specs.declared.cmp.Ordering.TheVariants.{Less, Equal, Greater}
use Rattle.gs_tree.specs.declared.tree.Op.{Op}
use Rattle.gs_tree.specs.declared.tree.Op.TheVariants.{Or, And, Eq, Ne, Lt, Le, Gt, Ge, Add, Sub, Mul, Div, Rem}
use Rattle.gs_types.specs.declared.value.Value.{Value}
use Rattle.gs_types.specs.declared.value.Value.TheVariants.{Int, Str, File}
use Rattle.gs_types.specs.declared.settings.FaultKind.{FaultKind}
use Rattle.gs_types.specs.declared.settings.FaultKind.TheVariants.{Overflow, ZeroDivisor}
use Rattle.gs_talk.specs.declared.slot.Slot.{Slot}
use Rattle.gs_talk.specs.declared.slot.Slot.TheVariants.{Held, Due}
use Rattle.gs_talk.specs.Terms.{Placed, number, text, at, converted, compared, negated, inverted, both}

-- ---- numbers of 64 bits

abbrev pub fits : ℤ → Bool
fits (pos n) = nat_lt n (2 ^ 63)
fits (negsuc n) = nat_lt n (2 ^ 63)

abbrev pub fit : ℤ → Result ℤ FaultKind
fit z = if fits z then Ok z else Err Overflow

abbrev pub is_zero : ℤ → Bool
is_zero (pos zero) = true
is_zero (pos (suc n)) = false
is_zero (negsuc n) = false

-- 1 for what holds
abbrev pub truth : Bool → ℤ
truth true = pos 1
truth false = pos 0

abbrev pub is_equal : ℤ → ℤ → Bool
is_equal a b = int_le a b && int_le b a

-- the quotient is rounded toward zero
abbrev pub quotient : ℤ → ℤ → Result ℤ FaultKind
quotient a b = if is_zero b then Err ZeroDivisor else fit (int_div a b)

-- what is left of a, which is out of range exactly where the quotient is
abbrev pub remainder : ℤ → ℤ → Result ℤ FaultKind
remainder a b = if is_zero b then Err ZeroDivisor else (if fits (int_div a b) then Ok (int_rem a b)
    else Err Overflow)

abbrev pub apply : Op → ℤ → ℤ → Result ℤ FaultKind
apply Or a b = Ok (truth (not (is_zero b)))
apply And a b = Ok (truth (not (is_zero b)))
apply Eq a b = Ok (truth (is_equal a b))
apply Ne a b = Ok (truth (not (is_equal a b)))
apply Lt a b = Ok (truth (int_lt a b))
apply Le a b = Ok (truth (int_le a b))
apply Gt a b = Ok (truth (int_lt b a))
apply Ge a b = Ok (truth (int_le b a))
apply Add a b = fit (a +ℤ b)
apply Sub a b = fit (a -ℤ b)
apply Mul a b = fit (a *ℤ b)
apply Div a b = quotient a b
apply Rem a b = remainder a b

-- what the left side alone decides; then the right side is left out
abbrev pub decided : Op → ℤ → Option ℤ
decided Or a = if is_zero a then None else Some (pos 1)
decided And a = if is_zero a then Some (pos 0) else None
decided Eq a = None
decided Ne a = None
decided Lt a = None
decided Le a = None
decided Gt a = None
decided Ge a = None
decided Add a = None
decided Sub a = None
decided Mul a = None
decided Div a = None
decided Rem a = None

-- ---- strings

-- -1, 0 or 1, by the first byte that differs; a proper prefix is less
abbrev pub by_order : Ordering → ℤ
by_order Less = negsuc 0
by_order Equal = pos 0
by_order Greater = pos 1

abbrev pub order_of : List ℕ → List ℕ → ℤ
order_of a b = by_order (slice_cmp nat_cmp a b)

-- a tab, a line feed, a carriage return or a space
abbrev pub is_passed_over : ℕ → Bool
is_passed_over b = b == 9 || b == 10 || b == 13 || b == 32

abbrev pub is_digit : ℕ → Bool
is_digit b = nat_le 48 b && nat_le b 57

-- the number that digits write
abbrev pub digits_value : List ℕ → ℕ
digits_value digits = fold (λ n b. 10 * n + (b - 48)) 0 digits

abbrev pub leading_value : List ℕ → ℕ
leading_value s = digits_value (take_while is_digit s)

-- the number at the front of a string, after one sign where it stands; no digit is 0
abbrev pub signed_value : List ℕ → ℤ
signed_value [] = pos 0
signed_value (b ∷ rest) =
    if b == 45 then pos 0 -ℤ pos (leading_value rest)
    else (if b == 43 then pos (leading_value rest)
    else pos (leading_value (b ∷ rest)))

unfoldable pub atoi_of : List ℕ → Result ℤ FaultKind
atoi_of s = fit (signed_value (drop (prefix_len is_passed_over s) s))

-- ---- values

-- the number; the checks let none but a number come where this is asked
abbrev pub int_of : Value → ℤ
int_of (Int v) = v
int_of (Str s) = pos 0
int_of (File bytes) = pos 0

-- the string; the checks let none but a string come where this is asked
abbrev pub text_of : Value → List ℕ
text_of (Int v) = []
text_of (Str s) = s
text_of (File bytes) = []

-- ---- the value of an expression

-- why an evaluation gives no value: a fault, or variable i waits for a task's value at a place
pub data Trouble : Type 0 where
  Kind : FaultKind → Trouble
  Need : (i task place : ℕ) → Trouble

abbrev pub held_at : ℕ → Option Slot → Result Value Trouble
held_at i None = Ok (Int (pos 0))
held_at i (Some (Held v)) = Ok v
held_at i (Some (Due n place)) = Err (Need i n place)

abbrev pub with_value : Result Value Trouble → (Value → Result Value Trouble) → Result Value Trouble
with_value (Ok v) go = go v
with_value (Err e) go = Err e

abbrev pub or_kind : Result ℤ FaultKind → Result Value Trouble
or_kind (Ok v) = Ok (Int v)
or_kind (Err kind) = Err (Kind kind)

abbrev pub unless_decided : Option ℤ → Result Value Trouble → Result Value Trouble
unless_decided (Some v) more = Ok (Int v)
unless_decided None more = more

-- the value, or the first trouble from the left
abbrev pub value_of : Placed → List Slot → Result Value Trouble
value_of (number v) vars = Ok (Int v)
value_of (text s) vars = Ok (Str s)
value_of (at i) vars = held_at i (slice_get vars i)
value_of (converted a) vars = with_value (value_of a vars) (λ x. or_kind (atoi_of (text_of x)))
value_of (compared a b) vars = with_value (value_of a vars)
    (λ x. with_value (value_of b vars) (λ y. Ok (Int (order_of (text_of x) (text_of y)))))
value_of (negated a) vars = with_value (value_of a vars) (λ x. or_kind (fit (pos 0 -ℤ int_of x)))
value_of (inverted a) vars = with_value (value_of a vars)
    (λ x. Ok (Int (truth (is_zero (int_of x)))))
value_of (both op a b) vars =
    with_value (value_of a vars) (λ x. unless_decided (decided op (int_of x))
    (with_value (value_of b vars) (λ y. or_kind (apply op (int_of x) (int_of y)))))

abbrev pub before_all : Value → Result (List Value) Trouble → Result (List Value) Trouble
before_all v (Ok vs) = Ok (v ∷ vs)
before_all v (Err e) = Err e

abbrev pub first_then : Result Value Trouble → Result (List Value) Trouble
    → Result (List Value) Trouble
first_then (Ok v) more = before_all v more
first_then (Err e) more = Err e

-- the values in order, or the first trouble
abbrev pub values_of : List Placed → List Slot → Result (List Value) Trouble
values_of [] vars = Ok []
values_of (t ∷ ts) vars = first_then (value_of t vars) (values_of ts vars)
