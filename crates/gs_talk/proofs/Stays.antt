-- What had a value without a variable has it whatever that variable holds.
use Rattle.std.proofs.Common.{◌≡◌, ℕ, zero, suc, refl, ap, ◌∙◌, subst, List, [], ◌∷◌, set, Result, Ok, Err, Option, Some, None, slice_get, ◌⊎◌, inl, inr}
use Rattle.std.specs.Prelude.{ℤ, pos, ◌-ℤ◌}
use Rattle.gs_types.specs.declared.value.Value.{Value}
use Rattle.gs_types.specs.declared.settings.FaultKind.{FaultKind}
use Rattle.gs_talk.specs.declared.slot.Slot.{Slot}
use Rattle.gs_talk.specs.declared.slot.Slot.TheVariants.{Held, Due}
use Rattle.gs_talk.specs.Terms.{Placed, number, text, at, converted, compared, negated, inverted, both}
use Rattle.gs_talk.specs.Values.{Trouble, Need, value_of, held_at, with_value, unless_decided, or_kind, decided, apply, fit, truth, is_zero, order_of, atoi_of, int_of, text_of}

-- ---- a variable that waits

held_is : (o : Option Slot) (j i n place : ℕ) → held_at j o ≡ Err (Need i n place) → (o ≡ Some (Due n place)) × (j ≡ i)
held_is None j i n place h = absurd (cc)
held_is (Some (Held v)) j i n place h = absurd (cc)
held_is (Some (Due m l)) j i n place h = (cc, cc)

-- it holds its value then
pub held_then : (vars : List Slot) (i : ℕ) (s t : Slot) → slice_get vars i ≡ Some t → slice_get (set vars i s) i ≡ Some s
held_then [] i s t h = absurd (cc)
held_then (x ∷ vars) zero s t h = refl
held_then (x ∷ vars) (suc i) s t h = held_then vars i s t h

kept_at : (vars : List Slot) (i j m n place : ℕ) (s : Slot) (x : Value) → held_at m (slice_get vars j) ≡ Ok x → slice_get vars i ≡ Some (Due n place) → held_at m (slice_get (set vars i s) j) ≡ Ok x
kept_at [] i j m n place s x h g = h
kept_at (Held v ∷ vars) zero zero m n place s x h g = absurd (cc)
kept_at (Due p q ∷ vars) zero zero m n place s x h g = absurd (cc)
kept_at (y ∷ vars) zero (suc j) m n place s x h g = h
kept_at (y ∷ vars) (suc i) zero m n place s x h g = h
kept_at (y ∷ vars) (suc i) (suc j) m n place s x h g = kept_at vars i j m n place s x h g

-- ---- one part, and two parts of which the first may decide

abbrev pub One : Type 0
One = Value → Result ℤ FaultKind

abbrev pub one : One → Result Value Trouble → Result Value Trouble
one k r = with_value r (λ x. or_kind (k x))

abbrev pub Decision : Type 0
Decision = Value → Option ℤ

abbrev pub Pair : Type 0
Pair = Value → Value → Result ℤ FaultKind

abbrev pub pair : Decision → Pair → Result Value Trouble → Result Value Trouble → Result Value Trouble
pair d k ra rb = with_value ra (λ x. unless_decided (d x) (with_value rb (λ y. or_kind (k x y))))

kind_needs_none : (r : Result ℤ FaultKind) (i n place : ℕ) → or_kind r ≡ Err (Need i n place) → ⊥
kind_needs_none (Ok v) i n place h = cc
kind_needs_none (Err e) i n place h = cc

one_needs : (k : One) (r : Result Value Trouble) (i n place : ℕ) → one k r ≡ Err (Need i n place) → r ≡ Err (Need i n place)
one_needs k (Err e) i n place h = h
one_needs k (Ok x) i n place h = absurd (kind_needs_none (k x) i n place h)

pair_needs : (d : Decision) (k : Pair) (ra rb : Result Value Trouble) (i n place : ℕ) → pair d k ra rb ≡ Err (Need i n place) → (ra ≡ Err (Need i n place)) ⊎ (rb ≡ Err (Need i n place))
pair_needs d k (Err e) rb i n place h = inl h
pair_needs d k (Ok x) rb i n place h = of_decided (d x) h
  where
    of_decided : (o : Option ℤ) → unless_decided o (with_value rb (λ y. or_kind (k x y))) ≡ Err (Need i n place) → (Ok x ≡ Err (Need i n place)) ⊎ (rb ≡ Err (Need i n place))
    of_decided (Some v) g = absurd (cc)
    of_decided None g = inr (one_needs (k x) rb i n place g)

one_stays : (k : One) (r q : Result Value Trouble) (z : Value) → ((x : Value) → r ≡ Ok x → q ≡ Ok x) → one k r ≡ Ok z → one k q ≡ Ok z
one_stays k (Err e) q z h g = absurd (cc)
one_stays k (Ok x) q z h g = ap (one k) (h x refl) ∙ g

pair_stays : (d : Decision) (k : Pair) (ra qa rb qb : Result Value Trouble) (z : Value) → ((x : Value) → ra ≡ Ok x → qa ≡ Ok x) → ((y : Value) → rb ≡ Ok y → qb ≡ Ok y) → pair d k ra rb ≡ Ok z → pair d k qa qb ≡ Ok z
pair_stays d k (Err e) qa rb qb z ha hb h = absurd (cc)
pair_stays d k (Ok x) qa rb qb z ha hb h = ap (λ r. pair d k r qb) (ha x refl) ∙ of_decided (d x) h
  where
    of_decided : (o : Option ℤ) → unless_decided o (with_value rb (λ y. or_kind (k x y))) ≡ Ok z → unless_decided o (with_value qb (λ y. or_kind (k x y))) ≡ Ok z
    of_decided (Some v) g = g
    of_decided None g = one_stays (k x) rb qb z hb g

-- ---- expressions

abbrev pub of_atoi : One
of_atoi x = atoi_of (text_of x)

abbrev pub of_minus : One
of_minus x = fit (pos 0 -ℤ int_of x)

abbrev pub of_not : One
of_not x = Ok (truth (is_zero (int_of x)))

abbrev pub of_order : Pair
of_order x y = Ok (order_of (text_of x) (text_of y))

abbrev pub undecided : Decision
undecided x = None

pub need_is : (t : Placed) (vars : List Slot) (i n place : ℕ) → value_of t vars ≡ Err (Need i n place) → slice_get vars i ≡ Some (Due n place)
need_is (number v) vars i n place h = absurd (cc)
need_is (text b) vars i n place h = absurd (cc)
need_is (at j) vars i n place h =
    let g = held_is (slice_get vars j) j i n place h in
    subst (λ (m : ℕ). slice_get vars m ≡ Some (Due n place)) g.1 g.0
need_is (converted a) vars i n place h = need_is a vars i n place (one_needs of_atoi (value_of a vars) i n place h)
need_is (negated a) vars i n place h = need_is a vars i n place (one_needs of_minus (value_of a vars) i n place h)
need_is (inverted a) vars i n place h = need_is a vars i n place (one_needs of_not (value_of a vars) i n place h)
need_is (compared a b) vars i n place h =
    elim (pair_needs undecided of_order (value_of a vars) (value_of b vars) i n place h) [ inl e ↦ need_is a vars i n place e | inr e ↦ need_is b vars i n place e ]
need_is (both op a b) vars i n place h =
    elim (pair_needs (λ x. decided op (int_of x)) (λ x y. apply op (int_of x) (int_of y)) (value_of a vars) (value_of b vars) i n place h) [ inl e ↦ need_is a vars i n place e | inr e ↦ need_is b vars i n place e ]

-- what had a value without variable i has it whatever i holds
pub stays : (t : Placed) (vars : List Slot) (i n place : ℕ) (s : Slot) (x : Value) → slice_get vars i ≡ Some (Due n place) → value_of t vars ≡ Ok x → value_of t (set vars i s) ≡ Ok x
stays (number v) vars i n place s x g h = h
stays (text b) vars i n place s x g h = h
stays (at j) vars i n place s x g h = kept_at vars i j j n place s x h g
stays (converted a) vars i n place s x g h = one_stays of_atoi (value_of a vars) (value_of a (set vars i s)) x (λ y e. stays a vars i n place s y g e) h
stays (negated a) vars i n place s x g h = one_stays of_minus (value_of a vars) (value_of a (set vars i s)) x (λ y e. stays a vars i n place s y g e) h
stays (inverted a) vars i n place s x g h = one_stays of_not (value_of a vars) (value_of a (set vars i s)) x (λ y e. stays a vars i n place s y g e) h
stays (compared a b) vars i n place s x g h =
    pair_stays undecided of_order (value_of a vars) (value_of a (set vars i s)) (value_of b vars) (value_of b (set vars i s)) x (λ y e. stays a vars i n place s y g e) (λ y e. stays b vars i n place s y g e) h
stays (both op a b) vars i n place s x g h =
    pair_stays (λ x. decided op (int_of x)) (λ x y. apply op (int_of x) (int_of y)) (value_of a vars) (value_of a (set vars i s)) (value_of b vars) (value_of b (set vars i s)) x (λ y e. stays a vars i n place s y g e) (λ y e. stays b vars i n place s y g e) h
