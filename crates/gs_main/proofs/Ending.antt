-- With how many steps a dialogue is done, and what follows it.
use Rattle.std.proofs.Common.{◌≡◌, ℕ, ℤ, Bool, true, false, refl, ap, ◌∙◌, List, [], ◌∷◌, Result, Ok, Err, Option, Some, None, if◌then◌else◌, nat_lt, slice_get}
use Rattle.std.specs.Prelude.{⊤}
use mathlib.Core.Path.{fun_ext}
use Rattle.gs_idl.specs.Interface.{Param}
use Rattle.gs_types.specs.declared.limits.TheConstants.{ACTION_LIMIT}
use Rattle.gs_types.specs.declared.value.Value.{Value}
use Rattle.gs_types.specs.declared.value.Value.TheVariants.{Int, Str}
use Rattle.gs_types.specs.declared.settings.FaultKind.{FaultKind}
use Rattle.gs_types.specs.declared.settings.FaultKind.TheVariants.{TooManyActions}
use Rattle.gs_talk.specs.declared.slot.Slot.{Slot}
use Rattle.gs_talk.specs.declared.slot.Slot.TheVariants.{Held, Due}
use Rattle.gs_talk.specs.declared.question.CallArg.{CallArg}
use Rattle.gs_talk.specs.declared.question.Question.TheVariants.{Use}
use Rattle.gs_talk.specs.declared.question.Answer.{Answer}
use Rattle.gs_talk.specs.Terms.{Placed, number, text, at, converted, compared, negated, inverted, both}
use Rattle.gs_talk.specs.Values.{is_zero, truth, fit, apply, decided, atoi_of, order_of, int_of, text_of}
use Rattle.gs_talk.specs.Talk.{State, Dialogue, Done, Ask, Stop, Meaning, then_do, fails, unless, counted, action, taken, set_to, used, looked, fitted, or_else, valued, all_valued, Handed, by_value, into, arg_of, out_of, passed_valued}
use Rattle.std.specs.Prelude.{pos, ◌-ℤ◌}

-- ---- what follows

pub then_assoc : (d : Dialogue) (f g : Meaning) → then_do (then_do d f) g ≡ then_do d (λ n s. then_do (f n s) g)
then_assoc (Done n s) f g = refl
then_assoc (Ask q s next) f g = ap (Ask q s) (fun_ext (λ a. then_assoc (next a) f g))
then_assoc (Stop q s) f g = refl

-- wherever it is done, the number of steps left is so
abbrev pub Ends : (ℕ → Type 0) → Dialogue → Type 0
Ends P (Done n s) = P n
Ends P (Ask q s next) = (a : Answer) → Ends P (next a)
Ends P (Stop q s) = ⊤

pub ends_then : (P Q : ℕ → Type 0) (d : Dialogue) (go : Meaning) → Ends P d → ((n : ℕ) (s : State) → P n → Ends Q (go n s)) → Ends Q (then_do d go)
ends_then P Q (Done n s) go h k = k n s h
ends_then P Q (Ask q s next) go h k = λ a. ends_then P Q (next a) go (h a) k
ends_then P Q (Stop q s) go h k = h

pub ends_wider : (P Q : ℕ → Type 0) (d : Dialogue) → ((n : ℕ) → P n → Q n) → Ends P d → Ends Q d
ends_wider P Q (Done n s) k h = k n h
ends_wider P Q (Ask q s next) k h = λ a. ends_wider P Q (next a) k (h a)
ends_wider P Q (Stop q s) k h = h

-- only what follows at such numbers counts
pub then_same : (P : ℕ → Type 0) (d : Dialogue) (f g : Meaning) → Ends P d → ((n : ℕ) (s : State) → P n → f n s ≡ g n s) → then_do d f ≡ then_do d g
then_same P (Done n s) f g h e = e n s h
then_same P (Ask q s next) f g h e = ap (Ask q s) (fun_ext (λ a. then_same P (next a) f g (h a) e))
then_same P (Stop q s) f g h e = refl

-- ---- parts

pub ends_if : (P : ℕ → Type 0) (test : Bool) (d other : Dialogue) → Ends P d → Ends P other → Ends P (if test then d else other)
ends_if P true d other h k = h
ends_if P false d other h k = k

pub ends_unless : (P : ℕ → Type 0) (o : Option FaultKind) (line : ℕ) (s : State) (d : Dialogue) → Ends P d → Ends P (unless o line s d)
ends_unless P None line s d h = h
ends_unless P (Some kind) line s d h = tt

pub ends_action : (P : ℕ → Type 0) (line : ℕ) (s : State) (go : State → Dialogue) → ((u : State) → Ends P (go u)) → Ends P (action line s go)
ends_action P line s go h = ends_if P (nat_lt s.actions ACTION_LIMIT) (go (counted s)) (fails line TooManyActions s) (h (counted s)) tt

-- ---- values

abbrev pub Then : Type 0
Then = Value → State → Dialogue

abbrev EndThen : (ℕ → Type 0) → Then → Type 0
EndThen P go = (v : Value) (u : State) → Ends P (go v u)

pub ends_used : (P : ℕ → Type 0) (line i n place : ℕ) (s : State) (go : Then) → EndThen P go → Ends P (used line i n place s go)
ends_used P line i n place s go h = ends_action P line s (λ u. Ask (Use n place) u (λ a. go (taken a) (set_to i (taken a) u))) (λ u a. h (taken a) (set_to i (taken a) u))

ends_looked : (P : ℕ → Type 0) (line i : ℕ) (o : Option Slot) (s : State) (go : Then) → EndThen P go → Ends P (looked line i o s go)
ends_looked P line i None s go h = h _ s
ends_looked P line i (Some (Held v)) s go h = h v s
ends_looked P line i (Some (Due n place)) s go h = ends_used P line i n place s go h

ends_fitted : (P : ℕ → Type 0) (line : ℕ) (r : Result ℤ FaultKind) (s : State) (go : Then) → EndThen P go → Ends P (fitted line r s go)
ends_fitted P line (Ok v) s go h = h (Int v) s
ends_fitted P line (Err e) s go h = tt

ends_or_else : (P : ℕ → Type 0) (o : Option ℤ) (go : ℤ → Dialogue) (d : Dialogue) → ((v : ℤ) → Ends P (go v)) → Ends P d → Ends P (or_else o go d)
ends_or_else P (Some v) go d h k = h v
ends_or_else P None go d h k = k

pub ends_valued : (P : ℕ → Type 0) (t : Placed) (line : ℕ) (s : State) (go : Then) → EndThen P go → Ends P (valued line t s go)
ends_valued P (number v) line s go h = h (Int v) s
ends_valued P (text b) line s go h = h (Str b) s
ends_valued P (at i) line s go h = ends_looked P line i (slice_get s.vars i) s go h
ends_valued P (converted a) line s go h = ends_valued P a line s _ (λ x u. ends_fitted P line (atoi_of (text_of x)) u go h)
ends_valued P (compared a b) line s go h = ends_valued P a line s _ (λ x u. ends_valued P b line u _ (λ y w. h (Int (order_of (text_of x) (text_of y))) w))
ends_valued P (negated a) line s go h = ends_valued P a line s _ (λ x u. ends_fitted P line (fit (pos 0 -ℤ int_of x)) u go h)
ends_valued P (inverted a) line s go h = ends_valued P a line s _ (λ x u. h (Int (truth (is_zero (int_of x)))) u)
ends_valued P (both op a b) line s go h =
    ends_valued P a line s _ (λ x u. ends_or_else P (decided op (int_of x)) (λ v. go (Int v) u) _ (λ v. h (Int v) u)
    (ends_valued P b line u _ (λ y w. ends_fitted P line (apply op (int_of x) (int_of y)) w go h)))

pub ends_all : (P : ℕ → Type 0) (ts : List Placed) (line : ℕ) (s : State) (go : List Value → State → Dialogue) → ((vs : List Value) (u : State) → Ends P (go vs u)) → Ends P (all_valued line ts s go)
ends_all P [] line s go h = h [] s
ends_all P (t ∷ ts) line s go h = ends_valued P t line s _ (λ v u. ends_all P ts line u _ (λ vs w. h (v ∷ vs) w))

pub ends_passed : (P : ℕ → Type 0) (ps : List Param) (args : List Handed) (line : ℕ) (s : State) (go : List CallArg → State → Dialogue) → ((vs : List CallArg) (u : State) → Ends P (go vs u)) → Ends P (passed_valued line ps args s go)
ends_passed P [] args line s go h = h [] s
ends_passed P (p ∷ ps) [] line s go h = h [] s
ends_passed P (p ∷ ps) (into i ∷ args) line s go h = ends_passed P ps args line s _ (λ vs w. h (out_of p.kind ∷ vs) w)
ends_passed P (p ∷ ps) (by_value t ∷ args) line s go h = ends_valued P t line s _ (λ v u. ends_passed P ps args line u _ (λ vs w. h (arg_of p.kind v ∷ vs) w))

-- ---- what follows a value

then_used : (line i n place : ℕ) (s : State) (go : Then) (f : Meaning) → then_do (used line i n place s go) f ≡ used line i n place s (λ v u. then_do (go v u) f)
then_used line i n place s go f = of_test (nat_lt s.actions ACTION_LIMIT)
  where
    of_test : (b : Bool) → then_do (if b then Ask (Use n place) (counted s) (λ a. go (taken a) (set_to i (taken a) (counted s))) else fails line TooManyActions s) f
        ≡ (if b then Ask (Use n place) (counted s) (λ a. then_do (go (taken a) (set_to i (taken a) (counted s))) f) else fails line TooManyActions s)
    of_test true = refl
    of_test false = refl

then_looked : (line i : ℕ) (o : Option Slot) (s : State) (go : Then) (f : Meaning) → then_do (looked line i o s go) f ≡ looked line i o s (λ v u. then_do (go v u) f)
then_looked line i None s go f = refl
then_looked line i (Some (Held v)) s go f = refl
then_looked line i (Some (Due n place)) s go f = then_used line i n place s go f

then_fitted : (line : ℕ) (r : Result ℤ FaultKind) (s : State) (go : Then) (f : Meaning) → then_do (fitted line r s go) f ≡ fitted line r s (λ v u. then_do (go v u) f)
then_fitted line (Ok v) s go f = refl
then_fitted line (Err e) s go f = refl

then_or_else : (o : Option ℤ) (go : ℤ → Dialogue) (d e : Dialogue) (f : Meaning) → then_do d f ≡ e → then_do (or_else o go d) f ≡ or_else o (λ v. then_do (go v) f) e
then_or_else (Some v) go d e f h = refl
then_or_else None go d e f h = h

pub then_valued : (t : Placed) (line : ℕ) (s : State) (go : Then) (f : Meaning) → then_do (valued line t s go) f ≡ valued line t s (λ v u. then_do (go v u) f)
then_valued (number v) line s go f = refl
then_valued (text b) line s go f = refl
then_valued (at i) line s go f = then_looked line i (slice_get s.vars i) s go f
then_valued (converted a) line s go f =
    then_valued a line s (λ x u. fitted line (atoi_of (text_of x)) u go) f
    ∙ ap (valued line a s) (fun_ext (λ x. fun_ext (λ u. then_fitted line (atoi_of (text_of x)) u go f)))
then_valued (compared a b) line s go f =
    then_valued a line s (λ x u. valued line b u (λ y w. go (Int (order_of (text_of x) (text_of y))) w)) f
    ∙ ap (valued line a s) (fun_ext (λ x. fun_ext (λ u. then_valued b line u (λ y w. go (Int (order_of (text_of x) (text_of y))) w) f)))
then_valued (negated a) line s go f =
    then_valued a line s (λ x u. fitted line (fit (pos 0 -ℤ int_of x)) u go) f
    ∙ ap (valued line a s) (fun_ext (λ x. fun_ext (λ u. then_fitted line (fit (pos 0 -ℤ int_of x)) u go f)))
then_valued (inverted a) line s go f = then_valued a line s (λ x u. go (Int (truth (is_zero (int_of x)))) u) f
then_valued (both o a b) line s go f =
    then_valued a line s (λ x u. or_else (decided o (int_of x)) (λ v. go (Int v) u) (valued line b u (λ y w. fitted line (apply o (int_of x) (int_of y)) w go))) f
    ∙ ap (valued line a s) (fun_ext (λ x. fun_ext (λ u. then_or_else (decided o (int_of x)) (λ v. go (Int v) u) (valued line b u (λ y w. fitted line (apply o (int_of x) (int_of y)) w go)) (valued line b u (λ y w. fitted line (apply o (int_of x) (int_of y)) w (λ v u. then_do (go v u) f))) f
    (then_valued b line u (λ y w. fitted line (apply o (int_of x) (int_of y)) w go) f ∙ ap (valued line b u) (fun_ext (λ y. fun_ext (λ w. then_fitted line (apply o (int_of x) (int_of y)) w go f)))))))
