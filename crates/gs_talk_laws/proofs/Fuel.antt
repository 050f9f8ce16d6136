-- With more steps a meaning goes the same way.
use Rattle.std.proofs.Common.{◌≡◌, ◌≤◌, ◌+◌, ℕ, zero, suc, ℤ, Bool, true, false, refl, sym, ap, subst, List, [], ◌∷◌, Result, Ok, Err, Option, Some, None, arith, le_refl, if◌then◌else◌, nat_lt, slice_get, ◌⊎◌, inl, inr}
use Rattle.gs_idl.specs.Interface.{Param}
use Rattle.gs_types.specs.declared.limits.TheConstants.{ACTION_LIMIT}
use Rattle.gs_types.specs.declared.value.Value.{Value}
use Rattle.gs_types.specs.declared.value.Value.TheVariants.{Int, Str}
use Rattle.gs_types.specs.declared.settings.FaultKind.{FaultKind}
use Rattle.gs_types.specs.declared.settings.FaultKind.TheVariants.{TooManyActions}
use Rattle.gs_talk.specs.declared.slot.Slot.{Slot}
use Rattle.gs_talk.specs.declared.slot.Slot.TheVariants.{Held, Due}
use Rattle.gs_talk.specs.declared.question.CallArg.{CallArg}
use Rattle.gs_talk.specs.declared.question.Question.{Question}
use Rattle.gs_talk.specs.declared.question.Question.TheVariants.{Use, FuelOut}
use Rattle.gs_talk.specs.declared.question.Answer.{Answer}
use Rattle.gs_talk.specs.Terms.{Placed, number, text, at, converted, compared, negated, inverted, both}
use Rattle.gs_talk.specs.Values.{is_zero, truth, apply, decided, atoi_of, order_of, int_of, text_of}
use Rattle.gs_talk.specs.Talk.{State, Dialogue, Done, Ask, Stop, Meaning, then_do, fails, unless, step, counted, action, taken, set_to, used, looked, fitted, or_else, valued, all_valued, Handed, by_value, into, arg_of, out_of, passed_valued}
use Rattle.gs_talk_laws.specs.Fuels.{Cut}

abbrev pub Then : Type 0
Then = Value → State → Dialogue

-- d' is d with x more steps left, of which d leaves at most b; where d has no step left, d' may go on
abbrev pub Extends : ℕ → ℕ → Dialogue → Dialogue → Type 0
Extends x b (Done n s) d' = (n ≤ b) × (d' ≡ Done (n + x) s)
Extends x b (Ask q s next) d' = (more : Answer → Dialogue) × (d' ≡ Ask q s more) × ((a : Answer) → Extends x b (next a) (more a))
Extends x b (Stop q s) d' = (q ≡ FuelOut) ⊎ (d' ≡ Stop q s)

pub extends_cut : (x b : ℕ) (d d' : Dialogue) → Extends x b d d' → Cut d d'
extends_cut x b (Done n s) d' h = (n + x, h.1)
extends_cut x b (Ask q s next) d' h = (h.0, h.1, λ a. extends_cut x b (next a) (h.0 a) (h.2 a))
extends_cut x b (Stop q s) d' h = h

pub extends_then : (x b : ℕ) (d d' : Dialogue) (go go' : Meaning) → Extends x b d d' → ((n : ℕ) (s : State) → n ≤ b → Extends x b (go n s) (go' (n + x) s)) → Extends x b (then_do d go) (then_do d' go')
extends_then x b (Done n s) d' go go' h k = subst (λ (e : Dialogue). Extends x b (go n s) (then_do e go')) (sym h.1) (k n s h.0)
extends_then x b (Ask q s next) d' go go' h k = (λ a. then_do (h.0 a) go', ap (λ e. then_do e go') h.1, λ a. extends_then x b (next a) (h.0 a) go go' (h.2 a) k)
extends_then x b (Stop q s) d' go go' h k = elim h [ inl e ↦ inl e | inr e ↦ inr (ap (λ d. then_do d go') e) ]

pub extends_wider : (x b c : ℕ) (d d' : Dialogue) → b ≤ c → Extends x b d d' → Extends x c d d'
extends_wider x b c (Done n s) d' le h = (omega (arith, h.0), h.1)
extends_wider x b c (Ask q s next) d' le h = (h.0, h.1, λ a. extends_wider x b c (next a) (h.0 a) le (h.2 a))
extends_wider x b c (Stop q s) d' le h = h

-- a meaning that goes the same way with more steps
abbrev pub Grows : ℕ → Meaning → Meaning → Type 0
Grows x go go' = (n : ℕ) (s : State) → Extends x n (go n s) (go' (n + x) s)

pub step_grows : (x : ℕ) (go go' : Meaning) → Grows x go go' → Grows x (step go) (step go')
step_grows x go go' h zero s = inl refl
step_grows x go go' h (suc n) s =
    let e : suc n + x ≡ suc (n + x) = omega arith in
    rw e (extends_wider x n (suc n) (go n s) (go' (n + x) s) (omega arith) (h n s))

pub done_grows : (x n : ℕ) (s : State) → Extends x n (Done n s) (Done (n + x) s)
done_grows x n s = (le_refl n, refl)

pub if_extends : (x b : ℕ) (test : Bool) (d d' other other' : Dialogue) → Extends x b d d' → Extends x b other other' → Extends x b (if test then d else other) (if test then d' else other')
if_extends x b true d d' other other' h k = h
if_extends x b false d d' other other' h k = k

pub unless_extends : (x b : ℕ) (o : Option FaultKind) (line : ℕ) (s : State) (d d' : Dialogue) → Extends x b d d' → Extends x b (unless o line s d) (unless o line s d')
unless_extends x b None line s d d' h = h
unless_extends x b (Some kind) line s d d' h = inr refl

pub action_extends : (x b line : ℕ) (s : State) (go go' : State → Dialogue) → ((u : State) → Extends x b (go u) (go' u)) → Extends x b (action line s go) (action line s go')
action_extends x b line s go go' h =
    if_extends x b (nat_lt s.actions ACTION_LIMIT) (go (counted s)) (go' (counted s)) (fails line TooManyActions s) (fails line TooManyActions s) (h (counted s)) (inr refl)

pub ask_extends : (x b line : ℕ) (s : State) (q : Question) (to : State → State) (next next' : State → Answer → Dialogue) → ((u : State) (a : Answer) → Extends x b (next u a) (next' u a)) →
    Extends x b (action line s (λ u. Ask q (to u) (next u))) (action line s (λ u. Ask q (to u) (next' u)))
ask_extends x b line s q to next next' h = action_extends x b line s (λ u. Ask q (to u) (next u)) (λ u. Ask q (to u) (next' u)) (λ u. (next' u, refl, h u))

pub done_or_fails : (x n : ℕ) (test : Bool) (line : ℕ) (kind : FaultKind) (s u : State) → Extends x n (if test then Done n u else fails line kind s) (if test then Done (n + x) u else fails line kind s)
done_or_fails x n test line kind s u = if_extends x n test (Done n u) (Done (n + x) u) (fails line kind s) (fails line kind s) (done_grows x n u) (inr refl)

pub fails_or : (x n : ℕ) (test : Bool) (line : ℕ) (kind : FaultKind) (s : State) (d d' : Dialogue) → Extends x n d d' → Extends x n (if test then fails line kind s else d) (if test then fails line kind s else d')
fails_or x n test line kind s d d' h = if_extends x n test (fails line kind s) (fails line kind s) d d' (inr refl) h

-- ---- values

abbrev pub ExtendThen : (x b : ℕ) → Then → Then → Type 0
ExtendThen x b go go' = (v : Value) (u : State) → Extends x b (go v u) (go' v u)

pub used_extends : (x b line i n k : ℕ) (s : State) (go go' : Then) → ExtendThen x b go go' → Extends x b (used line i n k s go) (used line i n k s go')
used_extends x b line i n k s go go' h =
    action_extends x b line s (λ u. Ask (Use n k) u (λ a. go (taken a) (set_to i (taken a) u))) (λ u. Ask (Use n k) u (λ a. go' (taken a) (set_to i (taken a) u)))
    (λ u. (λ a. go' (taken a) (set_to i (taken a) u), refl, λ a. h (taken a) (set_to i (taken a) u)))

looked_extends : (x b line i : ℕ) (o : Option Slot) (s : State) (go go' : Then) → ExtendThen x b go go' → Extends x b (looked line i o s go) (looked line i o s go')
looked_extends x b line i None s go go' h = h _ s
looked_extends x b line i (Some (Held v)) s go go' h = h v s
looked_extends x b line i (Some (Due n k)) s go go' h = used_extends x b line i n k s go go' h

fitted_extends : (x b line : ℕ) (r : Result ℤ FaultKind) (s : State) (go go' : Then) → ExtendThen x b go go' → Extends x b (fitted line r s go) (fitted line r s go')
fitted_extends x b line (Ok v) s go go' h = h (Int v) s
fitted_extends x b line (Err e) s go go' h = inr refl

or_else_extends : (x b : ℕ) (o : Option ℤ) (go go' : ℤ → Dialogue) (d d' : Dialogue) → ((v : ℤ) → Extends x b (go v) (go' v)) → Extends x b d d' → Extends x b (or_else o go d) (or_else o go' d')
or_else_extends x b (Some v) go go' d d' h k = h v
or_else_extends x b None go go' d d' h k = k

pub valued_extends : (t : Placed) (x b line : ℕ) (s : State) (go go' : Then) → ExtendThen x b go go' → Extends x b (valued line t s go) (valued line t s go')
valued_extends (number v) x b line s go go' h = h (Int v) s
valued_extends (text t) x b line s go go' h = h (Str t) s
valued_extends (at i) x b line s go go' h = looked_extends x b line i (slice_get s.vars i) s go go' h
valued_extends (converted l) x b line s go go' h = valued_extends l x b line s _ _ (λ y u. fitted_extends x b line (atoi_of (text_of y)) u go go' h)
valued_extends (compared l r) x b line s go go' h =
    valued_extends l x b line s _ _ (λ y u. valued_extends r x b line u _ _ (λ z w. h (Int (order_of (text_of y) (text_of z))) w))
valued_extends (negated l) x b line s go go' h = valued_extends l x b line s _ _ (λ y u. fitted_extends x b line _ u go go' h)
valued_extends (inverted l) x b line s go go' h = valued_extends l x b line s _ _ (λ y u. h (Int (truth (is_zero (int_of y)))) u)
valued_extends (both o l r) x b line s go go' h =
    valued_extends l x b line s _ _ (λ y u. or_else_extends x b (decided o (int_of y)) (λ v. go (Int v) u) (λ v. go' (Int v) u) _ _ (λ v. h (Int v) u)
    (valued_extends r x b line u _ _ (λ z w. fitted_extends x b line (apply o (int_of y) (int_of z)) w go go' h)))

abbrev pub ThenAll : Type 0
ThenAll = List Value → State → Dialogue

pub all_extends : (ts : List Placed) (x b line : ℕ) (s : State) (go go' : ThenAll) → ((vs : List Value) (u : State) → Extends x b (go vs u) (go' vs u)) → Extends x b (all_valued line ts s go) (all_valued line ts s go')
all_extends [] x b line s go go' h = h [] s
all_extends (t ∷ ts) x b line s go go' h = valued_extends t x b line s _ _ (λ v u. all_extends ts x b line u _ _ (λ vs w. h (v ∷ vs) w))

abbrev pub ThenArgs : Type 0
ThenArgs = List CallArg → State → Dialogue

pub passed_extends : (ps : List Param) (args : List Handed) (x b line : ℕ) (s : State) (go go' : ThenArgs) → ((vs : List CallArg) (u : State) → Extends x b (go vs u) (go' vs u)) → Extends x b (passed_valued line ps args s go) (passed_valued line ps args s go')
passed_extends [] args x b line s go go' h = h [] s
passed_extends (p ∷ ps) [] x b line s go go' h = h [] s
passed_extends (p ∷ ps) (into i ∷ args) x b line s go go' h = passed_extends ps args x b line s _ _ (λ vs w. h (out_of p.kind ∷ vs) w)
passed_extends (p ∷ ps) (by_value t ∷ args) x b line s go go' h =
    valued_extends t x b line s _ _ (λ v u. passed_extends ps args x b line u _ _ (λ vs w. h (arg_of p.kind v ∷ vs) w))
