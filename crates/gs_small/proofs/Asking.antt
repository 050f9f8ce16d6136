-- Values and actions call only operations that there are.
use Rattle.std.proofs.Common.{◌<◌, ℕ, zero, suc, ℤ, pos, ◌-ℤ◌, Bool, true, false, List, [], ◌∷◌, Result, Ok, Err, Option, Some, None, slice_get, if◌then◌else◌, nat_lt}
use Rattle.std.specs.Bool.{⊤}
use Rattle.gs_idl.specs.Interface.{Param}
use Rattle.gs_types.specs.declared.limits.TheConstants.{ACTION_LIMIT}
use Rattle.gs_types.specs.declared.value.Value.{Value}
use Rattle.gs_types.specs.declared.value.Value.TheVariants.{Int, Str}
use Rattle.gs_types.specs.declared.settings.FaultKind.{FaultKind}
use Rattle.gs_types.specs.declared.settings.FaultKind.TheVariants.{TooManyActions}
use Rattle.gs_talk.specs.declared.slot.Slot.{Slot}
use Rattle.gs_talk.specs.declared.slot.Slot.TheVariants.{Held, Due}
use Rattle.gs_talk.specs.declared.question.CallArg.{CallArg}
use Rattle.gs_talk.specs.declared.question.Question.{Question}
use Rattle.gs_talk.specs.declared.question.Question.TheVariants.{Call, Use, OpenFile, CloseFile, Barrier, End, Fault, FuelOut}
use Rattle.gs_talk.specs.declared.question.Answer.{Answer}
use Rattle.gs_talk.specs.Terms.{Placed, number, text, at, converted, compared, negated, inverted, both}
use Rattle.gs_talk.specs.Values.{is_zero, fit, truth, apply, decided, atoi_of, order_of, int_of, text_of}
use Rattle.gs_talk.specs.Talk.{State, Dialogue, Done, Ask, Stop, Meaning, then_do, fails, unless, step, counted, action, taken, set_to, used, looked, fitted, or_else, valued, all_valued, Handed, by_value, into, arg_of, out_of, passed_valued}
use Rattle.gs_talk_laws.proofs.Fuel.{Then, ThenAll, ThenArgs}

-- a call is of one of so many operations
abbrev pub IsOfOps : (count : ℕ) → Question → Type 0
IsOfOps count (Call op line args) = op < count
IsOfOps count (Use n place) = ⊤
IsOfOps count (OpenFile name mode line) = ⊤
IsOfOps count (CloseFile name bytes) = ⊤
IsOfOps count Barrier = ⊤
IsOfOps count End = ⊤
IsOfOps count (Fault line fault) = ⊤
IsOfOps count FuelOut = ⊤

-- so is each call that the dialogue asks
abbrev pub AsksKnown : (count : ℕ) → Dialogue → Type 0
AsksKnown count (Done n s) = ⊤
AsksKnown count (Stop q s) = ⊤
AsksKnown count (Ask q s next) = IsOfOps count q × ((a : Answer) → AsksKnown count (next a))

abbrev pub Knows : (count : ℕ) → Meaning → Type 0
Knows count m = (n : ℕ) (s : State) → AsksKnown count (m n s)

abbrev pub KnowsThen : (count : ℕ) → Then → Type 0
KnowsThen count go = (v : Value) (s : State) → AsksKnown count (go v s)

abbrev pub KnowsAll : (count : ℕ) → ThenAll → Type 0
KnowsAll count go = (vs : List Value) (s : State) → AsksKnown count (go vs s)

abbrev pub KnowsArgs : (count : ℕ) → ThenArgs → Type 0
KnowsArgs count go = (args : List CallArg) (s : State) → AsksKnown count (go args s)

pub then_known : (count : ℕ) (d : Dialogue) (go : Meaning) → AsksKnown count d → Knows count go → AsksKnown count (then_do d go)
then_known count (Done n s) go p k = k n s
then_known count (Stop q s) go p k = tt
then_known count (Ask q s next) go p k = (p.0, λ a. then_known count (next a) go (p.1 a) k)

pub step_known : (count : ℕ) (m : Meaning) → Knows count m → Knows count (step m)
step_known count m k zero s = tt
step_known count m k (suc n) s = k n s

pub if_known : (count : ℕ) (b : Bool) (d other : Dialogue) → AsksKnown count d → AsksKnown count other → AsksKnown count (if b then d else other)
if_known count true d other p k = p
if_known count false d other p k = k

pub unless_known : (count : ℕ) (o : Option FaultKind) (line : ℕ) (s : State) (d : Dialogue) → AsksKnown count d → AsksKnown count (unless o line s d)
unless_known count None line s d p = p
unless_known count (Some fault) line s d p = tt

-- where an action is counted as it is asked
pub ask_known : (count line : ℕ) (q : Question) (to : State → State) (next : State → Answer → Dialogue) (s : State) → IsOfOps count q →
    ((a : Answer) → AsksKnown count (next (counted s) a)) → AsksKnown count (action line s (λ u. Ask q (to u) (next u)))
ask_known count line q to next s is k =
    if_known count (nat_lt s.actions ACTION_LIMIT) (Ask q (to (counted s)) (next (counted s))) (fails line TooManyActions s) (is, k) tt

pub used_known : (count line i n place : ℕ) (go : Then) (s : State) → KnowsThen count go → AsksKnown count (used line i n place s go)
used_known count line i n place go s k =
    ask_known count line (Use n place) (λ u. u) (λ u a. go (taken a) (set_to i (taken a) u)) s tt (λ a. k (taken a) (set_to i (taken a) (counted s)))

-- ---- values

looked_known : (count : ℕ) (o : Option Slot) (line i : ℕ) (go : Then) (s : State) → KnowsThen count go → AsksKnown count (looked line i o s go)
looked_known count None line i go s k = k _ s
looked_known count (Some (Held v)) line i go s k = k v s
looked_known count (Some (Due n place)) line i go s k = used_known count line i n place go s k

fitted_known : (count : ℕ) (r : Result ℤ FaultKind) (line : ℕ) (go : Then) (s : State) → KnowsThen count go → AsksKnown count (fitted line r s go)
fitted_known count (Ok v) line go s k = k (Int v) s
fitted_known count (Err e) line go s k = tt

or_else_known : (count : ℕ) (o : Option ℤ) (go : ℤ → Dialogue) (d : Dialogue) → ((v : ℤ) → AsksKnown count (go v)) → AsksKnown count d → AsksKnown count (or_else o go d)
or_else_known count (Some v) go d p k = p v
or_else_known count None go d p k = k

pub valued_known : (count : ℕ) (t : Placed) (line : ℕ) (go : Then) (s : State) → KnowsThen count go → AsksKnown count (valued line t s go)
valued_known count (number v) line go s k = k (Int v) s
valued_known count (text b) line go s k = k (Str b) s
valued_known count (at i) line go s k = looked_known count (slice_get s.vars i) line i go s k
valued_known count (converted a) line go s k =
    valued_known count a line (λ x u. fitted line (atoi_of (text_of x)) u go) s (λ x u. fitted_known count (atoi_of (text_of x)) line go u k)
valued_known count (compared a b) line go s k =
    valued_known count a line (λ x u. valued line b u (λ y v. go (Int (order_of (text_of x) (text_of y))) v)) s
    (λ x u. valued_known count b line (λ y v. go (Int (order_of (text_of x) (text_of y))) v) u (λ y v. k (Int (order_of (text_of x) (text_of y))) v))
valued_known count (negated a) line go s k =
    valued_known count a line (λ x u. fitted line (fit (pos 0 -ℤ int_of x)) u go) s (λ x u. fitted_known count (fit (pos 0 -ℤ int_of x)) line go u k)
valued_known count (inverted a) line go s k =
    valued_known count a line (λ x u. go (Int (truth (is_zero (int_of x)))) u) s (λ x u. k (Int (truth (is_zero (int_of x)))) u)
valued_known count (both o a b) line go s k =
    valued_known count a line (λ x u. or_else (decided o (int_of x)) (λ v. go (Int v) u) (valued line b u (λ y v. fitted line (apply o (int_of x) (int_of y)) v go))) s
    (λ x u. or_else_known count (decided o (int_of x)) (λ v. go (Int v) u) (valued line b u (λ y v. fitted line (apply o (int_of x) (int_of y)) v go)) (λ v. k (Int v) u)
    (valued_known count b line (λ y v. fitted line (apply o (int_of x) (int_of y)) v go) u (λ y v. fitted_known count (apply o (int_of x) (int_of y)) line go v k)))

pub all_known : (count : ℕ) (ts : List Placed) (line : ℕ) (go : ThenAll) (s : State) → KnowsAll count go → AsksKnown count (all_valued line ts s go)
all_known count [] line go s k = k [] s
all_known count (t ∷ ts) line go s k =
    valued_known count t line (λ v u. all_valued line ts u (λ vs w. go (v ∷ vs) w)) s (λ v u. all_known count ts line (λ vs w. go (v ∷ vs) w) u (λ vs w. k (v ∷ vs) w))

-- ---- what is passed

pub passed_known : (count : ℕ) (ps : List Param) (hs : List Handed) (line : ℕ) (go : ThenArgs) (s : State) → KnowsArgs count go → AsksKnown count (passed_valued line ps hs s go)
passed_known count [] hs line go s k = k [] s
passed_known count (p ∷ ps) [] line go s k = k [] s
passed_known count (p ∷ ps) (into i ∷ hs) line go s k =
    passed_known count ps hs line (λ args u. go (out_of p.kind ∷ args) u) s (λ args u. k (out_of p.kind ∷ args) u)
passed_known count (p ∷ ps) (by_value t ∷ hs) line go s k =
    valued_known count t line (λ v u. passed_valued line ps hs u (λ args w. go (arg_of p.kind v ∷ args) w)) s
    (λ v u. passed_known count ps hs line (λ args w. go (arg_of p.kind v ∷ args) w) u (λ args w. k (arg_of p.kind v ∷ args) w))
