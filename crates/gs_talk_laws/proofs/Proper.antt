-- Values and statements ask for what is due.
use Rattle.std.proofs.Common.{◌≡◌, ◌<◌, ◌+◌, ◌&&◌, ℕ, zero, suc, ℤ, pos, ◌-ℤ◌, Bool, true, false, not, refl, sym, ◌∙◌, List, [], ◌∷◌, length, Result, Ok, Err, Option, Some, None, arith, slice_get, if◌then◌else◌, nat_lt, ltb-true, length-append}
use Rattle.std.specs.Bool.{⊤}
use Rattle.gs_idl.specs.Interface.{Param, Signature, params_at, is_out, is_file, is_out_scalar}
use Rattle.gs_idl.specs.declared.idl.ParamKind.{ParamKind}
use Rattle.gs_idl.specs.declared.idl.ParamKind.TheVariants as kind
use Rattle.gs_tree.specs.Program.{Passed}
use Rattle.gs_types.specs.declared.limits.TheConstants.{ACTION_LIMIT}
use Rattle.gs_types.specs.declared.value.Value.{Value}
use Rattle.gs_types.specs.declared.value.Value.TheVariants.{Int, Str}
use Rattle.gs_types.specs.declared.settings.FaultKind.{FaultKind}
use Rattle.gs_types.specs.declared.settings.FaultKind.TheVariants.{TooManyActions}
use Rattle.gs_talk.specs.declared.slot.Slot.{Slot}
use Rattle.gs_talk.specs.declared.slot.Slot.TheVariants.{Held, Due}
use Rattle.gs_talk.specs.declared.question.CallArg.{CallArg}
use Rattle.gs_talk.specs.declared.question.Question.{Question}
use Rattle.gs_talk.specs.declared.question.Question.TheVariants.{Call, Use, OpenFile, CloseFile, Barrier, End, Fault, FuelOut}
use Rattle.gs_talk.specs.declared.question.Answer.{Answer}
use Rattle.gs_talk.specs.declared.question.Answer.TheVariants.{Went, Val, Bytes, Absent, TooLong}
use Rattle.gs_talk.specs.Terms.{Placed, number, text, at, converted, compared, negated, inverted, both, place_of, placed}
use Rattle.gs_talk.specs.Values.{is_zero, fit, truth, apply, decided, atoi_of, order_of, int_of, text_of}
use Rattle.gs_talk.specs.Talk.{State, Dialogue, Done, Ask, Stop, Meaning, then_do, fails, unless, step, counted, numbered, pending, action, taken, set_to, used, looked, fitted, or_else, valued, all_valued, Handed, by_value, into, handed, all_handed, variable_of, arg_of, out_of, passed_valued, went, calling}
use Rattle.gs_talk_laws.specs.Uses.{Told, with_answer, IsDue, is_left, kind_of, FitsParam, AreFit}
use Rattle.gs_talk_laws.proofs.Fuel.{Then, ThenAll, ThenArgs}
use Rattle.gs_talk_laws.proofs.Dues.{Waits, waits_set, waits_used, waits_called, IsHanded, IsPassed, Matches}

-- a question that comes last
abbrev pub IsLast : Question → Type 0
IsLast End = ⊤
IsLast (Fault line fault) = ⊤
IsLast FuelOut = ⊤
IsLast (Use n place) = ⊥
IsLast (Call op line args) = ⊥
IsLast (OpenFile name mode line) = ⊥
IsLast (CloseFile name bytes) = ⊥
IsLast Barrier = ⊥

-- a question that isn't the last, and is in order after what was told
abbrev pub Right : List Signature → Told → Question → Type 0
Right ops h (Use n place) = IsDue h n place
Right ops h (Call op line args) = AreFit args (params_at ops op)
Right ops h (OpenFile name mode line) = ⊤
Right ops h (CloseFile name bytes) = ⊤
Right ops h Barrier = ⊤
Right ops h End = ⊥
Right ops h (Fault line fault) = ⊥
Right ops h FuelOut = ⊥

pub record Holds (h : Told) (tasks actions : ℕ) (vars : List Slot) : Type 0 where
  pub called : tasks ≡ length h.calls
  pub counted : actions ≡ h.count
  pub slots : Waits h.calls h.uses vars

-- the state is one after what was told
abbrev pub Well : Told → State → Type 0
Well h s = Holds h s.tasks s.actions s.vars

-- each question is in order, and there are no more than the actions' limit
abbrev pub Proper : List Signature → Told → Dialogue → Type 0
Proper ops h (Done n s) = Well h s
Proper ops h (Stop q s) = IsLast q
Proper ops h (Ask q s next) = (h.count < ACTION_LIMIT) × Right ops h q × ((a : Answer) → Proper ops (with_answer q a h) (next a))

abbrev pub Keeps : List Signature → Meaning → Type 0
Keeps ops m = (h : Told) (n : ℕ) (s : State) → Well h s → Proper ops h (m n s)

abbrev pub KeepsThen : List Signature → Then → Type 0
KeepsThen ops go = (h : Told) (v : Value) (s : State) → Well h s → Proper ops h (go v s)

pub then_proper : (ops : List Signature) (d : Dialogue) (h : Told) (go : Meaning) → Proper ops h d → Keeps ops go → Proper ops h (then_do d go)
then_proper ops (Done n s) h go p k = k h n s p
then_proper ops (Stop q s) h go p k = p
then_proper ops (Ask q s next) h go p k = (p.0, p.1, λ a. then_proper ops (next a) (with_answer q a h) go (p.2 a) k)

pub step_proper : (ops : List Signature) (m : Meaning) → Keeps ops m → Keeps ops (step m)
step_proper ops m k h zero s w = tt
step_proper ops m k h (suc n) s w = k h n s w

pub if_proper : (ops : List Signature) (b : Bool) (d other : Dialogue) (h : Told) → Proper ops h d → Proper ops h other → Proper ops h (if b then d else other)
if_proper ops true d other h p k = p
if_proper ops false d other h p k = k

pub unless_proper : (ops : List Signature) (o : Option FaultKind) (line : ℕ) (s : State) (d : Dialogue) (h : Told) → Proper ops h d → Proper ops h (unless o line s d)
unless_proper ops None line s d h p = p
unless_proper ops (Some fault) line s d h p = tt

pub well_set : (h : Told) (s : State) (i : ℕ) (v : Value) → Well h s → Well h (set_to i v s)
well_set h s i v w = record { called = w.called; counted = w.counted; slots = waits_set h.calls h.uses s.vars i v w.slots }

-- where an action is counted as it is asked
pub ask_proper : (ops : List Signature) (line : ℕ) (q : Question) (to : State → State) (next : State → Answer → Dialogue) (h : Told) (s : State) → Well h s → Right ops h q →
    ((a : Answer) → Proper ops (with_answer q a h) (next (counted s) a)) → Proper ops h (action line s (λ u. Ask q (to u) (next u)))
ask_proper ops line q to next h s w right k = of_test (nat_lt s.actions ACTION_LIMIT) refl
  where
    of_test : (b : Bool) → nat_lt s.actions ACTION_LIMIT ≡ b → Proper ops h (if b then Ask q (to (counted s)) (next (counted s)) else fails line TooManyActions s)
    of_test true e = (let lt : s.actions < ACTION_LIMIT = ltb-true s.actions ACTION_LIMIT e in let is = w.counted in omega arith, right, k)
    of_test false e = tt

one_more : (h : Told) (actions : ℕ) → actions ≡ h.count → actions + 1 ≡ h.count + 1
one_more h actions e = omega arith

-- after an answer that changes no task and no variable
pub well_counted : (h : Told) (s : State) → Well h s → Holds (record { calls = h.calls; uses = h.uses; count = h.count + 1 }) s.tasks (s.actions + 1) s.vars
well_counted h s w = record { called = w.called; counted = one_more h s.actions w.counted; slots = w.slots }

well_used : (h : Told) (s : State) (i n place : ℕ) (v : Value) → slice_get s.vars i ≡ Some (Due n place) → Well h s → Well (with_answer (Use n place) Went h) (set_to i v (counted s))
well_used h s i n place v is w = record { called = w.called; counted = one_more h s.actions w.counted; slots = waits_used h.calls h.uses s.vars i n place v is w.slots }

due : (h : Told) (s : State) (i n place : ℕ) → slice_get s.vars i ≡ Some (Due n place) → Well h s → IsDue h n place
due h s i n place is w = let waits = w.slots.waits i n place is in record { called = waits.0; unused = waits.1 }

pub used_proper : (ops : List Signature) (line i n place : ℕ) (go : Then) (h : Told) (s : State) → slice_get s.vars i ≡ Some (Due n place) → Well h s →
    ((v : Value) → Well (with_answer (Use n place) Went h) (set_to i v (counted s)) → Proper ops (with_answer (Use n place) Went h) (go v (set_to i v (counted s)))) → Proper ops h (used line i n place s go)
used_proper ops line i n place go h s is w k =
    ask_proper ops line (Use n place) (λ u. u) (λ u a. go (taken a) (set_to i (taken a) u)) h s w (due h s i n place is w) (λ a. k (taken a) (well_used h s i n place (taken a) is w))

-- ---- values

looked_proper : (ops : List Signature) (o : Option Slot) (line i : ℕ) (go : Then) (h : Told) (s : State) → slice_get s.vars i ≡ o → Well h s → KeepsThen ops go → Proper ops h (looked line i o s go)
looked_proper ops None line i go h s is w k = k h _ s w
looked_proper ops (Some (Held v)) line i go h s is w k = k h v s w
looked_proper ops (Some (Due n place)) line i go h s is w k = used_proper ops line i n place go h s is w (λ v u. k (with_answer (Use n place) Went h) v (set_to i v (counted s)) u)

fitted_proper : (ops : List Signature) (r : Result ℤ FaultKind) (line : ℕ) (go : Then) (h : Told) (s : State) → Well h s → KeepsThen ops go → Proper ops h (fitted line r s go)
fitted_proper ops (Ok v) line go h s w k = k h (Int v) s w
fitted_proper ops (Err e) line go h s w k = tt

or_else_proper : (ops : List Signature) (o : Option ℤ) (go : ℤ → Dialogue) (d : Dialogue) (h : Told) → ((v : ℤ) → Proper ops h (go v)) → Proper ops h d → Proper ops h (or_else o go d)
or_else_proper ops (Some v) go d h p k = p v
or_else_proper ops None go d h p k = k

pub valued_proper : (ops : List Signature) (t : Placed) (line : ℕ) (go : Then) (h : Told) (s : State) → Well h s → KeepsThen ops go → Proper ops h (valued line t s go)
valued_proper ops (number v) line go h s w k = k h (Int v) s w
valued_proper ops (text b) line go h s w k = k h (Str b) s w
valued_proper ops (at i) line go h s w k = looked_proper ops (slice_get s.vars i) line i go h s refl w k
valued_proper ops (converted a) line go h s w k =
    valued_proper ops a line (λ x u. fitted line (atoi_of (text_of x)) u go) h s w (λ h x u w. fitted_proper ops (atoi_of (text_of x)) line go h u w k)
valued_proper ops (compared a b) line go h s w k =
    valued_proper ops a line (λ x u. valued line b u (λ y v. go (Int (order_of (text_of x) (text_of y))) v)) h s w
    (λ h x u w. valued_proper ops b line (λ y v. go (Int (order_of (text_of x) (text_of y))) v) h u w (λ h y v w. k h (Int (order_of (text_of x) (text_of y))) v w))
valued_proper ops (negated a) line go h s w k =
    valued_proper ops a line (λ x u. fitted line (fit (pos 0 -ℤ int_of x)) u go) h s w (λ h x u w. fitted_proper ops (fit (pos 0 -ℤ int_of x)) line go h u w k)
valued_proper ops (inverted a) line go h s w k =
    valued_proper ops a line (λ x u. go (Int (truth (is_zero (int_of x)))) u) h s w (λ h x u w. k h (Int (truth (is_zero (int_of x)))) u w)
valued_proper ops (both o a b) line go h s w k =
    valued_proper ops a line (λ x u. or_else (decided o (int_of x)) (λ v. go (Int v) u) (valued line b u (λ y v. fitted line (apply o (int_of x) (int_of y)) v go))) h s w
    (λ h x u w. or_else_proper ops (decided o (int_of x)) (λ v. go (Int v) u) (valued line b u (λ y v. fitted line (apply o (int_of x) (int_of y)) v go)) h (λ v. k h (Int v) u w)
    (valued_proper ops b line (λ y v. fitted line (apply o (int_of x) (int_of y)) v go) h u w (λ h y v w. fitted_proper ops (apply o (int_of x) (int_of y)) line go h v w k)))

pub all_proper : (ops : List Signature) (ts : List Placed) (line : ℕ) (go : ThenAll) (h : Told) (s : State) → Well h s → ((h : Told) (vs : List Value) (s : State) → Well h s → Proper ops h (go vs s)) → Proper ops h (all_valued line ts s go)
all_proper ops [] line go h s w k = k h [] s w
all_proper ops (t ∷ ts) line go h s w k =
    valued_proper ops t line (λ v u. all_valued line ts u (λ vs w. go (v ∷ vs) w)) h s w (λ h v u w. all_proper ops ts line (λ vs w. go (v ∷ vs) w) h u w (λ h vs s w. k h (v ∷ vs) s w))

-- ---- what is passed

abbrev pub AreHanded : List Handed → List Param → Type 0
AreHanded [] ps = ⊤
AreHanded (h ∷ hs) [] = ⊥
AreHanded (h ∷ hs) (p ∷ ps) = IsHanded h p × AreHanded hs ps

handed_is : (names : List (List ℕ)) (p : Param) (a : Passed) → IsHanded (handed names p a) p
handed_is names p a = of_test (is_out_scalar p) refl
  where
    of_test : (b : Bool) → is_out_scalar p ≡ b → IsHanded (if b then into (place_of names (variable_of a.value)) else by_value (placed names a.value)) p
    of_test true e = e
    of_test false e = e

pub all_are_handed : (names : List (List ℕ)) (ps : List Param) (args : List Passed) → AreHanded (all_handed names ps args) ps
all_are_handed names [] args = tt
all_are_handed names (p ∷ ps) [] = tt
all_are_handed names (p ∷ ps) (a ∷ args) = (handed_is names p a, all_are_handed names ps args)

out_kind : (b : Bool) (k : ParamKind) → (b && not (is_file k)) ≡ true → (kind_of (out_of k) ≡ k) × (is_left (out_of k) ≡ true)
out_kind true kind.File e = absurd (cc)
out_kind false kind.File e = absurd (cc)
out_kind b kind.Int e = (refl, refl)
out_kind b kind.Str e = (refl, refl)

arg_kind : (k : ParamKind) (v : Value) → (kind_of (arg_of k v) ≡ k) × (is_left (arg_of k v) ≡ false)
arg_kind kind.File v = (refl, refl)
arg_kind kind.Int v = (refl, refl)
arg_kind kind.Str v = (refl, refl)

into_passed : (i : ℕ) (p : Param) → is_out_scalar p ≡ true → IsPassed (into i) p (out_of p.kind)
into_passed i p e = let is = out_kind (is_out p.dir) p.kind e in (record { kind = is.0; left = is.1 ∙ sym e }, is.1)

value_passed : (t : Placed) (p : Param) (v : Value) → is_out_scalar p ≡ false → IsPassed (by_value t) p (arg_of p.kind v)
value_passed t p v e = let is = arg_kind p.kind v in (record { kind = is.0; left = is.1 ∙ sym e }, is.1)

pub passed_proper : (ops : List Signature) (ps : List Param) (hs : List Handed) (line : ℕ) (go : ThenArgs) (h : Told) (s : State) → AreHanded hs ps → Well h s →
    ((h : Told) (args : List CallArg) (s : State) → Matches hs ps args → Well h s → Proper ops h (go args s)) → Proper ops h (passed_valued line ps hs s go)
passed_proper ops [] [] line go h s are w k = k h [] s refl w
passed_proper ops [] (x ∷ hs) line go h s are w k = absurd are
passed_proper ops (p ∷ ps) [] line go h s are w k = k h [] s refl w
passed_proper ops (p ∷ ps) (into i ∷ hs) line go h s are w k =
    passed_proper ops ps hs line (λ args u. go (out_of p.kind ∷ args) u) h s are.1 w (λ h args u match w. k h (out_of p.kind ∷ args) u (into_passed i p are.0, match) w)
passed_proper ops (p ∷ ps) (by_value t ∷ hs) line go h s are w k =
    valued_proper ops t line (λ v u. passed_valued line ps hs u (λ args w. go (arg_of p.kind v ∷ args) w)) h s w
    (λ h v u w. passed_proper ops ps hs line (λ args w. go (arg_of p.kind v ∷ args) w) h u are.1 w (λ h args u match w. k h (arg_of p.kind v ∷ args) u (value_passed t p v are.0, match) w))

passed_fits : (x : Handed) (p : Param) (a : CallArg) → IsPassed x p a → FitsParam p a
passed_fits (into i) p a h = h.0
passed_fits (by_value t) p a h = h.0

pub match_fits : (hs : List Handed) (ps : List Param) (args : List CallArg) → Matches hs ps args → AreFit args ps
match_fits [] ps [] h = tt
match_fits [] ps (a ∷ args) h = absurd (cc)
match_fits (x ∷ hs) [] args h = absurd h
match_fits (x ∷ hs) (p ∷ ps) [] h = tt
match_fits (x ∷ hs) (p ∷ ps) (a ∷ args) h = (passed_fits x p a h.0, match_fits hs ps args h.1)

-- ---- calls

well_called : (h : Told) (s : State) (op line : ℕ) (hs : List Handed) (ps : List Param) (args : List CallArg) → Matches hs ps args → Well h s → Well (with_answer (Call op line args) Went h) (pending hs (numbered (counted s)))
well_called h s op line hs ps args match w = record {
  called = (let longer = length-append h.calls (args ∷ []) in let e = w.called in omega arith);
  counted = one_more h s.actions w.counted;
  slots = waits_called h.calls h.uses s.tasks s.vars hs ps args w.called match w.slots;
}

went_proper : (ops : List Signature) (a : Answer) (op line n : ℕ) (hs : List Handed) (ps : List Param) (args : List CallArg) (h : Told) (s : State) → Matches hs ps args → Well h s →
    Proper ops (with_answer (Call op line args) a h) (went a line hs n (numbered (counted s)))
went_proper ops Absent op line n hs ps args h s match w = tt
went_proper ops TooLong op line n hs ps args h s match w = tt
went_proper ops Went op line n hs ps args h s match w = well_called h s op line hs ps args match w
went_proper ops (Val v) op line n hs ps args h s match w = well_called h s op line hs ps args match w
went_proper ops (Bytes b) op line n hs ps args h s match w = well_called h s op line hs ps args match w

pub calling_proper : (ops : List Signature) (line op n : ℕ) (hs : List Handed) (args : List CallArg) (h : Told) (s : State) → Matches hs (params_at ops op) args → Well h s → Proper ops h (calling line op hs args n s)
calling_proper ops line op n hs args h s match w =
    ask_proper ops line (Call op line args) numbered (λ u a. went a line hs n (numbered u)) h s w (match_fits hs (params_at ops op) args match) (λ a. went_proper ops a op line n hs (params_at ops op) args h s match w)
