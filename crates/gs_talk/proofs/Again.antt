-- An evaluation that asked for a variable's value may begin again.
use Rattle.std.proofs.Common.{◌≡◌, ℕ, refl, sym, ap, ◌∙◌, List, [], ◌∷◌, Result, Ok, Err, Option, Some, None, nat_lt, if◌then◌else◌, slice_get}
use Rattle.std.specs.Prelude.{ℤ}
use mathlib.Core.Path.{fun_ext}
use Rattle.gs_idl.specs.Interface.{Param}
use Rattle.gs_types.specs.declared.limits.TheConstants.{ACTION_LIMIT}
use Rattle.gs_types.specs.declared.value.Value.{Value}
use Rattle.gs_types.specs.declared.value.Value.TheVariants.{Int}
use Rattle.gs_types.specs.declared.settings.FaultKind.{FaultKind}
use Rattle.gs_types.specs.declared.settings.FaultKind.TheVariants.{TooManyActions}
use Rattle.gs_talk.specs.declared.slot.Slot.{Slot}
use Rattle.gs_talk.specs.declared.slot.Slot.TheVariants.{Held, Due}
use Rattle.gs_talk.specs.declared.question.CallArg.{CallArg}
use Rattle.gs_talk.specs.declared.question.Question.TheVariants.{Use}
use Rattle.gs_talk.specs.declared.question.Answer.{Answer}
use Rattle.gs_talk.specs.Terms.{Placed, number, text, at, converted, compared, negated, inverted, both}
use Rattle.gs_talk.specs.Values.{Trouble, Kind, Need, value_of, values_of, before_all, first_then, held_at, with_value, unless_decided, decided, apply, or_kind, int_of}
use Rattle.gs_talk.specs.Talk.{State, Dialogue, Ask, Handed, by_value, into, arg_of, out_of, taken, counted, set_to, used, fails, valued, all_valued, passed_valued, looked, or_else, fitted}
use Rattle.gs_talk.specs.Passed.{passed_values, arg_before, value_first}
use Rattle.gs_talk.specs.Laws.{met, BeginsAgain, AllBeginAgain, PassedBeginAgain}
use Rattle.gs_talk.proofs.Stays.{One, one, Decision, Pair, pair, of_atoi, of_minus, of_not, of_order, undecided, held_then, need_is, stays}

abbrev pub Then : Type 0
Then = Value → State → Dialogue

-- a variable's value, and then the same
pub used_same : (line i n place : ℕ) (s : State) (f g : Then) → ((v : Value) → f v (set_to i v (counted s)) ≡ g v (set_to i v (counted s))) → used line i n place s f ≡ used line i n place s g
used_same line i n place s f g h =
    ap (λ (next : Answer → Dialogue). if nat_lt s.actions ACTION_LIMIT then Ask (Use n place) (counted s) next else fails line TooManyActions s) (fun_ext (λ a. h (taken a)))

-- ---- one expression

abbrev Begins : Placed → Type 0
Begins t = (line : ℕ) (s : State) (go : Then) → valued line t s go ≡ met line s go (λ u. valued line t u go) (value_of t s.vars)

at_begins : (i : ℕ) → Begins (at i)
at_begins i line s go = of_slot (slice_get s.vars i) refl
  where
    of_slot : (o : Option Slot) → slice_get s.vars i ≡ o → looked line i o s go ≡ met line s go (λ u. valued line (at i) u go) (held_at i o)
    of_slot None e = refl
    of_slot (Some (Held v)) e = refl
    of_slot (Some (Due n place)) e =
        used_same line i n place s go (λ v u. valued line (at i) u go) (λ v. sym (ap (λ o. looked line i o (set_to i v (counted s)) go) (held_then s.vars i (Held v) (Due n place) e)))

abbrev one_valued : One → (line : ℕ) → Placed → State → Then → Dialogue
one_valued k line a s go = valued line a s (λ x u. fitted line (k x) u go)

one_begins : (k : One) (a : Placed) → Begins a → (line : ℕ) (s : State) (go : Then) → one_valued k line a s go ≡ met line s go (λ u. one_valued k line a u go) (one k (value_of a s.vars))
one_begins k a ha line s go = ha line s (λ x u. fitted line (k x) u go) ∙ of_value (value_of a s.vars)
  where
    of_kind : (r : Result ℤ FaultKind) → fitted line r s go ≡ met line s go (λ u. one_valued k line a u go) (or_kind r)
    of_kind (Ok v) = refl
    of_kind (Err e) = refl

    of_value : (r : Result Value Trouble) → met line s (λ x u. fitted line (k x) u go) (λ u. one_valued k line a u go) r ≡ met line s go (λ u. one_valued k line a u go) (one k r)
    of_value (Ok x) = of_kind (k x)
    of_value (Err (Kind kind)) = refl
    of_value (Err (Need i n place)) = refl

abbrev right : Pair → (line : ℕ) → Placed → Value → State → Then → Dialogue
right k line b x u go = valued line b u (λ y w. fitted line (k x y) w go)

abbrev pair_valued : Decision → Pair → (line : ℕ) → (a b : Placed) → State → Then → Dialogue
pair_valued d k line a b s go = valued line a s (λ x u. or_else (d x) (λ v. go (Int v) u) (right k line b x u go))

pair_begins : (d : Decision) (k : Pair) (a b : Placed) → Begins a → Begins b → (line : ℕ) (s : State) (go : Then) →
    pair_valued d k line a b s go ≡ met line s go (λ u. pair_valued d k line a b u go) (pair d k (value_of a s.vars) (value_of b s.vars))
pair_begins d k a b ha hb line s go = ha line s left ∙ of_left (value_of a s.vars) refl
  where
    left : Then
    left x u = or_else (d x) (λ v. go (Int v) u) (right k line b x u go)

    again : State → Dialogue
    again u = pair_valued d k line a b u go

    of_kind : (r : Result ℤ FaultKind) → fitted line r s go ≡ met line s go (λ u. pair_valued d k line a b u go) (or_kind r)
    of_kind (Ok v) = refl
    of_kind (Err e) = refl

    of_right : (x : Value) → value_of a s.vars ≡ Ok x → d x ≡ None → (r : Result Value Trouble) → value_of b s.vars ≡ r →
        met line s (λ y w. fitted line (k x y) w go) (λ u. right k line b x u go) r ≡ met line s go (λ u. pair_valued d k line a b u go) (with_value r (λ y. or_kind (k x y)))
    of_right x ea ed (Ok y) eb = of_kind (k x y)
    of_right x ea ed (Err (Kind kind)) eb = refl
    of_right x ea ed (Err (Need i n place)) eb =
        used_same line i n place s (λ v u. right k line b x u go) (λ v u. pair_valued d k line a b u go)
        (λ v. sym (ha line (set_to i v (counted s)) (λ x u. or_else (d x) (λ v. go (Int v) u) (right k line b x u go))
        ∙ ap (met line (set_to i v (counted s)) (λ x u. or_else (d x) (λ v. go (Int v) u) (right k line b x u go)) (λ u. pair_valued d k line a b u go)) (stays a s.vars i n place (Held v) x (need_is b s.vars i n place eb) ea)
        ∙ ap (λ (o : Option ℤ). or_else o (λ w. go (Int w) (set_to i v (counted s))) (right k line b x (set_to i v (counted s)) go)) ed))

    of_decided : (x : Value) → value_of a s.vars ≡ Ok x → (o : Option ℤ) → d x ≡ o →
        or_else o (λ v. go (Int v) s) (right k line b x s go) ≡ met line s go (λ u. pair_valued d k line a b u go) (unless_decided o (with_value (value_of b s.vars) (λ y. or_kind (k x y))))
    of_decided x ea (Some v) ed = refl
    of_decided x ea None ed = hb line s (λ y w. fitted line (k x y) w go) ∙ of_right x ea ed (value_of b s.vars) refl

    of_left : (r : Result Value Trouble) → value_of a s.vars ≡ r →
        met line s (λ x u. or_else (d x) (λ v. go (Int v) u) (right k line b x u go)) (λ u. pair_valued d k line a b u go) r ≡ met line s go (λ u. pair_valued d k line a b u go) (pair d k r (value_of b s.vars))
    of_left (Err (Kind kind)) e = refl
    of_left (Err (Need i n place)) e = refl
    of_left (Ok x) e = of_decided x e (d x) refl

pub again : (t : Placed) (line : ℕ) (s : State) (go : Then) → valued line t s go ≡ met line s go (λ u. valued line t u go) (value_of t s.vars)
again (number v) line s go = refl
again (text b) line s go = refl
again (at i) line s go = at_begins i line s go
again (converted a) line s go = one_begins of_atoi a (again a) line s go
again (compared a b) line s go = pair_begins undecided of_order a b (again a) (again b) line s go
again (negated a) line s go = one_begins of_minus a (again a) line s go
again (inverted a) line s go = one_begins of_not a (again a) line s go
again (both op a b) line s go = pair_begins (λ x. decided op (int_of x)) (λ x y. apply op (int_of x) (int_of y)) a b (again a) (again b) line s go

pub begins_again : BeginsAgain
begins_again line t s go = again t line s go

-- ---- several

need_among : (ts : List Placed) (vars : List Slot) (i n place : ℕ) → values_of ts vars ≡ Err (Need i n place) → slice_get vars i ≡ Some (Due n place)
need_among [] vars i n place h = absurd (cc)
need_among (t ∷ ts) vars i n place h = of_first (value_of t vars) refl h (λ e. need_among ts vars i n place e)
  where
    of_rest : (x : Value) (r : Result (List Value) Trouble) → values_of ts vars ≡ r → before_all x r ≡ Err (Need i n place) → (values_of ts vars ≡ Err (Need i n place) → slice_get vars i ≡ Some (Due n place)) → slice_get vars i ≡ Some (Due n place)
    of_rest x (Ok xs) is f inner = absurd (cc)
    of_rest x (Err e) is f inner = inner (is ∙ f)

    of_first : (r : Result Value Trouble) → value_of t vars ≡ r → first_then r (values_of ts vars) ≡ Err (Need i n place) → (values_of ts vars ≡ Err (Need i n place) → slice_get vars i ≡ Some (Due n place)) → slice_get vars i ≡ Some (Due n place)
    of_first (Err e) is f inner = need_is t vars i n place (is ∙ cc)
    of_first (Ok x) is f inner = of_rest x (values_of ts vars) refl f inner

pub all_again : (ts : List Placed) (line : ℕ) (s : State) (go : List Value → State → Dialogue) →
    all_valued line ts s go ≡ met line s go (λ u. all_valued line ts u go) (values_of ts s.vars)
all_again [] line s go = refl
all_again (t ∷ ts) line s go =
    again t line s (λ v u. all_valued line ts u (λ vs w. go (v ∷ vs) w)) ∙ of_first (value_of t s.vars) refl (λ v. all_again ts line s (λ vs w. go (v ∷ vs) w))
  where
    of_rest : (v : Value) → value_of t s.vars ≡ Ok v → (r : Result (List Value) Trouble) → values_of ts s.vars ≡ r →
        met line s (λ vs w. go (v ∷ vs) w) (λ u. all_valued line ts u (λ vs w. go (v ∷ vs) w)) r ≡ met line s go (λ u. all_valued line (t ∷ ts) u go) (before_all v r)
    of_rest v e (Ok vs) er = refl
    of_rest v e (Err (Kind kind)) er = refl
    of_rest v e (Err (Need i n place)) er =
        used_same line i n place s (λ x u. all_valued line ts u (λ vs w. go (v ∷ vs) w)) (λ x u. all_valued line (t ∷ ts) u go)
        (λ x. sym (again t line (set_to i x (counted s)) (λ v u. all_valued line ts u (λ vs w. go (v ∷ vs) w))
        ∙ ap (met line (set_to i x (counted s)) (λ v u. all_valued line ts u (λ vs w. go (v ∷ vs) w)) (λ u. all_valued line (t ∷ ts) u go)) (stays t s.vars i n place (Held x) v (need_among ts s.vars i n place er) e)))

    of_first : (r : Result Value Trouble) → value_of t s.vars ≡ r →
        ((v : Value) → all_valued line ts s (λ vs w. go (v ∷ vs) w) ≡ met line s (λ vs w. go (v ∷ vs) w) (λ u. all_valued line ts u (λ vs w. go (v ∷ vs) w)) (values_of ts s.vars)) →
        met line s (λ v u. all_valued line ts u (λ vs w. go (v ∷ vs) w)) (λ u. all_valued line (t ∷ ts) u go) r ≡ met line s go (λ u. all_valued line (t ∷ ts) u go) (first_then r (values_of ts s.vars))
    of_first (Err (Kind kind)) e h = refl
    of_first (Err (Need i n place)) e h = refl
    of_first (Ok v) e h = h v ∙ of_rest v e (values_of ts s.vars) refl

pub all_begin_again : AllBeginAgain
all_begin_again line ts s go = all_again ts line s go

-- ---- the arguments of a call

abbrev Args : Type 0
Args = List CallArg → State → Dialogue

arg_needs : (a : CallArg) (r : Result (List CallArg) Trouble) (i n place : ℕ) → arg_before a r ≡ Err (Need i n place) → r ≡ Err (Need i n place)
arg_needs a (Ok args) i n place h = absurd (cc)
arg_needs a (Err e) i n place h = cc

need_passed : (ps : List Param) (args : List Handed) (vars : List Slot) (i n place : ℕ) → passed_values ps args vars ≡ Err (Need i n place) → slice_get vars i ≡ Some (Due n place)
need_passed [] args vars i n place h = absurd (cc)
need_passed (p ∷ ps) [] vars i n place h = absurd (cc)
need_passed (p ∷ ps) (into j ∷ args) vars i n place h = need_passed ps args vars i n place (arg_needs (out_of p.kind) (passed_values ps args vars) i n place h)
need_passed (p ∷ ps) (by_value t ∷ args) vars i n place h = of_first (value_of t vars) refl h (λ e. need_passed ps args vars i n place e)
  where
    of_first : (r : Result Value Trouble) → value_of t vars ≡ r → value_first p.kind r (passed_values ps args vars) ≡ Err (Need i n place) → (passed_values ps args vars ≡ Err (Need i n place) → slice_get vars i ≡ Some (Due n place)) → slice_get vars i ≡ Some (Due n place)
    of_first (Err e) is f inner = need_is t vars i n place (is ∙ cc)
    of_first (Ok x) is f inner = inner (arg_needs (arg_of p.kind x) (passed_values ps args vars) i n place f)

pub passed_again : (ps : List Param) (args : List Handed) (line : ℕ) (s : State) (go : List CallArg → State → Dialogue) →
    passed_valued line ps args s go ≡ met line s go (λ u. passed_valued line ps args u go) (passed_values ps args s.vars)
passed_again [] args line s go = refl
passed_again (p ∷ ps) [] line s go = refl
passed_again (p ∷ ps) (into j ∷ args) line s go = passed_again ps args line s (λ vs u. go (out_of p.kind ∷ vs) u) ∙ of_rest (passed_values ps args s.vars)
  where
    of_rest : (r : Result (List CallArg) Trouble) →
        met line s (λ vs u. go (out_of p.kind ∷ vs) u) (λ u. passed_valued line (p ∷ ps) (into j ∷ args) u go) r ≡ met line s go (λ u. passed_valued line (p ∷ ps) (into j ∷ args) u go) (arg_before (out_of p.kind) r)
    of_rest (Ok vs) = refl
    of_rest (Err (Kind kind)) = refl
    of_rest (Err (Need i n place)) = refl
passed_again (p ∷ ps) (by_value t ∷ args) line s go =
    again t line s (λ v u. passed_valued line ps args u (λ vs w. go (arg_of p.kind v ∷ vs) w)) ∙ of_first (value_of t s.vars) refl (λ v. passed_again ps args line s (λ vs w. go (arg_of p.kind v ∷ vs) w))
  where
    of_rest : (v : Value) → value_of t s.vars ≡ Ok v → (r : Result (List CallArg) Trouble) → passed_values ps args s.vars ≡ r →
        met line s (λ vs w. go (arg_of p.kind v ∷ vs) w) (λ u. passed_valued line ps args u (λ vs w. go (arg_of p.kind v ∷ vs) w)) r ≡ met line s go (λ u. passed_valued line (p ∷ ps) (by_value t ∷ args) u go) (arg_before (arg_of p.kind v) r)
    of_rest v e (Ok vs) er = refl
    of_rest v e (Err (Kind kind)) er = refl
    of_rest v e (Err (Need i n place)) er =
        used_same line i n place s (λ x u. passed_valued line ps args u (λ vs w. go (arg_of p.kind v ∷ vs) w)) (λ x u. passed_valued line (p ∷ ps) (by_value t ∷ args) u go)
        (λ x. sym (again t line (set_to i x (counted s)) (λ v u. passed_valued line ps args u (λ vs w. go (arg_of p.kind v ∷ vs) w))
        ∙ ap (met line (set_to i x (counted s)) (λ v u. passed_valued line ps args u (λ vs w. go (arg_of p.kind v ∷ vs) w)) (λ u. passed_valued line (p ∷ ps) (by_value t ∷ args) u go)) (stays t s.vars i n place (Held x) v (need_passed ps args s.vars i n place er) e)))

    of_first : (r : Result Value Trouble) → value_of t s.vars ≡ r →
        ((v : Value) → passed_valued line ps args s (λ vs w. go (arg_of p.kind v ∷ vs) w) ≡ met line s (λ vs w. go (arg_of p.kind v ∷ vs) w) (λ u. passed_valued line ps args u (λ vs w. go (arg_of p.kind v ∷ vs) w)) (passed_values ps args s.vars)) →
        met line s (λ v u. passed_valued line ps args u (λ vs w. go (arg_of p.kind v ∷ vs) w)) (λ u. passed_valued line (p ∷ ps) (by_value t ∷ args) u go) r ≡ met line s go (λ u. passed_valued line (p ∷ ps) (by_value t ∷ args) u go) (value_first p.kind r (passed_values ps args s.vars))
    of_first (Err (Kind kind)) e h = refl
    of_first (Err (Need i n place)) e h = refl
    of_first (Ok v) e h = h v ∙ of_rest v e (passed_values ps args s.vars) refl

pub passed_begin_again : PassedBeginAgain
passed_begin_again line ps args s go = passed_again ps args line s go
