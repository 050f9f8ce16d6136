-- What the parts of an order did.
use Rattle.std.proofs.Common.{◌≡◌, ℕ, Bool, true, false, refl, sym, ap, ◌∙◌, subst, List, Result, Ok, Err}
use Rattle.std.specs.Prelude.{⊤}
use Rattle.std.specs.declared.vec.Vec.{Vec}
use Rattle.std.specs.declared.alloc.Global.{Global}
use Rattle.gs_idl.specs.Interface.{Param}
use Rattle.gs_types.specs.declared.value.Value.{Value}
use Rattle.gs_talk.specs.declared.slot.Slot.{Slot}
use Rattle.gs_talk.specs.declared.question.Question.{Question}
use Rattle.gs_talk.specs.declared.question.CallArg.{CallArg}
use Rattle.gs_talk.specs.declared.error.Trouble as code
use Rattle.gs_talk.specs.declared.error.Trouble.TheVariants as t
use Rattle.gs_talk.specs.Terms.{Placed}
use Rattle.gs_talk.specs.Values.{Trouble, Kind, Need, value_of, values_of}
use Rattle.gs_talk.specs.Found.{Finds, FindsAll}
use Rattle.gs_talk.specs.Passed.{passed_values}
use Rattle.gs_talk.specs.Laws.{met}
use Rattle.gs_talk.specs.Talk.{State, Dialogue, Stop, Meaning, Handed, valued, all_valued, passed_valued}
use Rattle.gs_talk.proofs.Again.{again, all_again, passed_again}
use Rattle.gs_main.specs.declared.waits.Last.{Last}
use Rattle.gs_main.specs.declared.waits.Waits.{Waits}
use Rattle.gs_main.specs.declared.waits.Waits.TheVariants as w
use Rattle.gs_main.specs.declared.waits.Pause.{Pause}
use Rattle.gs_main.specs.declared.waits.Pause.TheVariants as p
use Rattle.gs_main.specs.declared.work.Work.{Work}
use Rattle.gs_pieces.specs.declared.passed.Passed.{Passed}
use Rattle.gs_main.specs.Lasts.{last_question}
use Rattle.gs_pieces.specs.Places.{FindsPassed}
use Rattle.gs_main.specs.Seen.{state_of, for_value, allowed, asked_use, Evaluation, Evaluated, Meets, paused, Does}

-- ---- evaluations

pub has_value : (x : Placed) (line : ℕ) (s : State) (vars : List Slot) (v : Value) → vars ≡ s.vars → value_of x vars ≡ Ok v → (go : Value → State → Dialogue) → valued line x s go ≡ go v s
has_value x line s vars v ev e go = again x line s go ∙ ap (met line s go (λ u. valued line x u go)) (sym (ap (value_of x) ev) ∙ e)

pub has_values : (xs : List Placed) (line : ℕ) (s : State) (vars : List Slot) (vs : List Value) → vars ≡ s.vars → values_of xs vars ≡ Ok vs → (go : List Value → State → Dialogue) → all_valued line xs s go ≡ go vs s
has_values xs line s vars vs ev e go = all_again xs line s go ∙ ap (met line s go (λ u. all_valued line xs u go)) (sym (ap (values_of xs) ev) ∙ e)

pub has_passed : (ps : List Param) (args : List Handed) (line : ℕ) (s : State) (vars : List Slot) (vs : List CallArg) → vars ≡ s.vars → passed_values ps args vars ≡ Ok vs → (go : List CallArg → State → Dialogue) → passed_valued line ps args s go ≡ go vs s
has_passed ps args line s vars vs ev e go = passed_again ps args line s go ∙ ap (met line s go (λ u. passed_valued line ps args u go)) (sym (ap (passed_values ps args) ev) ∙ e)

-- the trouble of the code
abbrev IsTrouble : {A : Type 0} → Result A Trouble → code.Trouble → Type 0
IsTrouble {A} r (t.Kind kind) = r ≡ Err (Kind kind)
IsTrouble {A} r (t.Need i n place) = r ≡ Err (Need i n place)
IsTrouble {A} r t.NoMemory = ⊤

one_found : (r : Result Value Trouble) (e : code.Trouble) → Finds r (Err e) → IsTrouble r e
one_found r (t.Kind kind) h = h
one_found r (t.Need i n place) h = h
one_found r t.NoMemory h = tt

all_found : (r : Result (List Value) Trouble) (e : code.Trouble) → FindsAll r (Err e) → IsTrouble r e
all_found r (t.Kind kind) h = h
all_found r (t.Need i n place) h = h
all_found r t.NoMemory h = tt

passed_found : (r : Result (List CallArg) Trouble) (e : code.Trouble) → FindsPassed r (Err e) → IsTrouble r e
passed_found r (t.Kind kind) h = h
passed_found r (t.Need i n place) h = h
passed_found r t.NoMemory h = tt

meets : {A B : Type 0} (shown : B → A) (e : Evaluation A) (line : ℕ) (old : Work) (x : code.Trouble) (pause : Pause) (new : Work) (r : Result A Trouble) →
    ((go : A → State → Dialogue) → e go (state_of old) ≡ met line (state_of old) go (λ u. e go u) r) → IsTrouble r x → Meets line x old pause new → Evaluated shown e old (Err pause) new
meets {A} {B} shown e line old x p.NoMemory new r law h m = tt
meets {A} {B} shown e line old (t.Kind kind) (p.Asks q) new r law h m = (λ go. law go ∙ ap (met line (state_of old) go (λ u. e go u)) h ∙ m.0 (λ u. e go u), m.1, m.2)
meets {A} {B} shown e line old (t.Need i n place) (p.Asks q) new r law h m = (λ go. law go ∙ ap (met line (state_of old) go (λ u. e go u)) h ∙ m.0 (λ u. e go u), m.1, m.2)
meets {A} {B} shown e line old t.NoMemory (p.Asks q) new r law h m = absurd m.3

pub value_meets : (x : Placed) (line : ℕ) (old : Work) (vars : List Slot) (e : code.Trouble) (pause : Pause) (new : Work) → vars ≡ (state_of old).vars → Finds (value_of x vars) (Err e) → Meets line e old pause new → Evaluated {B = Value} (λ v. v) (λ go s. valued line x s go) old (Err pause) new
value_meets x line old vars e pause new ev h m =
    meets (λ (v : Value). v) (λ go s. valued line x s go) line old e pause new (value_of x vars)
    (λ go. again x line (state_of old) go ∙ ap (met line (state_of old) go (λ u. valued line x u go)) (sym (ap (value_of x) ev))) (one_found (value_of x vars) e h) m

pub values_meet : (xs : List Placed) (line : ℕ) (old : Work) (vars : List Slot) (e : code.Trouble) (pause : Pause) (new : Work) → vars ≡ (state_of old).vars → FindsAll (values_of xs vars) (Err e) → Meets line e old pause new → Evaluated {B = Vec Value Global} (λ vs. vs.items) (λ go s. all_valued line xs s go) old (Err pause) new
values_meet xs line old vars e pause new ev h m =
    meets (λ (vs : Vec Value Global). vs.items) (λ go s. all_valued line xs s go) line old e pause new (values_of xs vars)
    (λ go. all_again xs line (state_of old) go ∙ ap (met line (state_of old) go (λ u. all_valued line xs u go)) (sym (ap (values_of xs) ev))) (all_found (values_of xs vars) e h) m

pub passed_meet : (shown : Vec Passed Global → List CallArg) (ps : List Param) (args : List Handed) (line : ℕ) (old : Work) (vars : List Slot) (e : code.Trouble) (pause : Pause) (new : Work) → vars ≡ (state_of old).vars → FindsPassed (passed_values ps args vars) (Err e) → Meets line e old pause new → Evaluated shown (λ go s. passed_valued line ps args s go) old (Err pause) new
passed_meet shown ps args line old vars e pause new ev h m =
    meets shown (λ go s. passed_valued line ps args s go) line old e pause new (passed_values ps args vars)
    (λ go. passed_again ps args line (state_of old) go ∙ ap (met line (state_of old) go (λ u. passed_valued line ps args u go)) (sym (ap (passed_values ps args) ev))) (passed_found (passed_values ps args vars) e h) m

-- ---- orders

value_allowed : (call : Bool) (wait : Waits) → for_value wait ≡ true → allowed true call wait ≡ true
value_allowed call w.Nothing e = absurd (cc)
value_allowed call (w.Value i) e = refl
value_allowed call w.Call e = absurd (cc)
value_allowed call (w.Content line to name mode) e = absurd (cc)
value_allowed call w.Word e = absurd (cc)
value_allowed call (w.Ended last) e = refl

-- an order that begins with an evaluation, which asked
pub asks_does : {A B : Type 0} (call : Bool) (shown : B → A) (e : Evaluation A) (go : ℕ → A → State → Dialogue) (line : ℕ) (args : List Handed) (old : Work) (pause : Pause) (new : Work) → Evaluated shown e old (Err pause) new → Does true call (λ n s. e (go n) s) line args old (Err pause) new
asks_does {A} {B} call shown e go line args old p.NoMemory new h = tt
asks_does {A} {B} call shown e go line args old (p.Asks x) new h = (λ n. h.0 (go n) ∙ by_wait n new.waits h.1, value_allowed call new.waits h.1, h.2)
  where
    by_wait : (n : ℕ) (wait : Waits) → for_value wait ≡ true → asked_use wait x (state_of new) (λ u. e (go n) u) ≡ paused (λ n s. e (go n) s) line args wait x n (state_of new)
    by_wait n w.Nothing e = absurd (cc)
    by_wait n (w.Value i) e = refl
    by_wait n w.Call e = absurd (cc)
    by_wait n (w.Content line to name mode) e = absurd (cc)
    by_wait n w.Word e = absurd (cc)
    by_wait n (w.Ended last) e = refl

inner_allowed : (call : Bool) (wait : Waits) → allowed false call wait ≡ true → allowed true call wait ≡ true
inner_allowed call w.Nothing e = absurd (cc)
inner_allowed call (w.Value i) e = absurd (cc)
inner_allowed call w.Call e = e
inner_allowed call (w.Content line to name mode) e = refl
inner_allowed call w.Word e = refl
inner_allowed call (w.Ended last) e = refl

same_pause : (call : Bool) (m k : Meaning) (line : ℕ) (args : List Handed) (x : Question) (n : ℕ) (s : State) (wait : Waits) → allowed false call wait ≡ true → paused k line args wait x n s ≡ paused m line args wait x n s
same_pause call m k line args x n s w.Nothing e = absurd (cc)
same_pause call m k line args x n s (w.Value i) e = absurd (cc)
same_pause call m k line args x n s w.Call e = refl
same_pause call m k line args x n s (w.Content at to name mode) e = refl
same_pause call m k line args x n s w.Word e = refl
same_pause call m k line args x n s (w.Ended last) e = refl

-- an order whose meaning is then that of its last part
pub last_does : (call : Bool) (m k : Meaning) (line : ℕ) (args : List Handed) (old mid : Work) (result : Result (Unit {0}) Pause) (new : Work) → mid ≡ old → ((n : ℕ) → m n (state_of old) ≡ k n (state_of mid)) → Does false call k line args mid result new → Does true call m line args old result new
last_does call m k line args old mid (Ok u) new is e h = (λ n. e n ∙ h.0 n, h.1 ∙ ap (λ (x : Work). x.waits) is)
last_does call m k line args old mid (Err p.NoMemory) new is e h = tt
last_does call m k line args old mid (Err (p.Asks x)) new is e h =
    (λ n. e n ∙ h.0 n ∙ same_pause call m k line args x n (state_of new) new.waits h.1, inner_allowed call new.waits h.1, h.2)

-- it has ended
pub stop_does : (value call : Bool) (m : Meaning) (line : ℕ) (args : List Handed) (old : Work) (pause : Pause) (new : Work) (last : Last) → pause ≡ p.Asks (last_question last) → new ≡ record old { waits = w.Ended last } →
    ((n : ℕ) → m n (state_of old) ≡ Stop (last_question last) (state_of old)) → Does value call m line args old (Err pause) new
stop_does value call m line args old pause new last ep en h =
    subst (λ (x : Pause). Does value call m line args old (Err x) new) (sym ep)
    (subst (λ (x : Work). Does value call m line args old (Err (p.Asks (last_question last))) x) (sym en) (h, refl, refl))
