-- One order, of what is begun.
use Rattle.std.proofs.Common.{◌≡◌, ◌<◌, ◌-◌, ℕ, suc, Bool, true, false, refl, sym, ap, ◌∙◌, subst, List, Result, Ok, Err, Option, Some, None, arith, slice_get, if◌then◌else◌}
use mathlib.Core.Path.{fun_ext}
use Rattle.gs_talk.specs.declared.question.Question.{Question}
use Rattle.gs_types.specs.declared.value.Value.{Value}
use Rattle.gs_talk.specs.Terms.{Placed}
use Rattle.gs_talk.specs.Values.{is_zero, int_of}
use Rattle.gs_talk.specs.Talk.{Given, State, Dialogue, Ask, Stop, Meaning, Handed, then_do, taken, set_to, opened, went, valued, branch}
use Rattle.gs_orders.specs.declared.order.Order.{Order}
use Rattle.gs_orders.specs.Steps.{Step, test, send, leave, step_at, step_of}
use Rattle.std.specs.Option.{option_map}
use Rattle.gs_orders.specs.Says.{IsAt}
use Rattle.gs_main.specs.declared.waits.Last.{Last}
use Rattle.gs_main.specs.declared.waits.Last.TheVariants as l
use Rattle.gs_main.specs.declared.waits.Waits.{Waits}
use Rattle.gs_main.specs.declared.waits.Waits.TheVariants as w
use Rattle.gs_main.specs.declared.waits.Pause.{Pause}
use Rattle.gs_main.specs.declared.waits.Pause.TheVariants as p
use Rattle.gs_main.specs.declared.work.Work.{Work}
use Rattle.gs_main.specs.declared.run.Run.{Run}
use Rattle.gs_main.specs.Lasts.{last_question}
use Rattle.gs_main.specs.Talking.{Asked, wanted}
use Rattle.gs_main.specs.Meanings.{leaving_all}
use Rattle.gs_main.specs.Machine.{obeyed, goes}
use Rattle.gs_main.specs.CallAt.{call_in}
use Rattle.gs_main.specs.Seen.{state_of, Keeps, for_value, allowed, asked_use, Evaluated, paused, Does, Leaves, steps_after, stands_at, called, next_by, going, Moved}
use Rattle.gs_main.proofs.Leaving.{Exact}
use Rattle.gs_main.proofs.Meaning.{no_step, one_step, at_order, Leaf, leaf_after}

last_wants_none : (last : Last) → wanted (last_question last) ≡ None
last_wants_none l.End = refl
last_wants_none (l.Fault line kind) = refl
last_wants_none l.FuelOut = refl

-- what has ended so
ended_asked : (d : Dialogue) (x : Question) (s : State) (last : Last) → d ≡ Stop x s → x ≡ last_question last → (d ≡ Stop x s) × (Stop (last_question last) s ≡ d) × (wanted x ≡ None)
ended_asked d x s last e is = (e, ap (λ (y : Question). Stop y s) (sym is) ∙ sym e, ap wanted is ∙ last_wants_none last)

one_less : (n m : ℕ) → 0 < n → m ≡ n - 1 → n ≡ suc m
one_less n m lt e = omega (arith, e)

-- ---- an order that was done or asked

pub did_moves : (value call : Bool) (t : Given) (orders : List Order) (m : Meaning) (line : ℕ) (args : List Handed) (next : ℕ) (st : Step) (old : Run) (result : Result (Unit {0}) Pause) (new : Run) →
    (call ≡ true → (op : ℕ) × IsAt orders old.at (send line op args next)) → IsAt orders old.at st → Leaf t st m next → Exact m → 0 < old.steps → old.work.waits ≡ w.Nothing →
    new.at ≡ stands_at new.work.waits old.at next → new.steps ≡ steps_after new.work.waits old.steps → Does value call m line args old.work result new.work → Moved t orders old result new
did_moves value call t orders m line args next st old (Ok u) new to_call is leaf exact lt waits at steps did =
    let quiet : new.work.waits ≡ w.Nothing = did.1 ∙ waits in
    let at_next : new.at ≡ next = at ∙ ap (λ (x : Waits). stands_at x old.at next) quiet in
    let less : new.steps ≡ old.steps - 1 = steps ∙ ap (λ (x : Waits). steps_after x old.steps) quiet in
    let more : old.steps ≡ suc new.steps = one_less old.steps new.steps lt less in (
      ap (λ (n : ℕ). goes t orders old.at n (state_of old.work)) more
          ∙ leaf_after t orders old.at next st m is leaf exact new.steps (state_of old.work)
          ∙ ap (λ (d : Dialogue). then_do d (goes t orders next)) (did.0 new.steps)
          ∙ ap (λ (i : ℕ). goes t orders i new.steps (state_of new.work)) (sym at_next),
      quiet,
      omega (arith, more),
    )
did_moves value call t orders m line args next st old (Err p.NoMemory) new to_call is leaf exact lt waits at steps did = tt
did_moves value call t orders m line args next st old (Err (p.Asks x)) new to_call is leaf exact lt waits at steps did =
    let n : ℕ = old.steps - 1 in
    let more : old.steps ≡ suc n = omega arith in
    by_wait n more new.work.waits at steps did.1 did.2
    (ap (λ (k : ℕ). goes t orders old.at k (state_of old.work)) more
    ∙ leaf_after t orders old.at next st m is leaf exact n (state_of old.work)
    ∙ ap (λ (d : Dialogue). then_do d (goes t orders next)) (did.0 n))
  where
    by_wait : (n : ℕ) → old.steps ≡ suc n → (wait : Waits) → new.at ≡ stands_at wait old.at next → new.steps ≡ steps_after wait old.steps → allowed value call wait ≡ true → Keeps wait x →
        going t orders old ≡ then_do (paused m line args wait x n (state_of new.work)) (goes t orders next) →
        Asked (going t orders old) x (state_of new.work) (next_by t orders wait new.at new.steps (state_of new.work))
    by_wait n more w.Nothing at steps may keeps d = absurd (cc)
    by_wait n more (w.Value i) at steps may keeps d = (
      d ∙ ap (Ask x (state_of new.work)) (fun_ext (λ a.
          sym (leaf_after t orders old.at next st m is leaf exact n (set_to i (taken a) (state_of new.work)))
          ∙ ap (λ (k : ℕ). goes t orders old.at k (set_to i (taken a) (state_of new.work))) (sym (steps ∙ more))
          ∙ ap (λ (j : ℕ). goes t orders j new.steps (set_to i (taken a) (state_of new.work))) (sym at))),
      keeps,
    )
    by_wait n more w.Call at steps may keeps d =
        let there = to_call may in
        let less : new.steps ≡ n = omega (arith, steps, more) in
        let here : step_at orders new.at ≡ Some (send line there.0 args next) = ap (step_at orders) at ∙ there.1 in (
          d ∙ ap (Ask x (state_of new.work)) (fun_ext (λ a.
              ap (λ (k : ℕ). then_do (went a line args k (state_of new.work)) (goes t orders next)) (sym less)
              ∙ ap (λ (o : Option Step). called t orders (call_in o) new.steps (state_of new.work) a) (sym here))),
          keeps,
        )
    by_wait n more (w.Content at_line to name mode) at steps may keeps d =
        let less : new.steps ≡ n = omega (arith, steps, more) in (
          d ∙ ap (Ask x (state_of new.work)) (fun_ext (λ a.
              ap (λ (k : ℕ). then_do (opened a at_line to name mode k (state_of new.work)) (goes t orders next)) (sym less)
              ∙ ap (λ (j : ℕ). then_do (opened a at_line to name mode new.steps (state_of new.work)) (goes t orders j)) (sym at))),
          keeps,
        )
    by_wait n more w.Word at steps may keeps d =
        let less : new.steps ≡ n = omega (arith, steps, more) in (
          d ∙ ap (Ask x (state_of new.work)) (fun_ext (λ a.
              ap (λ (k : ℕ). goes t orders next k (state_of new.work)) (sym less)
              ∙ ap (λ (j : ℕ). goes t orders j new.steps (state_of new.work)) (sym at))),
          keeps,
        )
    by_wait n more (w.Ended last) at steps may keeps d = ended_asked (going t orders old) x (state_of new.work) last d keeps

-- ---- an order that asked for a variable's value stays as it is

-- the meaning of the order at a place is go
abbrev Stays : Given → List Order → (at steps : ℕ) → (go : State → Dialogue) → Type 0
Stays t orders at steps go = (s : State) → goes t orders at steps s ≡ go s

pub asks_moves : (t : Given) (orders : List Order) (go : State → Dialogue) (old : Run) (x : Question) (new : Run) → Stays t orders old.at old.steps go →
    new.at ≡ old.at → new.steps ≡ old.steps → go (state_of old.work) ≡ asked_use new.work.waits x (state_of new.work) go → for_value new.work.waits ≡ true → Keeps new.work.waits x → Moved t orders old (Err (p.Asks x)) new
asks_moves t orders go old x new same at steps h may keeps = by_wait new.work.waits may keeps (same (state_of old.work) ∙ h)
  where
    by_wait : (wait : Waits) → for_value wait ≡ true → Keeps wait x → going t orders old ≡ asked_use wait x (state_of new.work) go → Asked (going t orders old) x (state_of new.work) (next_by t orders wait new.at new.steps (state_of new.work))
    by_wait w.Nothing may keeps d = absurd (cc)
    by_wait (w.Value i) may keeps d = (
      d ∙ ap (Ask x (state_of new.work)) (fun_ext (λ a.
          sym (same (set_to i (taken a) (state_of new.work)))
          ∙ ap (λ (k : ℕ). goes t orders old.at k (set_to i (taken a) (state_of new.work))) (sym steps)
          ∙ ap (λ (j : ℕ). goes t orders j new.steps (set_to i (taken a) (state_of new.work))) (sym at))),
      keeps,
    )
    by_wait w.Call may keeps d = absurd (cc)
    by_wait (w.Content line to name mode) may keeps d = absurd (cc)
    by_wait w.Word may keeps d = absurd (cc)
    by_wait (w.Ended last) may keeps d = ended_asked (going t orders old) x (state_of new.work) last d keeps

-- it has ended
pub stop_moves : (t : Given) (orders : List Order) (old : Run) (pause : Pause) (new : Run) (last : Last) → going t orders old ≡ Stop (last_question last) (state_of old.work) → pause ≡ p.Asks (last_question last) → new.work ≡ record old.work { waits = w.Ended last } → Moved t orders old (Err pause) new
stop_moves t orders old pause new last d is work =
    let e : going t orders old ≡ Stop (last_question last) (state_of new.work) = d ∙ ap (λ (y : Work). Stop (last_question last) (state_of y)) (sym work) in
    let ended : new.work.waits ≡ w.Ended last = ap (λ (y : Work). y.waits) work in
    subst (λ (y : Pause). Moved t orders old (Err y) new) (sym is)
    (subst (λ (wait : Waits). Asked (going t orders old) (last_question last) (state_of new.work) (next_by t orders wait new.at new.steps (state_of new.work))) (sym ended)
    (ended_asked (going t orders old) (last_question last) (state_of new.work) last e refl))

pub no_steps : (t : Given) (orders : List Order) (old : Run) → old.steps ≡ 0 → going t orders old ≡ Stop (last_question l.FuelOut) (state_of old.work)
no_steps t orders old none = ap (λ (k : ℕ). goes t orders old.at k (state_of old.work)) none ∙ no_step t orders old.at (state_of old.work)

pub no_order : (t : Given) (orders : List Order) (old : Run) → 0 < old.steps → slice_get orders old.at ≡ None → going t orders old ≡ Stop (last_question l.FuelOut) (state_of old.work)
no_order t orders old lt none =
    let more : old.steps ≡ suc (old.steps - 1) = omega arith in
    ap (λ (k : ℕ). goes t orders old.at k (state_of old.work)) more
    ∙ one_step t orders old.at (old.steps - 1) (state_of old.work)
    ∙ ap (λ (o : Option Order). obeyed t (option_map step_of o) (old.steps - 1) (state_of old.work) (λ next u. goes t orders next (old.steps - 1) u)) none

-- the order that was read
pub order_is : (orders : List Order) (at : ℕ) (o x : Order) → slice_get orders at ≡ Some o → o ≡ x → IsAt orders at (step_of x)
order_is orders at o x e is = ap (option_map step_of) e ∙ ap (λ (y : Order). Some (step_of y)) is

-- an order that the machine did, and then stood as what it waits for says
pub arm_moves : (value call : Bool) (t : Given) (orders : List Order) (m : Meaning) (line : ℕ) (args : List Handed) (next : ℕ) (st : Step) (old : Run) (done : Result (Unit {0}) Pause) (mid : Work) (result : Result (Unit {0}) Pause) (new : Run) →
    (call ≡ true → (op : ℕ) × IsAt orders old.at (send line op args next)) → IsAt orders old.at st → Leaf t st m next → Exact m → 0 < old.steps → old.work.waits ≡ w.Nothing → Does value call m line args old.work done mid →
    result ≡ done → new.at ≡ stands_at mid.waits old.at next → new.steps ≡ steps_after mid.waits old.steps → new.work ≡ mid → Moved t orders old result new
arm_moves value call t orders m line args next st old done mid result new to_call is leaf exact lt waits did er at steps work =
    did_moves value call t orders m line args next st old result new to_call is leaf exact lt waits
    (at ∙ ap (λ (x : Work). stands_at x.waits old.at next) (sym work)) (steps ∙ ap (λ (x : Work). steps_after x.waits old.steps) (sym work))
    (subst (λ (r : Result (Unit {0}) Pause). Does value call m line args old.work r new.work) (sym er) (subst (λ (x : Work). Does value call m line args old.work done x) (sym work) did))

pub leaves_moves : (t : Given) (orders : List Order) (line : ℕ) (old : Run) (pause : Pause) (mid : Work) (new : Run) → IsAt orders old.at (leave line) → 0 < old.steps → Leaves (leaving_all line) old.work pause mid →
    new.at ≡ old.at → new.steps ≡ old.steps → new.work ≡ mid → Moved t orders old (Err pause) new
leaves_moves t orders line old p.NoMemory mid new is lt h at steps work = tt
leaves_moves t orders line old (p.Asks x) mid new is lt h at steps work =
    let more : old.steps ≡ suc (old.steps - 1) = omega arith in
    let same : (s : State) → goes t orders old.at old.steps s ≡ leaving_all line s = λ s. ap (λ (k : ℕ). goes t orders old.at k s) more ∙ at_order t orders old.at (old.steps - 1) s (leave line) is in
    let k = subst (λ (y : Work). Leaves (leaving_all line) old.work (p.Asks x) y) (sym work) h in
    asks_moves t orders (leaving_all line) old x new same at steps k.0 k.1 k.2

-- ---- tests

-- what a test does, with n steps left after its own
abbrev pub testing : Given → List Order → (line : ℕ) → Placed → (then_at else_at n : ℕ) → State → Dialogue
testing t orders line v then_at else_at n s = valued line v s (λ x u. branch (is_zero (int_of x)) (λ m w. goes t orders then_at n w) (λ m w. goes t orders else_at n w) n u)

tests_so : (t : Given) (orders : List Order) (line : ℕ) (v : Placed) (then_at else_at : ℕ) (old : Run) → IsAt orders old.at (test line v then_at else_at) → 0 < old.steps → (s : State) → goes t orders old.at old.steps s ≡ testing t orders line v then_at else_at (old.steps - 1) s
tests_so t orders line v then_at else_at old is lt s =
    let more : old.steps ≡ suc (old.steps - 1) = omega arith in
    ap (λ (k : ℕ). goes t orders old.at k s) more ∙ at_order t orders old.at (old.steps - 1) s (test line v then_at else_at) is

pub test_asks : (t : Given) (orders : List Order) (line : ℕ) (v : Placed) (then_at else_at : ℕ) (old : Run) (pause : Pause) (mid : Work) (new : Run) → IsAt orders old.at (test line v then_at else_at) → 0 < old.steps →
    Evaluated {B = Value} (λ v. v) (λ go s. valued line v s go) old.work (Err pause) mid → new.at ≡ old.at → new.steps ≡ old.steps → new.work ≡ mid → Moved t orders old (Err pause) new
test_asks t orders line v then_at else_at old p.NoMemory mid new is lt h at steps work = tt
test_asks t orders line v then_at else_at old (p.Asks x) mid new is lt h at steps work =
    let k = subst (λ (y : Work). Evaluated {B = Value} (λ v. v) (λ go s. valued line v s go) old.work (Err (p.Asks x)) y) (sym work) h in
    asks_moves t orders (testing t orders line v then_at else_at (old.steps - 1)) old x new (tests_so t orders line v then_at else_at old is lt) at steps
    (k.0 (λ x u. branch (is_zero (int_of x)) (λ m w. goes t orders then_at (old.steps - 1) w) (λ m w. goes t orders else_at (old.steps - 1) w) (old.steps - 1) u)) k.1 k.2

pub test_goes : (t : Given) (orders : List Order) (line : ℕ) (v : Placed) (then_at else_at : ℕ) (old : Run) (x : Value) (mid : Work) (new : Run) (b : Bool) → IsAt orders old.at (test line v then_at else_at) → 0 < old.steps → old.work.waits ≡ w.Nothing →
    Evaluated {B = Value} (λ v. v) (λ go s. valued line v s go) old.work (Ok x) mid → is_zero (int_of x) ≡ b → new.at ≡ (if b then else_at else then_at) → new.steps ≡ old.steps - 1 → new.work ≡ mid → Moved t orders old (Ok tt) new
test_goes t orders line v then_at else_at old x mid new b is lt waits h zero_is at steps work = (
  tests_so t orders line v then_at else_at old is lt (state_of old.work)
      ∙ h.0 (λ x u. branch (is_zero (int_of x)) (λ m w. goes t orders then_at (old.steps - 1) w) (λ m w. goes t orders else_at (old.steps - 1) w) (old.steps - 1) u)
      ∙ ap (λ (c : Bool). branch c (λ m w. goes t orders then_at (old.steps - 1) w) (λ m w. goes t orders else_at (old.steps - 1) w) (old.steps - 1) (state_of old.work)) zero_is
      ∙ way b
      ∙ ap (λ (i : ℕ). goes t orders i (old.steps - 1) (state_of old.work)) (sym at)
      ∙ ap (λ (k : ℕ). goes t orders new.at k (state_of old.work)) (sym steps)
      ∙ ap (λ (y : Work). goes t orders new.at new.steps (state_of y)) (sym (work ∙ h.1)),
  ap (λ (y : Work). y.waits) (work ∙ h.1) ∙ waits,
  omega (arith, steps, lt),
)
  where
    way : (c : Bool) → branch c (λ m w. goes t orders then_at (old.steps - 1) w) (λ m w. goes t orders else_at (old.steps - 1) w) (old.steps - 1) (state_of old.work) ≡ goes t orders (if c then else_at else then_at) (old.steps - 1) (state_of old.work)
    way true = refl
    way false = refl
