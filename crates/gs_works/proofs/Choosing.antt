-- What the queue picks is due.
use Rattle.std.proofs.Common.{◌≡◌, ◌<◌, ℕ, true, refl, sym, ap, ◌∙◌, subst, arith, Option, Some, None, IsSome, nat_lt}
use Rattle.std.specs.Prelude.{◌&&◌}
use Rattle.std.proofs.lemmas.Bool.Decides.{nat_tests}
use Rattle.gs_types.specs.declared.limits.TheConstants.{WORKER_FAILURES}
use Rattle.gs_types.specs.History.{History}
use Rattle.gs_policy.specs.Cost.{Cost}
use Rattle.gs_broker.specs.Choice.{before, pair_of}
use Rattle.gs_broker.specs.declared.choice.Pair.{Pair}
use Rattle.gs_broker.specs.declared.choice.Ready.{Ready}
use Rattle.gs_queue.specs.Queue.{listed_of, slots_of, takes_of, busy_of, lapses_of, usable_of}
use Rattle.gs_queue.specs.declared.queue.Queue.{Queue}
use Rattle.gs_talk.specs.Seq.{Task}
use Rattle.gs_history.specs.Setup.{Setup}
use Rattle.gs_history.specs.Frontier.{IsFrontier}
use Rattle.gs_history.specs.Ready.{IsReady, CanTake, pair_in, input_bytes}
use Rattle.gs_history.proofs.Ending.{one_task}
use Rattle.gs_works.specs.Works.{Works, IsEntry, IsReadyAs, Lists}
use Rattle.gs_works.specs.Laws.{LeastStartIsDue, NoStartIsQuiet}
use Rattle.gs_works.proofs.Listing.{ready_called}

-- ---- the entry of a ready task

pub entry_of : (s : Setup) (h : History) (n : ℕ) (t : Task) (r : Ready) → IsReady s h n t → IsReadyAs s h n r → IsEntry r t
entry_of s h n t r ready is =
    let same : is.task ≡ t = one_task s.run n is.task t (record { moment = is.ready.opened.moment; is = is.ready.opened.called }) (record { moment = ready.opened.moment; is = ready.opened.called }) in
    subst (λ (u : Task). IsEntry r u) same is.entry

pub some_of : {A : Type 0} (o : Option A) → IsSome o → (x : A) × (o ≡ Some x)
some_of None is = absurd cc
some_of (Some x) is = (x, refl)

-- at the frontier each ready task is listed, with its entry
pub ready_is_listed : (s : Setup) (k : ℕ) (h : History) (q : Queue) (n : ℕ) (t : Task) → Lists q s k h → IsFrontier s h k → IsReady s h n t → (r : Ready) × (listed_of q n ≡ Some r) × IsEntry r t
ready_is_listed s k h q n t lists frontier ready =
    let there = some_of (listed_of q n) (lists.full n t (ready_called s k h n t frontier ready) ready) in
    (there.0, there.1, entry_of s h n t there.0 ready (lists.listed n there.0 there.1))

-- ---- workers

usable_is : (a b c : ℕ) → (nat_lt a b && nat_lt c WORKER_FAILURES) ≡ true → (a < b) × (c < WORKER_FAILURES)
usable_is a b c e = (grind (arith, nat_tests), grind (arith, nat_tests))

is_usable : (a b c : ℕ) → a < b → c < WORKER_FAILURES → (nat_lt a b && nat_lt c WORKER_FAILURES) ≡ true
is_usable a b c x y = grind (arith, nat_tests)

can_take : (q : Queue) (s : Setup) (h : History) (op w : ℕ) → Works q s h → takes_of q w op ≡ true → usable_of q w ≡ true → CanTake s h op w
can_take q s h op w works takes usable =
    let may : s.takes w op ≡ true = sym (works.takes w op) ∙ takes in
    let u = usable_is (busy_of q w) (slots_of q w) (lapses_of q w) usable in
    let b = works.loads w in
    let c = works.slots w in
    let l = works.lapses w op may in
    let x = u.0 in
    let y = u.1 in record { takes = may; free = omega arith; usable = omega arith }

takes_can : (q : Queue) (s : Setup) (h : History) (op w : ℕ) → Works q s h → CanTake s h op w → (takes_of q w op ≡ true) × (usable_of q w ≡ true)
takes_can q s h op w works can =
    let b = works.loads w in
    let c = works.slots w in
    let l = works.lapses w op can.takes in
    let x = can.free in
    let y = can.usable in (works.takes w op ∙ can.takes, is_usable (busy_of q w) (slots_of q w) (lapses_of q w) (omega arith) (omega arith))

-- ---- the choice

same_pair : (s : Setup) (cost : Cost) (r : Ready) (n u : ℕ) (t : Task) → cost ≡ s.cost → r.n ≡ n → IsEntry r t → pair_of cost u r ≡ pair_in s n t u
same_pair s cost r n u t costs number entry =
    let P : ℕ → ℕ → Pair = λ i j. record { cost = i; n = j; worker = u } in
    ap (λ (c : Cost). P (c r.op u r.bytes) r.n) costs
    ∙ ap (λ (i : ℕ). P (s.cost i u r.bytes) r.n) entry.op
    ∙ ap (λ (i : ℕ). P (s.cost t.op u i) r.n) entry.bytes
    ∙ ap (λ (i : ℕ). P (s.cost t.op u (input_bytes t.args)) i) number

pub least_start_is_due : LeastStartIsDue
least_start_is_due s k h q cost n w costs all works lists frontier losses is =
    let it = lists.listed n is.task is.listed in
    let t = it.task in
    let here = same_pair s cost is.task n w t costs (all n is.task is.listed).number it.entry in (
      t,
      record {
        ready = it.ready;
        can = can_take q s h t.op w works (ap (takes_of q w) (sym it.entry.op) ∙ is.taken) is.usable;
        least = λ m u other ready can.
            let there = ready_is_listed s k h q m other lists frontier ready in
            let may = takes_can q s h other.op u works can in
            let no_less = is.least m u there.0 there.1 (ap (takes_of q u) there.2.op ∙ may.0) may.1 in
            ap (λ (p : Pair). before p (pair_in s n t w)) (sym (same_pair s cost there.0 m u other costs (all m there.0 there.1).number there.2))
            ∙ ap (before (pair_of cost u there.0)) (sym here) ∙ no_less;
        losses = losses;
      },
    )

pub no_start_is_quiet : NoStartIsQuiet
no_start_is_quiet s k h q cost works lists frontier none losses n w t ready can =
    let there = ready_is_listed s k h q n t lists frontier ready in
    let may = takes_can q s h t.op w works can in
    none n w there.0 there.1 (ap (takes_of q w) there.2.op ∙ may.0) may.1
