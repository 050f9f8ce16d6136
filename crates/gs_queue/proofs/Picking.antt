-- What is chosen among the fronts is chosen among all listed tasks.
use Rattle.std.proofs.Common.{◌+◌, length, ◌≡◌, ◌<◌, ◌≤◌, ℕ, Bool, true, false, refl, ap, sym, subst, ◌∙◌, List, Option, Some, None, is_some, arith, nat_lt}
use Rattle.std.specs.Prelude.{◌&&◌}
use Rattle.std.specs.Option.{IfSome, IsSome}
use Rattle.std.proofs.lemmas.Bool.Decides.{nat_tests}
use Rattle.gs_policy.specs.Cost.{Cost}
use Rattle.gs_broker.specs.Choice.{before, pair_of, IsChosen, AreInRange}
use Rattle.gs_broker.specs.Stranded.{IsLeastStranded}
use Rattle.gs_broker.specs.declared.choice.Ready.{Ready}
use Rattle.gs_broker.specs.declared.choice.Pair.{Pair}
use Rattle.gs_queue.specs.Fronts.{HasFront, StandForAll}
use Rattle.gs_queue.specs.Views.{size_in, task_in}
use Rattle.gs_queue.specs.Queue.{tasks_of, listed_of, job_of, busy_of, slots_of, takes_of, usable_of, AreListed, MayStart, IsLeastStart, IsStrandedIn, IsNoWorker}
use Rattle.gs_queue.specs.declared.listed.Listed.{Listed}
use Rattle.gs_queue.specs.declared.queue.Queue.{Queue}
use Rattle.gs_queue.proofs.Leading.{task_within, past_last}

is_none : (o : Option ℕ) → is_some o ≡ false → o ≡ None
is_none None e = refl
is_none (Some x) e = absurd (cc)

is_free : (busy slots : ℕ) (b : Bool) → (nat_lt busy slots && b) ≡ true → busy < slots
is_free busy slots b e = here (nat_lt busy slots) refl e
  where
    here : (t : Bool) → nat_lt busy slots ≡ t → (t && b) ≡ true → busy < slots
    here true is e = grind (arith, nat_tests)
    here false is e = absurd (cc)

some_is : (o : Option Ready) (r : Ready) → o ≡ Some r → IsSome o
some_is None r e = absurd (cc)
some_is (Some x) r e = refl

pub are_listed : (q : Queue) → AreListed q
unfolding tasks_of listed_of job_of size_in task_in
are_listed q = λ n r e. record {
  number = q.listed.numbers n r e;
  numbered = task_within q.listed.tasks.items n r e;
  idle = is_none (job_of q n) (q.idle n r e);
  range = q.range n r e;
}

-- past the last number no task is listed
pub next_unlisted : (l : Listed) → task_in l (size_in l + 1) ≡ None
unfolding size_in task_in
next_unlisted l = past_last l.tasks.items (length l.tasks.items + 1) (omega arith)

-- a later task of the same cost is no better
no_better : (c n m u : ℕ) (b : Pair) → n ≤ m → before (record { cost = c; n = n; worker = u }) b ≡ false → before (record { cost = c; n = m; worker = u }) b ≡ false
no_better c n m u b le e = grind (arith, nat_tests)

same_pair : (cost : Cost) (u : ℕ) (f r : Ready) → f.op ≡ r.op → f.bytes ≡ r.bytes → cost f.op u f.bytes ≡ cost r.op u r.bytes
same_pair cost u f r op bytes = ap (λ (o : ℕ). cost o u f.bytes) op ∙ ap (cost r.op u) bytes

pub picked : (q : Queue) (cost : Cost) (fs : List Ready) (o : Option (ℕ × ℕ)) → AreListed q → StandForAll (listed_of q) fs → IsChosen cost (takes_of q) (usable_of q) fs o → IsLeastStart cost q o
picked q cost fs None all stand none = λ n w r at takes usable. let h = stand.first n r at in none h.place w h.front h.stands (ap (takes_of q w) h.op ∙ takes) usable
picked q cost fs (Some p) all stand is = record {
  task = is.task;
  listed = ap (listed_of q) (sym is.number) ∙ stand.listed is.place is.task is.listed;
  taken = is.taken;
  usable = is.free;
  least = λ m u r at takes usable. least m u r at takes usable (stand.first m r at);
}
  where
    least : (m u : ℕ) (r : Ready) → listed_of q m ≡ Some r → takes_of q u r.op ≡ true → usable_of q u ≡ true → HasFront fs m r → before (pair_of cost u r) (pair_of cost p.1 is.task) ≡ false
    least m u r at takes usable h =
        let first = h.first in
        let number = (all m r at).number in
        let of_front = is.least h.place u h.front h.stands (ap (takes_of q u) h.op ∙ takes) usable in
        no_better (cost r.op u r.bytes) h.front.n r.n u (pair_of cost p.1 is.task) (omega arith)
        (subst (λ (c : ℕ). before (record { cost = c; n = h.front.n; worker = u }) (pair_of cost p.1 is.task) ≡ false) (same_pair cost u h.front r h.op h.bytes) of_front)

pub may_start : (q : Queue) (cost : Cost) (o : Option (ℕ × ℕ)) → AreListed q → IsLeastStart cost q o → IfSome o (λ s. MayStart s.0 s.1 q)
may_start q cost None all is = tt
may_start q cost (Some p) all is =
    let l = all p.0 is.task is.listed in
    record {
      numbered = l.numbered;
      listed = some_is (listed_of q p.0) is.task is.listed;
      idle = l.idle;
      free = is_free (busy_of q p.1) (slots_of q p.1) _ is.usable;
    }

pub stranded : (q : Queue) (fs : List Ready) (o : Option ℕ) → StandForAll (listed_of q) fs → IsLeastStranded (IsStrandedIn q) fs o → IsNoWorker q o
stranded q fs None stand none = λ n r at is. let h = stand.first n r at in none h.place h.front h.stands (subst (IsStrandedIn q) (sym h.op) is)
stranded q fs (Some n) stand is = record {
  task = is.0.1;
  listed = ap (listed_of q) (sym is.0.3) ∙ stand.listed is.0.0 is.0.1 is.0.2;
  stranded = is.0.4;
  least = λ m r at lost. let h = stand.first m r at in let le = is.1 h.place h.front h.stands (subst (IsStrandedIn q) (sym h.op) lost) in let first = h.first in omega arith;
}

-- the fronts are in the range
pub in_range : (q : Queue) (fs : List Ready) → AreListed q → StandForAll (listed_of q) fs → AreInRange fs
in_range q fs all stand = λ i r at. (all r.n r (stand.listed i r at)).range
