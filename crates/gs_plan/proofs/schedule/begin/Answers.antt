use Rattle.std.proofs.Common.{◌≡◌, ℕ, List, length, get_or, ap, sym, ◌∙◌, arith}
use Rattle.std.proofs.lemmas.List.{length-replicate, get_or-replicate}
use Rattle.gs_plan.specs.Ties.{Ordered}
use Rattle.gs_plan.proofs.Beginning.{all_zero, waiting_begins, run_begins, placed_begins}
use Rattle.gs_plan.proofs.schedule.begin.Goals as goal

pub pass-requires-clause-waiting : goal.pass-requires-clause-waiting
pass-requires-clause-waiting c =
    let t = c.args.ties.now in
    waiting_begins c.args.tasks t.befores.items t.afters.items t.needed.items t.waits.items c.in_ok-ends.ends.items c.in_ok-left.left.items c.in_ok-ready.ready.items c.in_ok-keys.keys
    (λ k. ap (λ (xs : List ℕ). get_or xs k 0) c.in_ok-ends.ensures ∙ all_zero c.args.tasks k)
    (λ k. ap (λ (xs : List ℕ). get_or xs k 0) c.in_ok-ready.ensures ∙ all_zero c.args.tasks k)
    c.in_ok-left.ensures.length
    (ap (λ (xs : List ℕ). length xs) c.in_ok-ready.ensures ∙ length-replicate {A = ℕ} c.args.tasks 0)
    (ap (λ (xs : List ℕ). length xs) c.in_ok-keys.ensures ∙ length-replicate {A = ℕ} 16384 18446744073709551615)
    (omega arith)
    (λ k l. ap (λ (xs : List ℕ). get_or xs k 0) c.in_ok-keys.ensures ∙ get_or-replicate {A = ℕ} 16384 k 18446744073709551615 0 l)
    c.in_ok-left.ensures.counts

pub returns : goal.returns
returns c = λ longs tasks.
    let keeps = c.pass.ensures.keeps in
    let n = c.args.tasks in
    let size = λ (xs : List ℕ) (e : length xs ≡ n). e ∙ sym tasks in
    let none = λ (k : ℕ). ap (λ (xs : List ℕ). get_or xs k 0) c.in_ok-ends.ensures ∙ all_zero n k in
    record {
      run = rw (keeps.starts, keeps.ends, keeps.slots, keeps.free, keeps.clock)
          (run_begins c.args.slots longs (Ordered c.args.ties.now) c.in_ok-starts.starts.items c.in_ok-ends.ends.items c.in_ok-lanes.lanes.items c.in_ok-free.free none
          (size c.in_ok-starts.starts.items (ap (λ (xs : List ℕ). length xs) c.in_ok-starts.ensures ∙ length-replicate {A = ℕ} n 0))
          (size c.in_ok-ends.ends.items (ap (λ (xs : List ℕ). length xs) c.in_ok-ends.ensures ∙ length-replicate {A = ℕ} n 0))
          (size c.in_ok-lanes.lanes.items (ap (λ (xs : List ℕ). length xs) c.in_ok-lanes.ensures ∙ length-replicate {A = ℕ} n 0))
          c.in_ok-free.ensures.places c.in_ok-free.ensures.inside c.in_ok-free.ensures.outside);
      waiting = rw tasks c.pass.ensures.waiting;
      gate = rw tasks c.pass.ensures.gate;
      held = rw tasks c.pass.ensures.held;
      placed = rw (keeps.ends, keeps.free, keeps.clock) (placed_begins c.args.slots (length longs) c.in_ok-ends.ends.items c.in_ok-free.free none c.in_ok-free.ensures.inside);
    }
