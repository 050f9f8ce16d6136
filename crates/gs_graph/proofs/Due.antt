-- Which tasks are due, from a graph's counters.
use Rattle.std.proofs.Common.{◌-◌, zero, suc, [], ◌∷◌, ◌≡◌, ◌<◌, ◌≤◌, ◌∙◌, sym, refl, arith, length, List, ℕ, true, false, Bool, slice_index, inl, inr, ap, Option, Some, None, IfSome}
use Rattle.std.specs.List.{slice_get}
use Rattle.std.specs.Prelude.{not, ◌&&◌, nat_eq, nat_lt}
use Rattle.std.specs.declared.vec.Vec.{Vec}
use Rattle.std.specs.declared.alloc.Global.{Global}
use Rattle.std.proofs.lemmas.Bool.{cases_lt}
use Rattle.std.proofs.lemmas.Bool.Decides.{nat_tests}
use Rattle.gs_graph.specs.declared.counters.Counters.{Counters}
use Rattle.gs_graph.specs.declared.graph.Graph.{Graph}
use Rattle.gs_graph.specs.Numbers.{has}
use Rattle.gs_graph.specs.Edges.{after, done_at, is_due, open_of, all_below}
use Rattle.gs_graph.specs.Counted.{size_in, ended_in, waits_in, due_in, after_in, IsDue, ListsDue}
use Rattle.gs_graph.specs.Graph.{count_in, done_in, needs_in, ready_in, followers_in, ListsReady, ListsFollowers}
use Rattle.gs_graph.proofs.Lists.{both, and_true, is_lt, lt_is}
use Rattle.gs_graph.proofs.Opened.{none_open, all_done}
use Rattle.gs_graph.proofs.Numbering.{ready_list, has_suc, has_zero, none_suc}

not_true : (b : Bool) → not b ≡ true → b ≡ false
not_true true e = absurd (cc)
not_true false e = refl

true_not : (b : Bool) → b ≡ false → not b ≡ true
true_not true e = absurd (cc)
true_not false e = refl

is_zero : (n : ℕ) → nat_eq n 0 ≡ true → n ≡ 0
is_zero n e = grind (arith, nat_tests)

zero_is : (n : ℕ) → n ≡ 0 → nat_eq n 0 ≡ true
zero_is n e = grind (arith, nat_tests)

-- nobody waits for a task past the last
past : (next : List (Vec ℕ Global)) (p m : ℕ) → length next ≤ p → has m (after next p) ≡ false
past [] p m le = refl
past (v ∷ next) zero m le = absurd (omega arith)
past (v ∷ next) (suc p) m le = past next p m (omega arith)

due_ready : (next : List (Vec ℕ Global)) (done : ℕ → Bool) (missing : ℕ → ℕ) (count m : ℕ) → length next ≡ count → (m < count → missing m ≡ open_of (after next) done m count) → is_due count done missing m ≡ true → IsDue (λ i p. has i (after next p)) done count m
due_ready next done missing count m len opened e =
    let a = both (nat_lt m count) (not (done m) && nat_eq (missing m) 0) e in
    let b = both (not (done m)) (nat_eq (missing m) 0) a.1 in
    let lt = is_lt m count a.0 in
    let none : open_of (after next) done m count ≡ 0 = sym (opened lt) ∙ is_zero (missing m) b.1 in (
      lt,
      not_true (done m) b.0,
      λ p is. elim (cases_lt p count) [
        | inl below ↦ none_open (after next) done m count none p below is
        | inr above ↦ let isnt = past next p m (omega arith) in absurd (cc)
      ],
    )

ready_due : (next : List (Vec ℕ Global)) (done : ℕ → Bool) (missing : ℕ → ℕ) (count m : ℕ) → (m < count → missing m ≡ open_of (after next) done m count) → IsDue (λ i p. has i (after next p)) done count m → is_due count done missing m ≡ true
ready_due next done missing count m opened ready =
    let none = all_done (after next) done m count ready.2 in
    and_true (nat_lt m count) (not (done m) && nat_eq (missing m) 0) (lt_is m count ready.0) (and_true (not (done m)) (nat_eq (missing m) 0) (true_not (done m) ready.1) (zero_is (missing m) (opened ready.0 ∙ none)))

-- the counters list exactly what is due
pub lists_due : (g : Counters) → ListsDue g
unfolding size_in ended_in waits_in due_in
lists_due g =
    let count = length g.missing.items in
    record {
      rising = g.rising;
      sound = λ m is. due_ready g.next.items (done_at g.done.items) (slice_index g.missing.items) count m (g.next_same) (g.opened m) (sym (g.listed m) ∙ is);
      full = λ m ready. g.listed m ∙ ready_due g.next.items (done_at g.done.items) (slice_index g.missing.items) count m (g.opened m) ready;
    }

-- and so does the graph
pub lists_ready : (g : Graph) → ListsReady g
unfolding count_in done_in needs_in ready_in
lists_ready g = ready_list (waits_in g.counters) (needs_in g) (ended_in g.counters) (done_in g) (size_in g.counters) (due_in g.counters) (λ m. refl) (λ m. refl) (λ m p. refl) (lists_due g.counters)

-- whether a task is ready, by its place
ready_at_place : (g : Graph) (m : ℕ) → has (suc m) (ready_in g) ≡ has m (due_in g.counters)
unfolding ready_in
ready_at_place g m = has_suc m (due_in g.counters)

pub no_task_ready : (g : Graph) → has 0 (ready_in g) ≡ false
unfolding ready_in
no_task_ready g = has_zero (due_in g.counters)

-- the followers of a task are those that have it as a producer
pub lists_followers : (g : Graph) (n : ℕ) → ((m p : ℕ) → has m (after_in g.counters p) ≡ waits_in g.counters m p) → ListsFollowers g n
unfolding followers_in needs_in
lists_followers g zero tied zero = refl
lists_followers g zero tied (suc m) = refl
lists_followers g (suc p) tied zero = has_zero (after_in g.counters p)
lists_followers g (suc p) tied (suc m) = has_suc m (after_in g.counters p) ∙ tied m p

pub after_tied : (g : Counters) (m p : ℕ) → has m (after_in g p) ≡ waits_in g m p
unfolding after_in waits_in
after_tied g m p = refl

pub none_followers : (g : Graph) (n i : ℕ) → slice_get (after_in g.counters (n - 1)) i ≡ None → slice_get (followers_in g n) i ≡ None
unfolding followers_in
none_followers g zero i e = refl
none_followers g (suc p) i e =
    let same : suc p - 1 ≡ p = omega arith in
    none_suc (after_in g.counters p) i (sym (ap (λ q. slice_get (after_in g.counters q) i) same) ∙ e)

-- whether a task is ready, by its number
pub ready_by : (g : Graph) (n : ℕ) (b : Bool) → 0 < n → b ≡ has (n - 1) (due_in g.counters) → b ≡ has n (ready_in g)
ready_by g zero b some e = absurd (omega arith)
ready_by g (suc m) b some e =
    let same : suc m - 1 ≡ m = omega arith in e ∙ ap (λ k. has k (due_in g.counters)) same ∙ sym (ready_at_place g m)

-- each number of the list is below n
below_at : (n : ℕ) (xs : List ℕ) (i m : ℕ) → all_below n xs ≡ true → slice_get xs i ≡ Some m → m < n
below_at n [] i m all at = absurd (cc)
below_at n (x ∷ xs) zero m all at = let p = both (nat_lt x n) (all_below n xs) all in let lt = is_lt x n p.0 in let same : x ≡ m = cc in omega arith
below_at n (x ∷ xs) (suc i) m all at = let p = both (nat_lt x n) (all_below n xs) all in below_at n xs i m p.1 at

pub each_below : (n : ℕ) (xs : List ℕ) (i : ℕ) (o : Option ℕ) → all_below n xs ≡ true → o ≡ slice_get xs i → IfSome o (λ m. m < n)
each_below n xs i None all e = tt
each_below n xs i (Some m) all e = below_at n xs i m all (sym e)
