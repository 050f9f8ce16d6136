use Rattle.std.proofs.Common.{◌≡◌, ◌<◌, ◌++◌, ◌∷◌, [], ◌∙◌, sym, ap, refl, arith, length, List, ℕ, zero, suc, true, false, Bool, if◌then◌else◌, slice_index, inl, inr}
use Rattle.std.specs.Prelude.{◌==◌, nat_eq}
use Rattle.std.specs.declared.vec.Vec.{Vec}
use Rattle.std.specs.declared.alloc.Global.{Global}
use Rattle.std.proofs.lemmas.Bool.{cases_lt}
use Rattle.std.proofs.lemmas.Bool.Decides.{eqb_tells}
use Rattle.gs_graph.specs.Numbers.{has, rises, count_of, put_in}
use Rattle.gs_graph.specs.Edges.{after, all_below, ends, open_of, open_in, unless_done, done_at, is_due}
use Rattle.gs_graph.specs.Counted.{size_in, ended_in, waits_in}
use Rattle.gs_graph.proofs.Lists.{below_none}
use Rattle.gs_graph.proofs.Adding.{one_longer, after_pushed, done_pushed, index_front, index_last, past, count_other, count_here, below_ends, below_more, has_same, open_same, open_all, listed_more, not_there, rises_more}
use Rattle.gs_graph.proofs.counters.Counters.add.Goals as goal

-- no task waits behind the last
none_past : (next : List (Vec ℕ Global)) (m count : ℕ) → length next ≡ count → count_of m (after next count) ≡ 0
none_past next m count e = ap (count_of m) (past next count (omega arith))

unless_none : (b : Bool) (c : ℕ) → c ≡ 0 → unless_done b c ≡ 0
unless_none true c e = refl
unless_none false c e = e

-- what an earlier task waits for stays
earlier : (next : List (Vec ℕ Global)) (now : ℕ → List ℕ) (done done_now : ℕ → Bool) (ps : List ℕ) (n m : ℕ) → length next ≡ n → ((q : ℕ) → now q ≡ ends n q ps (after next q)) → ((q : ℕ) → done_now q ≡ done q) → m < n → open_of now done_now m (suc n) ≡ open_of (after next) done m n
earlier next now done done_now ps n m len e d lt =
    let counts : (q : ℕ) → count_of m (now q) ≡ count_of m (after next q) = λ q. ap (count_of m) (e q) ∙ count_other n q m ps (after next q) (λ s. absurd (omega arith)) in
    let same = open_same (after next) now done done_now m n counts d in
    let last = unless_none (done_now n) (count_of m (now n)) (counts n ∙ none_past next m n len) in omega arith

-- and the new task waits for its producers
latest : (next : List (Vec ℕ Global)) (now : ℕ → List ℕ) (done done_now : ℕ → Bool) (ps : List ℕ) (n : ℕ) → ((q : ℕ) → all_below n (after next q) ≡ true) → ((q : ℕ) → now q ≡ ends n q ps (after next q)) → ((q : ℕ) → done_now q ≡ done q) → all_below n ps ≡ true → open_of now done_now n (suc n) ≡ open_in done_now ps
latest next now done done_now ps n later e d below =
    let counts : (q : ℕ) → count_of n (now q) ≡ count_of q ps = λ q. ap (count_of n) (e q) ∙ (let h = count_here n q ps (after next q) in let z = below_none n n (after next q) (later q) (omega arith) in omega arith) in
    open_all now done_now n (suc n) ps (below_more n ps below) counts

open_in_same : (done done_now : ℕ → Bool) (ps : List ℕ) → ((q : ℕ) → done_now q ≡ done q) → open_in done_now ps ≡ open_in done ps
open_in_same done done_now [] d = refl
open_in_same done done_now (p ∷ ps) d = let r = open_in_same done done_now ps d in let h = ap (λ (b : Bool). unless_done b 1) (d p) in omega arith

waits : (next : List (Vec ℕ Global)) (ps : List ℕ) (n m q : ℕ) → all_below n (after next q) ≡ true → has m (ends n q ps (after next q)) ≡ (if n == m then has q ps else has m (after next q))
waits next ps n m q later = elim (eqb_tells n m) [
  | inl here ↦
      let c = count_here n q ps (after next q) in
      let z = below_none n n (after next q) later (omega arith) in
      ap (λ (i : ℕ). has i (ends n q ps (after next q))) (sym here.1) ∙ has_same n q (ends n q ps (after next q)) ps (omega arith) ∙ sym (ap (λ (t : Bool). if t then has q ps else has m (after next q)) here.0)
  | inr other ↦ has_same m m (ends n q ps (after next q)) (after next q) (count_other n q m ps (after next q) other.1) ∙ sym (ap (λ (t : Bool). if t then has q ps else has m (after next q)) other.0)
]

never_done : (ds : List Bool) (k : ℕ) → length ds ≡ k → done_at ds k ≡ false
never_done [] k e = refl
never_done (d ∷ ds) zero e = absurd (omega arith)
never_done (d ∷ ds) (suc k) e = never_done ds k (omega arith)

pub put_if-requires-clause-rising : goal.put_if-requires-clause-rising
put_if-requires-clause-rising c = (length c.args.self.now.missing.items, ap (rises 0 (length c.args.self.now.missing.items)) c.reserve-4.ensures.items ∙ c.args.self.now.rising)

pub push_last-requires : goal.push_last-requires
push_last-requires c =
    let a = c.in_ok-push_edges.ensures.capacity in
    let b = c.in_ok-reserve-3.ensures.ok in
    let d = c.in_ok-push_edges.ensures.len in
    let e = c.push_edges.new.next.ok.0 in
    let f = c.reserve-3.new.self.ok.0 in omega arith

pub invariant_of-self-2 : goal.invariant_of-self-2
unfolding size_in
invariant_of-self-2 c =
    let old = c.args.self.now in
    let ps = c.args.producers.now in
    let count = length old.missing.items in
    let n = c.len-n.result in
    let is_n : n ≡ count = c.len-n.ensures ∙ old.missing.ok.0 in
    let now : ℕ → List ℕ = after c.push_last.new.xs.items in
    let edges : (q : ℕ) → now q ≡ ends count q ps (after old.next.items q) = λ q.
    ap (λ (xs : List (Vec ℕ Global)). after xs q) c.push_last.ensures ∙ after_pushed c.push_edges.new.next.items c.new.result q c.new.ensures.items ∙ c.in_ok-push_edges.ensures.edges q
    ∙ ap (ends n q ps) (ap (λ (xs : List (Vec ℕ Global)). after xs q) c.reserve-3.ensures.items) ∙ ap (λ (i : ℕ). ends i q ps (after old.next.items q)) is_n in
    let missing : c.push_last-2.new.xs.items ≡ old.missing.items ++ c.open_count-open.result ∷ [] = c.push_last-2.ensures ∙ ap (λ (xs : List ℕ). xs ++ c.open_count-open.result ∷ []) c.reserve.ensures.items in
    let done : c.push_last-3.new.xs.items ≡ old.done.items ++ false ∷ [] = c.push_last-3.ensures ∙ ap (λ (xs : List Bool). xs ++ false ∷ []) c.reserve-2.ensures.items in
    let next : length c.push_last.new.xs.items ≡ suc (length c.push_edges.new.next.items) = ap length c.push_last.ensures ∙ one_longer c.push_edges.new.next.items c.new.result in
    let done_same : (q : ℕ) → done_at c.push_last-3.new.xs.items q ≡ done_at old.done.items q = λ q. ap (λ (ds : List Bool). done_at ds q) done ∙ done_pushed old.done.items q in
    let len : length c.push_last-2.new.xs.items ≡ suc count = ap length missing ∙ one_longer old.missing.items c.open_count-open.result in
    let open_is : c.open_count-open.result ≡ open_in (done_at old.done.items) ps = c.open_count-open.ensures ∙ ap (λ (ds : List Bool). open_in (done_at ds) ps) (c.deref.ensures.value ∙ c.reserve-2.ensures.items) in
    let ready : c.put_if.new.ready.items ≡ (if nat_eq c.open_count-open.result 0 then put_in count old.ready.items else old.ready.items) = c.put_if.ensures.items
    ∙ ap (λ (xs : List ℕ). if nat_eq c.open_count-open.result 0 then put_in n xs else xs) c.reserve-4.ensures.items ∙ ap (λ (i : ℕ). if nat_eq c.open_count-open.result 0 then put_in i old.ready.items else old.ready.items) is_n in
    let last : slice_index c.push_last-2.new.xs.items count ≡ c.open_count-open.result = ap (λ (xs : List ℕ). slice_index xs count) missing ∙ index_last old.missing.items c.open_count-open.result in
    let fresh : done_at old.done.items count ≡ false = never_done old.done.items count (let s = old.done_same in omega arith) in
    record {
      done_same = let a = ap length done ∙ one_longer old.done.items false in let b = old.done_same in omega arith;
      next_same = let a = c.in_ok-push_edges.ensures.len in let b = ap length c.reserve-3.ensures.items in let e = old.next_same in omega arith;
      later = λ p. ap (λ (i : ℕ). all_below i (now p)) len ∙ ap (all_below (suc count)) (edges p) ∙ below_ends count p ps (after old.next.items p) (below_more count (after old.next.items p) (old.later p));
      opened = λ m below. elim (cases_lt m count) [
        | inl before ↦
            let was = old.opened m before in
            let here = earlier old.next.items now (done_at old.done.items) (done_at c.push_last-3.new.xs.items) ps count m old.next_same edges done_same before in
            ap (λ (xs : List ℕ). slice_index xs m) missing ∙ index_front old.missing.items c.open_count-open.result m before ∙ was ∙ sym here ∙ ap (open_of now (done_at c.push_last-3.new.xs.items) m) (sym len)
        | inr above ↦
            let is_m : m ≡ count = omega arith in
            let here = latest old.next.items now (done_at old.done.items) (done_at c.push_last-3.new.xs.items) ps count old.later edges done_same c.requires in
            ap (slice_index c.push_last-2.new.xs.items) is_m ∙ last ∙ open_is ∙ sym (open_in_same (done_at old.done.items) (done_at c.push_last-3.new.xs.items) ps done_same) ∙ sym here ∙ ap (open_of now (done_at c.push_last-3.new.xs.items) count) (sym len) ∙ ap (λ (i : ℕ). open_of now (done_at c.push_last-3.new.xs.items) i (length c.push_last-2.new.xs.items)) (sym is_m)
      ];
      rising = ap (λ (i : ℕ). rises 0 i c.put_if.new.ready.items) len ∙ ap (rises 0 (suc count)) ready ∙ rises_more count old.ready.items (nat_eq c.open_count-open.result 0) old.rising (not_there count (done_at old.done.items) (slice_index old.missing.items) old.ready.items old.listed);
      listed = λ m. ap (has m) ready
          ∙ listed_more count (done_at old.done.items) (done_at c.push_last-3.new.xs.items) (slice_index old.missing.items) (slice_index c.push_last-2.new.xs.items) old.ready.items (nat_eq c.open_count-open.result 0) done_same fresh (λ i lt. ap (λ (xs : List ℕ). slice_index xs i) missing ∙ index_front old.missing.items c.open_count-open.result i lt) (ap (λ (i : ℕ). nat_eq i 0) (sym last)) old.listed m
          ∙ ap (λ (i : ℕ). is_due i (done_at c.push_last-3.new.xs.items) (slice_index c.push_last-2.new.xs.items) m) (sym len);
      room = let a = c.put_if.ensures.capacity in let b = c.in_ok-reserve-4.ensures.ok in omega arith;
    }

pub returns-clause-needs : goal.returns-clause-needs
unfolding size_in waits_in
returns-clause-needs c = λ m p.
    let old = c.args.self.now in
    let ps = c.args.producers.now in
    let count = length old.missing.items in
    let n = c.len-n.result in
    let is_n : n ≡ count = c.len-n.ensures ∙ old.missing.ok.0 in
    let edges : after c.push_last.new.xs.items p ≡ ends count p ps (after old.next.items p) =
    ap (λ (xs : List (Vec ℕ Global)). after xs p) c.push_last.ensures ∙ after_pushed c.push_edges.new.next.items c.new.result p c.new.ensures.items ∙ c.in_ok-push_edges.ensures.edges p
    ∙ ap (ends n p ps) (ap (λ (xs : List (Vec ℕ Global)). after xs p) c.reserve-3.ensures.items) ∙ ap (λ (i : ℕ). ends i p ps (after old.next.items p)) is_n in
    ap (has m) edges ∙ waits old.next.items ps count m p (old.later p)

pub returns-clause-fresh : goal.returns-clause-fresh
unfolding size_in ended_in
returns-clause-fresh c =
    let old = c.args.self.now in
    let count = length old.missing.items in
    let done : c.push_last-3.new.xs.items ≡ old.done.items ++ false ∷ [] = c.push_last-3.ensures ∙ ap (λ (xs : List Bool). xs ++ false ∷ []) c.reserve-2.ensures.items in
    ap (λ (ds : List Bool). done_at ds count) done ∙ done_pushed old.done.items count ∙ never_done old.done.items count (let s = old.done_same in omega arith)
