use Rattle.std.proofs.Common.{◌≡◌, ◌<◌, ◌∙◌, sym, ap, refl, arith, length, List, ℕ, true, false, Bool, if◌then◌else◌, slice_index, inl, inr, get_or}
use Rattle.std.specs.Prelude.{not, ◌&&◌, ◌==◌, nat_eq, nat_lt}
use Rattle.std.specs.declared.vec.Vec.{Vec}
use Rattle.std.specs.declared.alloc.Global.{Global}
use Rattle.std.proofs.lemmas.Option.{slice_get_read}
use Rattle.std.proofs.lemmas.Bool.{cases_lt}
use Rattle.std.proofs.lemmas.Bool.Decides.{eqb_tells}
use Rattle.gs_graph.specs.Numbers.{has, rises, without, count_of}
use Rattle.gs_graph.specs.Edges.{after, all_below, items_of, flag, done_at, is_due, open_of}
use Rattle.gs_graph.specs.Counted.{size_in}
use Rattle.gs_graph.proofs.Lists.{has_without, rises_without, below_none}
use Rattle.gs_graph.proofs.Opened.{open_less}
use Rattle.gs_graph.proofs.counters.Counters.finish.Goals as goal

after_item : (next : List (Vec ℕ Global)) (n : ℕ) (v : Vec ℕ Global) → n < length next → v ≡ get_or next n v → after next n ≡ v.items
after_item next n v lt is = ap items_of (slice_get_read next (length next) n v refl lt is)

done_item : (done : List Bool) (n : ℕ) (b : Bool) → n < length done → b ≡ get_or done n b → done_at done n ≡ b
done_item done n b lt is = ap flag (slice_get_read done (length done) n b refl lt is)

never : (a b : Bool) → (a && (false && b)) ≡ false
never true b = refl
never false b = refl

-- the list without the finished task
taken : (count : ℕ) (done now : ℕ → Bool) (missing : ℕ → ℕ) (n : ℕ) (xs : List ℕ) → ((m : ℕ) → now m ≡ (if n == m then true else done m)) → ((m : ℕ) → has m xs ≡ is_due count done missing m) → (m : ℕ) → has m (without n xs) ≡ is_due count now missing m
taken count done now missing n xs e listed m = has_without m n xs ∙ elim (eqb_tells n m) [
  | inl same ↦ ap (λ (t : Bool). if t then false else has m xs) same.0 ∙ sym (never (nat_lt m count) (nat_eq (missing m) 0)) ∙ sym (ap (λ (b : Bool). nat_lt m count && (not b && nat_eq (missing m) 0)) (e m ∙ ap (λ (t : Bool). if t then true else done m) same.0))
  | inr other ↦ ap (λ (t : Bool). if t then false else has m xs) other.0 ∙ listed m ∙ sym (ap (λ (b : Bool). nat_lt m count && (not b && nat_eq (missing m) 0)) (e m ∙ ap (λ (t : Bool). if t then true else done m) other.0))
]

pub take_out-requires : goal.take_out-requires
take_out-requires c = (length c.args.self.now.missing.items, c.args.self.now.rising)

pub lower_all-requires-clause-enough : goal.lower_all-requires-clause-enough
unfolding size_in
lower_all-requires-clause-enough c = λ m.
    let old = c.args.self.now in
    let n = c.args.n in
    let count = length old.missing.items in
    let lt : n < count = c.requires in
    let next_n : c.deref-2.result.now ≡ after old.next.items n = c.deref-2.ensures.value ∙ sym (after_item old.next.items n c.index-2.result.now (let s = old.next_same in omega arith) c.index-2.ensures) in
    let not_yet : done_at old.done.items n ≡ false = done_item old.done.items n c.index.result.now (let s = old.done_same in omega arith) c.index.ensures ∙ c.if-index.false in
    let same : count_of m c.deref-2.result.now ≡ count_of m (after old.next.items n) = ap (count_of m) next_n in
    elim (cases_lt m count) [
      | inl below ↦ let was = old.opened m below in let less = open_less (after old.next.items) (done_at old.done.items) (done_at c.set_done.new.done.items) m n count c.set_done.ensures.done not_yet lt in omega arith
      | inr above ↦ let none = below_none count m (after old.next.items n) (old.later n) above in omega arith
    ]

pub lower_all-requires-clause-rising : goal.lower_all-requires-clause-rising
lower_all-requires-clause-rising c =
    let old = c.args.self.now in
    ap (rises 0 (length old.missing.items)) c.take_out.ensures.items ∙ rises_without 0 (length old.missing.items) c.args.n old.ready.items old.rising

pub lower_all-requires-clause-listed : goal.lower_all-requires-clause-listed
lower_all-requires-clause-listed c = λ m.
    let old = c.args.self.now in
    let count = length old.missing.items in
    ap (has m) c.take_out.ensures.items
    ∙ taken count (done_at old.done.items) (done_at c.set_done.new.done.items) (slice_index old.missing.items) c.args.n old.ready.items c.set_done.ensures.done old.listed m
    ∙ ap (λ (ds : List Bool). is_due count (done_at ds) (slice_index old.missing.items) m) (sym c.deref.ensures.value)

pub invariant_of-self-2 : goal.invariant_of-self-2
unfolding size_in
invariant_of-self-2 c =
    let old = c.args.self.now in
    let n = c.args.n in
    let count = length old.missing.items in
    let lt : n < count = c.requires in
    let len : length c.lower_all.new.missing.items ≡ count = c.lower_all.ensures.len in
    let next_n : c.deref-2.result.now ≡ after old.next.items n = c.deref-2.ensures.value ∙ sym (after_item old.next.items n c.index-2.result.now (let s = old.next_same in omega arith) c.index-2.ensures) in
    let not_yet : done_at old.done.items n ≡ false = done_item old.done.items n c.index.result.now (let s = old.done_same in omega arith) c.index.ensures ∙ c.if-index.false in
    record {
      done_same = let a = c.set_done.ensures.len in let b = old.done_same in omega arith;
      next_same = let b = old.next_same in omega arith;
      later = λ p. ap (λ (i : ℕ). all_below i (after old.next.items p)) len ∙ old.later p;
      opened = λ m below.
          let was = old.opened m (omega arith) in
          let less = open_less (after old.next.items) (done_at old.done.items) (done_at c.set_done.new.done.items) m n count c.set_done.ensures.done not_yet lt in
          let fewer = c.lower_all.ensures.counts m in
          let same : count_of m c.deref-2.result.now ≡ count_of m (after old.next.items n) = ap (count_of m) next_n in
          let here : slice_index c.lower_all.new.missing.items m ≡ open_of (after old.next.items) (done_at c.set_done.new.done.items) m count = omega arith in
          here ∙ ap (open_of (after old.next.items) (done_at c.set_done.new.done.items) m) (sym len);
      rising = ap (λ (i : ℕ). rises 0 i c.lower_all.new.ready.items) len ∙ c.lower_all.ensures.rising;
      listed = λ m. c.lower_all.ensures.listed m ∙ ap (λ (ds : List Bool). is_due count (done_at ds) (slice_index c.lower_all.new.missing.items) m) c.deref.ensures.value ∙ ap (λ (i : ℕ). is_due i (done_at c.set_done.new.done.items) (slice_index c.lower_all.new.missing.items) m) (sym len);
      room = let r = c.lower_all.ensures.room in omega arith;
    }
