use Rattle.std.proofs.Common.{◌≡◌, ◌∙◌, ap, arith, length, List, ℕ, true, false, Bool, if◌then◌else◌, slice_index}
use Rattle.std.specs.Prelude.{not, ◌&&◌, nat_eq}
use Rattle.gs_graph.specs.Numbers.{has, rises, put_in}
use Rattle.gs_graph.specs.Edges.{done_at}
use Rattle.gs_graph.proofs.Lists.{rises_length, rises_put, put_length}
use Rattle.gs_graph.proofs.Opened.{lower_listed, not_listed}
use Rattle.gs_graph.proofs.lower.lower.Goals as goal

pub put_if-requires-clause-rising : goal.put_if-requires-clause-rising
put_if-requires-clause-rising c = (length c.args.missing.now.items, c.requires.rising)

pub put_if-requires-clause-room : goal.put_if-requires-clause-room
put_if-requires-clause-room c = λ due.
    let count = length c.args.missing.now.items in
    let s = c.args.s in
    let xs = c.args.ready.now.items in
    let apart = not_listed count (done_at c.args.done.now) (slice_index c.args.missing.now.items) s xs c.requires.some c.requires.listed in
    let wide = rises_put 0 count s xs c.requires.rising (omega arith) c.requires.within apart in
    let few = rises_length 0 count (put_in s xs) wide (omega arith) in
    let more = put_length xs s in
    let room = c.requires.room in omega arith

pub returns-clause-rising : goal.returns-clause-rising
returns-clause-rising c =
    let count = length c.args.missing.now.items in
    let s = c.args.s in
    let xs = c.args.ready.now.items in
    let apart = not_listed count (done_at c.args.done.now) (slice_index c.args.missing.now.items) s xs c.requires.some c.requires.listed in
    ap (rises 0 count) c.put_if.ensures.items ∙ either count xs s c.is_free.result (rises_put 0 count s xs c.requires.rising (omega arith) c.requires.within apart) c.requires.rising
  where
    either : (count : ℕ) (xs : List ℕ) (s : ℕ) (b : Bool) → rises 0 count (put_in s xs) ≡ true → rises 0 count xs ≡ true → rises 0 count (if b then put_in s xs else xs) ≡ true
    either count xs s true x y = x
    either count xs s false x y = y

pub returns-clause-listed : goal.returns-clause-listed
returns-clause-listed c = λ m.
    let count = length c.args.missing.now.items in
    let due : c.is_free.result ≡ (not (done_at c.args.done.now c.args.s) && nat_eq (slice_index c.take_one.new.missing.items c.args.s) 0) = c.is_free.ensures ∙ ap (λ (xs : List ℕ). not (done_at c.args.done.now c.args.s) && nat_eq (slice_index xs c.args.s) 0) c.deref.ensures.value in
    ap (has m) c.put_if.ensures.items
    ∙ lower_listed count (done_at c.args.done.now) (slice_index c.args.missing.now.items) (slice_index c.take_one.new.missing.items) c.args.s c.args.ready.now.items c.is_free.result c.requires.within c.requires.some c.take_one.ensures.counts c.requires.listed due m
