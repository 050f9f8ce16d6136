use Rattle.std.proofs.Common.{◌≡◌, ℕ, sym, ◌∙◌, subst, arith, Some, None, inl, inr}
use Rattle.std.proofs.lemmas.Bool.{cases_lt}
use Rattle.std.specs.List.{slice_get}
use Rattle.gs_tables.specs.Table.{followers_of}
use Rattle.gs_core.specs.Freed.{IsListedIfOpen}
use Rattle.gs_core.proofs.Freed.{lists_then, listed_before, listed_now, before_end}
use Rattle.gs_core.proofs.starting.list_freed.Goals as goal

pub returns-in_default-clause-full : goal.returns-in_default-clause-full
returns-in_default-clause-full c s k h m task holds at depends opened numbered idle =
    let there = c.follower.ensures.reads s k h holds m task at depends in
    let end : slice_get (followers_of c.args.tables.now c.args.n) c.loop-i.i ≡ None = sym c.follower.ensures.item ∙ c.in_default.is in
    let lt = before_end (followers_of c.args.tables.now c.args.n) c.loop-i.i there.0 m end there.1 in
    c.loop-i.invariant.full there.0 m lt there.1 s k h task holds at opened numbered idle

pub loop-i-preserved : goal.loop-i-preserved
loop-i-preserved c =
    let t = c.args.tables.now in
    let a = c.args.queue.now in
    let b = c.loop-i.queue in
    let d = c.list_open.new.queue in
    let is = c.loop-i.invariant in
    let now = c.list_open.ensures in
    record {
      more = lists_then t a b d is.more now.more;
      full = λ j m lt e. elim (cases_lt j c.loop-i.i) [
        | inl below ↦ listed_before t a b d m now.more (is.full j m below e)
        | inr not ↦
            let last : c.loop-i.i ≡ j = omega arith in
            let at = subst (λ (i : ℕ). slice_get (followers_of t c.args.n) i ≡ Some m) (sym last) e in
            let same : Some c.in-Some.m ≡ Some m = sym c.in-Some.is ∙ c.follower.ensures.item ∙ at in
            let here : c.in-Some.m ≡ m = cc in
            subst (IsListedIfOpen t a d) here (listed_now t a b d c.in-Some.m is.more now.full)
      ];
    }

pub returns-clause-full : goal.returns-clause-full
returns-clause-full c s k h m task holds at depends opened numbered idle =
    listed_now c.args.tables.now c.args.queue.now c.loop-i.queue c.list_all.new.queue m c.loop-i.invariant.more (c.list_all.ensures.full m) s k h task holds at opened numbered idle
