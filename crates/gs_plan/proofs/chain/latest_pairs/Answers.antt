use Rattle.std.proofs.Common.{◌≡◌, ◌<◌, ℕ, Option, None, get_or, length, subst, ◌∙◌, length-set, Some, arith}
use Rattle.std.proofs.lemmas.List.{get_or_read}
use Rattle.gs_plan.specs.Ties.{HasPair}
use Rattle.gs_plan.specs.Chain.{IsLatest, IsLater, best_at}
use Rattle.gs_plan.proofs.Waiting.{read_at}
use Rattle.gs_plan.proofs.Latest.{pairs_step}
use Rattle.gs_plan.proofs.chain.latest_pairs.Goals as goal

pub loop-e-preserved : goal.loop-e-preserved
loop-e-preserved c =
    let t = c.args.ties.now in
    let inside : c.loop-e.e < length t.befores.items = omega arith in
    let after = read_at t.afters.items c.loop-e.e c.index.result.now (omega (arith, c.requires.same)) c.index.ensures in
    let before = read_at t.befores.items c.loop-e.e c.index-in-loop-e-2.result.now inside c.index-in-loop-e-2.ensures in
    let room : c.index.result.now < length c.loop-e.best.items = omega (arith, after, (c.requires.pairs c.loop-e.e inside).1, c.loop-e.invariant.whole) in
    let old = get_or_read c.loop-e.best.items c.index.result.now _ room c.index-in-loop-e.ensures None in
    let P : ℕ → Type 0 = λ k. IsLater c.args.ends.now c.index-in-loop-e.result.now k c.later.result in
    let Q : Option ℕ → Type 0 = λ o. IsLater c.args.ends.now o (get_or t.befores.items c.loop-e.e 0) c.later.result in
    let later = subst Q old (subst P before c.later.ensures) in
    record {
      whole = length-set c.loop-e.best.items c.index.result.now (Some c.later.result) ∙ c.loop-e.invariant.whole;
      best = pairs_step t c.args.ends.now c.loop-e.best.items c.loop-e.e c.index.result.now c.later.result c.loop-e.invariant.best after room later;
    }

pub returns-clause-best : goal.returns-clause-best
returns-clause-best c = λ j l.
    let all : c.loop-e.e ≡ length c.args.ties.now.befores.items = omega arith in
    let P : ℕ → Type 0 = λ k. IsLatest (λ i. HasPair c.args.ties.now k i j) c.args.ends.now (best_at c.loop-e.best.items j) in
    subst P all (c.loop-e.invariant.best j l)
