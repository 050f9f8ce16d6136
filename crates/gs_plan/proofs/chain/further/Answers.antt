use Rattle.std.proofs.Common.{◌≡◌, ℕ, subst, arith}
use Rattle.gs_plan.specs.Ties.{HasNeed}
use Rattle.gs_plan.specs.Chain.{IsLatest, IsLater}
use Rattle.gs_plan.proofs.Waiting.{read_at}
use Rattle.gs_plan.proofs.Latest.{needs_step}
use Rattle.gs_plan.proofs.chain.further.Goals as goal

pub loop-last-preserved : goal.loop-last-preserved
loop-last-preserved c =
    let need = read_at c.args.ties.now.needed.items c.loop-last.last.met c.index.result.now (omega (arith, c.requires.within)) c.index.ensures in
    let P : ℕ → Type 0 = λ k. IsLater c.args.ends.now c.loop-last.last.task k c.later.result in
    record {
      within = omega arith;
      latest = needs_step c.args.ties.now c.args.ends.now c.loop-last.last.task c.loop-last.last.met c.later.result c.loop-last.invariant.latest (subst P need c.later.ensures);
    }

pub returns-clause-latest : goal.returns-clause-latest
returns-clause-latest c =
    let met : c.loop-last.last.met ≡ c.args.needs = omega (arith, c.loop-last.invariant.within) in
    let P : ℕ → Type 0 = λ k. IsLatest (HasNeed c.args.ties.now k) c.args.ends.now c.loop-last.last.task in
    subst P met c.loop-last.invariant.latest
