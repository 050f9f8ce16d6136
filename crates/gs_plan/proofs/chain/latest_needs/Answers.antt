use Rattle.std.proofs.Common.{◌<◌, ◌+◌, ℕ, List, Option, Some, None, length, subst, sym, ap, ◌∙◌, length-set, arith}
use Rattle.std.proofs.lemmas.List.{get_or_read}
use Rattle.gs_plan.specs.Ties.{HasNeed, waits_at}
use Rattle.gs_plan.specs.Chain.{IsLatest, IsLater, AreLatestUpto}
use Rattle.gs_plan.proofs.Waiting.{read_at}
use Rattle.gs_plan.proofs.Latest.{both_step, both_skip}
use Rattle.gs_plan.proofs.chain.latest_needs.Goals as goal
use Rattle.gs_plan.proofs.chain.latest_needs.Goals.{in-Some, in_default}

pub loop-task-preserved : goal.loop-task-preserved
loop-task-preserved c =
    let t = c.args.ties.now in
    let j = c.loop-task.task in
    let inside = c.loop-task-test.true in
    let room : j < length c.loop-task.best.items = omega (arith, c.loop-task.invariant.whole) in
    let waits = read_at t.waits.items j c.index.result.now (omega (arith, c.requires.ties.each)) c.index.ensures in
    let P : ℕ → Type 0 = λ k. IsLatest (HasNeed t k) c.args.ends.now c.further-last.result.task in
    let needs = subst P waits c.further-last.ensures.latest in
    record {
      whole = elim c.match-last.branch [
        | in-Some w ↦ ap (λ v. length v.items) w.best-is ∙ length-set c.loop-task.best.items j (Some w.later.result) ∙ c.loop-task.invariant.whole
        | in_default w ↦ ap (λ v. length v.items) w.best-is ∙ c.loop-task.invariant.whole
      ];
      met = λ k l m. omega (arith, c.further-last.ensures.met, waits, c.requires.ties.rising j k (omega arith) m);
      latest = subst P (sym c.further-last.ensures.met) c.further-last.ensures.latest;
      best = elim c.match-last.branch [
        | in-Some w ↦
            let Q : Option ℕ → Type 0 = λ o. IsLatest (HasNeed t (waits_at t j)) c.args.ends.now o in
            let old = get_or_read c.loop-task.best.items j _ room w.index-in-Some.ensures None in
            let R : Option ℕ → Type 0 = λ o. IsLater c.args.ends.now o w.in-Some.need w.later.result in
            let S : List (Option ℕ) → Type 0 = λ xs. AreLatestUpto t (j + 1) c.args.ends.now xs in
            subst S (sym (ap (λ v. v.items) w.best-is)) (both_step t c.args.ends.now c.loop-task.best.items j w.in-Some.need w.later.result c.loop-task.invariant.best room (subst Q w.in-Some.is needs) (subst R old w.later.ensures))
        | in_default w ↦
            let Q : Option ℕ → Type 0 = λ o. IsLatest (HasNeed t (waits_at t j)) c.args.ends.now o in
            let S : List (Option ℕ) → Type 0 = λ xs. AreLatestUpto t (j + 1) c.args.ends.now xs in
            subst S (sym (ap (λ v. v.items) w.best-is)) (both_skip t c.args.ends.now c.loop-task.best.items j c.loop-task.invariant.best room (subst Q w.in_default.is needs))
      ];
    }
