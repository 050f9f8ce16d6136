use Rattle.std.proofs.Common.{◌≡◌, ◌+◌, ℕ, suc, drop, arith, ap}
use Rattle.gs_broker.specs.declared.workers.Worker.{Worker}
use Rattle.gs_broker.specs.Workers.{all_slots}
use Rattle.gs_broker.proofs.Totals.{slots_drop, slots_item}
use Rattle.gs_broker.proofs.outcome.count_slots.Goals as goal

pub loop-w-preserved : goal.loop-w-preserved
loop-w-preserved c =
    let rest = slots_drop c.args.workers.now c.loop-w.w-index c.w-item.result c.loop-w-test.true in
    let item = slots_item c.args.workers.now c.loop-w.w-index c.w-item.result c.loop-w-test.true in
    let is = ap (λ (w : Worker). w.slots) c.w-item.is in
    let next : suc c.loop-w.w-index ≡ c.loop-w.w-index + 1 = omega arith in
    let on = ap (λ (n : ℕ). all_slots (drop n c.args.workers.now)) next in
    (let h = c.loop-w.invariant.0 in omega arith, let s = c.requires.slots c.loop-w.w-index in let h = c.loop-w.invariant.1 in omega arith)
