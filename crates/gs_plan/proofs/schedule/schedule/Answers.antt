use Rattle.std.proofs.Common.{length, arith}
use Rattle.gs_plan.specs.Ties.{Ordered}
use Rattle.gs_plan.proofs.Choosing.{ties_rise}
use Rattle.gs_plan.proofs.Stepping.{rule_is}
use Rattle.gs_plan.proofs.schedule.schedule.Goals as goal

pub returns-clause-rule : goal.returns-clause-rule
returns-clause-rule c =
    let s = c.loop-step.state in
    (rule_is c.args.slots c.loop-step.step c.args.longs.now (Ordered c.args.ties.now) s.starts.items s.ends.items s.slots.items s.free s.clock (ties_rise c.args.ties.now (length c.args.longs.now) c.requires.ties) c.loop-step.invariant.run c.loop-step.invariant.placed (omega arith)).0

pub returns-clause-ends : goal.returns-clause-ends
returns-clause-ends c =
    let s = c.loop-step.state in
    (rule_is c.args.slots c.loop-step.step c.args.longs.now (Ordered c.args.ties.now) s.starts.items s.ends.items s.slots.items s.free s.clock (ties_rise c.args.ties.now (length c.args.longs.now) c.requires.ties) c.loop-step.invariant.run c.loop-step.invariant.placed (omega arith)).1
