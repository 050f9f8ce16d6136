use Rattle.std.proofs.Common.{◌≡◌, get_or, ap, ◌∙◌, arith}
use Rattle.gs_plan.specs.State.{last_need, time_at}
use Rattle.gs_plan.proofs.Waiting.{read_at, waiting_pass, gate_pass}
use Rattle.gs_plan.proofs.telling.pass.Goals as goal

pub loop-state-preserved : goal.loop-state-preserved
loop-state-preserved c =
    let t = c.args.ties.now in
    let s = c.loop-state.state in
    let inside = c.loop-state-test.true in
    let same : c.meet.new.gate.reached ≡ s.gate.reached = c.meet.ensures.reached in
    let needs = read_at t.waits.items s.gate.reached c.index-needs.result.now (omega (arith, c.requires.ties.each)) c.index-needs.ensures in
    let met : c.meet.new.gate.met ≡ get_or t.waits.items s.gate.reached 0 = omega (arith, c.meet.ensures.within, c.if-state-needs.false) in
    let given = c.meet.ensures.gate.time_is ∙ ap (λ n. last_need t.needed.items s.ends.items n) met in
    record {
      waiting = rw same (waiting_pass c.args.tasks t.afters.items t.needed.items t.waits.items (time_at t.befores.items s.ends.items) s.ends.items s.left.items s.ready.items s.tasks c.tell.new.left.items c.tell.new.ready.items c.tell.new.keys s.gate.reached c.meet.new.gate.time
          c.loop-state.invariant.waiting inside c.requires.few given c.tell.ensures);
      gate = gate_pass c.args.tasks t.needed.items t.waits.items s.ends.items c.meet.new.gate.reached c.meet.new.gate.met c.meet.new.gate.time c.meet.ensures.gate (omega (arith, same)) (omega (arith, met, ap (λ i. get_or t.waits.items i 0) same));
      keeps = record {
        starts = c.loop-state.invariant.keeps.starts;
        ends = c.loop-state.invariant.keeps.ends;
        slots = c.loop-state.invariant.keeps.slots;
        free = c.loop-state.invariant.keeps.free;
        clock = c.loop-state.invariant.keeps.clock;
      };
    }
