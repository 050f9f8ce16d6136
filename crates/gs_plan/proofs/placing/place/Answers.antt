use Rattle.std.proofs.Common.{◌+◌, length, get_or, refl, arith}
use Rattle.gs_plan.specs.Ties.{Ordered}
use Rattle.gs_plan.proofs.Stepping.{waiting_place, gate_place, run_next, placed_next}
use Rattle.gs_plan.proofs.placing.place.Goals as goal

pub release-requires-clause-waiting : goal.release-requires-clause-waiting
release-requires-clause-waiting c =
    let t = c.args.ties.now in
    let s = c.args.state.now in
    let q = c.args.choice in
    let next = c.requires.next in
    rw (c.put.ensures.left, c.put.ensures.ready, c.put.ensures.gate)
    (waiting_place (length c.args.longs.now) t.befores.items t.afters.items t.needed.items t.waits.items s.ends.items s.left.items s.ready.items s.tasks c.put.new.state.ends.items c.put.new.state.tasks s.gate.reached s.gate.met s.gate.time q.task (q.time + get_or c.args.longs.now q.task 0)
    c.requires.between.waiting c.requires.between.gate c.requires.ties.same (omega arith) next.task_in next.task_open next.task_ready (omega (arith, (c.requires.longs.each q.task next.task_in).0))
    c.put.ensures.ends c.put.ensures.tasks)

pub pass-requires-clause-gate : goal.pass-requires-clause-gate
pass-requires-clause-gate c =
    let t = c.args.ties.now in
    let s = c.args.state.now in
    let q = c.args.choice in
    rw (c.release.ensures.keeps.ends, c.release.ensures.gate, c.put.ensures.gate)
    (gate_place (length c.args.longs.now) t.needed.items t.waits.items s.ends.items c.put.new.state.ends.items s.gate.reached s.gate.met s.gate.time q.task (q.time + get_or c.args.longs.now q.task 0)
    c.requires.between.gate c.put.ensures.ends c.requires.next.task_open)

pub returns : goal.returns
returns c =
    let t = c.args.ties.now in
    let s = c.args.state.now in
    let q = c.args.choice in
    let next = c.requires.next in
    let long = c.requires.longs.each q.task next.task_in in
    let keeps = c.pass.ensures.keeps in
    let before = c.release.ensures.keeps in
    record {
      run = rw (keeps.starts, keeps.ends, keeps.slots, keeps.free, keeps.clock, before.starts, before.ends, before.slots, before.free, before.clock, c.put.ensures.clock)
          (run_next c.args.slots c.args.longs.now (Ordered t) s.starts.items s.ends.items s.slots.items s.free s.left.items c.put.new.state.starts.items c.put.new.state.ends.items c.put.new.state.slots.items c.put.new.state.free s.clock q.time q.task q.slot c.args.step (q.time + get_or c.args.longs.now q.task 0)
          c.requires.slots c.requires.between.run next refl (omega (arith, long.0)) c.put.ensures.starts c.put.ensures.ends c.put.ensures.slots c.put.ensures.free);
      waiting = c.pass.ensures.waiting;
      gate = c.pass.ensures.gate;
      held = c.pass.ensures.held;
      placed = rw (keeps.ends, keeps.free, keeps.clock, before.ends, before.free, before.clock, c.put.ensures.clock)
          (placed_next c.args.slots (length c.args.longs.now) s.ends.items s.free c.put.new.state.ends.items c.put.new.state.free s.clock q.time q.task q.slot c.args.step (q.time + get_or c.args.longs.now q.task 0)
          c.requires.between.placed next.task_in next.task_open next.time_within (omega (arith, long.0)) (omega (arith, long.1)) c.put.ensures.ends c.put.ensures.free);
    }
