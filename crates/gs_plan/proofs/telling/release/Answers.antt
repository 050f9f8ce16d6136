use Rattle.std.proofs.Common.{◌≡◌, ◌<◌, ◌+◌, get_or, refl, ap, sym, ◌∙◌, arith}
use Rattle.gs_plan.specs.Ties.{past}
use Rattle.gs_plan.specs.State.{shut_at, late_at}
use Rattle.gs_plan.proofs.Linking.{read_link}
use Rattle.gs_plan.proofs.Waiting.{read_at, pair_here, head_leads, link_leads, link_falls, release_begins, release_ends, release_next, release_left}
use Rattle.gs_plan.proofs.telling.release.Goals as goal

pub loop-edge-init : goal.loop-edge-init
loop-edge-init c =
    let t = c.args.ties.now in
    let s = c.args.state.now in
    let ls = c.args.links.now in
    let is = read_link ls.heads.items c.args.task c.index-edge.result.now (omega (arith, c.requires.index.heads_each)) c.index-edge.ensures in
    record {
      waiting = release_begins c.args.tasks t.befores.items t.afters.items ls.heads.items ls.links.items (shut_at s.gate.reached) (late_at t.needed.items t.waits.items s.ends.items s.gate.reached) s.ends.items s.left.items s.ready.items s.tasks c.args.task (past c.index-edge.result.now) c.requires.ties.same c.requires.index is c.requires.waiting;
      edge_is = head_leads c.args.tasks t.befores.items ls.heads.items ls.links.items c.args.task (past c.index-edge.result.now) c.requires.index c.requires.task is;
      keeps = record { starts = refl; ends = refl; slots = refl; free = refl; clock = refl };
      gate = refl;
    }

-- the task that is told is one
after_in : (c : goal.After-tell-arg-in-Some-2-1) → c.index.result.now < c.args.tasks
after_in c =
    let here = pair_here c.loop-edge.edge c.in-Some.e c.args.ties.now.befores.items c.args.task c.in-Some.is c.loop-edge.invariant.edge_is in
    let after = read_at c.args.ties.now.afters.items c.in-Some.e c.index.result.now (omega (arith, here.0, c.requires.ties.same)) c.index.ensures in
    omega (arith, after, (c.requires.ties.pairs c.in-Some.e here.0).1)

pub tell-requires-clause-left : goal.tell-requires-clause-left
tell-requires-clause-left c = omega (arith, after_in c, c.loop-edge.invariant.waiting.keyed.left_each)

pub tell-requires-clause-ready : goal.tell-requires-clause-ready
tell-requires-clause-ready c = omega (arith, after_in c, c.loop-edge.invariant.waiting.keyed.ready_each)

pub tell-requires-clause-keys : goal.tell-requires-clause-keys
tell-requires-clause-keys c = omega (arith, after_in c, c.loop-edge.invariant.waiting.keyed.keys_each, c.requires.few)

pub tell-requires-clause-some : goal.tell-requires-clause-some
tell-requires-clause-some c =
    let t = c.args.ties.now in
    let s = c.loop-edge.state in
    let here = pair_here c.loop-edge.edge c.in-Some.e t.befores.items c.args.task c.in-Some.is c.loop-edge.invariant.edge_is in
    let after = read_at t.afters.items c.in-Some.e c.index.result.now (omega (arith, here.0, c.requires.ties.same)) c.index.ensures in
    let at : past c.loop-edge.edge ≡ c.in-Some.e + 1 = ap past c.in-Some.is in
    release_left c.args.tasks t.befores.items t.afters.items (shut_at s.gate.reached) (late_at t.needed.items t.waits.items s.ends.items s.gate.reached) s.ends.items s.left.items s.ready.items s.tasks c.args.task c.in-Some.e c.index.result.now c.requires.ties.same here.0 here.1 (sym after) (after_in c) (rw at at c.loop-edge.invariant.waiting)

pub loop-edge-smaller : goal.loop-edge-smaller
loop-edge-smaller c =
    let t = c.args.ties.now in
    let here = pair_here c.loop-edge.edge c.in-Some.e t.befores.items c.args.task c.in-Some.is c.loop-edge.invariant.edge_is in
    let at : past c.loop-edge.edge ≡ c.in-Some.e + 1 = ap past c.in-Some.is in
    let next = read_link c.args.links.now.links.items c.in-Some.e c.index-edge-in-Some.result.now (omega (arith, here.0, c.requires.index.links_each)) c.index-edge-in-Some.ensures in
    omega (arith, at, next, link_falls c.args.tasks t.befores.items c.args.links.now.heads.items c.args.links.now.links.items c.in-Some.e c.requires.index here.0)

pub loop-edge-preserved : goal.loop-edge-preserved
loop-edge-preserved c =
    let t = c.args.ties.now in
    let s = c.loop-edge.state in
    let ls = c.args.links.now in
    let here = pair_here c.loop-edge.edge c.in-Some.e t.befores.items c.args.task c.in-Some.is c.loop-edge.invariant.edge_is in
    let at : past c.loop-edge.edge ≡ c.in-Some.e + 1 = ap past c.in-Some.is in
    let after = read_at t.afters.items c.in-Some.e c.index.result.now (omega (arith, here.0, c.requires.ties.same)) c.index.ensures in
    let next = read_link ls.links.items c.in-Some.e c.index-edge-in-Some.result.now (omega (arith, here.0, c.requires.index.links_each)) c.index-edge-in-Some.ensures in
    let ends = ap (λ v. get_or v.items c.args.task 0) c.loop-edge.invariant.keeps.ends in
    record {
      waiting = release_next c.args.tasks t.befores.items t.afters.items ls.heads.items ls.links.items (shut_at s.gate.reached) (late_at t.needed.items t.waits.items s.ends.items s.gate.reached) s.ends.items s.left.items s.ready.items s.tasks c.tell.new.left.items c.tell.new.ready.items c.tell.new.keys c.args.task c.in-Some.e c.index.result.now c.args.end (past c.index-edge-in-Some.result.now)
          c.requires.ties.same c.requires.few c.requires.index here.0 here.1 next (ends ∙ c.requires.end) c.requires.positive (sym after) (omega (arith, after, (c.requires.ties.pairs c.in-Some.e here.0).1)) (rw at at c.loop-edge.invariant.waiting) c.tell.ensures;
      edge_is = link_leads c.args.tasks t.befores.items ls.heads.items ls.links.items c.args.task c.in-Some.e (past c.index-edge-in-Some.result.now) c.requires.index here.0 here.1 next;
      keeps = record {
        starts = c.loop-edge.invariant.keeps.starts;
        ends = c.loop-edge.invariant.keeps.ends;
        slots = c.loop-edge.invariant.keeps.slots;
        free = c.loop-edge.invariant.keeps.free;
        clock = c.loop-edge.invariant.keeps.clock;
      };
      gate = c.loop-edge.invariant.gate;
    }

pub returns-clause-waiting : goal.returns-clause-waiting
returns-clause-waiting c =
    let t = c.args.ties.now in
    let s = c.loop-edge.state in
    let none : past c.loop-edge.edge ≡ 0 = ap past c.in_default.is in
    release_ends c.args.tasks t.befores.items t.afters.items (shut_at s.gate.reached) (late_at t.needed.items t.waits.items s.ends.items s.gate.reached) s.ends.items s.left.items s.ready.items s.tasks c.args.task (past c.loop-edge.edge) none c.loop-edge.invariant.waiting
