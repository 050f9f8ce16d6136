use Rattle.std.proofs.Common.{◌≡◌, ◌⊎◌, max, length, arith, ap, ◌∙◌}
use Rattle.gs_plan.proofs.Choosing.{IsStanding, next_is, latest_of}
use Rattle.gs_plan.proofs.placing.choose.Goals as goal

pub returns : goal.returns
returns c =
    let s = c.args.state.now in
    let t = c.args.ties.now in
    let between = c.requires.between in
    let time : c.max-time.result ≡ max (max s.clock c.least-soonest.result) c.least-first_free.result = c.max-time.ensures ∙ ap (λ n. max n c.least-first_free.result) c.max.ensures in
    let standing : IsStanding (length c.args.longs.now) t s.ends.items s.left.items s.ready.items s.tasks s.gate.reached s.gate.met s.gate.time =
    record { ties = c.requires.ties; waiting = between.waiting; gate = between.gate; held = between.held } in
    let which : (c.max-time.result ≡ s.clock) ⊎ ((c.max-time.result ≡ c.least-soonest.result) ⊎ (c.max-time.result ≡ c.least-first_free.result)) =
    rw time (latest_of s.clock c.least-soonest.result c.least-first_free.result) in
    next_is c.args.slots c.args.longs.now t s.starts.items s.ends.items s.slots.items s.free s.left.items s.ready.items s.tasks s.clock s.gate.reached s.gate.met s.gate.time c.least-soonest.result c.least-first_free.result c.max-time.result c.first_within-task.result c.first_within-slot.result c.args.step
    c.requires.few c.requires.some c.requires.slots c.requires.step between.run standing between.placed c.least-soonest.ensures c.least-first_free.ensures
    (omega (arith, time)) (omega (arith, time)) (omega (arith, time)) which c.first_within-task.ensures c.first_within-slot.ensures
