use Rattle.std.proofs.Common.{◌≡◌, ◌+◌, ℕ, List, suc, drop, map, ap, sym, ◌∙◌, arith}
use Rattle.gs_talk.specs.declared.slot.Slot.{Slot}
use Rattle.gs_talk.specs.Talk.{pended}
use Rattle.gs_orders.specs.Steps.{handed_of}
use Rattle.gs_pieces.specs.Places.{pended_one}
use Rattle.gs_pieces.proofs.Passing.{pended_more}
use Rattle.gs_pieces.proofs.passed.pend.Goals as goal

pub loop-j-preserved : goal.loop-j-preserved
loop-j-preserved c =
    let rest = map handed_of (drop (c.loop-j.j + 1) c.args.args.now) in
    let next : c.loop-j.j + 1 ≡ suc c.loop-j.j = omega arith in
    ap (λ (vars : List Slot). pended c.args.n (suc (c.loop-j.j + 1)) rest vars) c.pend_one.ensures
    ∙ ap (λ (k : ℕ). pended c.args.n (suc k) rest (pended_one c.args.n k (handed_of c.index-args-j.result) c.loop-j.vars.items)) next
    ∙ sym (pended_more handed_of c.args.n (suc c.loop-j.j) c.args.args.now c.loop-j.j c.index-args-j.result c.loop-j.vars.items c.loop-j-test.true c.index-args-j.is)
    ∙ c.loop-j.invariant
