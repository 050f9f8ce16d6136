use Rattle.std.proofs.Common.{ap, refl, ◌∙◌}
use Rattle.gs_store.specs.State.{StoreState}
use Rattle.gs_store.proofs.Gating.{gate_here, none_left, own_order, has_ended, not_ended, gate_fits}
use Rattle.gs_store.proofs.store.Store.gate_note.Goals as goal

pub returns-in-Gate-clause-ended : goal.returns-in-Gate-clause-ended
returns-in-Gate-clause-ended c =
    let es = c.args.self.now.entries in
    let view = ap (λ (s : StoreState). s.entries) c.self.view_is in
    let here = gate_here c.entries-e-items.result.now es c.loop-e.e-index c.e-item.result
    c.in-Gate.g (c.entries-e-items.ensures ∙ view) c.loop-e-test.true c.e-item.is c.in-Gate.is
    c.loop-e.invariant in
    (λ some. has_ended es c.in-Gate.g here, λ ended. refl)

pub returns-in-Gate-clause-fits : goal.returns-in-Gate-clause-fits
returns-in-Gate-clause-fits c =
    let es = c.args.self.now.entries in
    let view = ap (λ (s : StoreState). s.entries) c.self.view_is in
    let here = gate_here c.entries-e-items.result.now es c.loop-e.e-index c.e-item.result
    c.in-Gate.g (c.entries-e-items.ensures ∙ view) c.loop-e-test.true c.e-item.is c.in-Gate.is
    c.loop-e.invariant in
    gate_fits es c.in-Gate.g (own_order c.self.inside.book es view c.self.invariant.1) here

pub returns-clause-ended : goal.returns-clause-ended
returns-clause-ended c =
    let es = c.args.self.now.entries in
    let view = ap (λ (s : StoreState). s.entries) c.self.view_is in
    let none = none_left c.entries-e-items.result.now es c.loop-e.e-index
    (c.entries-e-items.ensures ∙ view) c.loop-e-test.false c.loop-e.invariant in (
      λ some. absurd cc,
      λ ended. absurd
          (not_ended es (own_order c.self.inside.book es view c.self.invariant.1) none ended),
    )
