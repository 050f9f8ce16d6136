use Rattle.std.proofs.Common.{◌∙◌, sym, ap, List, ℕ}
use Rattle.std.specs.Str.{bytes_eq}
use Rattle.gs_idl.proofs.Places.{place_found, place_later, place_missing}
use Rattle.gs_idl.proofs.idl.place_of.Goals as goal

pub returns-then-eq-clause-first : goal.returns-then-eq-clause-first
returns-then-eq-clause-first c =
    place_found c.args.name.now c.args.ops.now c.loop-i.i c.index-ops-i.result c.loop-i-test.true c.index-ops-i.is
    (ap (λ (w : List ℕ). bytes_eq w c.args.name.now) (sym c.as_slice.ensures.value) ∙ sym c.if-eq.ensures) c.loop-i.invariant

pub loop-i-preserved : goal.loop-i-preserved
loop-i-preserved c =
    place_later c.args.name.now c.args.ops.now c.loop-i.i c.index-ops-i.result c.loop-i-test.true c.index-ops-i.is
    (ap (λ (w : List ℕ). bytes_eq w c.args.name.now) (sym c.as_slice.ensures.value) ∙ sym c.if-eq.ensures) c.loop-i.invariant

pub returns-clause-first : goal.returns-clause-first
returns-clause-first c = place_missing c.args.name.now c.args.ops.now c.loop-i.i c.loop-i-test.false c.loop-i.invariant
