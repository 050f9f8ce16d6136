use Rattle.std.proofs.Common.{List, sym, subst, take, ◌+◌}
use Rattle.gs_types.specs.declared.value.Value.{Value}
use Rattle.gs_proc.specs.declared.call.Place.TheVariants.{Word}
use Rattle.gs_proc.specs.Places.{GiveAll}
use Rattle.gs_proc.proofs.Gives.{give_next}
use Rattle.gs_proc.proofs.outs.outs_of.Goals as goal

pub loop-i-preserved : goal.loop-i-preserved
loop-i-preserved g c =
    subst (λ (outs : List Value). GiveAll (take (c.loop-i.i + 1) c.args.places.now) outs) (sym c.in_ok-add_out.ensures) (give_next c.args.places.now c.loop-i.i Word c.loop-i.outs.items c.in_ok-out.out c.loop-i-test.true c.loop-i.invariant c.in_ok-out.ensures)
