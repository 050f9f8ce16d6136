use Rattle.std.proofs.Common.{sym, subst, List, map}
use Rattle.gs_types.specs.Job.{Fit}
use Rattle.gs_proc.specs.declared.call.Place.{Place}
use Rattle.gs_proc.specs.Places.{place_of, GiveAll}
use Rattle.gs_proc.proofs.Gives.{gives_fit}
use Rattle.gs_proc.proofs.proc_link.outcome.Goals as goal

pub returns-in-Ok-clause-fit : goal.returns-in-Ok-clause-fit
returns-in-Ok-clause-fit g c =
    let all : GiveAll (map place_of c.args.call.now.args) c.in-Ok.outs.items = subst (λ (ps : List Place). GiveAll ps c.in-Ok.outs.items) c.places.ensures c.in-Ok.ensures in
    subst (Fit c.args.call.now.args) (sym c.of.ensures) (gives_fit c.args.call.now.args c.in-Ok.outs.items all)
