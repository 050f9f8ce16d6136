use Rattle.std.proofs.Common.{ℕ, List, ◌∙◌, subst}
use Rattle.gs_disk.specs.Moments.{Always}
use Rattle.gs_log.specs.Holding.{IsBeforeOrAfter}
use Rattle.gs_log.specs.Kept.{pieces_of, payloads_in}
use Rattle.gs_log.proofs.log.Log.append.Goals as goal

pub returns-in_err-add_record-clause-any_moment : goal.returns-in_err-add_record-clause-any_moment
returns-in_err-add_record-clause-any_moment g c = λ told.
    subst (λ (l : List (List ℕ)). Always (IsBeforeOrAfter l c.args.payload.now (g.D.Disk.state c.args.disk.now).folder) (g.D.Disk.state c.args.disk.now) (g.D.Disk.state c.add_record.new.disk))
    ((λ i. payloads_in (pieces_of (c.reserve.ensures.items i)) (c.reserve-2.ensures.items i)) ∙ c.self.view_is)
    (c.in_err-add_record.ensures.any_moment told)
