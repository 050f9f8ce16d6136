use Rattle.std.proofs.Common.{◌∙◌, ap, length}
use Rattle.gs_filters.proofs.Calls.{lets_go}
use Rattle.gs_filters.proofs.Insides.{left_together}
use Rattle.gs_filters.proofs.inside.InsideLinkLink.abandon.Goals as goal

pub invariant_of-self : goal.invariant_of-self
invariant_of-self c =
    let old = c.args.self.now in
    let did = c.abandon.ensures in
    record {
      unscripted = ap length did.script ∙ old.unscripted;
      together = left_together old.link c.abandon.new.self did.abandons did.jobs
          did.count old.together;
    }

pub returns-clause-left : goal.returns-clause-left
returns-clause-left c = lets_go c.args.self.now _ c.abandon.ensures.abandons c.abandon.ensures.jobs
    c.abandon.ensures.count
