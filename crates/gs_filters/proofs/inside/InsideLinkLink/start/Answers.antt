use Rattle.gs_filters.proofs.Calls.{takes_job}
use Rattle.gs_filters.proofs.Insides.{started_together, started_script}
use Rattle.gs_filters.proofs.inside.InsideLinkLink.start.Goals as goal

pub invariant_of-self : goal.invariant_of-self
invariant_of-self c =
    let old = c.args.self.now in
    let did = c.start.ensures in
    record {
      unscripted = started_script old.link c.start.new.self c.args.job.now c.start.result did.takes
          did.unchanged old.unscripted;
      together = started_together old.link c.start.new.self c.args.job.now c.start.result
          c.requires.idle did.told did.takes did.unchanged old.together;
    }

pub returns-clause-takes : goal.returns-clause-takes
returns-clause-takes c = takes_job c.args.self.now _ c.args.job.now c.start.result
    c.start.ensures.told c.start.ensures.takes
