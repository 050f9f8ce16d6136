use Rattle.gs_filters.proofs.Calls.{ends_one}
use Rattle.gs_filters.proofs.Insides.{ended_together, ended_script}
use Rattle.gs_filters.proofs.inside.InsideLinkLink.next.Goals as goal

pub invariant_of-self : goal.invariant_of-self
invariant_of-self c =
    let old = c.args.self.now in
    let did = c.next.ensures in
    record {
      unscripted = ended_script old.link c.next.new.self c.next.result did.turn did.unchanged
          old.unscripted;
      together = ended_together old.link c.next.new.self c.next.result old.unscripted did.told
          did.turn did.unchanged old.together;
    }

pub returns-clause-first : goal.returns-clause-first
returns-clause-first c = ends_one c.args.self.now _ c.next.result c.args.self.now.unscripted
    c.requires.busy c.next.ensures.told c.next.ensures.turn
