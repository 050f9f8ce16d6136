use Rattle.std.proofs.Common.{sym, subst, refl, Option, Some}
use Rattle.gs_core.specs.Core.{AtRest}
use Rattle.gs_core.specs.declared.losing.Lost.{Lost}
use Rattle.gs_core.specs.declared.stage.Stage.TheVariants as stage
use Rattle.gs_core.proofs.Fitting.{holds_fits}
use Rattle.gs_core.proofs.Resting.{rest_settled}
use Rattle.gs_core.proofs.Talkative.{like_same}
use Rattle.gs_core.proofs.machine.Core.settle.Goals as goal

pub returns-clause-turned : goal.returns-clause-turned
returns-clause-turned c = λ s k h now asks kept frontier.
    let b = now.bears in
    let fit = holds_fits c.args.self.now.tables s k h b.tables frontier in
    let rest = rest_settled c.args.self.now.queue (Some c.args.asked) s k h c.no_worker.result refl kept fit now.before b.works b.lists frontier c.no_worker.ensures.stranded in (
      record {
        bears = b;
        made = now.made;
        talks = (c.args.asked, like_same c.args.asked, asks);
        rest = subst (λ (l : Option Lost). AtRest l stage.Settled (Some c.args.asked) s k h) (sym c.workers_lost-self.ensures) rest;
      },
      λ losses none. frontier,
    )
