use Rattle.std.proofs.Common.{refl, Some}
use Rattle.gs_talk.specs.declared.question.Question.TheVariants as q
use Rattle.gs_main.specs.Talking.{a_content}
use Rattle.gs_main.specs.Shown.{talking}
use Rattle.gs_history.specs.Setup.{rest_at}
use Rattle.gs_core.proofs.Talkative.{awaiting}
use Rattle.gs_core.proofs.Handled.{frontier_of, goes_on, by_asked}
use Rattle.gs_core.specs.Stages.{LoadBy}
use Rattle.gs_core.proofs.Resting.{none_rest}
use Rattle.gs_core.specs.declared.stage.Stage.TheVariants as stage
use Rattle.gs_core.proofs.machine.Core.opening.Goals as goal

pub returns-in-None-clause-turn : goal.returns-in-None-clause-turn
returns-in-None-clause-turn c = λ g none. c.settle.ensures.turn g

pub returns-in-None-clause-turned : goal.returns-in-None-clause-turned
returns-in-None-clause-turned c = λ s k h now asks.
    let old = c.args.self.now in
    let x = q.OpenFile c.args.name c.args.mode c.args.line in
    let st = (talking old.main).state in
    let aw = awaiting (rest_at s k) x st (talking old.main).next a_content refl asks in
    let waits = c.in-None.ensures s k h c.args.mode c.args.line aw.goes now.bears.tables (st, aw.rest) in
    c.settle.ensures.turned s k h now asks tt (frontier_of s k h x st aw.goes aw.rest waits)

pub returns-in-Some-clause-turned : goal.returns-in-Some-clause-turned
returns-in-Some-clause-turned c = λ s k h now asks.
    let old = c.args.self.now in
    let x = q.OpenFile c.args.name c.args.mode c.args.line in
    let st = (talking old.main).state in
    let aw = awaiting (rest_at s k) x st (talking old.main).next a_content refl asks in
    let opens = c.in-Some.ensures s k h c.args.mode c.args.line aw.goes now.bears.tables (st, aw.rest) in
    let may = goes_on s k h x st aw.goes aw.rest opens.0 in (
      record {
        bears = now.bears;
        made = now.made;
        talks = (x, refl, asks);
        rest = none_rest old.lost stage.Loading (Some x) s k h now.calm (now.before, tt, may);
      },
      (may, by_asked (LoadBy s k c.in-Some.version c.in-Some.kept) (rest_at s k) x st aw.goes aw.rest (opens.1, opens.2)),
    )
