use Rattle.std.proofs.Common.{◌≡◌, refl, ap, Some, length}
use Rattle.gs_talk.specs.declared.question.Question.TheVariants as q
use Rattle.gs_main.specs.Talking.{a_word}
use Rattle.gs_main.specs.Shown.{talking}
use Rattle.gs_history.specs.Setup.{rest_at}
use Rattle.gs_core.proofs.Resting.{none_rest}
use Rattle.gs_core.proofs.Talkative.{awaiting}
use Rattle.gs_core.proofs.Handled.{goes_on, by_asked}
use Rattle.gs_core.specs.Stages.{SaveBy}
use Rattle.gs_core.specs.declared.stage.Stage.TheVariants as stage
use Rattle.gs_core.proofs.Closing.{length_of, save_by}
use Rattle.gs_core.proofs.machine.Core.closing.Goals as goal

pub returns-clause-turned : goal.returns-clause-turned
returns-clause-turned c = λ s k h now asks.
    let old = c.args.self.now in
    let x = q.CloseFile c.args.name c.args.bytes in
    let st = (talking old.main).state in
    let aw = awaiting (rest_at s k) x st (talking old.main).next a_word refl asks in
    let may = goes_on s k h x st aw.goes aw.rest tt in
    let len = length c.bytes-2.result.now in
    let is : len ≡ length c.args.bytes = ap length c.bytes-2.ensures.value in (
      record {
        bears = now.bears;
        made = now.made;
        talks = (x, refl, asks);
        rest = none_rest old.lost (stage.Saving len) (Some (q.CloseFile c.args.name c.of.result)) s k h now.calm (now.before, length_of len (rest_at s k) c.args.name c.args.bytes st aw.goes aw.rest is);
      },
      (may, by_asked (SaveBy s k c.in-Some.k c.args.bytes) (rest_at s k) x st aw.goes aw.rest (save_by old.tables s k h c.in-Some.k now.bears.tables c.in-Some.ensures.number, refl)),
    )
