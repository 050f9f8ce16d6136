use Rattle.std.proofs.Common.{refl}
use Rattle.std.proofs.lemmas.Result.{IfOk-weaker}
use Rattle.gs_talk.specs.declared.question.Question.TheVariants as q
use Rattle.gs_main.specs.Talking.{a_content}
use Rattle.gs_main.specs.Shown.{talking}
use Rattle.gs_history.specs.Setup.{rest_at}
use Rattle.gs_core.specs.Turns.{IsTurn}
use Rattle.gs_core.proofs.Talkative.{awaiting}
use Rattle.gs_core.proofs.Handled.{with_tables, answering, turn_with}
use Rattle.gs_core.proofs.Read.{due_content}
use Rattle.gs_core.proofs.machine.Core.opened.Goals as goal

pub answer-requires-clause-awaited : goal.answer-requires-clause-awaited
answer-requires-clause-awaited c = c.requires.awaits Rattle.gs_tree.specs.declared.tree.Mode.TheVariants.R 0 c.content_answer.result c.content_answer.ensures.fits

pub returns-clause-turn : goal.returns-clause-turn
returns-clause-turn c = λ g.
    let old = c.args.self.now in
    let t = c.opened.new.self in
    let e = c.in_ok-opened.ensures in
    IfOk-weaker c.answer.result (IsTurn g (with_tables old t) c.answer.new.self) (IsTurn g old c.answer.new.self) (λ x is. turn_with g old c.answer.new.self t x e.mains e.looks is) (c.answer.ensures.turn g)

pub returns-clause-turned : goal.returns-clause-turned
returns-clause-turned c = λ s k h mode line now asks may loaded.
    let old = c.args.self.now in
    let t = c.opened.new.self in
    let x = q.OpenFile c.args.name mode line in
    let st = (talking old.main).state in
    let aw = awaiting (rest_at s k) x st (talking old.main).next a_content refl asks in
    let a = c.content_answer.result in
    let due = due_content s k h c.args.name mode line st aw.goes c.args.loaded a aw.rest may loaded c.content_answer.ensures.is in
    let gone = c.in_ok-opened.ensures.went s k h mode line a aw.goes now.bears.tables (st, aw.rest) due in
    c.answer.ensures.turned s k h aw.goes (answering old t s k h x st a now aw gone)
