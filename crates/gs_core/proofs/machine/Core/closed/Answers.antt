use Rattle.std.proofs.Common.{◌≡◌, refl, None}
use Rattle.std.proofs.lemmas.Result.{IfOk-weaker}
use Rattle.gs_talk.specs.declared.question.Question.TheVariants as q
use Rattle.gs_talk.specs.declared.question.Answer.TheVariants as said
use Rattle.gs_main.specs.Talking.{a_word}
use Rattle.gs_main.specs.Shown.{talking}
use Rattle.gs_history.specs.Setup.{rest_at}
use Rattle.gs_core.specs.Turns.{IsTurn}
use Rattle.gs_core.proofs.Talkative.{awaiting}
use Rattle.gs_core.proofs.Handled.{with_tables, answering}
use Rattle.gs_core.specs.declared.stage.Stage.TheVariants as stage
use Rattle.gs_core.proofs.Closing.{turn_closed, closes, both_ok}
use Rattle.gs_core.proofs.machine.Core.closed.Goals as goal

pub returns-clause-turn : goal.returns-clause-turn
returns-clause-turn c = λ g saved.
    let old = c.args.self.now in
    let t = c.closed.new.self in
    let e = c.in_ok-closed.ensures in
    IfOk-weaker c.answer.result (λ y. IsTurn stage.Open (with_tables old t) c.answer.new.self y × (y ≡ None)) (IsTurn g old c.answer.new.self) (λ y is. turn_closed g old c.answer.new.self t c.args.len y saved e.mains e.looks is.0 is.1) (both_ok c.answer.result (IsTurn stage.Open (with_tables old t) c.answer.new.self) (λ y. y ≡ None) (c.answer.ensures.turn stage.Open) c.answer.ensures.goes)

pub returns-clause-turned : goal.returns-clause-turned
returns-clause-turned c = λ s k h x now like asks len.
    let old = c.args.self.now in
    let t = c.closed.new.self in
    let st = (talking old.main).state in
    let is = closes c.args.name x like (rest_at s k) st (talking old.main).next asks c.args.len len in
    let y = q.CloseFile c.args.name is.content in
    let aw = awaiting (rest_at s k) y st (talking old.main).next a_word refl is.asks in
    let gone = c.in_ok-closed.ensures.went s k h is.content aw.goes now.bears.tables (st, aw.rest) is.long in
    c.answer.ensures.turned s k h aw.goes (answering old t s k h y st said.Went now aw gone)
