use Rattle.std.proofs.Common.{refl, sym, subst, Option, None}
use Rattle.std.proofs.lemmas.Result.{IfOk-weaker}
use Rattle.gs_talk.specs.declared.question.Question.TheVariants as q
use Rattle.gs_talk.specs.declared.question.Answer.TheVariants as said
use Rattle.gs_main.specs.Talking.{a_value}
use Rattle.gs_main.specs.Shown.{talking}
use Rattle.gs_history.specs.Setup.{rest_at}
use Rattle.gs_core.specs.Turns.{IsTurn}
use Rattle.gs_core.proofs.Talkative.{awaiting}
use Rattle.gs_core.proofs.Handled.{with_tables, turning_with, answering, turn_with, frontier_of}
use Rattle.gs_tables.specs.Asked.{IsUsed, HasGone, value_of}
use Rattle.gs_tables.specs.declared.answering.Scalar.{Scalar}
use Rattle.gs_core.proofs.machine.Core.use_value.Goals as goal

pub returns-in-None-clause-turn : goal.returns-in-None-clause-turn
returns-in-None-clause-turn c = λ g.
    let e = c.in_ok-value.ensures in
    turn_with g c.args.self.now c.settle.new.self c.value.new.self c.settle.result e.mains e.looks (c.settle.ensures.turn g)

pub returns-in-None-clause-turned : goal.returns-in-None-clause-turned
returns-in-None-clause-turned c = λ s k h now asks.
    let old = c.args.self.now in
    let t = c.value.new.self in
    let x = q.Use c.args.n c.args.place in
    let st = (talking old.main).state in
    let aw = awaiting (rest_at s k) x st (talking old.main).next a_value refl asks in
    let waits : IsUsed s k h c.args.n c.args.place aw.goes t None = subst (λ (o : Option Scalar). IsUsed s k h c.args.n c.args.place aw.goes t o) c.in-None.is (c.in_ok-value.ensures.came s k h aw.goes now.bears.tables (st, aw.rest)) in
    c.settle.ensures.turned s k h (turning_with old t s k h now waits.0) asks tt (frontier_of s k h x st aw.goes aw.rest waits.1)

pub returns-in-Some-clause-turn : goal.returns-in-Some-clause-turn
returns-in-Some-clause-turn c = λ g.
    let old = c.args.self.now in
    let t = c.value.new.self in
    let e = c.in_ok-value.ensures in
    IfOk-weaker c.answer.result (IsTurn g (with_tables old t) c.answer.new.self) (IsTurn g old c.answer.new.self) (λ x is. turn_with g old c.answer.new.self t x e.mains e.looks is) (c.answer.ensures.turn g)

pub returns-in-Some-clause-turned : goal.returns-in-Some-clause-turned
returns-in-Some-clause-turned c = λ s k h now asks.
    let old = c.args.self.now in
    let t = c.value.new.self in
    let x = q.Use c.args.n c.args.place in
    let st = (talking old.main).state in
    let aw = awaiting (rest_at s k) x st (talking old.main).next a_value refl asks in
    let gone : HasGone t s k h aw.goes (said.Val (value_of c.in-Some.v)) = subst (λ (o : Option Scalar). IsUsed s k h c.args.n c.args.place aw.goes t o) c.in-Some.is (c.in_ok-value.ensures.came s k h aw.goes now.bears.tables (st, aw.rest)) in
    let said_so = subst (HasGone t s k h aw.goes) (sym c.scalar_answer.ensures.is) gone in
    c.answer.ensures.turned s k h aw.goes (answering old t s k h x st c.scalar_answer.result now aw said_so)
