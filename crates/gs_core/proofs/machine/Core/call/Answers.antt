use Rattle.std.proofs.Common.{refl, sym, ap, ◌∙◌, subst, List, Some}
use Rattle.std.proofs.lemmas.Result.{IfOk-weaker}
use Rattle.gs_talk.specs.declared.question.CallArg.{CallArg}
use Rattle.gs_talk.specs.declared.question.Question.TheVariants as q
use Rattle.gs_talk.specs.declared.question.Answer.TheVariants as said
use Rattle.gs_main.specs.Talking.{an_end}
use Rattle.gs_main.specs.Shown.{talking}
use Rattle.gs_history.specs.Setup.{rest_at}
use Rattle.gs_core.specs.Turns.{IsTurn, Asks}
use Rattle.gs_core.proofs.Resting.{none_rest}
use Rattle.gs_core.proofs.Talkative.{awaiting}
use Rattle.gs_core.proofs.Handled.{with_tables, turning_with, answering, turn_with, frontier_of, goes_on, by_asked}
use Rattle.gs_tables.specs.Asked.{IsCalled, HasGone}
use Rattle.gs_tables.specs.declared.asking.Called.{Called}
use Rattle.gs_tables.specs.declared.asking.Called.TheVariants as called
use Rattle.gs_core.specs.Stages.{LookBy}
use Rattle.gs_tables.specs.Table.{looked_in}
use Rattle.gs_core.specs.declared.stage.Stage.TheVariants as stage
use Rattle.gs_core.proofs.machine.Core.call.Goals as goal

pub returns-in-Went-clause-turn : goal.returns-in-Went-clause-turn
returns-in-Went-clause-turn c = λ g.
    let old = c.args.self.now in
    let t = c.call.new.self in
    let e = c.in_ok-call.ensures in
    IfOk-weaker c.answer.result (IsTurn g (with_tables old t) c.answer.new.self) (IsTurn g old c.answer.new.self) (λ x is. turn_with g old c.answer.new.self t x e.mains e.looks is) (c.answer.ensures.turn g)

pub returns-in-Went-clause-turned : goal.returns-in-Went-clause-turned
returns-in-Went-clause-turned c = λ s k h now asks.
    let old = c.args.self.now in
    let t = c.call.new.self in
    let op = c.args.op in
    let line = c.args.line in
    let args = c.args.args in
    let x = q.Call op line args in
    let st = (talking old.main).state in
    let aw = awaiting (rest_at s k) x st (talking old.main).next an_end refl asks in
    let ops = ap (λ i. i.ops) c.idl.ensures ∙ now.made.operations in
    let gone : HasGone t s k h aw.goes said.Went = subst (λ (r : Called). IsCalled s k h op line args aw.goes t r) c.in-Went.is (c.in_ok-call.ensures.came s k h line aw.goes ops now.bears.tables (st, aw.rest)) in
    c.answer.ensures.turned s k h aw.goes (answering old t s k h x st said.Went now aw gone)

pub returns-in-Absent-clause-turn : goal.returns-in-Absent-clause-turn
returns-in-Absent-clause-turn c = λ g.
    let old = c.args.self.now in
    let t = c.call.new.self in
    let e = c.in_ok-call.ensures in
    IfOk-weaker c.answer-in-Absent.result (IsTurn g (with_tables old t) c.answer-in-Absent.new.self) (IsTurn g old c.answer-in-Absent.new.self) (λ x is. turn_with g old c.answer-in-Absent.new.self t x e.mains e.looks is) (c.answer-in-Absent.ensures.turn g)

pub returns-in-Absent-clause-turned : goal.returns-in-Absent-clause-turned
returns-in-Absent-clause-turned c = λ s k h now asks.
    let old = c.args.self.now in
    let t = c.call.new.self in
    let op = c.args.op in
    let line = c.args.line in
    let args = c.args.args in
    let x = q.Call op line args in
    let st = (talking old.main).state in
    let aw = awaiting (rest_at s k) x st (talking old.main).next an_end refl asks in
    let ops = ap (λ i. i.ops) c.idl.ensures ∙ now.made.operations in
    let gone : HasGone t s k h aw.goes said.Absent = subst (λ (r : Called). IsCalled s k h op line args aw.goes t r) c.in-Absent.is (c.in_ok-call.ensures.came s k h line aw.goes ops now.bears.tables (st, aw.rest)) in
    c.answer-in-Absent.ensures.turned s k h aw.goes (answering old t s k h x st said.Absent now aw gone)

pub returns-in-TooLong-clause-turn : goal.returns-in-TooLong-clause-turn
returns-in-TooLong-clause-turn c = λ g.
    let old = c.args.self.now in
    let t = c.call.new.self in
    let e = c.in_ok-call.ensures in
    IfOk-weaker c.answer-in-TooLong.result (IsTurn g (with_tables old t) c.answer-in-TooLong.new.self) (IsTurn g old c.answer-in-TooLong.new.self) (λ x is. turn_with g old c.answer-in-TooLong.new.self t x e.mains e.looks is) (c.answer-in-TooLong.ensures.turn g)

pub returns-in-TooLong-clause-turned : goal.returns-in-TooLong-clause-turned
returns-in-TooLong-clause-turned c = λ s k h now asks.
    let old = c.args.self.now in
    let t = c.call.new.self in
    let op = c.args.op in
    let line = c.args.line in
    let args = c.args.args in
    let x = q.Call op line args in
    let st = (talking old.main).state in
    let aw = awaiting (rest_at s k) x st (talking old.main).next an_end refl asks in
    let ops = ap (λ i. i.ops) c.idl.ensures ∙ now.made.operations in
    let gone : HasGone t s k h aw.goes said.TooLong = subst (λ (r : Called). IsCalled s k h op line args aw.goes t r) c.in-TooLong.is (c.in_ok-call.ensures.came s k h line aw.goes ops now.bears.tables (st, aw.rest)) in
    c.answer-in-TooLong.ensures.turned s k h aw.goes (answering old t s k h x st said.TooLong now aw gone)

pub returns-in-Waits-clause-turn : goal.returns-in-Waits-clause-turn
returns-in-Waits-clause-turn c = λ g.
    let e = c.in_ok-call.ensures in
    turn_with g c.args.self.now c.settle.new.self c.call.new.self c.settle.result e.mains e.looks (c.settle.ensures.turn g)

pub returns-in-Waits-clause-turned : goal.returns-in-Waits-clause-turned
returns-in-Waits-clause-turned c = λ s k h now asks.
    let old = c.args.self.now in
    let t = c.call.new.self in
    let op = c.args.op in
    let line = c.args.line in
    let args = c.args.args in
    let x = q.Call op line args in
    let st = (talking old.main).state in
    let aw = awaiting (rest_at s k) x st (talking old.main).next an_end refl asks in
    let ops = ap (λ i. i.ops) c.idl.ensures ∙ now.made.operations in
    let came : IsCalled s k h op line args aw.goes t (called.Waits c.in-Waits.args) = subst (λ (r : Called). IsCalled s k h op line args aw.goes t r) c.in-Waits.is (c.in_ok-call.ensures.came s k h line aw.goes ops now.bears.tables (st, aw.rest)) in
    let back = subst (λ (l : List CallArg). Asks old (q.Call op line l) (rest_at s k)) (sym came.1) asks in
    c.settle.ensures.turned s k h (turning_with old t s k h now came.0) back tt (frontier_of s k h x st aw.goes aw.rest came.2)

pub returns-in-Looks-clause-turned : goal.returns-in-Looks-clause-turned
unfolding looked_in
returns-in-Looks-clause-turned c = λ s k h now asks.
    let old = c.args.self.now in
    let t = c.call.new.self in
    let op = c.args.op in
    let line = c.args.line in
    let args = c.args.args in
    let x = q.Call op line args in
    let st = (talking old.main).state in
    let aw = awaiting (rest_at s k) x st (talking old.main).next an_end refl asks in
    let ops = ap (λ i. i.ops) c.idl.ensures ∙ now.made.operations in
    let came : IsCalled s k h op line args aw.goes t (called.Looks c.in-Looks.name c.in-Looks.args) = subst (λ (r : Called). IsCalled s k h op line args aw.goes t r) c.in-Looks.is (c.in_ok-call.ensures.came s k h line aw.goes ops now.bears.tables (st, aw.rest)) in
    let after = turning_with old t s k h now came.0 in
    let may = goes_on s k h x st aw.goes aw.rest came.2 in
    let back = q.Call op line c.in-Looks.args in (
      record {
        bears = after.bears;
        made = after.made;
        talks = (x, ap (q.Call op line) came.1, asks);
        rest = none_rest old.lost (stage.Looking c.copy.result) (Some back) s k h now.calm (now.before, tt);
      },
      (may, by_asked (LookBy s k (looked_in t) c.in-Looks.name) (rest_at s k) x st aw.goes aw.rest (came.3.reads, came.3.unseen)),
    )

pub returns-in-Misfits-clause-turned : goal.returns-in-Misfits-clause-turned
returns-in-Misfits-clause-turned c = λ s k h now asks.
    let old = c.args.self.now in
    let t = c.call.new.self in
    let op = c.args.op in
    let line = c.args.line in
    let args = c.args.args in
    let x = q.Call op line args in
    let st = (talking old.main).state in
    let aw = awaiting (rest_at s k) x st (talking old.main).next an_end refl asks in
    let ops = ap (λ i. i.ops) c.idl.ensures ∙ now.made.operations in
    let came : IsCalled s k h op line args aw.goes t (called.Misfits c.in-Misfits.index c.in-Misfits.args) = subst (λ (r : Called). IsCalled s k h op line args aw.goes t r) c.in-Misfits.is (c.in_ok-call.ensures.came s k h line aw.goes ops now.bears.tables (st, aw.rest)) in
    let after = turning_with old t s k h now came.0 in (
      record {
        bears = after.bears;
        made = after.made;
        talks = (x, ap (q.Call op line) came.1, asks);
        rest = (tt, came.2);
      },
      λ losses fit. absurd (fit c.in-Misfits.index came.2),
    )
