use Rattle.std.proofs.Common.{refl}
use Rattle.std.proofs.lemmas.Result.{IfOk-weaker}
use Rattle.gs_talk.specs.declared.question.Question.TheVariants as q
use Rattle.gs_talk.specs.declared.question.Answer.TheVariants as said
use Rattle.gs_main.specs.Talking.{a_word}
use Rattle.gs_main.specs.Shown.{talking}
use Rattle.gs_history.specs.Setup.{rest_at}
use Rattle.gs_core.specs.Turns.{IsTurn}
use Rattle.gs_core.proofs.Talkative.{awaiting}
use Rattle.gs_core.proofs.Handled.{with_tables, turning_with, answering, turn_with, frontier_of}
use Rattle.gs_core.proofs.machine.Core.barrier.Goals as goal

pub returns-then-branch-clause-turn : goal.returns-then-branch-clause-turn
returns-then-branch-clause-turn c = λ g.
    let old = c.args.self.now in
    let t = c.barrier.new.self in
    let e = c.in_ok-barrier.ensures in
    IfOk-weaker c.answer.result (IsTurn g (with_tables old t) c.answer.new.self) (IsTurn g old c.answer.new.self) (λ x is. turn_with g old c.answer.new.self t x e.mains e.looks is) (c.answer.ensures.turn g)

pub returns-then-branch-clause-turned : goal.returns-then-branch-clause-turned
returns-then-branch-clause-turned c = λ s k h now asks.
    let old = c.args.self.now in
    let st = (talking old.main).state in
    let aw = awaiting (rest_at s k) q.Barrier st (talking old.main).next a_word refl asks in
    let gone = c.in_ok-barrier.ensures.went s k h aw.goes now.bears.tables (st, aw.rest) c.if-branch.true in
    c.answer.ensures.turned s k h aw.goes (answering old c.barrier.new.self s k h q.Barrier st said.Went now aw gone)

pub returns-clause-turn : goal.returns-clause-turn
returns-clause-turn c = λ g.
    let e = c.in_ok-barrier.ensures in
    turn_with g c.args.self.now c.settle.new.self c.barrier.new.self c.settle.result e.mains e.looks (c.settle.ensures.turn g)

pub returns-clause-turned : goal.returns-clause-turned
returns-clause-turned c = λ s k h now asks.
    let old = c.args.self.now in
    let st = (talking old.main).state in
    let aw = awaiting (rest_at s k) q.Barrier st (talking old.main).next a_word refl asks in
    let waits = c.in_ok-barrier.ensures.waits s k h aw.goes now.bears.tables (st, aw.rest) c.if-branch.false in
    c.settle.ensures.turned s k h (turning_with old c.barrier.new.self s k h now waits.0) asks tt (frontier_of s k h q.Barrier st aw.goes aw.rest waits.1)
