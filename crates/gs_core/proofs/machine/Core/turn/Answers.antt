use Rattle.std.proofs.Common.{◌≡◌, refl, sym, ap, ◌∙◌, subst, Some, None, []}
use Rattle.std.proofs.lemmas.Result.{IfOk-weaker}
use Rattle.gs_talk.specs.declared.question.Question.{Question}
use Rattle.gs_talk.specs.declared.question.Question.TheVariants as q
use Rattle.gs_main.specs.Talking.{Asked}
use Rattle.gs_main.specs.Shown.{talking}
use Rattle.gs_history.specs.Setup.{rest_at}
use Rattle.gs_core.specs.Talker.{IsLike}
use Rattle.gs_core.specs.Turns.{IsTurn, loaded_in, saved_in}
use Rattle.gs_core.specs.declared.machine.Core.{Core}
use Rattle.gs_core.proofs.Talkative.{stopped_at}
use Rattle.gs_core.proofs.Handled.{ended}
use Rattle.gs_core.proofs.Resting.{rest_none}
use Rattle.gs_core.proofs.Dues.{Takes, turning_due, turn_due, asks_it, kept_at, loaded_at, saved_at}
use Rattle.gs_core.proofs.machine.Core.turn.Goals as goal

pub returns-in-Call-clause-turn : goal.returns-in-Call-clause-turn
returns-in-Call-clause-turn c =
    let old = c.args.self.now in
    let mid : Core = record c.due.new.self { stage = c.replace-stage.new.dest } in
    let d = c.in_ok-x.ensures in
    let takes : Takes old mid = record { tables = d.tables; queue = d.queue; lost = d.lost } in
    IfOk-weaker c.call.result (IsTurn old.stage mid c.call.new.self) (IsTurn old.stage old c.call.new.self) (λ y is. turn_due old mid c.call.new.self old.stage y takes is) (c.call.ensures.turn old.stage)

pub returns-in-Use-clause-turn : goal.returns-in-Use-clause-turn
returns-in-Use-clause-turn c =
    let old = c.args.self.now in
    let mid : Core = record c.due.new.self { stage = c.replace-stage.new.dest } in
    let d = c.in_ok-x.ensures in
    let takes : Takes old mid = record { tables = d.tables; queue = d.queue; lost = d.lost } in
    IfOk-weaker c.use_value.result (IsTurn old.stage mid c.use_value.new.self) (IsTurn old.stage old c.use_value.new.self) (λ y is. turn_due old mid c.use_value.new.self old.stage y takes is) (c.use_value.ensures.turn old.stage)

pub returns-in-Some-clause-turn : goal.returns-in-Some-clause-turn
returns-in-Some-clause-turn c =
    let old = c.args.self.now in
    let mid : Core = record c.due.new.self { stage = c.replace-stage.new.dest } in
    let d = c.in_ok-x.ensures in
    let takes : Takes old mid = record { tables = d.tables; queue = d.queue; lost = d.lost } in
    IfOk-weaker c.opened.result (IsTurn old.stage mid c.opened.new.self) (IsTurn old.stage old c.opened.new.self) (λ y is. turn_due old mid c.opened.new.self old.stage y takes is) (c.opened.ensures.turn old.stage)

pub returns-in-Barrier-clause-turn : goal.returns-in-Barrier-clause-turn
returns-in-Barrier-clause-turn c =
    let old = c.args.self.now in
    let mid : Core = record c.due.new.self { stage = c.replace-stage.new.dest } in
    let d = c.in_ok-x.ensures in
    let takes : Takes old mid = record { tables = d.tables; queue = d.queue; lost = d.lost } in
    IfOk-weaker c.barrier.result (IsTurn old.stage mid c.barrier.new.self) (IsTurn old.stage old c.barrier.new.self) (λ y is. turn_due old mid c.barrier.new.self old.stage y takes is) (c.barrier.ensures.turn old.stage)

pub returns-in-Some-clause-turned : goal.returns-in-Some-clause-turned
returns-in-Some-clause-turned c = λ s k h calm answered stands.
    let old = c.args.self.now in
    let mid : Core = record c.due.new.self { stage = c.replace-stage.new.dest } in
    let d = c.in_ok-x.ensures in
    let takes : Takes old mid = record { tables = d.tables; queue = d.queue; lost = d.lost } in
    let rest = rest_none old.lost old.stage old.asked s k h calm stands.rest in
    let now = turning_due old mid s k h takes d.kept calm stands in
    let due = d.due (rest_at s k) stands.talks in
    let was : loaded_in old.stage ≡ Some c.in-Some.loaded = ap loaded_in (sym (c.replace-stage.ensures.value ∙ d.stage)) ∙ sym c.loaded_in.ensures ∙ c.in-Some.is in
    let known = loaded_at old.stage old.asked s k h c.in-Some.loaded was rest in
    c.opened.ensures.turned s k h c.in-OpenFile.mode c.in-OpenFile.line now (asks_it old.asked c.in_ok-x.x (q.OpenFile c.in-OpenFile.name c.in-OpenFile.mode c.in-OpenFile.line) (talking mid.main) (rest_at s k) due c.in-OpenFile.is tt) known.0 known.1

pub returns-in-OpenFile-clause-turned : goal.returns-in-OpenFile-clause-turned
returns-in-OpenFile-clause-turned c = λ s k h calm answered stands.
    let old = c.args.self.now in
    let mid : Core = record c.due.new.self { stage = c.replace-stage.new.dest } in
    let d = c.in_ok-x.ensures in
    let takes : Takes old mid = record { tables = d.tables; queue = d.queue; lost = d.lost } in
    let rest = rest_none old.lost old.stage old.asked s k h calm stands.rest in
    let now = turning_due old mid s k h takes d.kept calm stands in
    let due = d.due (rest_at s k) stands.talks in
    c.opening.ensures.turned s k h now (asks_it old.asked c.in_ok-x.x (q.OpenFile c.in-OpenFile.name c.in-OpenFile.mode c.in-OpenFile.line) (talking mid.main) (rest_at s k) due c.in-OpenFile.is tt)

pub returns-in-Some-saved_in-clause-turned : goal.returns-in-Some-saved_in-clause-turned
returns-in-Some-saved_in-clause-turned c = λ s k h calm answered stands.
    let old = c.args.self.now in
    let mid : Core = record c.due.new.self { stage = c.replace-stage.new.dest } in
    let d = c.in_ok-x.ensures in
    let takes : Takes old mid = record { tables = d.tables; queue = d.queue; lost = d.lost } in
    let rest = rest_none old.lost old.stage old.asked s k h calm stands.rest in
    let now = turning_due old mid s k h takes d.kept calm stands in
    let due = d.due (rest_at s k) stands.talks in
    let was : saved_in old.stage ≡ Some c.in-Some-saved_in.len = ap saved_in (sym (c.replace-stage.ensures.value ∙ d.stage)) ∙ sym c.saved_in.ensures ∙ c.in-Some-saved_in.is in
    let like : IsLike (q.CloseFile c.in-CloseFile.name []) due.asked = subst (λ (i : Question). IsLike i due.asked) c.in-CloseFile.is due.like in
    c.closed.ensures.turned s k h due.asked now like due.asks (saved_at old.stage old.asked s k h c.in-Some-saved_in.len was rest)

pub returns-in-CloseFile-clause-turned : goal.returns-in-CloseFile-clause-turned
returns-in-CloseFile-clause-turned c = λ s k h calm answered stands.
    let old = c.args.self.now in
    let mid : Core = record c.due.new.self { stage = c.replace-stage.new.dest } in
    let d = c.in_ok-x.ensures in
    let takes : Takes old mid = record { tables = d.tables; queue = d.queue; lost = d.lost } in
    let rest = rest_none old.lost old.stage old.asked s k h calm stands.rest in
    let now = turning_due old mid s k h takes d.kept calm stands in
    let due = d.due (rest_at s k) stands.talks in
    let was : saved_in old.stage ≡ None = ap saved_in (sym (c.replace-stage.ensures.value ∙ d.stage)) ∙ sym c.saved_in.ensures ∙ c.in-None-saved_in.is in
    let same = due.same (kept_at old.stage old.asked s k h answered was rest) in
    c.closing.ensures.turned s k h now (subst (λ (i : Question). Asked (rest_at s k) i (talking mid.main).state (talking mid.main).next) (sym same ∙ c.in-CloseFile.is) due.asks)

pub returns-in-End-clause-turn : goal.returns-in-End-clause-turn
returns-in-End-clause-turn c =
    let old = c.args.self.now in
    let mid : Core = record c.due.new.self { stage = c.replace-stage.new.dest } in
    let d = c.in_ok-x.ensures in
    let takes : Takes old mid = record { tables = d.tables; queue = d.queue; lost = d.lost } in
    turn_due old mid c.settle.new.self old.stage c.settle.result takes (c.settle.ensures.turn old.stage)

pub returns-in-End-clause-turned : goal.returns-in-End-clause-turned
returns-in-End-clause-turned c = λ s k h calm answered stands.
    let old = c.args.self.now in
    let mid : Core = record c.due.new.self { stage = c.replace-stage.new.dest } in
    let d = c.in_ok-x.ensures in
    let takes : Takes old mid = record { tables = d.tables; queue = d.queue; lost = d.lost } in
    let rest = rest_none old.lost old.stage old.asked s k h calm stands.rest in
    let now = turning_due old mid s k h takes d.kept calm stands in
    let due = d.due (rest_at s k) stands.talks in
    let asks = asks_it old.asked c.in_ok-x.x q.End (talking mid.main) (rest_at s k) due c.in-End.is tt in
    c.settle.ensures.turned s k h now asks tt (ended s k h q.End (talking mid.main).state (stopped_at (rest_at s k) q.End (talking mid.main).state (talking mid.main).next refl asks))

pub returns-in-Fault-clause-turn : goal.returns-in-Fault-clause-turn
returns-in-Fault-clause-turn c =
    let old = c.args.self.now in
    let mid : Core = record c.due.new.self { stage = c.replace-stage.new.dest } in
    let d = c.in_ok-x.ensures in
    let takes : Takes old mid = record { tables = d.tables; queue = d.queue; lost = d.lost } in
    turn_due old mid c.settle-in-Fault.new.self old.stage c.settle-in-Fault.result takes (c.settle-in-Fault.ensures.turn old.stage)

pub returns-in-Fault-clause-turned : goal.returns-in-Fault-clause-turned
returns-in-Fault-clause-turned c = λ s k h calm answered stands.
    let old = c.args.self.now in
    let mid : Core = record c.due.new.self { stage = c.replace-stage.new.dest } in
    let d = c.in_ok-x.ensures in
    let takes : Takes old mid = record { tables = d.tables; queue = d.queue; lost = d.lost } in
    let rest = rest_none old.lost old.stage old.asked s k h calm stands.rest in
    let now = turning_due old mid s k h takes d.kept calm stands in
    let due = d.due (rest_at s k) stands.talks in
    let asks = asks_it old.asked c.in_ok-x.x (q.Fault c.in-Fault.line c.in-Fault.kind) (talking mid.main) (rest_at s k) due c.in-Fault.is tt in
    c.settle-in-Fault.ensures.turned s k h now asks tt (ended s k h (q.Fault c.in-Fault.line c.in-Fault.kind) (talking mid.main).state (stopped_at (rest_at s k) (q.Fault c.in-Fault.line c.in-Fault.kind) (talking mid.main).state (talking mid.main).next refl asks))

pub returns-clause-turn : goal.returns-clause-turn
returns-clause-turn c =
    let old = c.args.self.now in
    let mid : Core = record c.due.new.self { stage = c.replace-stage.new.dest } in
    let d = c.in_ok-x.ensures in
    let takes : Takes old mid = record { tables = d.tables; queue = d.queue; lost = d.lost } in
    turn_due old mid c.settle-in-FuelOut.new.self old.stage c.settle-in-FuelOut.result takes (c.settle-in-FuelOut.ensures.turn old.stage)

pub returns-clause-turned : goal.returns-clause-turned
returns-clause-turned c = λ s k h calm answered stands.
    let old = c.args.self.now in
    let mid : Core = record c.due.new.self { stage = c.replace-stage.new.dest } in
    let d = c.in_ok-x.ensures in
    let takes : Takes old mid = record { tables = d.tables; queue = d.queue; lost = d.lost } in
    let rest = rest_none old.lost old.stage old.asked s k h calm stands.rest in
    let now = turning_due old mid s k h takes d.kept calm stands in
    let due = d.due (rest_at s k) stands.talks in
    let asks = asks_it old.asked c.in_ok-x.x q.FuelOut (talking mid.main) (rest_at s k) due c.in-FuelOut.is tt in
    c.settle-in-FuelOut.ensures.turned s k h now asks tt (ended s k h q.FuelOut (talking mid.main).state (stopped_at (rest_at s k) q.FuelOut (talking mid.main).state (talking mid.main).next refl asks))
