use Rattle.std.proofs.Common.{ap, map}
use Rattle.gs_types.specs.declared.settings.FaultKind.TheVariants.{NoFile, FileTooLong}
use Rattle.gs_talk.specs.declared.question.Answer.{Answer}
use Rattle.gs_talk.specs.Talk.{went, fails}
use Rattle.gs_orders.specs.Steps.{handed_of}
use Rattle.gs_main.specs.Seen.{state_of}
use Rattle.gs_main.proofs.Replying.{ended_on, on_along}
use Rattle.gs_main.proofs.run.Run.end_call.Goals as goal

pub returns-in-Absent : goal.returns-in-Absent
returns-in-Absent c =
    let old = c.args.self.now in
    on_along c.args.next c.end.new.self (went c.args.a.now c.args.line (map handed_of c.args.args.now) old.steps (state_of old.work)) (fails c.args.line NoFile (state_of old.work))
    (ap (λ (x : Answer). went x c.args.line (map handed_of c.args.args.now) old.steps (state_of old.work)) c.in-Absent.is) (ended_on c.args.next c.args.line NoFile old c.end.new.self c.end.ensures)

pub returns-in-TooLong : goal.returns-in-TooLong
returns-in-TooLong c =
    let old = c.args.self.now in
    let new = c.end-in-TooLong.new.self in
    on_along c.args.next new (went c.args.a.now c.args.line (map handed_of c.args.args.now) old.steps (state_of old.work)) (fails c.args.line FileTooLong (state_of old.work))
    (ap (λ (x : Answer). went x c.args.line (map handed_of c.args.args.now) old.steps (state_of old.work)) c.in-TooLong.is) (ended_on c.args.next c.args.line FileTooLong old new c.end-in-TooLong.ensures)
