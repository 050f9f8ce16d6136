use Rattle.std.proofs.Common.{ap, ◌∙◌}
use Rattle.gs_tree.specs.declared.tree.Mode.{Mode}
use Rattle.gs_types.specs.declared.settings.FaultKind.TheVariants.{NoFile, FileTooLong}
use Rattle.gs_talk.specs.declared.question.Answer.{Answer}
use Rattle.gs_talk.specs.Talk.{opened, absent, fails}
use Rattle.gs_main.specs.Seen.{state_of}
use Rattle.gs_main.proofs.Replying.{ended_on, on_along}
use Rattle.gs_main.proofs.run.Run.end_open.Goals as goal

pub returns-in-TooLong : goal.returns-in-TooLong
returns-in-TooLong c =
    let old = c.args.self.now in
    let x = c.args in
    on_along old.at c.end.new.self (opened x.a x.line x.to x.name x.mode old.steps (state_of old.work)) (fails x.line FileTooLong (state_of old.work))
    (ap (λ (y : Answer). opened y x.line x.to x.name x.mode old.steps (state_of old.work)) c.in-TooLong.is) (ended_on old.at x.line FileTooLong old c.end.new.self c.end.ensures)

pub returns-in-R : goal.returns-in-R
returns-in-R c =
    let old = c.args.self.now in
    let x = c.args in
    let new = c.end-in-R.new.self in
    on_along old.at new (opened x.a x.line x.to x.name x.mode old.steps (state_of old.work)) (fails x.line NoFile (state_of old.work))
    (ap (λ (y : Answer). opened y x.line x.to x.name x.mode old.steps (state_of old.work)) c.in-Absent.is ∙ ap (λ (m : Mode). absent x.line x.to x.name m old.steps (state_of old.work)) c.in-R.is) (ended_on old.at x.line NoFile old new c.end-in-R.ensures)
