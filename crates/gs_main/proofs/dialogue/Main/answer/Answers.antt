use Rattle.gs_main.specs.Seen.{given_of, state_of, next_of}
use Rattle.gs_main.specs.Shown.{talking}
use Rattle.gs_main.proofs.Asking.{answers_waits, answered_so, answered_stands, answered_free}
use Rattle.gs_main.proofs.dialogue.Main.answer.Goals as goal

pub answer-requires : goal.answer-requires
unfolding talking
answer-requires c =
    let m = c.args.self.now in
    answers_waits m.failed (given_of m.script) m.script.orders.items m.run.work.waits m.run.at m.run.steps (state_of m.run.work) c.args.a c.requires

pub returns-clause-goes : goal.returns-clause-goes
unfolding talking
returns-clause-goes c =
    let m = c.args.self.now in
    answered_so m.failed (given_of m.script) m.script.orders.items m.run.work.waits m.run.at m.run.steps (state_of m.run.work) c.args.a c.requires (next_of (given_of m.script) m.script.orders.items c.answer.new.self) c.answer.ensures

pub returns-clause-stands : goal.returns-clause-stands
unfolding talking
returns-clause-stands c = λ t fuel answers h.
    let m = c.args.self.now in
    answered_stands (talking m).next t fuel answers c.args.a _ c.requires
    (answered_so m.failed (given_of m.script) m.script.orders.items m.run.work.waits m.run.at m.run.steps (state_of m.run.work) c.args.a c.requires (next_of (given_of m.script) m.script.orders.items c.answer.new.self) c.answer.ensures) h

pub returns-clause-free : goal.returns-clause-free
unfolding talking
returns-clause-free c =
    let m = c.args.self.now in
    answered_free (talking m).next c.args.a _ c.requires
    (answered_so m.failed (given_of m.script) m.script.orders.items m.run.work.waits m.run.at m.run.steps (state_of m.run.work) c.args.a c.requires (next_of (given_of m.script) m.script.orders.items c.answer.new.self) c.answer.ensures)
