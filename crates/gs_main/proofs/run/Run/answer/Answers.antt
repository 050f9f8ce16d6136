use Rattle.std.proofs.Common.{refl, ap, sym, ◌∙◌, subst}
use Rattle.gs_types.specs.declared.value.Value.{Value}
use Rattle.gs_talk.specs.Talk.{Done, opened, taken, set_to}
use Rattle.gs_main.specs.declared.run.Run.{Run}
use Rattle.gs_main.specs.declared.waits.Waits.{Waits}
use Rattle.gs_main.specs.Seen.{given_of, state_of, IsWaiting, Replies}
use Rattle.gs_main.proofs.Replying.{went_next}
use Rattle.gs_main.proofs.run.Run.answer.Goals as goal

pub returns-in-Word : goal.returns-in-Word
returns-in-Word c =
    let t = given_of c.args.script.now in
    let orders = c.args.script.now.orders.items in
    let old = c.args.self.now in
    let new : Run = record { at = old.at; steps = old.steps; work = record old.work { waits = c.replace.new.dest } } in
    subst (λ (x : Waits). Replies t orders x old c.args.a new) c.in-Word.ensures.value
    (went_next t orders old.at new (Done old.steps (state_of old.work)) (c.in-Word.ensures.after, refl, refl, refl))

pub returns-in-Call : goal.returns-in-Call
returns-in-Call c =
    let t = given_of c.args.script.now in
    let orders = c.args.script.now.orders.items in
    let old = c.args.self.now in
    let new = c.end_called.new.self in
    subst (λ (x : Waits). Replies t orders x old c.args.a new) c.in-Call.ensures.value
    (c.end_called.ensures)

pub returns-in-Value : goal.returns-in-Value
returns-in-Value c =
    let t = given_of c.args.script.now in
    let orders = c.args.script.now.orders.items in
    let old = c.args.self.now in
    let new : Run = record { at = old.at; steps = old.steps; work = c.put.new.self } in
    subst (λ (x : Waits). Replies t orders x old c.args.a new) c.in-Value.ensures.value
    (went_next t orders old.at new (Done old.steps (set_to c.in-Value.i (taken c.args.a) (state_of old.work))) (c.put.ensures.waits ∙ c.in-Value.ensures.after, refl, refl, c.put.ensures.state ∙ ap (λ (v : Value). set_to c.in-Value.i v (state_of old.work)) c.taken.ensures))

pub returns-in-Content : goal.returns-in-Content
returns-in-Content c =
    let t = given_of c.args.script.now in
    let orders = c.args.script.now.orders.items in
    let old = c.args.self.now in
    let new = c.end_open.new.self in
    subst (λ (x : Waits). Replies t orders x old c.args.a new) c.in-Content.ensures.value
    (went_next t orders old.at new (opened c.args.a c.in-Content.line c.in-Content.to c.in-Content.name c.in-Content.mode old.steps (state_of old.work)) c.end_open.ensures)

pub returns-in-Nothing : goal.returns-in-Nothing
returns-in-Nothing c = absurd (subst (λ (x : Waits). IsWaiting x) (sym c.in-Nothing.ensures.value) c.requires)

pub returns-in-Ended : goal.returns-in-Ended
returns-in-Ended c = absurd (subst (λ (x : Waits). IsWaiting x) (sym c.in-Ended.ensures.value) c.requires)
