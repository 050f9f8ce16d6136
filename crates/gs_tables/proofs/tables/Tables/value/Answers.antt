use Rattle.std.proofs.Common.{◌≡◌, refl, sym, ap, ◌∙◌, List, None, Some}
use Rattle.gs_types.specs.declared.note.Note.{Note}
use Rattle.gs_names.specs.Table.{names_in}
use Rattle.gs_talk.specs.Actions.{acts}
use Rattle.gs_talk.specs.declared.question.Question.TheVariants as q
use Rattle.gs_tables.specs.Outs.{noted_in}
use Rattle.gs_tables.specs.Rows.{row_at, row_outs}
use Rattle.gs_tables.specs.Asked.{scalar_of}
use Rattle.gs_tables.specs.declared.row.Row.{Row}
use Rattle.gs_tables.proofs.Keeping.{goes, plain_none, plain_fits}
use Rattle.gs_tables.proofs.Using.{use_due, use_waits, use_other}
use Rattle.gs_tables.proofs.tables.Tables.value.Goals as goal

pub returns-in-None-clause-came : goal.returns-in-None-clause-came
returns-in-None-clause-came c = λ s k h next holds asked.
    let note = ap (λ (rs : List Row). noted_in (row_outs (row_at rs c.args.n)) c.args.place) (sym c.deref.ensures.value) ∙ sym c.in-None.ensures in
    (holds, use_waits c.args.self.now s k h c.args.n c.args.place asked.0 next holds asked.1 note)

pub returns-in-None-2-clause-came : goal.returns-in-None-2-clause-came
returns-in-None-2-clause-came c = λ s k h next holds asked.
    let note = ap (λ (rs : List Row). noted_in (row_outs (row_at rs c.args.n)) c.args.place) (sym c.deref.ensures.value) ∙ sym c.in-Some.ensures in
    let none : scalar_of c.in-Some.v.now ≡ None = sym c.in_ok-scalar_of-in-Some.ensures ∙ c.in-None-2.is in
    (holds, use_other c.args.self.now s k h c.args.n c.args.place asked.0 next holds asked.1 c.in-Some.v.now note none)

pub returns-in_ok-mark_use-in-Some-2-clause-came : goal.returns-in_ok-mark_use-in-Some-2-clause-came
returns-in_ok-mark_use-in-Some-2-clause-came c = λ s k h next holds asked.
    let note = ap (λ (rs : List Row). noted_in (row_outs (row_at rs c.args.n)) c.args.place) (sym c.deref.ensures.value) ∙ sym c.in-Some.ensures in
    let some : scalar_of c.in-Some.v.now ≡ Some c.in-Some-2.found = sym c.in_ok-scalar_of-in-Some.ensures ∙ c.in-Some-2.is in
    let due = use_due c.args.self.now s k h c.args.n c.args.place asked.0 next holds asked.1 c.in-Some-2.found c.in-Some.v.now note some in
    let x = q.Use c.args.n c.args.place in
    let m = c.in_ok-mark_use-in-Some-2.ensures in
    goes c.args.self.now _ s k h x asked.0 next _ holds asked.1 due (plain_fits s k x asked.0 next asked.1 tt) (plain_none s k x tt)
    (record { rows = refl; notes = refl; unfinished_is = refl; window = refl; tasks = m.tasks })
    (record { mains = holds.mains; looks = holds.looks; writes = refl; names = refl; made = m.made (names_in c.args.self.now.names) (acts s.run k) holds.made })
