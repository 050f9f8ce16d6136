use Rattle.std.proofs.Common.{refl}
use Rattle.gs_talk.specs.Actions.{acts}
use Rattle.gs_talk.specs.declared.question.Question.TheVariants as q
use Rattle.gs_tables.proofs.Keeping.{goes, plain_none, plain_fits}
use Rattle.gs_tables.proofs.tables.Tables.opened.Goals as goal

pub returns-clause-went : goal.returns-clause-went
returns-clause-went c = λ s k h mode line a next holds asked due.
    let x = q.OpenFile c.args.name.now mode line in
    let m = c.in_ok-mark_read.ensures in
    goes c.args.self.now _ s k h x asked.0 next a holds asked.1 due (plain_fits s k x asked.0 next asked.1 tt) (plain_none s k x tt)
    (record { rows = refl; notes = refl; unfinished_is = refl; window = refl; tasks = m.tasks })
    (record { mains = holds.mains; looks = holds.looks; writes = m.writes; names = m.names; made = m.made (acts s.run k) holds.made })
