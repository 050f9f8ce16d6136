use Rattle.std.proofs.Common.{◌≡◌, ◌<◌, ◌≤◌, ◌+◌, ℕ, suc, true, false, refl, sym, ap, ◌∙◌, ◌∷◌, [], ◌++◌, arith, List}
use Rattle.gs_names.specs.Table.{names_in}
use Rattle.gs_talk.specs.Actions.{acts, Barrier}
use Rattle.gs_talk.specs.declared.question.Question.TheVariants as q
use Rattle.gs_tables.proofs.Keeping.{goes, plain_none, plain_fits}
use Rattle.gs_tables.proofs.Calm.{all_done, none_done, barrier_due}
use Rattle.gs_tables.proofs.tables.Tables.barrier.Goals as goal

pub returns-then-self-gt0-clause-waits : goal.returns-then-self-gt0-clause-waits
returns-then-self-gt0-clause-waits c = λ s k h next holds asked same.
    (holds, λ done. let none = none_done h _ done in let is = holds.unfinished_is in let some = c.if-self-gt0.true in omega arith)

pub returns-clause-went : goal.returns-clause-went
returns-clause-went c = λ s k h next holds asked same.
    let zero : c.args.self.now.unfinished ≡ 0 = let not = c.if-self-gt0.false in omega (arith, not) in
    let due = barrier_due s k h holds.good holds.fit (all_done h _ (sym holds.unfinished_is ∙ zero)) in
    let m = c.in_ok-mark_barrier.ensures in
    goes c.args.self.now _ s k h q.Barrier asked.0 next _ holds asked.1 due (plain_fits s k q.Barrier asked.0 next asked.1 tt) (plain_none s k q.Barrier tt)
    (record { rows = refl; notes = refl; unfinished_is = refl; window = refl; tasks = m.tasks })
    (record { mains = holds.mains; looks = holds.looks; writes = refl; names = refl; made = m.made (names_in c.args.self.now.names) (acts s.run k) holds.made })
