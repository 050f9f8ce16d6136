use Rattle.gs_tables.proofs.Looking.{look_holds}
use Rattle.gs_tables.proofs.tables.Tables.look.Goals as goal

pub returns-clause-holds : goal.returns-clause-holds
returns-clause-holds c = λ s k h is holds. look_holds c.args.self.now c.add.new.self s k h c.args.name c.args.seen c.in_ok-add.ensures.ok is holds
