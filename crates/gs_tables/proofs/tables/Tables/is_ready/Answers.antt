use Rattle.std.proofs.Common.{sym}
use Rattle.gs_tables.proofs.Listing.{said_open}
use Rattle.gs_tables.specs.Table.{is_open}
use Rattle.gs_tables.proofs.tables.Tables.is_ready.Goals as goal

pub returns-clause-says : goal.returns-clause-says
unfolding is_open
returns-clause-says c = λ s k h task holds at. said_open c.args.self.now s k c.args.n h task holds c.is_ready.ensures.list at c.is_ready.result (sym c.is_ready.ensures.ready)
