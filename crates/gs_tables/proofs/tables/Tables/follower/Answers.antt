use Rattle.gs_tables.proofs.Listing.{follow}
use Rattle.gs_tables.proofs.tables.Tables.follower.Goals as goal

pub returns-clause-reads : goal.returns-clause-reads
returns-clause-reads c = λ s k h holds. follow c.args.self.now s k c.args.n h holds c.follower.ensures.list
