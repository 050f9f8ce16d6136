use Rattle.gs_works.proofs.Listing.{started_lists}
use Rattle.gs_works.proofs.Standing.{started_works}
use Rattle.gs_works.proofs.laws.started.Goals as goal

pub returns-clause-works : goal.returns-clause-works
returns-clause-works c = started_works

pub returns-clause-lists : goal.returns-clause-lists
returns-clause-lists c = started_lists
