use Rattle.gs_works.proofs.Listing.{finished_lists}
use Rattle.gs_works.proofs.Standing.{finished_works}
use Rattle.gs_works.proofs.laws.finished.Goals as goal

pub returns-clause-works : goal.returns-clause-works
returns-clause-works c = finished_works

pub returns-clause-lists : goal.returns-clause-lists
returns-clause-lists c = finished_lists
