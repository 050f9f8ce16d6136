use Rattle.gs_works.proofs.Listing.{same_lists}
use Rattle.gs_works.proofs.Standing.{same_works}
use Rattle.gs_works.proofs.laws.stays.Goals as goal

pub returns-clause-works : goal.returns-clause-works
returns-clause-works c = same_works

pub returns-clause-lists : goal.returns-clause-lists
returns-clause-lists c = same_lists
