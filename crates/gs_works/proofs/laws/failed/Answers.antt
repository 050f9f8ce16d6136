use Rattle.gs_works.proofs.Listing.{failed_lists, refused_lists}
use Rattle.gs_works.proofs.Standing.{failed_works, refused_works}
use Rattle.gs_works.proofs.laws.failed.Goals as goal

pub returns-clause-works : goal.returns-clause-works
returns-clause-works c = failed_works

pub returns-clause-lists : goal.returns-clause-lists
returns-clause-lists c = failed_lists

pub returns-clause-refused_works : goal.returns-clause-refused_works
returns-clause-refused_works c = refused_works

pub returns-clause-refused_lists : goal.returns-clause-refused_lists
returns-clause-refused_lists c = refused_lists
