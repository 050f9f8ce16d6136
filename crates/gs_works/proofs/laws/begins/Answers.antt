use Rattle.gs_works.proofs.Listing.{beginning_lists}
use Rattle.gs_works.proofs.Losing.{beginning_is_before}
use Rattle.gs_works.proofs.Standing.{beginning_works}
use Rattle.gs_works.proofs.laws.begins.Goals as goal

pub returns-clause-works : goal.returns-clause-works
returns-clause-works c = beginning_works

pub returns-clause-lists : goal.returns-clause-lists
returns-clause-lists c = beginning_lists

pub returns-clause-before : goal.returns-clause-before
returns-clause-before c = beginning_is_before
