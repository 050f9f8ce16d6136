use Rattle.gs_history.proofs.Starting.{each_starts_once, slots_suffice}
use Rattle.gs_history.proofs.laws.starts_are_due.Goals as goal

pub returns-clause-once : goal.returns-clause-once
returns-clause-once c = each_starts_once

pub returns-clause-slots : goal.returns-clause-slots
returns-clause-slots c = slots_suffice
