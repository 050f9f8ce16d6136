use Rattle.gs_disk.proofs.Updates.{all_names, rising_names}
use Rattle.gs_disk.proofs.files.names.Goals as goal

pub returns-clause-all : goal.returns-clause-all
returns-clause-all c = all_names c.args.files.now c.in_ok-names.names.items c.in_ok-names.ensures.same

pub returns-clause-rising : goal.returns-clause-rising
returns-clause-rising c = rising_names c.args.files.now c.in_ok-names.names.items c.in_ok-names.ensures.same c.copied_names.ensures.ordered
