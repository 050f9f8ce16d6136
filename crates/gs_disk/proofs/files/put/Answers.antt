use Rattle.gs_disk.proofs.Updates.{puts}
use Rattle.gs_disk.proofs.files.put.Goals as goal

pub returns-clause-put : goal.returns-clause-put
returns-clause-put c = puts c.args.files.now c.insert.new.self _ _ c.in_ok-insert.ensures.updates
