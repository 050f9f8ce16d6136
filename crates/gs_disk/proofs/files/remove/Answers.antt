use Rattle.gs_disk.proofs.Updates.{puts}
use Rattle.gs_disk.proofs.files.remove.Goals as goal

pub returns : goal.returns
returns c = puts c.args.files.now c.remove.new.self _ _ c.remove.ensures.updates
