use Rattle.gs_engine.proofs.Inputs.{lacks_one}
use Rattle.gs_engine.proofs.reading.input.Goals as goal

pub returns-in-Err-clause-refused : goal.returns-in-Err-clause-refused
returns-in-Err-clause-refused g c = λ told.
    lacks_one (g.D.Disk.state c.args.disk.now).folder c.args.x.now c.in-From.version
    c.in-From.kept c.in-From.both c.in-Err.halt c.in-From.is c.know_name.ensures
    (c.in-Err.ensures.refused told)
