use Rattle.gs_run.proofs.Living.{life_keeps}
use Rattle.gs_run.proofs.laws.lives_keep.Goals as goal

pub returns : goal.returns
returns g c = λ told o idl program first calls life. life_keeps g.D.Disk.state g.K.Link.tells
    g.D.Disk.tells g.O.Sink.tells o idl program first calls
    (λ d. g.met.D.Disk.reads_an_image told d) told life
