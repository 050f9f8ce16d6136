-- What stands, stands in each call of a life.
use Rattle.gs_life.proofs.Living.{life_stands}
use Rattle.gs_life.proofs.laws.lives_stand.Goals as goal

pub returns : goal.returns
returns g c = λ o first calls life. life_stands g.D.Disk.state o first calls life
