use Rattle.std.proofs.Common.{◌≡◌, List, ℕ, sym, subst, arith}
use Rattle.gs_disk.specs.Folder.{Folder}
use Rattle.gs_log.specs.Holding.{Holds}
use Rattle.gs_log.proofs.tests.add.Goals as goal

pub append-requires : goal.append-requires
append-requires g c = record {
  small = c.requires;
  room = omega (arith, c.count.ensures.value, c.count.ensures.few);
  stands = λ told image left. subst (Holds c.in_ok-log.log) (sym (c.in_ok-log.ensures.only told image left)) (c.in_ok-log.ensures.list told);
}
