use Rattle.std.proofs.Common.{◌≡◌, ◌≤◌, true}
use Rattle.std.specs.Prelude.{◌⊎◌}
use Rattle.gs_types.specs.Counts.{Rises}
use Rattle.gs_core.specs.Stages.{IsAnswered}
use Rattle.gs_site.specs.Site.{disk_of, link_of, mark_of}
use Rattle.gs_engine.specs.Joined.{Goes}
use Rattle.gs_engine.specs.Sane.{Sane, IsRecorded, moment_of}
use Rattle.gs_engine.specs.Starting.{HasCosts}
use Rattle.gs_engine.specs.Steps.{whatever}
use Rattle.gs_engine.proofs.Settling.{done}
use Rattle.gs_engine.specs.Users.{UsersStay}
use Rattle.gs_engine.proofs.running.drive.Given as goal

abbrev pub invariant-loop-i : goal.invariant-loop-i
invariant-loop-i g l = record {
  answered : IsAnswered l.core.stage;
  sane : Sane g.D.Disk.tells g.D.Disk.state g.K.Link.jobs (moment_of l.core l.store l.site);
  recorded : IsRecorded g.K.Link.tells l.store.entries (link_of l.site) (mark_of l.site);
  faults : (g.D.Disk.state (disk_of l.fn.site)).faults ≤ (g.D.Disk.state (disk_of l.site)).faults;
  rise : g.K.Link.faults (link_of l.fn.site) ≤ g.K.Link.faults (link_of l.site);
  failed : l.failed ≡ true → (l.fn.failed ≡ true)
      ⊎ Rises (g.K.Link.faults (link_of l.fn.site)) (g.K.Link.faults (link_of l.site));
  users : g.D.Disk.tells → UsersStay (g.D.Disk.state (disk_of l.fn.site))
      (g.D.Disk.state (disk_of l.site));
  goes : g.D.Disk.tells → Goes g.D.Disk.state g.K.Link.tells g.K.Link.jobs
      (λ x. g.K.L.Law.meaning (g.K.Link.law x)) (moment_of l.fn.core l.fn.store l.fn.site)
      (moment_of l.core l.store l.site) (HasCosts (g.C.CostLaw.cost l.p.law.value)) whatever done;
}
