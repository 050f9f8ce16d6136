use Rattle.std.proofs.Common.{◌≡◌, ◌≤◌, ap, subst, sym}
use Rattle.gs_disk.specs.Folder.{Same}
use Rattle.gs_disk.specs.Moments.{Passes}
use Rattle.gs_finish.specs.declared.halt.Halt.TheVariants.{NoMemory}
use Rattle.gs_site.specs.Site.{disk_of, link_of}
use Rattle.gs_engine.specs.Reading.{AreGiven, LacksOne}
use Rattle.gs_engine.specs.Sane.{moment_of}
use Rattle.gs_engine.specs.Starting.{IsDueNow}
use Rattle.gs_engine.specs.Steps.{whatever}
use Rattle.gs_engine.proofs.Settling.{halts_same}
use Rattle.gs_engine.proofs.Starts.{start_found, start_goes, memory_caused, memory_lacks}
use Rattle.gs_engine.proofs.Users.{stay_same, stay_then, stay_here}
use Rattle.gs_engine.specs.Users.{UsersStay}
use Rattle.gs_engine.proofs.start.start_one.Goals as goal

pub returns-in-Err-clause-goes : goal.returns-in-Err-clause-goes
returns-in-Err-clause-goes g c = λ told. halts_same c.args.core.now c.args.store.now
    (disk_of c.args.site.now) c.inputs.new.disk (link_of c.args.site.now)
    (subst (λ d. Passes Same (g.D.Disk.state d) (g.D.Disk.state c.inputs.new.disk))
    c.disk.ensures.value (c.inputs.ensures.images told)) (IsDueNow c.args.start.now) whatever
    c.in-Err.halt
    (start_found c.args.core.now c.args.store.now (disk_of c.args.site.now)
    (link_of c.args.site.now) c.args.start.now c.in-Err.halt
    (subst (λ d. LacksOne (g.D.Disk.state d).folder c.args.start.now.args c.in-Err.halt)
    c.disk.ensures.value
    (subst (λ xs. LacksOne (g.D.Disk.state c.disk.result.now).folder xs c.in-Err.halt)
    c.items.ensures (c.in-Err.ensures.refused told))))

pub returns-in-Err-job_for-clause-goes : goal.returns-in-Err-job_for-clause-goes
returns-in-Err-job_for-clause-goes g c = λ told. halts_same c.args.core.now c.args.store.now
    (disk_of c.args.site.now) c.inputs.new.disk (link_of c.args.site.now)
    (subst (λ d. Passes Same (g.D.Disk.state d) (g.D.Disk.state c.inputs.new.disk))
    c.disk.ensures.value (c.inputs.ensures.images told)) (IsDueNow c.args.start.now) whatever
    NoMemory (λ cs k h j p. tt)

pub returns-clause-cause : goal.returns-clause-cause
returns-clause-cause g c = memory_caused c.begin_job.result
    (g.D.Disk.state (disk_of c.args.site.now)).faults (g.D.Disk.state c.inputs.new.disk).faults
    (g.D.Disk.state (disk_of c.begin_job.new.site)).faults c.begin_job.ensures.memory
    (subst (λ d. (g.D.Disk.state d).faults ≤ (g.D.Disk.state c.inputs.new.disk).faults)
    c.disk.ensures.value c.inputs.ensures.cause.rise)
    (ap (λ d. (g.D.Disk.state d).faults) c.begin_job.ensures.disk)

pub returns-clause-refused : goal.returns-clause-refused
returns-clause-refused g c = λ told. memory_lacks c.begin_job.result
    (g.D.Disk.state (disk_of c.begin_job.new.site)).folder c.begin_job.ensures.memory

pub returns-clause-goes : goal.returns-clause-goes
returns-clause-goes g c = λ told. start_goes c.args.core.now c.args.store.now
    (disk_of c.args.site.now) c.inputs.new.disk (link_of c.args.site.now)
    (moment_of c.begin_job.new.core c.args.store.now c.begin_job.new.site)
    c.args.start.now c.in-Ok.args c.in-Ok-job_for.job c.begin_job.result
    (subst (λ d. (g.D.Disk.state c.inputs.new.disk).folder ≡ (g.D.Disk.state d).folder)
    c.disk.ensures.value (c.inputs.ensures.same told))
    (subst (λ d. Passes Same (g.D.Disk.state d) (g.D.Disk.state c.inputs.new.disk))
    c.disk.ensures.value (c.inputs.ensures.images told))
    (subst (λ d. AreGiven (g.D.Disk.state d).folder c.args.start.now.args c.in-Ok.args)
    c.disk.ensures.value
    (subst (λ xs. AreGiven (g.D.Disk.state c.disk.result.now).folder xs c.in-Ok.args)
    c.items.ensures (c.in-Ok.ensures.given told)))
    c.in-Ok-job_for.ensures (c.begin_job.ensures.goes told)

pub returns-in-Err-clause-users : goal.returns-in-Err-clause-users
returns-in-Err-clause-users g c = λ told. stay_same
    (g.D.Disk.state (disk_of c.args.site.now)) (g.D.Disk.state c.inputs.new.disk)
    (subst (λ d. Passes Same (g.D.Disk.state d) (g.D.Disk.state c.inputs.new.disk))
    c.disk.ensures.value (c.inputs.ensures.images told))

pub returns-in-Err-job_for-clause-users : goal.returns-in-Err-job_for-clause-users
returns-in-Err-job_for-clause-users g c = λ told. stay_same
    (g.D.Disk.state (disk_of c.args.site.now)) (g.D.Disk.state c.inputs.new.disk)
    (subst (λ d. Passes Same (g.D.Disk.state d) (g.D.Disk.state c.inputs.new.disk))
    c.disk.ensures.value (c.inputs.ensures.images told))

pub returns-clause-users : goal.returns-clause-users
returns-clause-users g c = λ told.
    subst (λ d. UsersStay (g.D.Disk.state (disk_of c.args.site.now)) (g.D.Disk.state d))
    (sym c.begin_job.ensures.disk)
    (stay_same (g.D.Disk.state (disk_of c.args.site.now)) (g.D.Disk.state c.inputs.new.disk)
    (subst (λ d. Passes Same (g.D.Disk.state d) (g.D.Disk.state c.inputs.new.disk))
    c.disk.ensures.value (c.inputs.ensures.images told)))
