use Rattle.gs_engine.specs.Running.{HasRound}
use Rattle.gs_engine.specs.Sane.{moment_of}
use Rattle.gs_engine.specs.Starting.{HasCosts}
use Rattle.gs_engine.specs.Steps.{whatever}
use Rattle.gs_engine.proofs.Settling.{goes_stopped}
use Rattle.gs_engine.proofs.Rounds.{round_goes, round_stopped}
use Rattle.gs_site.specs.Site.{disk_of}
use Rattle.gs_engine.proofs.Users.{stay_then}
use Rattle.gs_engine.proofs.running.round.Goals as goal

pub returns-in-Err-clause-goes : goal.returns-in-Err-clause-goes
returns-in-Err-clause-goes g c = λ told. goes_stopped {A = Unit {0}}
    (moment_of c.settle.new.core c.settle.new.store c.settle.new.site) whatever
    (HasCosts (g.C.CostLaw.cost c.args.p.now.law.value)) HasRound c.in-Err.halt
    (λ cs k h p. tt {0}) (c.in-Err.ensures.goes told)

pub returns-in-Err-start_all-clause-goes : goal.returns-in-Err-start_all-clause-goes
returns-in-Err-start_all-clause-goes g c = λ told. round_stopped
    (moment_of c.start_all.new.core c.settle.new.store c.start_all.new.site)
    (g.C.CostLaw.cost c.args.p.now.law.value) c.in-Err-start_all.halt
    (c.in_default.ensures.goes told) (c.in-Err-start_all.ensures.goes told)

pub returns-clause-goes : goal.returns-clause-goes
returns-clause-goes g c = λ told. round_goes
    (moment_of c.start_all.new.core c.settle.new.store c.start_all.new.site)
    (g.C.CostLaw.cost c.args.p.now.law.value) c.verdict.result
    (c.in_default.ensures.goes told) (c.in_default-start_all.ensures.goes told)
    c.verdict.ensures

pub returns-in-Err-start_all-clause-users : goal.returns-in-Err-start_all-clause-users
returns-in-Err-start_all-clause-users g c = λ told. stay_then (g.D.Disk.state (disk_of c.args.site.now))
    (g.D.Disk.state (disk_of c.settle.new.site)) (g.D.Disk.state (disk_of c.start_all.new.site))
    (c.settle.ensures.users told) (c.start_all.ensures.users told)

pub returns-clause-users : goal.returns-clause-users
returns-clause-users g c = λ told. stay_then (g.D.Disk.state (disk_of c.args.site.now))
    (g.D.Disk.state (disk_of c.settle.new.site)) (g.D.Disk.state (disk_of c.start_all.new.site))
    (c.settle.ensures.users told) (c.start_all.ensures.users told)
