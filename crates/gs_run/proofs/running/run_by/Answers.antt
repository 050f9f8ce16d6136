use Rattle.std.proofs.Common.{Ok, Err, sym, subst, ap, ◌∙◌}
use Rattle.gs_broker.specs.Listed.{entries_in}
use Rattle.gs_check.specs.Passing.{program_in, interface_in}
use Rattle.gs_main.specs.Shown.{talking}
use Rattle.gs_site.specs.Site.{disk_of, link_of}
use Rattle.gs_store.specs.State.{StoreState}
use Rattle.gs_engine.proofs.Misfits.{enters_fit}
use Rattle.gs_run.specs.Course.{Stood}
use Rattle.gs_run.specs.Halted.{RunsBy}
use Rattle.gs_run.specs.declared.stop.Stop.{Stop}
use Rattle.gs_run.proofs.Courses.{call_for, stood_ran}
use Rattle.gs_run.proofs.Entering.{enters}
use Rattle.gs_run.proofs.Found.{from, for_from, goes_for, run_from}
use Rattle.gs_run.proofs.Stops.{failing, fault_blames, fault_halts, header_fits, unbegun}
use Rattle.gs_run.proofs.Users.{fault_users}
use Rattle.gs_run.proofs.running.run_by.Goals as goal

pub run-requires-clause-fits : goal.run-requires-clause-fits
run-requires-clause-fits g c = header_fits c.args.texts.now (interface_in c.args.plan.checked)
    (program_in c.args.plan.checked) c.requires.named c.requires.says

pub returns-in-Err-clause-ran : goal.returns-in-Err-clause-ran
returns-in-Err-clause-ran g c = λ told o past stands run texts law before costs. unbegun o
    c.args.words.now.settings (entries_in c.args.plan.workers) c.args.store.entries past
    (g.D.Disk.state (disk_of c.args.site.now)) (g.K.Link.tells (link_of c.args.site.now)) stands
    before

pub returns-in-Err-new-clause-ran : goal.returns-in-Err-new-clause-ran
returns-in-Err-new-clause-ran g c = λ told o past stands run texts law before costs. unbegun o
    c.args.words.now.settings (entries_in c.args.plan.workers) c.args.store.entries past
    (g.D.Disk.state (disk_of c.args.site.now)) (g.K.Link.tells (link_of c.args.site.now)) stands
    before

pub returns-in-Ok-run-clause-ran : goal.returns-in-Ok-run-clause-ran
returns-in-Ok-run-clause-ran g c = λ told o past stands run texts law before costs.
    let en = enters g.D.Disk.state g.K.Link.tells (λ l. g.K.L.Law.meaning (g.K.Link.law l))
    (from o c.args.store.entries)
    c.args.words.now.settings c.args.words.now.idl c.args.words.now.program c.args.texts.now
    c.args.plan.checked c.args.plan.workers (talking c.in-Ok.main) c.in-Ok-new.broker
    c.args.store.entries past (disk_of c.args.site.now) (link_of c.args.site.now)
    (for_from o c.args.store.entries (g.D.Disk.state (disk_of c.args.site.now)) stands)
    (run_from o c.args.words.now.idl c.args.words.now.program c.args.store.entries run) texts
    c.requires.says law before c.in-Ok.ensures.begins c.in-Ok-new.ensures c.requires.tries.0
    c.requires.tries.1 in
    let call = call_for (from o c.args.store.entries) c.args.words.now.settings (entries_in c.args.plan.workers)
    c.args.store.entries past in
    let ran = c.in-Ok-run.ensures.ran told call en
    (ap (λ l. g.C.CostLaw.cost l) c.new-policy.ensures ∙ costs) in
    stood_ran o c.args.words.now.settings (entries_in c.args.plan.workers) c.args.store.entries past
    (g.D.Disk.state (disk_of c.args.site.now)) (g.D.Disk.state (disk_of c.run.new.site))
    g.K.Link.tells (link_of c.run.new.site) ran.0 (Ok c.in-Ok-run.store)
    (goes_for o c.args.store.entries (g.D.Disk.state (disk_of c.args.site.now)) stands)
    (enters_fit c.args.texts.now c.in-Ok.main c.in-Ok-new.broker c.args.words.now.settings.window
    call en) ran.1

pub returns-clause-cause : goal.returns-clause-cause
returns-clause-cause g c = fault_blames StoreState c.args.words.now.settings.fuel
    (g.D.Disk.state (disk_of c.args.site.now)).faults
    (g.D.Disk.state (disk_of c.run.new.site)).faults (g.K.Link.faults (link_of c.args.site.now))
    (g.K.Link.faults (link_of c.run.new.site)) c.in-Err-run.fault c.stop_of_fault.result
    c.stop_of_fault.ensures c.in-Err-run.ensures.cause

pub returns-clause-halts : goal.returns-clause-halts
returns-clause-halts g c = fault_halts c.args.words.now.settings.fuel
    c.in-Err-run.fault c.stop_of_fault.result c.stop_of_fault.ensures

pub returns-clause-ran : goal.returns-clause-ran
returns-clause-ran g c = λ told o past stands run texts law before costs.
    let en = enters g.D.Disk.state g.K.Link.tells (λ l. g.K.L.Law.meaning (g.K.Link.law l))
    (from o c.args.store.entries)
    c.args.words.now.settings c.args.words.now.idl c.args.words.now.program c.args.texts.now
    c.args.plan.checked c.args.plan.workers (talking c.in-Ok.main) c.in-Ok-new.broker
    c.args.store.entries past (disk_of c.args.site.now) (link_of c.args.site.now)
    (for_from o c.args.store.entries (g.D.Disk.state (disk_of c.args.site.now)) stands)
    (run_from o c.args.words.now.idl c.args.words.now.program c.args.store.entries run) texts
    c.requires.says law before c.in-Ok.ensures.begins c.in-Ok-new.ensures c.requires.tries.0
    c.requires.tries.1 in
    let call = call_for (from o c.args.store.entries) c.args.words.now.settings (entries_in c.args.plan.workers)
    c.args.store.entries past in
    let ran = c.in-Err-run.ensures.ran told call en
    (ap (λ l. g.C.CostLaw.cost l) c.new-policy.ensures ∙ costs) in
    subst (λ (e : Stop). Stood {T = StoreState} o c.args.store.entries past
    (g.D.Disk.state (disk_of c.args.site.now)) (g.D.Disk.state (disk_of c.run.new.site))
    (g.K.Link.tells (link_of c.run.new.site)) (RunsBy {T = StoreState} o c.args.words.now.settings
    (entries_in c.args.plan.workers) c.args.store.entries (Err e)) (Err e)) (sym c.stop_of_fault.ensures)
    (stood_ran o c.args.words.now.settings (entries_in c.args.plan.workers) c.args.store.entries
    past (g.D.Disk.state (disk_of c.args.site.now)) (g.D.Disk.state (disk_of c.run.new.site))
    g.K.Link.tells (link_of c.run.new.site) ran.0 (failing {T = StoreState} c.in-Err-run.fault)
    (goes_for o c.args.store.entries (g.D.Disk.state (disk_of c.args.site.now)) stands)
    (enters_fit c.args.texts.now c.in-Ok.main c.in-Ok-new.broker c.args.words.now.settings.window
    call en) ran.1)

pub returns-clause-users : goal.returns-clause-users
returns-clause-users g c = λ told. fault_users c.args.words.now.settings.fuel
    (g.D.Disk.state (disk_of c.args.site.now)) (g.D.Disk.state (disk_of c.run.new.site))
    c.in-Err-run.fault c.stop_of_fault.result c.stop_of_fault.ensures
    (c.in-Err-run.ensures.users told)
