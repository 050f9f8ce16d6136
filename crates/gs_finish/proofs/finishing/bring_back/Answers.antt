use Rattle.gs_life.proofs.Calls.{brings_back, gated_for}
use Rattle.gs_finish.proofs.Bringing.{disk_back}
use Rattle.gs_finish.proofs.finishing.bring_back.Goals as goal

pub returns-in-Ok-clause-back : goal.returns-in-Ok-clause-back
returns-in-Ok-clause-back g c = λ told o for.
    let es = c.args.store.now.entries in
    let a = g.D.Disk.state c.args.disk.now in
    let b = g.D.Disk.state c.write_back.new.disk in
    let s = brings_back o for.rules es a b _
    (g.met.D.Disk.reads_an_image told c.write_back.new.disk) for.steady
    (gated_for o es a c.requires.gated for) (c.in-Ok.ensures.writes told) in
    record { always = s.always; steady = s.steady; holds = s.holds }

pub returns-in-Err-clause-back : goal.returns-in-Err-clause-back
returns-in-Err-clause-back g c = λ told o for.
    let es = c.args.store.now.entries in
    let a = g.D.Disk.state c.args.disk.now in
    let b = g.D.Disk.state c.write_back.new.disk in
    let s = brings_back o for.rules es a b _
    (g.met.D.Disk.reads_an_image told c.write_back.new.disk) for.steady
    (gated_for o es a c.requires.gated for) (c.in-Err.ensures.writes told) in
    record { always = s.always; steady = tt; holds = tt }

pub returns-in-Ok-clause-disk : goal.returns-in-Ok-clause-disk
returns-in-Ok-clause-disk g c = λ told.
    disk_back c.args.store.now (g.D.Disk.state c.args.disk.now)
    (g.D.Disk.state c.write_back.new.disk) _ (g.met.D.Disk.reads_an_image told c.args.disk.now)
    c.requires.gated (c.requires.disk_of_store told) (c.in-Ok.ensures.writes told)
