use Rattle.std.proofs.Common.{Ok, Err, rules, subst, sym}
use Rattle.gs_disk.specs.Folder.{Folder}
use Rattle.gs_back.specs.Finals.{finals_in, finals_of, AreSet}
use Rattle.gs_back.proofs.Fitting.{is_gate}
use Rattle.gs_back.proofs.Setting.{writes, written_part, stood_so, refused_so, complete}
use Rattle.gs_back.proofs.back.write_back.Goals as goal

pub returns-in-Err-clause-writes : goal.returns-in-Err-clause-writes
returns-in-Err-clause-writes g c = λ told.
    let es = c.args.store.now.entries in let gate =
    is_gate c.gate_of-g.result.now c.gate_of-g.ensures.fits in
    let a = g.D.Disk.state c.args.disk.now in let b = g.D.Disk.state c.set_finals.new.disk in
    written_part c.in-Err.failure es c.gate_of-g.result.now a b c.gate_of-g.ensures.value gate
    (c.set_finals.ensures.touches told)

pub returns-in_err-sync-clause-writes : goal.returns-in_err-sync-clause-writes
returns-in_err-sync-clause-writes g c = λ told.
    let es = c.args.store.now.entries in let gate =
    is_gate c.gate_of-g.result.now c.gate_of-g.ensures.fits in
    let a = g.D.Disk.state c.args.disk.now in let b = g.D.Disk.state c.set_finals.new.disk in
    let d = g.D.Disk.state c.sync.new.self in
    writes c.from_residual.result es c.gate_of-g.result.now a b d c.gate_of-g.ensures.value gate
    (c.set_finals.ensures.touches told) (c.sync.ensures.images told) (c.sync.ensures.same told)
    (search rules) (search rules)

pub returns-clause-writes : goal.returns-clause-writes
returns-clause-writes g c = λ told.
    let es = c.args.store.now.entries in let gate =
    is_gate c.gate_of-g.result.now c.gate_of-g.ensures.fits in
    let a = g.D.Disk.state c.args.disk.now in let b = g.D.Disk.state c.set_finals.new.disk in
    let d = g.D.Disk.state c.sync.new.self in
    let note = c.gate_of-g.result.now in
    writes (Ok tt) es note a b d c.gate_of-g.ensures.value gate (c.set_finals.ensures.touches told)
    (c.sync.ensures.images told) (c.sync.ensures.same told)
    (subst (λ (f : Folder). AreSet (finals_in note.names note.finals) a.folder f)
    (sym (c.sync.ensures.same told)) (c.in_default.ensures.set told))
    (c.in_ok-sync.ensures.only told)

pub returns-in-Err-clause-refused : goal.returns-in-Err-clause-refused
returns-in-Err-clause-refused g c = λ told.
    refused_so c.args.store.now.entries c.gate_of-g.result.now
    (g.D.Disk.state c.args.disk.now).folder c.in-Err.failure c.gate_of-g.ensures.value
    (c.in-Err.ensures.refused told)

pub returns-clause-stood : goal.returns-clause-stood
returns-clause-stood g c = λ told.
    stood_so c.args.store.now.entries c.gate_of-g.result.now
    (g.D.Disk.state c.args.disk.now).folder c.gate_of-g.ensures.value
    (c.in_default.ensures.stood told)

pub returns-in-Err-clause-complete : goal.returns-in-Err-clause-complete
returns-in-Err-clause-complete g c = λ told well.
    let es = c.args.store.now.entries in
    let a = g.D.Disk.state c.args.disk.now in let b = g.D.Disk.state c.set_finals.new.disk in
    complete {T = Unit {0}} (Err c.in-Err.failure) (finals_of es) a b
    (refused_so es c.gate_of-g.result.now a.folder c.in-Err.failure c.gate_of-g.ensures.value
    (c.in-Err.ensures.refused told))
    (search rules) well

pub returns-in_err-sync-clause-complete : goal.returns-in_err-sync-clause-complete
returns-in_err-sync-clause-complete g c = λ told well.
    let es = c.args.store.now.entries in
    let a = g.D.Disk.state c.args.disk.now in let d = g.D.Disk.state c.sync.new.self in
    complete c.from_residual.result (finals_of es) a d (search rules) (search rules) well
