use Rattle.gs_engine.proofs.SealingFinals.{stand_logged, outside_not_lost}
use Rattle.gs_engine.proofs.SealingGate.{gate_keeps, gate_recorded, gate_halts}
use Rattle.gs_engine.proofs.seal.gate.Goals as goal

pub returns-in-Ok-clause-stand : goal.returns-in-Ok-clause-stand
returns-in-Ok-clause-stand g c = λ told. stand_logged (g.D.Disk.state c.args.disk.now).folder
    (g.D.Disk.state c.gate.new.disk).folder c.args.note.finals
    (gate_keeps c.args.note c.requires.fits) (c.gate.ensures.adds told).others
    (c.requires.stand told)

pub returns-in-Err-clause-stand : goal.returns-in-Err-clause-stand
returns-in-Err-clause-stand g c = λ told. stand_logged (g.D.Disk.state c.args.disk.now).folder
    (g.D.Disk.state c.gate.new.disk).folder c.args.note.finals
    (gate_keeps c.args.note c.requires.fits) (c.gate.ensures.adds told).others
    (c.requires.stand told)

pub returns-in-Err-clause-outside : goal.returns-in-Err-clause-outside
returns-in-Err-clause-outside g c = outside_not_lost c.in-Err.failure c.from.result c.from.ensures
    c.in-Err.ensures.fails.outside

pub returns-in-Ok-clause-gates : goal.returns-in-Ok-clause-gates
returns-in-Ok-clause-gates g c = λ told o for gate. gate_recorded o c.args.store.now c.args.note
    (g.D.Disk.state c.args.disk.now) (g.D.Disk.state c.gate.new.disk) c.requires.running
    (g.met.D.Disk.reads_an_image told c.gate.new.disk) c.requires.fits (c.in-Ok.ensures.adds told)
    for gate

pub returns-in-Err-clause-gates : goal.returns-in-Err-clause-gates
returns-in-Err-clause-gates g c = λ told o for gate. gate_halts o c.args.store.now c.args.note
    (g.D.Disk.state c.args.disk.now) (g.D.Disk.state c.gate.new.disk) c.gate.result c.from.result
    c.requires.running (g.met.D.Disk.reads_an_image told c.gate.new.disk) c.requires.fits
    (c.gate.ensures.adds told) for gate
