use Rattle.std.proofs.Common.{List, sym, subst}
use Rattle.gs_types.specs.declared.note.FinalNote.{FinalNote}
use Rattle.gs_disk.specs.Folder.{Folder}
use Rattle.gs_store.specs.Versions.{AllStand, finals_kept}
use Rattle.gs_store.proofs.Loaded.{disk_same}
use Rattle.gs_engine.specs.Sealing.{LacksKept}
use Rattle.gs_engine.proofs.BeginningWords.{done, halt}
use Rattle.gs_engine.proofs.SealingClosed.{looked_gates, then_gates}
use Rattle.gs_engine.proofs.SealingFinals.{lacks_length}
use Rattle.gs_engine.proofs.Settling.{found_lacks}
use Rattle.gs_engine.proofs.seal.gate_checked.Goals as goal

pub gate-requires : goal.gate-requires
gate-requires g c = record {
  running = c.requires.running;
  fits = c.requires.fits;
  stand = λ told. subst (λ (f : Folder). AllStand f (finals_kept c.args.note.finals))
      (sym (c.check_finals.ensures.same told))
      (subst (λ (fs : List FinalNote). AllStand (g.D.Disk.state c.args.disk.now).folder
      (finals_kept fs)) c.items.ensures (c.in_default.ensures.stand told));
  disk_of_store = λ told. disk_same c.args.store.now (g.D.Disk.state c.args.disk.now)
      (g.D.Disk.state c.check_finals.new.disk) (c.check_finals.ensures.images told)
      (c.requires.disk_of_store told);
}

pub returns-in-Err-clause-gates : goal.returns-in-Err-clause-gates
returns-in-Err-clause-gates g c = λ told. looked_gates c.args.store.now c.args.note
    (g.D.Disk.state c.args.disk.now) (g.D.Disk.state c.check_finals.new.disk) c.in-Err.halt
    (c.check_finals.ensures.images told)

pub returns-in-Ok-clause-gates : goal.returns-in-Ok-clause-gates
returns-in-Ok-clause-gates g c = λ told. then_gates c.args.store.now c.args.note
    (g.D.Disk.state c.args.disk.now) (g.D.Disk.state c.check_finals.new.disk)
    (g.D.Disk.state c.gate.new.disk) done (c.check_finals.ensures.same told)
    (c.check_finals.ensures.images told) (c.in-Ok.ensures.gates told)

pub returns-in-Err-gate-clause-gates : goal.returns-in-Err-gate-clause-gates
returns-in-Err-gate-clause-gates g c = λ told. then_gates c.args.store.now c.args.note
    (g.D.Disk.state c.args.disk.now) (g.D.Disk.state c.check_finals.new.disk)
    (g.D.Disk.state c.gate.new.disk) (halt c.in-Err-gate.halt) (c.check_finals.ensures.same told)
    (c.check_finals.ensures.images told) (c.in-Err-gate.ensures.gates told)

pub returns-in-Err-clause-refused : goal.returns-in-Err-clause-refused
returns-in-Err-clause-refused g c = λ told.
    lacks_length (g.D.Disk.state c.args.disk.now).folder
    (g.D.Disk.state c.check_finals.new.disk).folder (finals_kept c.args.note.finals)
    c.in-Err.halt (c.check_finals.ensures.same told)
    (subst (λ (fs : List FinalNote). LacksKept (g.D.Disk.state c.args.disk.now).folder
    (finals_kept fs) c.in-Err.halt) c.items.ensures (c.in-Err.ensures.refused told))

pub returns-in-Err-gate-clause-refused : goal.returns-in-Err-gate-clause-refused
returns-in-Err-gate-clause-refused g c = λ told.
    found_lacks (g.D.Disk.state c.gate.new.disk).folder c.in-Err-gate.halt
    c.in-Err-gate.ensures.outside
