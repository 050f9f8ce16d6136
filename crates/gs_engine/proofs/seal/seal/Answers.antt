use Rattle.std.proofs.Common.{◌++◌, subst}
use Rattle.gs_store.specs.Versions.{finals_kept}
use Rattle.gs_site.specs.Site.{disk_of}
use Rattle.gs_finish.specs.declared.halt.Halt.TheVariants.{NoMemory}
use Rattle.gs_engine.specs.Sealing.{LacksKept}
use Rattle.gs_engine.proofs.BeginningWords.{done}
use Rattle.gs_engine.proofs.SealingClosed.{Gates, nothing_sealed, gate_sealed, all_sealed}
use Rattle.gs_engine.proofs.SealingFinals.{never_lacks, none_lost_lacks}
use Rattle.gs_engine.proofs.SealingGate.{joined_for, joined_gate, joined_stand}
use Rattle.gs_engine.proofs.SealingStage.{has_gated, finish_never}
use Rattle.gs_engine.proofs.seal.seal.Goals as goal

pub finish-requires : goal.finish-requires
finish-requires g c = record {
  ended = has_gated c.args.store c.gate_checked.new.store c.in-Ok.note c.requires.running
      c.in_default.ensures.store;
  disk_of_store = c.in_default.ensures.disk;
}

pub returns-in-Err-clause-closes : goal.returns-in-Err-clause-closes
returns-in-Err-clause-closes g c = λ told course k h j ended. nothing_sealed course.origin
    c.args.store.entries (g.D.Disk.state (disk_of c.args.site.now)) NoMemory (joined_for j)

pub returns-in-Err-gate_checked-clause-closes : goal.returns-in-Err-gate_checked-clause-closes
returns-in-Err-gate_checked-clause-closes g c = λ told course k h j ended.
    gate_sealed course.origin c.args.store c.in-Ok.note (g.D.Disk.state (disk_of c.args.site.now))
    (g.D.Disk.state c.gate_checked.new.disk) c.gate_checked.result c.in-Err-gate_checked.halt
    (subst (λ d. Gates c.args.store c.in-Ok.note (g.D.Disk.state d)
    (g.D.Disk.state c.gate_checked.new.disk) c.gate_checked.result) c.disk.ensures.value
    (c.gate_checked.ensures.gates told))
    (joined_for j)
    (joined_gate c.in-Ok.note j c.in-Ok.ensures.fits ended
    (c.in-Ok.ensures.says course.setup k (h ++ course.noted) j.stands ended))

pub returns-in-Err-gate_checked-clause-never : goal.returns-in-Err-gate_checked-clause-never
returns-in-Err-gate_checked-clause-never g c = λ told course k h j ended.
    never_lacks (g.D.Disk.state (disk_of c.args.site.now)).folder (finals_kept c.in-Ok.note.finals)
    c.in-Err-gate_checked.halt
    (joined_stand c.in-Ok.note j c.in-Ok.ensures.fits ended
    (c.in-Ok.ensures.says course.setup k (h ++ course.noted) j.stands ended))
    (subst (λ d. LacksKept (g.D.Disk.state d).folder (finals_kept c.in-Ok.note.finals)
    c.in-Err-gate_checked.halt) c.disk.ensures.value (c.in-Err-gate_checked.ensures.lacks told))

pub returns-clause-closes : goal.returns-clause-closes
returns-clause-closes g c = λ told course k h j ended.
    all_sealed course.origin c.args.store c.gate_checked.new.store c.in-Ok.note
    (g.D.Disk.state (disk_of c.args.site.now)) (g.D.Disk.state c.gate_checked.new.disk)
    (g.D.Disk.state (disk_of c.finish.new.site)) c.finish.result c.in_default.ensures.store
    (subst (λ d. Gates c.args.store c.in-Ok.note (g.D.Disk.state d)
    (g.D.Disk.state c.gate_checked.new.disk) done) c.disk.ensures.value
    (c.in_default.ensures.gates told))
    (c.finish.ensures.stands told) (c.finish.ensures.closed told) (joined_for j)
    (joined_gate c.in-Ok.note j c.in-Ok.ensures.fits ended
    (c.in-Ok.ensures.says course.setup k (h ++ course.noted) j.stands ended))

pub returns-clause-never : goal.returns-clause-never
returns-clause-never g c = λ told course k h j ended.
    finish_never c.args.store c.gate_checked.new.store c.in-Ok.note
    (g.D.Disk.state c.gate_checked.new.disk).folder c.finish.result c.requires.running
    c.in_default.ensures.store (c.in_default.ensures.stand told) (c.finish.ensures.refused told)

pub returns-clause-refused : goal.returns-clause-refused
returns-clause-refused g c = λ told.
    none_lost_lacks (g.D.Disk.state (disk_of c.finish.new.site)).folder c.finish.result
    (finish_never c.args.store c.gate_checked.new.store c.in-Ok.note
    (g.D.Disk.state c.gate_checked.new.disk).folder c.finish.result c.requires.running
    c.in_default.ensures.store (c.in_default.ensures.stand told) (c.finish.ensures.refused told))
