use Rattle.std.proofs.Common.{subst, sym}
use Rattle.gs_idl.specs.Interface.{params_at}
use Rattle.gs_keep.specs.Given.{files_in, placed}
use Rattle.gs_finish.specs.Finishing.{IsNotLost}
use Rattle.gs_engine.proofs.Settling.{outside_found}
use Rattle.gs_engine.proofs.Waiting.{same_mains, notes_are, entry_is, outputs_are, kept_ok, kept_err, keeps_none, kept_notes, not_kept}
use Rattle.gs_engine.proofs.Users.{stay_here, stay_keeps}
use Rattle.gs_engine.proofs.wait.keep.Goals as goal

pub returns-in_default-clause-keeps : goal.returns-in_default-clause-keeps
returns-in_default-clause-keeps g c = λ told. keeps_none c.args.core.now c.args.store.now.entries
    c.args.n c.args.outs.now (g.D.Disk.state c.args.disk.now) _

pub returns-then-n-eq0-clause-keeps : goal.returns-then-n-eq0-clause-keeps
returns-then-n-eq0-clause-keeps g c = λ told. keeps_none c.args.core.now c.args.store.now.entries
    c.args.n c.args.outs.now (g.D.Disk.state c.args.disk.now) _

pub returns-in-Ok-clause-notes : goal.returns-in-Ok-clause-notes
returns-in-Ok-clause-notes g c = λ s t given. notes_are c.args.core.now c.idl.result.now s c.args.n
    c.in-Some.op t c.args.outs.now c.in-Ok.notes c.idl.ensures c.in-Some.ensures.is
    c.in-Ok.ensures.notes given

pub returns-in-Ok-clause-mains : goal.returns-in-Ok-clause-mains
returns-in-Ok-clause-mains g c = λ told. same_mains c.args.n
    (files_in (placed (params_at c.idl.result.now.ops c.in-Some.op) c.args.outs.now))
    (g.D.Disk.state c.args.disk.now).folder (g.D.Disk.state c.keep_outputs.new.disk).folder
    (c.in-Ok.ensures.keeps told).others

pub returns-in-Err-clause-mains : goal.returns-in-Err-clause-mains
returns-in-Err-clause-mains g c = λ told. same_mains c.args.n
    (files_in (placed (params_at c.idl.result.now.ops c.in-Some.op) c.args.outs.now))
    (g.D.Disk.state c.args.disk.now).folder (g.D.Disk.state c.keep_outputs.new.disk).folder
    (c.in-Err.ensures.keeps told).others

pub returns-in-Ok-clause-keeps : goal.returns-in-Ok-clause-keeps
returns-in-Ok-clause-keeps g c = λ told. kept_ok c.args.core.now c.args.store.now
    c.keep_outputs.new.store c.args.n c.in-Some.op c.args.outs.now
    (g.D.Disk.state c.args.disk.now) (g.D.Disk.state c.keep_outputs.new.disk) c.in-Ok.notes
    c.in-Some.ensures.is (g.met.D.Disk.reads_an_image told c.keep_outputs.new.disk)
    c.requires.undone
    (entry_is c.args.core.now c.idl.result.now c.args.store.now c.keep_outputs.new.store c.args.n
    c.in-Some.op c.args.outs.now c.idl.ensures c.in-Ok.ensures.store)
    (outputs_are c.args.core.now c.idl.result.now c.args.store.now c.args.n c.in-Some.op
    c.args.outs.now (g.D.Disk.state c.args.disk.now) (g.D.Disk.state c.keep_outputs.new.disk)
    (kept_notes c.in-Ok.notes) c.idl.ensures (c.in-Ok.ensures.keeps told))

pub returns-in-Err-clause-keeps : goal.returns-in-Err-clause-keeps
returns-in-Err-clause-keeps g c = λ told. kept_err c.args.core.now c.args.store.now
    c.keep_outputs.new.store c.args.n c.in-Some.op c.args.outs.now
    (g.D.Disk.state c.args.disk.now) (g.D.Disk.state c.keep_outputs.new.disk) c.in-Err.failure
    c.from.result c.in-Some.ensures.is
    (g.met.D.Disk.reads_an_image told c.keep_outputs.new.disk) c.requires.undone
    (outputs_are c.args.core.now c.idl.result.now c.args.store.now c.args.n c.in-Some.op
    c.args.outs.now (g.D.Disk.state c.args.disk.now) (g.D.Disk.state c.keep_outputs.new.disk)
    (not_kept c.in-Err.failure) c.idl.ensures (c.in-Err.ensures.keeps told))

pub returns-in-Err-clause-found : goal.returns-in-Err-clause-found
returns-in-Err-clause-found g c = subst IsNotLost (sym c.from.ensures)
    (outside_found c.in-Err.failure c.in-Err.ensures.fails.outside)

pub returns-in_default-clause-users : goal.returns-in_default-clause-users
returns-in_default-clause-users g c = λ told. stay_here (g.D.Disk.state c.args.disk.now)

pub returns-then-n-eq0-clause-users : goal.returns-then-n-eq0-clause-users
returns-then-n-eq0-clause-users g c = λ told. stay_here (g.D.Disk.state c.args.disk.now)

pub returns-in-Ok-clause-users : goal.returns-in-Ok-clause-users
returns-in-Ok-clause-users g c = λ told. stay_keeps c.args.store.now _ c.args.n _
    (g.D.Disk.state c.args.disk.now) (g.D.Disk.state c.keep_outputs.new.disk)
    c.keep_outputs.result (c.requires.disk_of_store told) (c.keep_outputs.ensures.keeps told)

pub returns-in-Err-clause-users : goal.returns-in-Err-clause-users
returns-in-Err-clause-users g c = λ told. stay_keeps c.args.store.now _ c.args.n _
    (g.D.Disk.state c.args.disk.now) (g.D.Disk.state c.keep_outputs.new.disk)
    c.keep_outputs.result (c.requires.disk_of_store told) (c.keep_outputs.ensures.keeps told)
