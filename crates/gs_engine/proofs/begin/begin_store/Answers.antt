use Rattle.std.proofs.Common.{sym, ap, ◌∙◌, subst}
use Rattle.gs_store.specs.State.{StoreState}
use Rattle.gs_engine.specs.Beginning.{notes_in}
use Rattle.gs_engine.proofs.BeginningStore.{no_notes, store_begins, store_halts, store_stays}
use Rattle.gs_store.specs.Spans.{Agreed}
use Rattle.gs_store.proofs.Beginning.{none_if_fresh}
use Rattle.gs_engine.proofs.Users.{stay_here, stay_adds}
use Rattle.gs_engine.proofs.begin.begin_store.Goals as goal

pub returns-in-Ok-clause-notes : goal.returns-in-Ok-clause-notes
returns-in-Ok-clause-notes g c =
    ap (λ (st : StoreState). notes_in 0 st.entries) c.in-Ok.ensures.store
    ∙ no_notes c.args.store.now.entries c.args.texts.now (sym c.in-Fresh.ensures)

pub returns-in-Ok-clause-stood : goal.returns-in-Ok-clause-stood
returns-in-Ok-clause-stood g c = λ told o texts for. store_begins o c.args.store.now
    c.begin.new.self c.args.texts.now (g.D.Disk.state c.args.disk.now)
    (g.D.Disk.state c.begin.new.disk) (sym c.in-Fresh.ensures)
    (g.met.D.Disk.reads_an_image told c.begin.new.disk) c.requires.fits c.in-Ok.ensures.store
    (c.in-Ok.ensures.begins told) texts for

pub returns-in-Err-clause-stood : goal.returns-in-Err-clause-stood
returns-in-Err-clause-stood g c = λ told o texts for. store_halts o c.args.store.now
    c.begin.new.self c.args.texts.now (g.D.Disk.state c.args.disk.now)
    (g.D.Disk.state c.begin.new.disk) c.begin.result c.from.result (sym c.in-Fresh.ensures)
    (g.met.D.Disk.reads_an_image told c.begin.new.disk) c.requires.fits
    (c.begin.ensures.begins told) texts for

pub returns-in-Running-clause-stood : goal.returns-in-Running-clause-stood
returns-in-Running-clause-stood g c = λ told o texts for. store_stays o c.args.store.now
    (g.D.Disk.state c.args.disk.now) (sym c.in-Running.ensures) for

pub returns-in-Ok-clause-users : goal.returns-in-Ok-clause-users
returns-in-Ok-clause-users g c = λ told. stay_adds c.args.texts.now
    (g.D.Disk.state c.args.disk.now) (g.D.Disk.state c.begin.new.disk)
    (subst (λ es. Agreed es (g.D.Disk.state c.args.disk.now))
    (none_if_fresh c.args.store.now.entries (sym c.in-Fresh.ensures))
    (c.requires.disk_of_store told).agreed) (c.begin.ensures.begins told).any_moment

pub returns-in-Err-clause-users : goal.returns-in-Err-clause-users
returns-in-Err-clause-users g c = λ told. stay_adds c.args.texts.now
    (g.D.Disk.state c.args.disk.now) (g.D.Disk.state c.begin.new.disk)
    (subst (λ es. Agreed es (g.D.Disk.state c.args.disk.now))
    (none_if_fresh c.args.store.now.entries (sym c.in-Fresh.ensures))
    (c.requires.disk_of_store told).agreed) (c.begin.ensures.begins told).any_moment

pub returns-in-Running-clause-users : goal.returns-in-Running-clause-users
returns-in-Running-clause-users g c = λ told. stay_here (g.D.Disk.state c.args.disk.now)
