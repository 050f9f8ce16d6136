use Rattle.std.proofs.Common.{ap, ◌∙◌}
use Rattle.gs_store.specs.Versions.{kept_in}
use Rattle.gs_store.proofs.Loaded.{none_loaded, some_loaded, held_by}
use Rattle.gs_store.proofs.store.Store.load.Goals as goal

pub returns-in-Ok-None-clause-loaded : goal.returns-in-Ok-None-clause-loaded
returns-in-Ok-None-clause-loaded g c = λ told.
    none_loaded c.in-Ok-None.field-0 c.new.result (g.D.Disk.state c.open_log.new.disk)
    (c.in-Ok-None.ensures.found told) c.in-Ok-None.field-0-is c.new.ensures
    (c.in-Ok-None.ensures.only told)

pub returns-in-Ok-check_files-clause-loaded : goal.returns-in-Ok-check_files-clause-loaded
returns-in-Ok-check_files-clause-loaded g c = λ told.
    let a = g.D.Disk.state c.open_log.new.disk in let b = g.D.Disk.state c.check_files.new.disk in
    some_loaded a b c.in-Ok-Some.log c.in-Ok.book c.deref.result.now
    (held_by c.in-Ok-Some.field-0 c.in-Ok-Some.log a.folder (c.in-Ok-Some.ensures.found told)
    c.in-Ok-Some.field-0-is)
    (c.in-Ok-Some.ensures.only told) c.in-Ok.ensures.read
    (c.deref.ensures.value ∙ c.in_ok-kept.ensures ∙ ap kept_in c.entries.ensures)
    (c.in-Ok-check_files.ensures.stand told) (c.check_files.ensures.images told)
    (c.check_files.ensures.same told)
