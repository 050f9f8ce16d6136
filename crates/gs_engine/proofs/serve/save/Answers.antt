use Rattle.gs_types.specs.declared.note.Version.TheVariants as versions
use Rattle.gs_engine.proofs.Users.{stay_puts}
use Rattle.gs_engine.proofs.serve.save.Goals as goal

pub returns-clause-users : goal.returns-clause-users
returns-clause-users g c = λ told. stay_puts c.args.store.now (versions.Main c.args.k) _
    (g.D.Disk.state c.args.disk.now) (g.D.Disk.state c.put_main.new.disk) c.put_main.result
    (c.requires.disk_of_store told) (c.put_main.ensures.puts told)
