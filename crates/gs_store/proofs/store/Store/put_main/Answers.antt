use Rattle.std.proofs.Common.{Ok, arith, rules}
use Rattle.gs_types.specs.declared.note.Version.TheVariants.{Main}
use Rattle.gs_store.proofs.Putting.{puts, main_unnamed}
use Rattle.gs_store.proofs.store.Store.put_main.Goals as goal

pub returns-in_err-put_file-clause-puts : goal.returns-in_err-put_file-clause-puts
returns-in_err-put_file-clause-puts g c = λ told.
    let es = c.args.self.now.entries in
    let a = g.D.Disk.state c.args.disk.now in let b = g.D.Disk.state c.put_file.new.disk in
    puts c.from_residual.result c.args.self.now (Main c.args.k) c.args.bytes.now c.main_file.result
    a b (omega arith)
    (main_unnamed es c.args.k c.requires.running)
    c.main_file.ensures (c.put_file.ensures.touches told) (search rules)
    (c.requires.disk_of_store told)

pub returns-clause-puts : goal.returns-clause-puts
returns-clause-puts g c = λ told.
    let es = c.args.self.now.entries in
    let a = g.D.Disk.state c.args.disk.now in let b = g.D.Disk.state c.put_file.new.disk in
    puts (Ok tt) c.args.self.now (Main c.args.k) c.args.bytes.now c.main_file.result a b
    (omega arith)
    (main_unnamed es c.args.k c.requires.running)
    c.main_file.ensures (c.put_file.ensures.touches told) (c.in_ok-put_file.ensures.put told)
    (c.requires.disk_of_store told)
