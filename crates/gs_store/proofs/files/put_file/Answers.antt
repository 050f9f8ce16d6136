use Rattle.std.proofs.Common.{[], ◌∷◌, length}
use Rattle.gs_disk.specs.Going.{keeps, keeps_started, keeps_files, keeps_write}
use Rattle.gs_store.proofs.files.put_file.Goals as goal

pub returns-in_err-write-clause-touches : goal.returns-in_err-write-clause-touches
returns-in_err-write-clause-touches g c = λ told.
    let name = c.args.name.now in let a = g.D.Disk.state c.args.disk.now in
    let b = g.D.Disk.state c.create.new.self in let d = g.D.Disk.state c.write.new.self in
    record {
      reads = keeps (name ∷ []) (name ∷ []) (λ x out. out) a.folder b.folder d.folder
          (c.create.ensures.others told) (c.write.ensures.torn told).others;
      images = keeps_write (name ∷ []) name 0 (length c.args.bytes.now) a b d
          (keeps_files (name ∷ []) (name ∷ []) a a b (keeps_started (name ∷ []) a)
          (c.create.ensures.images told) (λ x out. out)) (c.write.ensures.images told)
          (λ x out. out);
    }

pub returns-clause-touches : goal.returns-clause-touches
returns-clause-touches g c = λ told.
    let name = c.args.name.now in let a = g.D.Disk.state c.args.disk.now in
    let b = g.D.Disk.state c.create.new.self in let d = g.D.Disk.state c.write.new.self in
    record {
      reads = keeps (name ∷ []) (name ∷ []) (λ x out. out) a.folder b.folder d.folder
          (c.create.ensures.others told) (c.write.ensures.torn told).others;
      images = keeps_write (name ∷ []) name 0 (length c.args.bytes.now) a b d
          (keeps_files (name ∷ []) (name ∷ []) a a b (keeps_started (name ∷ []) a)
          (c.create.ensures.images told) (λ x out. out)) (c.write.ensures.images told)
          (λ x out. out);
    }
