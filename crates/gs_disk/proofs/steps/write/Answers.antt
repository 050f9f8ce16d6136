use Rattle.std.proofs.Common.{List, ℕ, Option, length, Some, IfSome, inl, inr, subst, ◌∙◌, ap}
use Rattle.gs_disk.specs.Folder.{overwritten}
use Rattle.gs_disk.specs.Mem.{files_of, folder_of, reads, Puts}
use Rattle.gs_disk.proofs.Kept.{room_of}
use Rattle.gs_disk.proofs.steps.write.Goals as goal

pub returns-in_err-write-clause-went : goal.returns-in_err-write-clause-went
returns-in_err-write-clause-went c =
    let r = room_of c.args.at (length c.args.bytes.now) (reads c.args.now.now c.args.name.now) c.requires in
    record {
      file = r.0;
      stood = r.1;
      room = r.2;
      done = c.note_range.ensures.done;
      kept = λ is. let k = c.note_range.ensures.kept is in (k.0, record { file = k.1.file; stood = k.1.stood; before = k.1.before; part = k.1.part; touched = k.1.touched });
      change = inl (c.in_err-write.ensures.refused ∙ ap files_of c.note_range.ensures.files);
    }

pub returns-in_ok-write-clause-went : goal.returns-in_ok-write-clause-went
returns-in_ok-write-clause-went c =
    let r = room_of c.args.at (length c.args.bytes.now) (reads c.args.now.now c.args.name.now) c.requires in
    let put = subst (λ (o : Option (List ℕ)). IfSome o (λ file. Puts c.args.name.now (Some (overwritten c.args.at c.args.bytes.now file)) (folder_of (files_of c.note_range.new.now.files)) (folder_of (files_of c.write.new.files)))) (ap (λ m. folder_of (files_of m) c.args.name.now) c.note_range.ensures.files ∙ r.1) c.in_ok-write.ensures.written in
    record {
      file = r.0;
      stood = r.1;
      room = r.2;
      done = c.note_range.ensures.done;
      kept = λ is. let k = c.note_range.ensures.kept is in (k.0, record { file = k.1.file; stood = k.1.stood; before = k.1.before; part = k.1.part; touched = k.1.touched });
      change = inr (subst (λ m. Puts c.args.name.now (Some (overwritten c.args.at c.args.bytes.now r.0)) (folder_of (files_of m)) (folder_of (files_of c.write.new.files))) c.note_range.ensures.files put);
    }

pub returns-else-works-clause-went : goal.returns-else-works-clause-went
returns-else-works-clause-went c =
    let r = room_of c.args.at (length c.args.bytes.now) (reads c.args.now.now c.args.name.now) c.requires in
    record {
      file = r.0;
      stood = r.1;
      room = r.2;
      done = c.note_range.ensures.done;
      kept = c.note_range.ensures.kept;
      change = inl (ap files_of c.note_range.ensures.files);
    }
