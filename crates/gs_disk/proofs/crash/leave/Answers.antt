use Rattle.std.proofs.Common.{ℕ, List, Option, sym, subst}
use Rattle.gs_disk.specs.Folder.{Outside}
use Rattle.gs_disk.specs.Mem.{files_of, folder_of, names_of, ranges_of}
use Rattle.gs_disk.specs.Crash.{FillsFile}
use Rattle.gs_disk.specs.Steps.{LeavesBy}
use Rattle.gs_disk.specs.declared.crash.Keep.{Keep}
use Rattle.gs_disk.specs.declared.now.Touch.{Touch}
use Rattle.gs_disk.proofs.crash.leave.Goals as goal

pub returns-in_ok-fill_names-in-Byte : goal.returns-in_ok-fill_names-in-Byte
returns-in_ok-fill_names-in-Byte c =
    subst (λ (k : Keep). LeavesBy k c.args.touched.items (folder_of (files_of c.args.files.now)) (folder_of (files_of c.fill_names.new.files))) (sym c.in-Byte.is) (record {
      renamed = λ x past. c.in_ok-fill_names-in-Byte.ensures.named x (subst (λ (ts : List Touch). Outside (names_of ts) x → ⊥) (sym c.deref-in-Byte.ensures.value) past);
      others = λ x out. subst (λ (o : Option (List ℕ)). FillsFile (ranges_of c.args.touched.items) x c.in-Byte.b (folder_of (files_of c.args.files.now) x) o) (sym (c.in_ok-fill_names-in-Byte.ensures.others x (subst (λ (ts : List Touch). Outside (names_of ts) x) (sym c.deref-in-Byte.ensures.value) out)))
          (subst (λ (ts : List Touch). FillsFile (ranges_of ts) x c.in-Byte.b (folder_of (files_of c.args.files.now) x) (folder_of (files_of c.fill_ranges.new.files) x)) c.deref.ensures.value (c.fill_ranges.ensures x));
    })
