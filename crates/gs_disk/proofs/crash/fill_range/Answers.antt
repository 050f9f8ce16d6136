use Rattle.std.proofs.Common.{[], ◌∷◌, sym, subst}
use Rattle.gs_disk.specs.Mem.{files_of, folder_of, ranges_of}
use Rattle.gs_disk.specs.Crash.{FillsFile}
use Rattle.gs_disk.specs.declared.now.Touch.{Touch}
use Rattle.gs_disk.proofs.Filling.{filled_range}
use Rattle.gs_disk.proofs.crash.fill_range.Goals as goal

pub returns-in-Written : goal.returns-in-Written
returns-in-Written c = λ x.
    subst (λ (t : Touch). FillsFile (ranges_of (t ∷ [])) x c.args.b (folder_of (files_of c.args.files.now) x) (folder_of (files_of c.fill.new.files) x)) (sym c.in-Written.is)
    (filled_range c.in-Written.name c.in-Written.at c.in-Written.len c.args.b (folder_of (files_of c.args.files.now)) (folder_of (files_of c.fill.new.files)) c.fill.ensures.others c.fill.ensures.here x)
