use Rattle.std.proofs.Common.{⊎_elim, ℕ, List, [], ◌∷◌, Some, sym, ◌∙◌, ap, subst}
use Rattle.gs_disk.specs.Folder.{Outside}
use Rattle.gs_disk.specs.Mem.{files_of, folder_of, names_of}
use Rattle.gs_disk.specs.declared.now.Touch.{Touch}
use Rattle.gs_disk.proofs.Images.{one_or_other}
use Rattle.gs_disk.proofs.crash.fill_name.Goals as goal

pub returns-in_ok-put-in-Renamed-clause-named : goal.returns-in_ok-put-in-Renamed-clause-named
returns-in_ok-put-in-Renamed-clause-named c = λ x past.
    let within = subst (λ (t : Touch). Outside (names_of (t ∷ [])) x → ⊥) c.in-Renamed.is past in
    ⊎_elim
    (λ same. ap (λ (y : List ℕ). folder_of (files_of c.put.new.files) y) same ∙ ap (λ (y : List ℕ). folder_of (files_of c.put.new.files) y) (sym c.copy.ensures) ∙ c.in_ok-put-in-Renamed.ensures.put.here ∙ ap (λ (l : List ℕ). Some l) c.in_ok-vec-in-Renamed.ensures.items)
    (λ other. absurd (within (other, tt)))
    (one_or_other x c.in-Renamed.name)
