use Rattle.std.proofs.Common.{Ok, rules, [], ◌∷◌, subst, ◌≡◌, List, ℕ, None, ap, ◌∙◌, refl}
use Rattle.gs_disk.specs.Folder.{Folder, KeepsOthers, Same}
use Rattle.gs_disk.specs.Moments.{Passes}
use Rattle.gs_disk.specs.Going.{same_started}
use Rattle.gs_log.specs.Names.{mark_name}
use Rattle.gs_back.proofs.Removing.{unmarks}
use Rattle.gs_back.proofs.removal.remove_mark.Goals as goal

pub returns-in_err-remove-clause-unmarks : goal.returns-in_err-remove-clause-unmarks
returns-in_err-remove-clause-unmarks g c = λ told.
    let a = g.D.Disk.state c.args.disk.now in let b = g.D.Disk.state c.remove.new.self in
    unmarks c.from_residual.result a b b
    (subst (λ (x : List ℕ). Passes (KeepsOthers (x ∷ [])) a b) c.mark_file.ensures
    (c.remove.ensures.images told))
    (subst (λ (x : List ℕ). a.folder x ≡ None → Passes Same a b) c.mark_file.ensures
    (c.remove.ensures.idle told))
    (subst (λ (x : List ℕ). KeepsOthers (x ∷ []) a.folder b.folder) c.mark_file.ensures
    (c.remove.ensures.others told))
    (same_started b) refl (search rules) (search rules)

pub returns-in_err-sync-clause-unmarks : goal.returns-in_err-sync-clause-unmarks
returns-in_err-sync-clause-unmarks g c = λ told.
    let a = g.D.Disk.state c.args.disk.now in let b = g.D.Disk.state c.remove.new.self in
    let d = g.D.Disk.state c.sync.new.self in
    unmarks c.from_residual-in_err-sync.result a b d
    (subst (λ (x : List ℕ). Passes (KeepsOthers (x ∷ [])) a b) c.mark_file.ensures
    (c.remove.ensures.images told))
    (subst (λ (x : List ℕ). a.folder x ≡ None → Passes Same a b) c.mark_file.ensures
    (c.remove.ensures.idle told))
    (subst (λ (x : List ℕ). KeepsOthers (x ∷ []) a.folder b.folder) c.mark_file.ensures
    (c.remove.ensures.others told))
    (c.sync.ensures.images told) (c.sync.ensures.same told) (search rules) (search rules)

pub returns-clause-unmarks : goal.returns-clause-unmarks
returns-clause-unmarks g c = λ told.
    let a = g.D.Disk.state c.args.disk.now in let b = g.D.Disk.state c.remove.new.self in
    let d = g.D.Disk.state c.sync.new.self in
    unmarks (Ok tt) a b d
    (subst (λ (x : List ℕ). Passes (KeepsOthers (x ∷ [])) a b) c.mark_file.ensures
    (c.remove.ensures.images told))
    (subst (λ (x : List ℕ). a.folder x ≡ None → Passes Same a b) c.mark_file.ensures
    (c.remove.ensures.idle told))
    (subst (λ (x : List ℕ). KeepsOthers (x ∷ []) a.folder b.folder) c.mark_file.ensures
    (c.remove.ensures.others told))
    (c.sync.ensures.images told) (c.sync.ensures.same told)
    (ap (λ (f : Folder). f mark_name) (c.sync.ensures.same told)
    ∙ subst (λ (x : List ℕ). b.folder x ≡ None) c.mark_file.ensures
    (c.in_ok-remove.ensures.gone told))
    (c.in_ok-sync.ensures.only told)
