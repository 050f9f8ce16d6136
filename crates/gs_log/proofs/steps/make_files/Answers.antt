use Rattle.std.proofs.Common.{◌≡◌, ℕ, List, [], ◌∷◌, Some, IfSome, subst}
use Rattle.gs_disk.specs.Folder.{KeepsOthers, Tears, overwritten}
use Rattle.gs_disk.specs.Moments.{Passes}
use Rattle.gs_disk.specs.Going.{always_same, keeps_started, keeps_files, keeps_write, keeps_same}
use Rattle.gs_log.specs.Names.{log_name, mark_name}
use Rattle.gs_log.specs.Holding.{IsNoneOrEmpty}
use Rattle.gs_log.proofs.Create.{logged, kept_through, bare_made, bare_wrote, bare_synced, fine, marked, held_empty}
use Rattle.gs_log.proofs.steps.make_files.Goals as goal

pub returns-in_err-create-2-clause-any_moment : goal.returns-in_err-create-2-clause-any_moment
returns-in_err-create-2-clause-any_moment g c = λ told.
    let ln = c.log_file-log.ensures in
    let mn = c.mark_file-mark.ensures in
    let p1 = subst (λ (n : List ℕ). Passes (KeepsOthers (n ∷ [])) (g.D.Disk.state c.args.disk.now) (g.D.Disk.state c.create.new.self)) ln (c.create.ensures.images told) in
    let o1 = subst (λ (n : List ℕ). KeepsOthers (n ∷ []) (g.D.Disk.state c.args.disk.now).folder (g.D.Disk.state c.create.new.self).folder) ln (c.create.ensures.others told) in
    let m1 = subst (λ (n : List ℕ). (g.D.Disk.state c.create.new.self).folder n ≡ Some []) ln (c.in_ok-create.ensures.made told) in
    let p2 = subst (λ (n : List ℕ). Passes (Tears n 0 1) (g.D.Disk.state c.create.new.self) (g.D.Disk.state c.write.new.self)) ln (c.write.ensures.images told) in
    let t2 = subst (λ (n : List ℕ). Tears n 0 1 (g.D.Disk.state c.create.new.self).folder (g.D.Disk.state c.write.new.self).folder) ln (c.write.ensures.torn told) in
    let r2 = subst (λ (n : List ℕ). IfSome ((g.D.Disk.state c.create.new.self).folder n) (λ old. (g.D.Disk.state c.write.new.self).folder n ≡ Some (overwritten 0 (0 ∷ []) old))) ln (c.in_ok-write.ensures.written told) in
    let p4 = subst (λ (n : List ℕ). Passes (KeepsOthers (n ∷ [])) (g.D.Disk.state c.sync.new.self) (g.D.Disk.state c.create-2.new.self)) mn (c.create-2.ensures.images told) in
    let log = logged (g.D.Disk.state c.create.new.self).folder (g.D.Disk.state c.write.new.self).folder (g.D.Disk.state c.sync.new.self).folder m1 r2 (c.sync.ensures.same told) in
    let kept = kept_through (g.D.Disk.state c.args.disk.now).folder (g.D.Disk.state c.create.new.self).folder (g.D.Disk.state c.write.new.self).folder (g.D.Disk.state c.sync.new.self).folder o1 t2.others (c.sync.ensures.same told) in
    let b1 = bare_made (g.D.Disk.state c.args.disk.now) (c.requires.unmarked told) (g.D.Disk.state c.create.new.self) p1 in
    let b2 = bare_wrote (g.D.Disk.state c.args.disk.now) (c.requires.unmarked told) 0 1 (g.D.Disk.state c.create.new.self) (g.D.Disk.state c.write.new.self) b1 p2 in
    let b3 = bare_synced (g.D.Disk.state c.args.disk.now) (c.requires.unmarked told) (g.D.Disk.state c.write.new.self) (g.D.Disk.state c.sync.new.self) b2 (c.sync.ensures.images told) in
    let f4 = marked (g.D.Disk.state c.args.disk.now) (c.requires.unmarked told) (g.D.Disk.state c.sync.new.self) (g.D.Disk.state c.create-2.new.self) b3 (c.in_ok-sync.ensures.only told) log kept p4 in
    f4

pub returns-in_err-sync-2-clause-any_moment : goal.returns-in_err-sync-2-clause-any_moment
returns-in_err-sync-2-clause-any_moment g c = λ told.
    let ln = c.log_file-log.ensures in
    let mn = c.mark_file-mark.ensures in
    let p1 = subst (λ (n : List ℕ). Passes (KeepsOthers (n ∷ [])) (g.D.Disk.state c.args.disk.now) (g.D.Disk.state c.create.new.self)) ln (c.create.ensures.images told) in
    let o1 = subst (λ (n : List ℕ). KeepsOthers (n ∷ []) (g.D.Disk.state c.args.disk.now).folder (g.D.Disk.state c.create.new.self).folder) ln (c.create.ensures.others told) in
    let m1 = subst (λ (n : List ℕ). (g.D.Disk.state c.create.new.self).folder n ≡ Some []) ln (c.in_ok-create.ensures.made told) in
    let p2 = subst (λ (n : List ℕ). Passes (Tears n 0 1) (g.D.Disk.state c.create.new.self) (g.D.Disk.state c.write.new.self)) ln (c.write.ensures.images told) in
    let t2 = subst (λ (n : List ℕ). Tears n 0 1 (g.D.Disk.state c.create.new.self).folder (g.D.Disk.state c.write.new.self).folder) ln (c.write.ensures.torn told) in
    let r2 = subst (λ (n : List ℕ). IfSome ((g.D.Disk.state c.create.new.self).folder n) (λ old. (g.D.Disk.state c.write.new.self).folder n ≡ Some (overwritten 0 (0 ∷ []) old))) ln (c.in_ok-write.ensures.written told) in
    let p4 = subst (λ (n : List ℕ). Passes (KeepsOthers (n ∷ [])) (g.D.Disk.state c.sync.new.self) (g.D.Disk.state c.create-2.new.self)) mn (c.create-2.ensures.images told) in
    let log = logged (g.D.Disk.state c.create.new.self).folder (g.D.Disk.state c.write.new.self).folder (g.D.Disk.state c.sync.new.self).folder m1 r2 (c.sync.ensures.same told) in
    let kept = kept_through (g.D.Disk.state c.args.disk.now).folder (g.D.Disk.state c.create.new.self).folder (g.D.Disk.state c.write.new.self).folder (g.D.Disk.state c.sync.new.self).folder o1 t2.others (c.sync.ensures.same told) in
    let b1 = bare_made (g.D.Disk.state c.args.disk.now) (c.requires.unmarked told) (g.D.Disk.state c.create.new.self) p1 in
    let b2 = bare_wrote (g.D.Disk.state c.args.disk.now) (c.requires.unmarked told) 0 1 (g.D.Disk.state c.create.new.self) (g.D.Disk.state c.write.new.self) b1 p2 in
    let b3 = bare_synced (g.D.Disk.state c.args.disk.now) (c.requires.unmarked told) (g.D.Disk.state c.write.new.self) (g.D.Disk.state c.sync.new.self) b2 (c.sync.ensures.images told) in
    let f4 = marked (g.D.Disk.state c.args.disk.now) (c.requires.unmarked told) (g.D.Disk.state c.sync.new.self) (g.D.Disk.state c.create-2.new.self) b3 (c.in_ok-sync.ensures.only told) log kept p4 in
    let f5 = always_same (IsNoneOrEmpty (g.D.Disk.state c.args.disk.now).folder) (g.D.Disk.state c.args.disk.now) (g.D.Disk.state c.create-2.new.self) (g.D.Disk.state c.sync-2.new.self) f4 (c.sync-2.ensures.images told) in
    f5

pub returns-in_err-sync-2-clause-images : goal.returns-in_err-sync-2-clause-images
returns-in_err-sync-2-clause-images g c = λ told.
    let ln = c.log_file-log.ensures in
    let mn = c.mark_file-mark.ensures in
    let p1 = subst (λ (n : List ℕ). Passes (KeepsOthers (n ∷ [])) (g.D.Disk.state c.args.disk.now) (g.D.Disk.state c.create.new.self)) ln (c.create.ensures.images told) in
    let p2 = subst (λ (n : List ℕ). Passes (Tears n 0 1) (g.D.Disk.state c.create.new.self) (g.D.Disk.state c.write.new.self)) ln (c.write.ensures.images told) in
    let p4 = subst (λ (n : List ℕ). Passes (KeepsOthers (n ∷ [])) (g.D.Disk.state c.sync.new.self) (g.D.Disk.state c.create-2.new.self)) mn (c.create-2.ensures.images told) in
    let k1 = keeps_files _ _ _ _ _ (keeps_started (log_name ∷ mark_name ∷ []) (g.D.Disk.state c.args.disk.now)) p1 (λ x out. (out.0, tt)) in
    let k2 = keeps_write _ _ _ _ _ _ _ k1 p2 (λ x out. (out.0, tt)) in
    let k3 = keeps_same _ _ _ _ k2 (c.sync.ensures.images told) in
    let k4 = keeps_files _ _ _ _ _ k3 p4 (λ x out. (out.1.0, tt)) in
    let k5 = keeps_same _ _ _ _ k4 (c.sync-2.ensures.images told) in
    k5

pub returns-clause-any_moment : goal.returns-clause-any_moment
returns-clause-any_moment g c = λ told.
    let ln = c.log_file-log.ensures in
    let mn = c.mark_file-mark.ensures in
    let p1 = subst (λ (n : List ℕ). Passes (KeepsOthers (n ∷ [])) (g.D.Disk.state c.args.disk.now) (g.D.Disk.state c.create.new.self)) ln (c.create.ensures.images told) in
    let o1 = subst (λ (n : List ℕ). KeepsOthers (n ∷ []) (g.D.Disk.state c.args.disk.now).folder (g.D.Disk.state c.create.new.self).folder) ln (c.create.ensures.others told) in
    let m1 = subst (λ (n : List ℕ). (g.D.Disk.state c.create.new.self).folder n ≡ Some []) ln (c.in_ok-create.ensures.made told) in
    let p2 = subst (λ (n : List ℕ). Passes (Tears n 0 1) (g.D.Disk.state c.create.new.self) (g.D.Disk.state c.write.new.self)) ln (c.write.ensures.images told) in
    let t2 = subst (λ (n : List ℕ). Tears n 0 1 (g.D.Disk.state c.create.new.self).folder (g.D.Disk.state c.write.new.self).folder) ln (c.write.ensures.torn told) in
    let r2 = subst (λ (n : List ℕ). IfSome ((g.D.Disk.state c.create.new.self).folder n) (λ old. (g.D.Disk.state c.write.new.self).folder n ≡ Some (overwritten 0 (0 ∷ []) old))) ln (c.in_ok-write.ensures.written told) in
    let p4 = subst (λ (n : List ℕ). Passes (KeepsOthers (n ∷ [])) (g.D.Disk.state c.sync.new.self) (g.D.Disk.state c.create-2.new.self)) mn (c.create-2.ensures.images told) in
    let log = logged (g.D.Disk.state c.create.new.self).folder (g.D.Disk.state c.write.new.self).folder (g.D.Disk.state c.sync.new.self).folder m1 r2 (c.sync.ensures.same told) in
    let kept = kept_through (g.D.Disk.state c.args.disk.now).folder (g.D.Disk.state c.create.new.self).folder (g.D.Disk.state c.write.new.self).folder (g.D.Disk.state c.sync.new.self).folder o1 t2.others (c.sync.ensures.same told) in
    let b1 = bare_made (g.D.Disk.state c.args.disk.now) (c.requires.unmarked told) (g.D.Disk.state c.create.new.self) p1 in
    let b2 = bare_wrote (g.D.Disk.state c.args.disk.now) (c.requires.unmarked told) 0 1 (g.D.Disk.state c.create.new.self) (g.D.Disk.state c.write.new.self) b1 p2 in
    let b3 = bare_synced (g.D.Disk.state c.args.disk.now) (c.requires.unmarked told) (g.D.Disk.state c.write.new.self) (g.D.Disk.state c.sync.new.self) b2 (c.sync.ensures.images told) in
    let f4 = marked (g.D.Disk.state c.args.disk.now) (c.requires.unmarked told) (g.D.Disk.state c.sync.new.self) (g.D.Disk.state c.create-2.new.self) b3 (c.in_ok-sync.ensures.only told) log kept p4 in
    let f5 = always_same (IsNoneOrEmpty (g.D.Disk.state c.args.disk.now).folder) (g.D.Disk.state c.args.disk.now) (g.D.Disk.state c.create-2.new.self) (g.D.Disk.state c.sync-2.new.self) f4 (c.sync-2.ensures.images told) in
    f5

pub returns-clause-images : goal.returns-clause-images
returns-clause-images g c = λ told.
    let ln = c.log_file-log.ensures in
    let mn = c.mark_file-mark.ensures in
    let p1 = subst (λ (n : List ℕ). Passes (KeepsOthers (n ∷ [])) (g.D.Disk.state c.args.disk.now) (g.D.Disk.state c.create.new.self)) ln (c.create.ensures.images told) in
    let p2 = subst (λ (n : List ℕ). Passes (Tears n 0 1) (g.D.Disk.state c.create.new.self) (g.D.Disk.state c.write.new.self)) ln (c.write.ensures.images told) in
    let p4 = subst (λ (n : List ℕ). Passes (KeepsOthers (n ∷ [])) (g.D.Disk.state c.sync.new.self) (g.D.Disk.state c.create-2.new.self)) mn (c.create-2.ensures.images told) in
    let k1 = keeps_files _ _ _ _ _ (keeps_started (log_name ∷ mark_name ∷ []) (g.D.Disk.state c.args.disk.now)) p1 (λ x out. (out.0, tt)) in
    let k2 = keeps_write _ _ _ _ _ _ _ k1 p2 (λ x out. (out.0, tt)) in
    let k3 = keeps_same _ _ _ _ k2 (c.sync.ensures.images told) in
    let k4 = keeps_files _ _ _ _ _ k3 p4 (λ x out. (out.1.0, tt)) in
    let k5 = keeps_same _ _ _ _ k4 (c.sync-2.ensures.images told) in
    k5

pub returns-clause-held : goal.returns-clause-held
returns-clause-held g c = λ told.
    let ln = c.log_file-log.ensures in
    let mn = c.mark_file-mark.ensures in
    let m1 = subst (λ (n : List ℕ). (g.D.Disk.state c.create.new.self).folder n ≡ Some []) ln (c.in_ok-create.ensures.made told) in
    let r2 = subst (λ (n : List ℕ). IfSome ((g.D.Disk.state c.create.new.self).folder n) (λ old. (g.D.Disk.state c.write.new.self).folder n ≡ Some (overwritten 0 (0 ∷ []) old))) ln (c.in_ok-write.ensures.written told) in
    let o4 = subst (λ (n : List ℕ). KeepsOthers (n ∷ []) (g.D.Disk.state c.sync.new.self).folder (g.D.Disk.state c.create-2.new.self).folder) mn (c.create-2.ensures.others told) in
    let m4 = subst (λ (n : List ℕ). (g.D.Disk.state c.create-2.new.self).folder n ≡ Some []) mn (c.in_ok-create-2.ensures.made told) in
    let log = logged (g.D.Disk.state c.create.new.self).folder (g.D.Disk.state c.write.new.self).folder (g.D.Disk.state c.sync.new.self).folder m1 r2 (c.sync.ensures.same told) in
    held_empty (g.D.Disk.state c.sync.new.self).folder (g.D.Disk.state c.create-2.new.self).folder (g.D.Disk.state c.sync-2.new.self).folder log o4 m4 (c.sync-2.ensures.same told)

pub returns-in_err-create-clause-any_moment : goal.returns-in_err-create-clause-any_moment
returns-in_err-create-clause-any_moment g c = λ told.
    let ln = c.log_file-log.ensures in
    let p1 = subst (λ (n : List ℕ). Passes (KeepsOthers (n ∷ [])) (g.D.Disk.state c.args.disk.now) (g.D.Disk.state c.create.new.self)) ln (c.create.ensures.images told) in
    let b1 = bare_made (g.D.Disk.state c.args.disk.now) (c.requires.unmarked told) (g.D.Disk.state c.create.new.self) p1 in
    fine (g.D.Disk.state c.args.disk.now) (c.requires.unmarked told) (g.D.Disk.state c.create.new.self) b1

pub returns-in_err-create-clause-images : goal.returns-in_err-create-clause-images
returns-in_err-create-clause-images g c = λ told.
    let ln = c.log_file-log.ensures in
    let p1 = subst (λ (n : List ℕ). Passes (KeepsOthers (n ∷ [])) (g.D.Disk.state c.args.disk.now) (g.D.Disk.state c.create.new.self)) ln (c.create.ensures.images told) in
    let k1 = keeps_files _ _ _ _ _ (keeps_started (log_name ∷ mark_name ∷ []) (g.D.Disk.state c.args.disk.now)) p1 (λ x out. (out.0, tt)) in
    k1

pub returns-in_err-write-clause-any_moment : goal.returns-in_err-write-clause-any_moment
returns-in_err-write-clause-any_moment g c = λ told.
    let ln = c.log_file-log.ensures in
    let p1 = subst (λ (n : List ℕ). Passes (KeepsOthers (n ∷ [])) (g.D.Disk.state c.args.disk.now) (g.D.Disk.state c.create.new.self)) ln (c.create.ensures.images told) in
    let p2 = subst (λ (n : List ℕ). Passes (Tears n 0 1) (g.D.Disk.state c.create.new.self) (g.D.Disk.state c.write.new.self)) ln (c.write.ensures.images told) in
    let b1 = bare_made (g.D.Disk.state c.args.disk.now) (c.requires.unmarked told) (g.D.Disk.state c.create.new.self) p1 in
    let b2 = bare_wrote (g.D.Disk.state c.args.disk.now) (c.requires.unmarked told) 0 1 (g.D.Disk.state c.create.new.self) (g.D.Disk.state c.write.new.self) b1 p2 in
    fine (g.D.Disk.state c.args.disk.now) (c.requires.unmarked told) (g.D.Disk.state c.write.new.self) b2

pub returns-in_err-write-clause-images : goal.returns-in_err-write-clause-images
returns-in_err-write-clause-images g c = λ told.
    let ln = c.log_file-log.ensures in
    let p1 = subst (λ (n : List ℕ). Passes (KeepsOthers (n ∷ [])) (g.D.Disk.state c.args.disk.now) (g.D.Disk.state c.create.new.self)) ln (c.create.ensures.images told) in
    let p2 = subst (λ (n : List ℕ). Passes (Tears n 0 1) (g.D.Disk.state c.create.new.self) (g.D.Disk.state c.write.new.self)) ln (c.write.ensures.images told) in
    let k1 = keeps_files _ _ _ _ _ (keeps_started (log_name ∷ mark_name ∷ []) (g.D.Disk.state c.args.disk.now)) p1 (λ x out. (out.0, tt)) in
    let k2 = keeps_write _ _ _ _ _ _ _ k1 p2 (λ x out. (out.0, tt)) in
    k2

pub returns-in_err-sync-clause-any_moment : goal.returns-in_err-sync-clause-any_moment
returns-in_err-sync-clause-any_moment g c = λ told.
    let ln = c.log_file-log.ensures in
    let p1 = subst (λ (n : List ℕ). Passes (KeepsOthers (n ∷ [])) (g.D.Disk.state c.args.disk.now) (g.D.Disk.state c.create.new.self)) ln (c.create.ensures.images told) in
    let p2 = subst (λ (n : List ℕ). Passes (Tears n 0 1) (g.D.Disk.state c.create.new.self) (g.D.Disk.state c.write.new.self)) ln (c.write.ensures.images told) in
    let b1 = bare_made (g.D.Disk.state c.args.disk.now) (c.requires.unmarked told) (g.D.Disk.state c.create.new.self) p1 in
    let b2 = bare_wrote (g.D.Disk.state c.args.disk.now) (c.requires.unmarked told) 0 1 (g.D.Disk.state c.create.new.self) (g.D.Disk.state c.write.new.self) b1 p2 in
    let b3 = bare_synced (g.D.Disk.state c.args.disk.now) (c.requires.unmarked told) (g.D.Disk.state c.write.new.self) (g.D.Disk.state c.sync.new.self) b2 (c.sync.ensures.images told) in
    fine (g.D.Disk.state c.args.disk.now) (c.requires.unmarked told) (g.D.Disk.state c.sync.new.self) b3

pub returns-in_err-sync-clause-images : goal.returns-in_err-sync-clause-images
returns-in_err-sync-clause-images g c = λ told.
    let ln = c.log_file-log.ensures in
    let p1 = subst (λ (n : List ℕ). Passes (KeepsOthers (n ∷ [])) (g.D.Disk.state c.args.disk.now) (g.D.Disk.state c.create.new.self)) ln (c.create.ensures.images told) in
    let p2 = subst (λ (n : List ℕ). Passes (Tears n 0 1) (g.D.Disk.state c.create.new.self) (g.D.Disk.state c.write.new.self)) ln (c.write.ensures.images told) in
    let k1 = keeps_files _ _ _ _ _ (keeps_started (log_name ∷ mark_name ∷ []) (g.D.Disk.state c.args.disk.now)) p1 (λ x out. (out.0, tt)) in
    let k2 = keeps_write _ _ _ _ _ _ _ k1 p2 (λ x out. (out.0, tt)) in
    let k3 = keeps_same _ _ _ _ k2 (c.sync.ensures.images told) in
    k3

pub returns-in_err-create-2-clause-images : goal.returns-in_err-create-2-clause-images
returns-in_err-create-2-clause-images g c = λ told.
    let ln = c.log_file-log.ensures in
    let mn = c.mark_file-mark.ensures in
    let p1 = subst (λ (n : List ℕ). Passes (KeepsOthers (n ∷ [])) (g.D.Disk.state c.args.disk.now) (g.D.Disk.state c.create.new.self)) ln (c.create.ensures.images told) in
    let p2 = subst (λ (n : List ℕ). Passes (Tears n 0 1) (g.D.Disk.state c.create.new.self) (g.D.Disk.state c.write.new.self)) ln (c.write.ensures.images told) in
    let p4 = subst (λ (n : List ℕ). Passes (KeepsOthers (n ∷ [])) (g.D.Disk.state c.sync.new.self) (g.D.Disk.state c.create-2.new.self)) mn (c.create-2.ensures.images told) in
    let k1 = keeps_files _ _ _ _ _ (keeps_started (log_name ∷ mark_name ∷ []) (g.D.Disk.state c.args.disk.now)) p1 (λ x out. (out.0, tt)) in
    let k2 = keeps_write _ _ _ _ _ _ _ k1 p2 (λ x out. (out.0, tt)) in
    let k3 = keeps_same _ _ _ _ k2 (c.sync.ensures.images told) in
    let k4 = keeps_files _ _ _ _ _ k3 p4 (λ x out. (out.1.0, tt)) in
    k4
