use Rattle.std.proofs.Common.{◌≡◌, ◌+◌, ℕ, List, [], ◌∷◌, length, Some, IfSome, sym, subst, arith}
use Rattle.gs_disk.specs.Folder.{Tears, MayWrite, overwritten}
use Rattle.gs_disk.specs.Moments.{Passes}
use Rattle.gs_disk.specs.Going.{always_same, keeps_started, keeps_write, keeps_same}
use Rattle.gs_log.specs.Names.{log_name}
use Rattle.gs_log.specs.Holding.{IsBeforeOrAfter}
use Rattle.gs_log.proofs.Append.{end_fits, may_behind, may_open, wrote, gate, stands_staged, held, keeps_all}
use Rattle.gs_log.proofs.steps.add_record.Goals as goal

pub overflow_add-end : goal.overflow_add-end
overflow_add-end g c = omega (arith, end_fits c.args.list.now c.args.payload.now c.end-end.result c.end-end.ensures c.requires.small c.requires.room)

pub write-requires : goal.write-requires
write-requires g c = λ told.
    let name = c.log_file-log.ensures in
    let log = c.requires.stands told _ (g.met.D.Disk.reads_an_image told c.args.disk.now) in
    subst (λ (n : List ℕ). MayWrite (c.end-end.result + 1) (length c.args.closed.now) ((g.D.Disk.state c.args.disk.now).folder n)) (sym name) (may_behind c.args.list.now c.args.payload.now c.end-end.result c.end-end.ensures c.requires.small c.requires.room c.args.closed.now c.requires.spelled (g.D.Disk.state c.args.disk.now).folder log)

pub returns-in_err-write-clause-any_moment : goal.returns-in_err-write-clause-any_moment
returns-in_err-write-clause-any_moment g c = λ told.
    let name = c.log_file-log.ensures in
    let w1 = subst (λ (n : List ℕ). Passes (Tears n (c.end-end.result + 1) (length c.args.closed.now)) (g.D.Disk.state c.args.disk.now) (g.D.Disk.state c.write.new.self)) name (c.write.ensures.images told) in
    let first = wrote c.args.list.now c.args.payload.now c.end-end.result c.end-end.ensures c.requires.small c.requires.room (g.D.Disk.state c.args.disk.now) (c.requires.stands told) (length c.args.closed.now) (g.D.Disk.state c.write.new.self) w1 in
    first

pub returns-in_err-sync-clause-any_moment : goal.returns-in_err-sync-clause-any_moment
returns-in_err-sync-clause-any_moment g c = λ told.
    let name = c.log_file-log.ensures in
    let w1 = subst (λ (n : List ℕ). Passes (Tears n (c.end-end.result + 1) (length c.args.closed.now)) (g.D.Disk.state c.args.disk.now) (g.D.Disk.state c.write.new.self)) name (c.write.ensures.images told) in
    let first = wrote c.args.list.now c.args.payload.now c.end-end.result c.end-end.ensures c.requires.small c.requires.room (g.D.Disk.state c.args.disk.now) (c.requires.stands told) (length c.args.closed.now) (g.D.Disk.state c.write.new.self) w1 in
    let second = always_same (IsBeforeOrAfter c.args.list.now c.args.payload.now (g.D.Disk.state c.args.disk.now).folder) (g.D.Disk.state c.args.disk.now) (g.D.Disk.state c.write.new.self) (g.D.Disk.state c.sync.new.self) first (c.sync.ensures.images told) in
    second

pub write-requires-2 : goal.write-requires-2
write-requires-2 g c = λ told.
    let name = c.log_file-log.ensures in
    let t1 = subst (λ (n : List ℕ). Tears n (c.end-end.result + 1) (length c.args.closed.now) (g.D.Disk.state c.args.disk.now).folder (g.D.Disk.state c.write.new.self).folder) name (c.write.ensures.torn told) in
    let r1 = subst (λ (n : List ℕ). IfSome ((g.D.Disk.state c.args.disk.now).folder n) (λ old. (g.D.Disk.state c.write.new.self).folder n ≡ Some (overwritten (c.end-end.result + 1) c.args.closed.now old))) name (c.in_ok-write.ensures.written told) in
    let log = c.requires.stands told _ (g.met.D.Disk.reads_an_image told c.args.disk.now) in
    let stands = stands_staged c.args.list.now c.args.payload.now c.end-end.result c.end-end.ensures c.requires.small c.requires.room c.args.closed.now c.requires.spelled (g.D.Disk.state c.args.disk.now).folder (g.D.Disk.state c.write.new.self).folder (g.D.Disk.state c.sync.new.self).folder log r1 t1.others (c.sync.ensures.same told) in
    subst (λ (n : List ℕ). MayWrite c.end-end.result 1 ((g.D.Disk.state c.sync.new.self).folder n)) (sym name) (may_open c.args.list.now c.args.payload.now c.end-end.result c.end-end.ensures c.requires.small c.requires.room (g.D.Disk.state c.sync.new.self).folder stands)

pub returns-in_err-write-2-clause-any_moment : goal.returns-in_err-write-2-clause-any_moment
returns-in_err-write-2-clause-any_moment g c = λ told.
    let name = c.log_file-log.ensures in
    let w1 = subst (λ (n : List ℕ). Passes (Tears n (c.end-end.result + 1) (length c.args.closed.now)) (g.D.Disk.state c.args.disk.now) (g.D.Disk.state c.write.new.self)) name (c.write.ensures.images told) in
    let t1 = subst (λ (n : List ℕ). Tears n (c.end-end.result + 1) (length c.args.closed.now) (g.D.Disk.state c.args.disk.now).folder (g.D.Disk.state c.write.new.self).folder) name (c.write.ensures.torn told) in
    let r1 = subst (λ (n : List ℕ). IfSome ((g.D.Disk.state c.args.disk.now).folder n) (λ old. (g.D.Disk.state c.write.new.self).folder n ≡ Some (overwritten (c.end-end.result + 1) c.args.closed.now old))) name (c.in_ok-write.ensures.written told) in
    let w2 = subst (λ (n : List ℕ). Passes (Tears n c.end-end.result 1) (g.D.Disk.state c.sync.new.self) (g.D.Disk.state c.write-2.new.self)) name (c.write-2.ensures.images told) in
    let first = wrote c.args.list.now c.args.payload.now c.end-end.result c.end-end.ensures c.requires.small c.requires.room (g.D.Disk.state c.args.disk.now) (c.requires.stands told) (length c.args.closed.now) (g.D.Disk.state c.write.new.self) w1 in
    let second = always_same (IsBeforeOrAfter c.args.list.now c.args.payload.now (g.D.Disk.state c.args.disk.now).folder) (g.D.Disk.state c.args.disk.now) (g.D.Disk.state c.write.new.self) (g.D.Disk.state c.sync.new.self) first (c.sync.ensures.images told) in
    let log = c.requires.stands told _ (g.met.D.Disk.reads_an_image told c.args.disk.now) in
    let stands = stands_staged c.args.list.now c.args.payload.now c.end-end.result c.end-end.ensures c.requires.small c.requires.room c.args.closed.now c.requires.spelled (g.D.Disk.state c.args.disk.now).folder (g.D.Disk.state c.write.new.self).folder (g.D.Disk.state c.sync.new.self).folder log r1 t1.others (c.sync.ensures.same told) in
    let others = keeps_all (log_name ∷ []) (g.D.Disk.state c.args.disk.now).folder (g.D.Disk.state c.write.new.self).folder (g.D.Disk.state c.sync.new.self).folder t1.others (c.sync.ensures.same told) in
    let third = gate c.args.list.now c.args.payload.now c.end-end.result c.end-end.ensures c.requires.small c.requires.room (g.D.Disk.state c.args.disk.now) (c.requires.stands told) (g.D.Disk.state c.sync.new.self) (g.D.Disk.state c.write-2.new.self) second (c.in_ok-sync.ensures.only told) stands others w2 in
    third

pub returns-in_err-write-2-clause-images : goal.returns-in_err-write-2-clause-images
returns-in_err-write-2-clause-images g c = λ told.
    let name = c.log_file-log.ensures in
    let w1 = subst (λ (n : List ℕ). Passes (Tears n (c.end-end.result + 1) (length c.args.closed.now)) (g.D.Disk.state c.args.disk.now) (g.D.Disk.state c.write.new.self)) name (c.write.ensures.images told) in
    let w2 = subst (λ (n : List ℕ). Passes (Tears n c.end-end.result 1) (g.D.Disk.state c.sync.new.self) (g.D.Disk.state c.write-2.new.self)) name (c.write-2.ensures.images told) in
    let one = keeps_write _ _ _ _ _ _ _ (keeps_started (log_name ∷ []) (g.D.Disk.state c.args.disk.now)) w1 (λ x out. out) in
    let two = keeps_same _ _ _ _ one (c.sync.ensures.images told) in
    let three = keeps_write _ _ _ _ _ _ _ two w2 (λ x out. out) in
    three

pub returns-in_err-sync-2-clause-any_moment : goal.returns-in_err-sync-2-clause-any_moment
returns-in_err-sync-2-clause-any_moment g c = λ told.
    let name = c.log_file-log.ensures in
    let w1 = subst (λ (n : List ℕ). Passes (Tears n (c.end-end.result + 1) (length c.args.closed.now)) (g.D.Disk.state c.args.disk.now) (g.D.Disk.state c.write.new.self)) name (c.write.ensures.images told) in
    let t1 = subst (λ (n : List ℕ). Tears n (c.end-end.result + 1) (length c.args.closed.now) (g.D.Disk.state c.args.disk.now).folder (g.D.Disk.state c.write.new.self).folder) name (c.write.ensures.torn told) in
    let r1 = subst (λ (n : List ℕ). IfSome ((g.D.Disk.state c.args.disk.now).folder n) (λ old. (g.D.Disk.state c.write.new.self).folder n ≡ Some (overwritten (c.end-end.result + 1) c.args.closed.now old))) name (c.in_ok-write.ensures.written told) in
    let w2 = subst (λ (n : List ℕ). Passes (Tears n c.end-end.result 1) (g.D.Disk.state c.sync.new.self) (g.D.Disk.state c.write-2.new.self)) name (c.write-2.ensures.images told) in
    let first = wrote c.args.list.now c.args.payload.now c.end-end.result c.end-end.ensures c.requires.small c.requires.room (g.D.Disk.state c.args.disk.now) (c.requires.stands told) (length c.args.closed.now) (g.D.Disk.state c.write.new.self) w1 in
    let second = always_same (IsBeforeOrAfter c.args.list.now c.args.payload.now (g.D.Disk.state c.args.disk.now).folder) (g.D.Disk.state c.args.disk.now) (g.D.Disk.state c.write.new.self) (g.D.Disk.state c.sync.new.self) first (c.sync.ensures.images told) in
    let log = c.requires.stands told _ (g.met.D.Disk.reads_an_image told c.args.disk.now) in
    let stands = stands_staged c.args.list.now c.args.payload.now c.end-end.result c.end-end.ensures c.requires.small c.requires.room c.args.closed.now c.requires.spelled (g.D.Disk.state c.args.disk.now).folder (g.D.Disk.state c.write.new.self).folder (g.D.Disk.state c.sync.new.self).folder log r1 t1.others (c.sync.ensures.same told) in
    let others = keeps_all (log_name ∷ []) (g.D.Disk.state c.args.disk.now).folder (g.D.Disk.state c.write.new.self).folder (g.D.Disk.state c.sync.new.self).folder t1.others (c.sync.ensures.same told) in
    let third = gate c.args.list.now c.args.payload.now c.end-end.result c.end-end.ensures c.requires.small c.requires.room (g.D.Disk.state c.args.disk.now) (c.requires.stands told) (g.D.Disk.state c.sync.new.self) (g.D.Disk.state c.write-2.new.self) second (c.in_ok-sync.ensures.only told) stands others w2 in
    let fourth = always_same (IsBeforeOrAfter c.args.list.now c.args.payload.now (g.D.Disk.state c.args.disk.now).folder) (g.D.Disk.state c.args.disk.now) (g.D.Disk.state c.write-2.new.self) (g.D.Disk.state c.sync-2.new.self) third (c.sync-2.ensures.images told) in
    fourth

pub returns-in_err-sync-2-clause-images : goal.returns-in_err-sync-2-clause-images
returns-in_err-sync-2-clause-images g c = λ told.
    let name = c.log_file-log.ensures in
    let w1 = subst (λ (n : List ℕ). Passes (Tears n (c.end-end.result + 1) (length c.args.closed.now)) (g.D.Disk.state c.args.disk.now) (g.D.Disk.state c.write.new.self)) name (c.write.ensures.images told) in
    let w2 = subst (λ (n : List ℕ). Passes (Tears n c.end-end.result 1) (g.D.Disk.state c.sync.new.self) (g.D.Disk.state c.write-2.new.self)) name (c.write-2.ensures.images told) in
    let one = keeps_write _ _ _ _ _ _ _ (keeps_started (log_name ∷ []) (g.D.Disk.state c.args.disk.now)) w1 (λ x out. out) in
    let two = keeps_same _ _ _ _ one (c.sync.ensures.images told) in
    let three = keeps_write _ _ _ _ _ _ _ two w2 (λ x out. out) in
    let four = keeps_same _ _ _ _ three (c.sync-2.ensures.images told) in
    four

pub returns-clause-any_moment : goal.returns-clause-any_moment
returns-clause-any_moment g c = λ told.
    let name = c.log_file-log.ensures in
    let w1 = subst (λ (n : List ℕ). Passes (Tears n (c.end-end.result + 1) (length c.args.closed.now)) (g.D.Disk.state c.args.disk.now) (g.D.Disk.state c.write.new.self)) name (c.write.ensures.images told) in
    let t1 = subst (λ (n : List ℕ). Tears n (c.end-end.result + 1) (length c.args.closed.now) (g.D.Disk.state c.args.disk.now).folder (g.D.Disk.state c.write.new.self).folder) name (c.write.ensures.torn told) in
    let r1 = subst (λ (n : List ℕ). IfSome ((g.D.Disk.state c.args.disk.now).folder n) (λ old. (g.D.Disk.state c.write.new.self).folder n ≡ Some (overwritten (c.end-end.result + 1) c.args.closed.now old))) name (c.in_ok-write.ensures.written told) in
    let w2 = subst (λ (n : List ℕ). Passes (Tears n c.end-end.result 1) (g.D.Disk.state c.sync.new.self) (g.D.Disk.state c.write-2.new.self)) name (c.write-2.ensures.images told) in
    let first = wrote c.args.list.now c.args.payload.now c.end-end.result c.end-end.ensures c.requires.small c.requires.room (g.D.Disk.state c.args.disk.now) (c.requires.stands told) (length c.args.closed.now) (g.D.Disk.state c.write.new.self) w1 in
    let second = always_same (IsBeforeOrAfter c.args.list.now c.args.payload.now (g.D.Disk.state c.args.disk.now).folder) (g.D.Disk.state c.args.disk.now) (g.D.Disk.state c.write.new.self) (g.D.Disk.state c.sync.new.self) first (c.sync.ensures.images told) in
    let log = c.requires.stands told _ (g.met.D.Disk.reads_an_image told c.args.disk.now) in
    let stands = stands_staged c.args.list.now c.args.payload.now c.end-end.result c.end-end.ensures c.requires.small c.requires.room c.args.closed.now c.requires.spelled (g.D.Disk.state c.args.disk.now).folder (g.D.Disk.state c.write.new.self).folder (g.D.Disk.state c.sync.new.self).folder log r1 t1.others (c.sync.ensures.same told) in
    let others = keeps_all (log_name ∷ []) (g.D.Disk.state c.args.disk.now).folder (g.D.Disk.state c.write.new.self).folder (g.D.Disk.state c.sync.new.self).folder t1.others (c.sync.ensures.same told) in
    let third = gate c.args.list.now c.args.payload.now c.end-end.result c.end-end.ensures c.requires.small c.requires.room (g.D.Disk.state c.args.disk.now) (c.requires.stands told) (g.D.Disk.state c.sync.new.self) (g.D.Disk.state c.write-2.new.self) second (c.in_ok-sync.ensures.only told) stands others w2 in
    let fourth = always_same (IsBeforeOrAfter c.args.list.now c.args.payload.now (g.D.Disk.state c.args.disk.now).folder) (g.D.Disk.state c.args.disk.now) (g.D.Disk.state c.write-2.new.self) (g.D.Disk.state c.sync-2.new.self) third (c.sync-2.ensures.images told) in
    fourth

pub returns-clause-images : goal.returns-clause-images
returns-clause-images g c = λ told.
    let name = c.log_file-log.ensures in
    let w1 = subst (λ (n : List ℕ). Passes (Tears n (c.end-end.result + 1) (length c.args.closed.now)) (g.D.Disk.state c.args.disk.now) (g.D.Disk.state c.write.new.self)) name (c.write.ensures.images told) in
    let w2 = subst (λ (n : List ℕ). Passes (Tears n c.end-end.result 1) (g.D.Disk.state c.sync.new.self) (g.D.Disk.state c.write-2.new.self)) name (c.write-2.ensures.images told) in
    let one = keeps_write _ _ _ _ _ _ _ (keeps_started (log_name ∷ []) (g.D.Disk.state c.args.disk.now)) w1 (λ x out. out) in
    let two = keeps_same _ _ _ _ one (c.sync.ensures.images told) in
    let three = keeps_write _ _ _ _ _ _ _ two w2 (λ x out. out) in
    let four = keeps_same _ _ _ _ three (c.sync-2.ensures.images told) in
    four

pub returns-clause-held : goal.returns-clause-held
returns-clause-held g c = λ told.
    let name = c.log_file-log.ensures in
    let t1 = subst (λ (n : List ℕ). Tears n (c.end-end.result + 1) (length c.args.closed.now) (g.D.Disk.state c.args.disk.now).folder (g.D.Disk.state c.write.new.self).folder) name (c.write.ensures.torn told) in
    let r1 = subst (λ (n : List ℕ). IfSome ((g.D.Disk.state c.args.disk.now).folder n) (λ old. (g.D.Disk.state c.write.new.self).folder n ≡ Some (overwritten (c.end-end.result + 1) c.args.closed.now old))) name (c.in_ok-write.ensures.written told) in
    let t2 = subst (λ (n : List ℕ). Tears n c.end-end.result 1 (g.D.Disk.state c.sync.new.self).folder (g.D.Disk.state c.write-2.new.self).folder) name (c.write-2.ensures.torn told) in
    let r2 = subst (λ (n : List ℕ). IfSome ((g.D.Disk.state c.sync.new.self).folder n) (λ old. (g.D.Disk.state c.write-2.new.self).folder n ≡ Some (overwritten c.end-end.result (1 ∷ []) old))) name (c.in_ok-write-2.ensures.written told) in
    let log = c.requires.stands told _ (g.met.D.Disk.reads_an_image told c.args.disk.now) in
    let stands = stands_staged c.args.list.now c.args.payload.now c.end-end.result c.end-end.ensures c.requires.small c.requires.room c.args.closed.now c.requires.spelled (g.D.Disk.state c.args.disk.now).folder (g.D.Disk.state c.write.new.self).folder (g.D.Disk.state c.sync.new.self).folder log r1 t1.others (c.sync.ensures.same told) in
    held c.args.list.now c.args.payload.now c.end-end.result c.end-end.ensures c.requires.small c.requires.room (g.D.Disk.state c.sync.new.self).folder (g.D.Disk.state c.write-2.new.self).folder (g.D.Disk.state c.sync-2.new.self).folder stands r2 t2.others (c.sync-2.ensures.same told)

pub returns-in_err-write-clause-images : goal.returns-in_err-write-clause-images
returns-in_err-write-clause-images g c = λ told.
    let name = c.log_file-log.ensures in
    let w1 = subst (λ (n : List ℕ). Passes (Tears n (c.end-end.result + 1) (length c.args.closed.now)) (g.D.Disk.state c.args.disk.now) (g.D.Disk.state c.write.new.self)) name (c.write.ensures.images told) in
    let one = keeps_write _ _ _ _ _ _ _ (keeps_started (log_name ∷ []) (g.D.Disk.state c.args.disk.now)) w1 (λ x out. out) in
    one

pub returns-in_err-sync-clause-images : goal.returns-in_err-sync-clause-images
returns-in_err-sync-clause-images g c = λ told.
    let name = c.log_file-log.ensures in
    let w1 = subst (λ (n : List ℕ). Passes (Tears n (c.end-end.result + 1) (length c.args.closed.now)) (g.D.Disk.state c.args.disk.now) (g.D.Disk.state c.write.new.self)) name (c.write.ensures.images told) in
    let one = keeps_write _ _ _ _ _ _ _ (keeps_started (log_name ∷ []) (g.D.Disk.state c.args.disk.now)) w1 (λ x out. out) in
    keeps_same _ _ _ _ one (c.sync.ensures.images told)
