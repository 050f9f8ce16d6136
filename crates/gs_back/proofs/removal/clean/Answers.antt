use Rattle.std.proofs.Common.{Ok, rules, subst, sym, List, ℕ}
use Rattle.gs_back.proofs.Removing.{AreNames, mark_cleaned, same_cleaned, rest_cleaned, no_store, cleans}
use Rattle.gs_back.proofs.removal.clean.Goals as goal

pub returns-in_err-remove_mark-clause-cleans : goal.returns-in_err-remove_mark-clause-cleans
returns-in_err-remove_mark-clause-cleans g c = λ told.
    let a = g.D.Disk.state c.args.disk.now in let b = g.D.Disk.state c.remove_mark.new.disk in
    let u = c.remove_mark.ensures.unmarks told in
    let marked = mark_cleaned c.remove_mark.result a b u in
    cleans c.from_residual.result a b marked (search rules) (search rules)

pub returns-in_err-names-clause-cleans : goal.returns-in_err-names-clause-cleans
returns-in_err-names-clause-cleans g c = λ told.
    let a = g.D.Disk.state c.args.disk.now in let b = g.D.Disk.state c.remove_mark.new.disk in
    let u = c.remove_mark.ensures.unmarks told in
    let marked = mark_cleaned c.remove_mark.result a b u in
    let d = g.D.Disk.state c.names.new.self in
    let listed = same_cleaned a b d marked (c.names.ensures.images told)
    (c.names.ensures.same told) in
    cleans c.from_residual-in_err-names.result a d listed (search rules) (search rules)

pub returns-in_err-remove_stored-clause-cleans : goal.returns-in_err-remove_stored-clause-cleans
returns-in_err-remove_stored-clause-cleans g c = λ told.
    let a = g.D.Disk.state c.args.disk.now in let b = g.D.Disk.state c.remove_mark.new.disk in
    let u = c.remove_mark.ensures.unmarks told in
    let marked = mark_cleaned c.remove_mark.result a b u in
    let d = g.D.Disk.state c.names.new.self in
    let listed = same_cleaned a b d marked (c.names.ensures.images told)
    (c.names.ensures.same told) in
    let e = g.D.Disk.state c.remove_stored.new.disk in
    let ok = c.in_ok-remove_mark.ensures.unmarks told in
    let are = subst (λ (l : List (List ℕ)). AreNames l b.folder) (sym c.deref.ensures.value)
    (c.in_ok-names.ensures.all told) in
    let rest = rest_cleaned c.remove_stored.result c.deref.result.now a b d e listed ok.only
    ok.gone (c.names.ensures.images told) are (c.remove_stored.ensures.removes told) in
    cleans c.from_residual-in_err-remove_stored.result a e rest (search rules) (search rules)

pub returns-in_err-sync-clause-cleans : goal.returns-in_err-sync-clause-cleans
returns-in_err-sync-clause-cleans g c = λ told.
    let a = g.D.Disk.state c.args.disk.now in let b = g.D.Disk.state c.remove_mark.new.disk in
    let u = c.remove_mark.ensures.unmarks told in
    let marked = mark_cleaned c.remove_mark.result a b u in
    let d = g.D.Disk.state c.names.new.self in
    let listed = same_cleaned a b d marked (c.names.ensures.images told)
    (c.names.ensures.same told) in
    let e = g.D.Disk.state c.remove_stored.new.disk in
    let ok = c.in_ok-remove_mark.ensures.unmarks told in
    let are = subst (λ (l : List (List ℕ)). AreNames l b.folder) (sym c.deref.ensures.value)
    (c.in_ok-names.ensures.all told) in
    let rest = rest_cleaned c.remove_stored.result c.deref.result.now a b d e listed ok.only
    ok.gone (c.names.ensures.images told) are (c.remove_stored.ensures.removes told) in
    let f = g.D.Disk.state c.sync.new.self in
    let synced = same_cleaned a e f rest (c.sync.ensures.images told) (c.sync.ensures.same told) in
    cleans c.from_residual-in_err-sync.result a f synced (search rules) (search rules)

pub returns-clause-cleans : goal.returns-clause-cleans
returns-clause-cleans g c = λ told.
    let a = g.D.Disk.state c.args.disk.now in let b = g.D.Disk.state c.remove_mark.new.disk in
    let u = c.remove_mark.ensures.unmarks told in
    let marked = mark_cleaned c.remove_mark.result a b u in
    let d = g.D.Disk.state c.names.new.self in
    let listed = same_cleaned a b d marked (c.names.ensures.images told)
    (c.names.ensures.same told) in
    let e = g.D.Disk.state c.remove_stored.new.disk in
    let ok = c.in_ok-remove_mark.ensures.unmarks told in
    let are = subst (λ (l : List (List ℕ)). AreNames l b.folder) (sym c.deref.ensures.value)
    (c.in_ok-names.ensures.all told) in
    let rest = rest_cleaned c.remove_stored.result c.deref.result.now a b d e listed ok.only
    ok.gone (c.names.ensures.images told) are (c.remove_stored.ensures.removes told) in
    let f = g.D.Disk.state c.sync.new.self in
    let synced = same_cleaned a e f rest (c.sync.ensures.images told) (c.sync.ensures.same told) in
    let all = c.in_ok-remove_stored.ensures.removes told in
    cleans (Ok tt) a f synced
    (no_store c.deref.result.now b d e f are (c.names.ensures.same told) all.touches.reads all.gone
    (c.sync.ensures.same told))
    (c.in_ok-sync.ensures.only told)
