use Rattle.std.proofs.Common.{ℕ, List, [], ◌∷◌, length, ◌≤◌, arith, sym, ap, subst, ◌∙◌}
use Rattle.gs_types.specs.declared.note.FinalNote.{FinalNote}
use Rattle.gs_store.specs.Spans.{TouchesOnly}
use Rattle.gs_back.proofs.Fitting.{is_gate, is_final, name_within}
use Rattle.gs_back.proofs.Setting.{in_finals, named, touches_more, set_more, all_set, all_stood, refuses}
use Rattle.gs_back.proofs.back.set_finals.Goals as goal

pub at-requires : goal.at-requires
at-requires g c =
    let gate = is_gate c.args.g.now c.requires.fits in
    let at = in_finals c.items-last-items.result.now c.args.g.now.finals c.loop-last.last-index
    c.last-item.result c.items-last-items.ensures c.loop-last-test.true c.last-item.is in
    name_within c.args.g.now c.loop-last.last-index c.last-item.result gate at.0 at.1

pub set_final-requires-clause-kept : goal.set_final-requires-clause-kept
set_final-requires-clause-kept g c =
    let gate = is_gate c.args.g.now c.requires.fits in
    let at = in_finals c.items-last-items.result.now c.args.g.now.finals c.loop-last.last-index
    c.last-item.result c.items-last-items.ensures c.loop-last-test.true c.last-item.is in
    (is_final c.args.g.now c.loop-last.last-index c.last-item.result gate at.0 at.1).kept

pub set_final-requires-clause-small : goal.set_final-requires-clause-small
set_final-requires-clause-small g c =
    let gate = is_gate c.args.g.now c.requires.fits in
    let at = in_finals c.items-last-items.result.now c.args.g.now.finals c.loop-last.last-index
    c.last-item.result c.items-last-items.ensures c.loop-last-test.true c.last-item.is in
    (is_final c.args.g.now c.loop-last.last-index c.last-item.result gate at.0 at.1).small

pub returns-in-Err-clause-refused : goal.returns-in-Err-clause-refused
returns-in-Err-clause-refused g c = λ told.
    let gate = is_gate c.args.g.now c.requires.fits in
    let at = in_finals c.items-last-items.result.now c.args.g.now.finals c.loop-last.last-index
    c.last-item.result c.items-last-items.ensures c.loop-last-test.true c.last-item.is in
    let a = g.D.Disk.state c.args.disk.now in let b = g.D.Disk.state c.loop-last.disk in
    let d = g.D.Disk.state c.set_final.new.disk in
    refuses c.args.g.now c.loop-last.last-index c.last-item.result a b c.in-Err.failure gate at.0
    at.1 (c.loop-last.invariant.so_far told) (c.in-Err.ensures.refused told)

pub returns-in-Err-clause-touches : goal.returns-in-Err-clause-touches
returns-in-Err-clause-touches g c = λ told.
    let gate = is_gate c.args.g.now c.requires.fits in
    let at = in_finals c.items-last-items.result.now c.args.g.now.finals c.loop-last.last-index
    c.last-item.result c.items-last-items.ensures c.loop-last-test.true c.last-item.is in
    let a = g.D.Disk.state c.args.disk.now in let b = g.D.Disk.state c.loop-last.disk in
    let d = g.D.Disk.state c.set_final.new.disk in
    let step = subst (λ (x : List ℕ). TouchesOnly (x ∷ []) b d)
    (named c.args.g.now.names c.last-item.result.name c.at.result.now c.at.ensures)
    (c.set_final.ensures.touches told) in
    touches_more c.args.g.now c.loop-last.last-index c.last-item.result a b d at.0 at.1
    (c.loop-last.invariant.so_far told).touches step

pub loop-last-preserved : goal.loop-last-preserved
loop-last-preserved g c =
    let gate = is_gate c.args.g.now c.requires.fits in
    let at = in_finals c.items-last-items.result.now c.args.g.now.finals c.loop-last.last-index
    c.last-item.result c.items-last-items.ensures c.loop-last-test.true c.last-item.is in
    let a = g.D.Disk.state c.args.disk.now in let b = g.D.Disk.state c.loop-last.disk in
    let d = g.D.Disk.state c.set_final.new.disk in
    let is = named c.args.g.now.names c.last-item.result.name c.at.result.now c.at.ensures in
    record {
      faults = omega (arith, c.loop-last.invariant.faults, c.set_final.ensures.cause.faults.rise);
      refusals = omega (
        arith,
        c.loop-last.invariant.refusals,
        c.set_final.ensures.cause.refusals.rise,
      );
      so_far = λ told. set_more c.args.g.now c.loop-last.last-index c.last-item.result a b d gate
          at.0 at.1 (c.loop-last.invariant.so_far told)
          (subst (λ (x : List ℕ). TouchesOnly (x ∷ []) b d) is
          (c.set_final.ensures.touches told))
          (ap d.folder (sym is) ∙ c.in_default.ensures.set told)
          (c.in_default.ensures.stood told);
    }

pub returns-clause-set : goal.returns-clause-set
returns-clause-set g c = λ told.
    let le : length c.args.g.now.finals ≤ c.loop-last.last-index
    = subst (λ (l : List FinalNote). length l ≤ c.loop-last.last-index)
    c.items-last-items.ensures
    c.loop-last-test.false in
    all_set c.args.g.now c.loop-last.last-index (g.D.Disk.state c.args.disk.now)
    (g.D.Disk.state c.loop-last.disk) le (c.loop-last.invariant.so_far told)

pub returns-clause-stood : goal.returns-clause-stood
returns-clause-stood g c = λ told.
    let le : length c.args.g.now.finals ≤ c.loop-last.last-index
    = subst (λ (l : List FinalNote). length l ≤ c.loop-last.last-index)
    c.items-last-items.ensures
    c.loop-last-test.false in
    all_stood c.args.g.now c.loop-last.last-index (g.D.Disk.state c.args.disk.now)
    (g.D.Disk.state c.loop-last.disk) le (c.loop-last.invariant.so_far told)
