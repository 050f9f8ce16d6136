use Rattle.std.proofs.Common.{arith, rules}
use Rattle.gs_disk.specs.Name.{IsStore}
use Rattle.gs_back.proofs.Removing.{removing, removed_more, removes}
use Rattle.gs_back.proofs.removal.remove_stored.Goals as goal

pub returns-in_err-remove-clause-removes : goal.returns-in_err-remove-clause-removes
returns-in_err-remove-clause-removes g c = λ told.
    let a = g.D.Disk.state c.args.disk.now in let b = g.D.Disk.state c.loop-name.disk in
    let d = g.D.Disk.state c.remove.new.self in
    let store : IsStore c.name-item.result = c.is_stored.ensures.0 (search rules) in
    removes c.from_residual.result c.args.names.now a d
    (removing c.args.names.now c.loop-name.name-index c.name-item.result a b d
    c.loop-name-test.true c.name-item.is store (c.loop-name.invariant.so_far told)
    (c.remove.ensures.others told) (c.remove.ensures.images told))
    (search rules)

pub loop-name-preserved : goal.loop-name-preserved
loop-name-preserved g c =
    let a = g.D.Disk.state c.args.disk.now in let b = g.D.Disk.state c.loop-name.disk in
    let d = g.D.Disk.state c.remove.new.self in
    let store : IsStore c.name-item.result = c.is_stored.ensures.0 (search rules) in
    record {
      faults = omega (arith, c.loop-name.invariant.faults, c.remove.ensures.cause.faults.rise);
      refusals = omega (
        arith,
        c.loop-name.invariant.refusals,
        c.remove.ensures.cause.refusals.rise,
      );
      so_far = λ told. removed_more c.args.names.now c.loop-name.name-index c.name-item.result a b
          d c.loop-name-test.true c.name-item.is store (c.loop-name.invariant.so_far told)
          (c.remove.ensures.others told) (c.remove.ensures.images told)
          (c.in_ok-remove.ensures.gone told);
    }
