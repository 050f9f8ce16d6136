use Rattle.std.proofs.Common.{refl, sym, length}
use Rattle.gs_idl.specs.Interface.{params_at}
use Rattle.gs_check.proofs.Calling.{dir_is, kind_is}
use Rattle.gs_check.proofs.call.passed_fault.Goals as goal

pub returns : goal.returns
returns c = λ p here.
    let params = params_at c.args.idl.now.ops c.args.op in
    let at = length c.args.before.now in
    let dir = dir_is params at p c.param-dir.result.0 here c.param-dir.ensures.dir in
    let kind = kind_is params at p c.param-dir.result.1 here c.param-dir.ensures.kind in
    let place = c.place_fault.ensures p (sym dir) (sym kind) in
    rw (c.or.ensures, c.twice_fault-twice.ensures, c.own_fault.ensures, place, c.repeats-again.ensures, dir) refl
