use Rattle.std.proofs.Common.{rules}
use Rattle.gs_life.proofs.Calls.{closes}
use Rattle.gs_finish.proofs.finishing.close.Goals as goal

pub returns-in_err-close-clause-closes : goal.returns-in_err-close-clause-closes
returns-in_err-close-clause-closes g c = λ told o for back.
    let s = closes o for.rules c.args.store.now (g.D.Disk.state c.args.disk.now)
    (g.D.Disk.state c.close.new.disk) _ for.steady back (c.close.ensures.adds told) in
    record { always = s.always; closed = search rules }

pub returns-clause-closes : goal.returns-clause-closes
returns-clause-closes g c = λ told o for back.
    let s = closes o for.rules c.args.store.now (g.D.Disk.state c.args.disk.now)
    (g.D.Disk.state c.close.new.disk) _ for.steady back (c.in_ok-close.ensures.adds told) in
    record { always = s.always; closed = s.closed }
