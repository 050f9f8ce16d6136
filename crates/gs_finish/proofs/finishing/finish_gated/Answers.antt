use Rattle.gs_disk.specs.Going.{always_then}
use Rattle.gs_life.specs.Stands.{Stands}
use Rattle.gs_life.proofs.Calls.{for_gated}
use Rattle.gs_finish.proofs.finishing.finish_gated.Goals as goal

pub returns-in-Err-close-clause-stands : goal.returns-in-Err-close-clause-stands
returns-in-Err-close-clause-stands g c = λ told o for.
    let a = g.D.Disk.state c.args.disk.now in
    let b = g.D.Disk.state c.bring_back.new.disk in
    let d = g.D.Disk.state c.close.new.disk in
    let back = c.in_default.ensures.back told o for in
    let here = for_gated o c.args.store.entries b for.rules back.steady back.holds.gated in
    let closes = c.in-Err-close.ensures.closes told o here back.holds in
    always_then (Stands o) a b d back.always closes.always

pub returns-clause-stands : goal.returns-clause-stands
returns-clause-stands g c = λ told o for.
    let a = g.D.Disk.state c.args.disk.now in
    let b = g.D.Disk.state c.bring_back.new.disk in
    let d = g.D.Disk.state c.close.new.disk in
    let back = c.in_default.ensures.back told o for in
    let here = for_gated o c.args.store.entries b for.rules back.steady back.holds.gated in
    let closes = c.in_default-close.ensures.closes told o here back.holds in
    always_then (Stands o) a b d back.always closes.always
