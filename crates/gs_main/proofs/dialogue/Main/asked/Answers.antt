use Rattle.std.proofs.Common.{refl}
use Rattle.gs_main.specs.Seen.{given_of}
use Rattle.gs_main.specs.Shown.{talking}
use Rattle.gs_main.proofs.Asking.{ended_asks, went_asks}
use Rattle.gs_main.proofs.dialogue.Main.asked.Goals as goal

pub returns-in-Ended-clause-asks : goal.returns-in-Ended-clause-asks
unfolding talking
returns-in-Ended-clause-asks c =
    let m = c.args.self.now in
    ended_asks m.failed (given_of m.script) m.script.orders.items m.run c.in-Ended.last c.question.result _ (cc) c.in-Ended.is c.question.ensures refl refl

pub returns-in-Ok-clause-asks : goal.returns-in-Ok-clause-asks
unfolding talking
returns-in-Ok-clause-asks c =
    let m = c.args.self.now in
    went_asks m.failed (given_of m.script) m.script.orders.items m.run c.in-Ok.q c.go_on.new.self _ (cc) c.in-Nothing.is c.in-Ok.ensures refl refl
