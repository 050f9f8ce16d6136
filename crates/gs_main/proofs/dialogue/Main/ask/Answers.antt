use Rattle.gs_main.specs.Shown.{talking}
use Rattle.gs_main.proofs.Asking.{asks_talk, asks_stand, asks_await, asks_last}
use Rattle.gs_main.proofs.dialogue.Main.ask.Goals as goal

pub returns-clause-talks : goal.returns-clause-talks
returns-clause-talks c = λ t fuel answers h.
    asks_talk (talking c.args.self.now).next c.asked.result (talking c.asked.new.self) t fuel answers c.asked.ensures.asks h c.requires

pub returns-clause-stands : goal.returns-clause-stands
returns-clause-stands c = λ t fuel answers h.
    asks_stand (talking c.args.self.now).next c.asked.result (talking c.asked.new.self) t fuel answers c.asked.ensures.asks h c.requires

pub returns-clause-awaits : goal.returns-clause-awaits
returns-clause-awaits c = asks_await (talking c.args.self.now).next c.asked.result (talking c.asked.new.self) c.asked.ensures.asks c.requires

pub returns-clause-last : goal.returns-clause-last
returns-clause-last c = asks_last (talking c.args.self.now).next c.asked.result (talking c.asked.new.self) c.asked.ensures.asks c.requires
