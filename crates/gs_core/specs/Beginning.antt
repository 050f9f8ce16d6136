-- What a core is made of.
use Rattle.std.specs.Prelude.{◌≡◌, ℕ, List, map}
use Rattle.gs_idl.specs.Interface.{IsOpsSized, KeepRules}
use Rattle.gs_broker.specs.Broker.{workers_in}
use Rattle.gs_broker.specs.Listed.{program_in}
use Rattle.gs_broker.specs.declared.broker.Broker.{Broker}
use Rattle.gs_talk.specs.Talk.{dialogue}
use Rattle.gs_talk_laws.specs.Stuck.{AreKnown}
use Rattle.gs_main.specs.Talking.{Talking, Goes}
use Rattle.gs_history.specs.Setup.{Setup}
use Rattle.gs_tables.specs.Noted.{noting_of}
use Rattle.gs_tables.specs.declared.noted.DoneNote.{DoneNote}
use Rattle.gs_works.specs.Works.{IsBrokerOf}

-- the program, the workers, the window and the notes are those of the setup; its operations keep
-- the limits and the rules of an interface, and its files are known
pub record IsGiven (m : Talking) (broker : Broker) (window : ℕ) (notes : List DoneNote)
    (s : Setup) : Type 0 where
  pub texts : m.given ≡ s.run.texts
  pub operations : m.interface.ops ≡ s.run.texts.ops
  pub begins : m.next ≡ Goes (dialogue s.run.texts s.run.fuel)
  pub workers : IsBrokerOf s broker
  pub programs : (w : ℕ) → program_in (workers_in broker) w ≡ s.program w
  pub window_is : s.window ≡ window
  pub notes_are : s.notes ≡ map noting_of notes
  pub sized : IsOpsSized s.run.texts.ops
  pub rules : KeepRules s.run.texts.ops
  pub files : AreKnown s.run.files
