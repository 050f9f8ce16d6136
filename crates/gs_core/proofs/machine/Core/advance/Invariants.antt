use Rattle.std.proofs.Common.{◌≡◌, ◌+◌, ◌≤◌, ℕ, None, length}
use Rattle.gs_types.specs.History.{History}
use Rattle.gs_main.specs.Shown.{talking}
use Rattle.gs_history.specs.Setup.{Setup}
use Rattle.gs_tables.specs.Table.{mains_in}
use Rattle.gs_core.specs.Talker.{IsAwake}
use Rattle.gs_core.specs.Stages.{IsAnswered, ahead}
use Rattle.gs_core.specs.Core.{Stands, SameJobs, KeptLooks}
use Rattle.gs_core.specs.Turns.{taken_in}
use Rattle.gs_core.proofs.machine.Core.advance.Given as goal

abbrev pub invariant-loop-i : goal.invariant-loop-i
invariant-loop-i l = record {
  mains : length (mains_in l.self.tables) + ahead l.self.stage ≤ length (mains_in l.fn.self.tables) + ahead l.fn.self.stage;
  jobs : SameJobs l.fn.self l.self;
  calm : l.self.lost ≡ None;
  answered : IsAnswered l.self.stage;
  awake : IsAwake l.self.asked (talking l.self.main).next;
  stands : (s : Setup) (k : ℕ) (h : History) → Stands l.fn.self s k h → (m : ℕ) × (k ≤ m) × Stands l.self s m h × KeptLooks l.fn.self l.self k m × (m ≡ k → l.self.stage ≡ taken_in l.fn.self.stage);
}
