-- A run is stuck only at what a lost task would have left.
use Rattle.std.specs.Prelude.{◌≡◌, ℕ, true, false, List, Some, ◌⊎◌}
use Rattle.gs_types.specs.declared.value.Value.{Value}
use Rattle.gs_talk.specs.declared.question.Question.TheVariants.{Use}
use Rattle.gs_talk.specs.declared.question.Answer.{Answer}
use Rattle.gs_talk.specs.Talk.{State, Dialogue, Ask}
use Rattle.gs_talk.specs.Seq.{Run, Files, Lost, Task, seq, is_lost, any_lost, output_of, task_at, IsStuck}

-- no file is lost
abbrev pub AreKnown : Files → Type 0
AreKnown files = (name : List ℕ) → files name ≡ Some Lost → ⊥

-- a use names a task of the run, and there is the value unless the task is lost
abbrev pub UsesAreOfTasks : Type 0
UsesAreOfTasks = (r : Run) (k n place : ℕ) (s : State) (next : Answer → Dialogue)
    → (seq r k).rest ≡ Ask (Use n place) s next →
    (t : Task) × (task_at (seq r k).world.tasks n ≡ Some t)
    × ((is_lost t ≡ true) ⊎ ((v : Value) × (output_of (Some t) place ≡ Some v)))

-- while no task is lost, no file is
abbrev pub FilesAreKnown : Type 0
FilesAreKnown = (r : Run) (k : ℕ) → AreKnown r.files → any_lost (seq r k).world ≡ false
    → AreKnown (seq r k).world.files

-- a run that is stuck has a lost task
abbrev pub StuckIsLost : Type 0
StuckIsLost = (r : Run) (k : ℕ) → AreKnown r.files → IsStuck r k → any_lost (seq r k).world ≡ true
