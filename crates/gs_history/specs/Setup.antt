-- What a run is given.
use Rattle.std.specs.Prelude.{ℕ, Bool, List, Option, length}
use Rattle.gs_types.specs.declared.note.OutNote.{OutNote}
use Rattle.gs_policy.specs.Cost.{Cost}
use Rattle.gs_talk.specs.Talk.{Dialogue}
use Rattle.gs_talk.specs.Seq.{Run, World, seq}

-- what an earlier call recorded of task n: the entry's index, the operation, and what the task gave
-- at its places
pub record Noting : Type 0 where
  pub index : ℕ
  pub n : ℕ
  pub op : ℕ
  pub outs : List OutNote

-- the sequential run; how many calls may be unfinished at once, and at how many failures a task is
-- lost; of each worker, from 0, its slots, the operations that it takes and its program; what a
-- start costs; and what earlier calls recorded
pub record Setup : Type 0 where
  pub run : Run
  pub window : ℕ
  pub tries : ℕ
  pub slots : ℕ → ℕ
  pub takes : (worker op : ℕ) → Bool
  pub program : (worker : ℕ) → Option (List ℕ)
  pub cost : Cost
  pub notes : List Noting

-- the world after k questions, and what is asked from there on
abbrev pub world_at : Setup → (k : ℕ) → World
world_at s k = (seq s.run k).world

abbrev pub rest_at : Setup → (k : ℕ) → Dialogue
rest_at s k = (seq s.run k).rest

-- how many tasks the first k questions called
abbrev pub count_at : Setup → (k : ℕ) → ℕ
count_at s k = length (world_at s k).tasks
