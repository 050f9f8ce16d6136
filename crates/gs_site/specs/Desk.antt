-- The jobs of a link in memory, and what it told.
use Rattle.std.specs.Prelude.{List, [], ◌∷◌}
use Rattle.gs_types.specs.History.{History, abandoned}
use Rattle.gs_types.specs.declared.job.Job.{Job}

-- the jobs in flight, in the order of their starts, and the history
pub record DeskState : Type 0 where
  pub jobs : List Job
  pub told : History

-- the history after all jobs were let go
abbrev pub after_abandon : List Job → History → History
after_abandon [] told = told
after_abandon (job ∷ jobs) told = abandoned ∷ told

-- without jobs
abbrev pub left_alone : DeskState → DeskState
left_alone d = record { jobs = []; told = after_abandon d.jobs d.told }
