-- What is started.
use Rattle.std.specs.Prelude.{◌≡◌, ◌++◌, List, Some}
use Rattle.gs_types.specs.declared.job.Arg.{Arg}
use Rattle.gs_types.specs.declared.job.Job.{Job}
use Rattle.gs_idl.specs.Interface.{name_at}
use Rattle.gs_policy.specs.Cost.{Cost}
use Rattle.gs_broker.specs.Listed.{program_in}
use Rattle.gs_queue.specs.Queue.{workers_of}
use Rattle.gs_history.specs.Good.{IsStart, IsQuiet}
use Rattle.gs_history.specs.Notes.{NoMisfit}
use Rattle.gs_main.specs.Shown.{talking}
use Rattle.gs_core.specs.Core.{IsDueStart}
use Rattle.gs_core.specs.declared.machine.Core.{Core}
use Rattle.gs_core.specs.declared.machine.Start.{Start}
use Rattle.gs_engine.specs.Joined.{Before}

-- the job is of this start: its task, worker and operation, with what the task gets
pub record IsJobFor (core : Core) (start : Start) (args : List Arg) (job : Job) : Type 0 where
  pub number : job.n ≡ start.n
  pub worker : job.worker ≡ start.worker
  pub program : program_in (workers_of core.queue) start.worker ≡ Some job.program
  pub op : job.op ≡ name_at (talking core.main).interface.ops start.op
  pub args_are : job.args ≡ args

-- a start of this job is due
abbrev pub HasStart : Job → Before
HasStart job c k h = IsStart c.setup (h ++ c.noted) job.n job.worker job

-- this start is due
abbrev pub IsDueNow : Start → Before
IsDueNow start c k h = IsDueStart c.setup k (h ++ c.noted) (Some start)

-- starts cost this
abbrev pub HasCosts : Cost → Before
HasCosts cost c k h = cost ≡ c.setup.cost

-- no ready task can be started, unless the next task has a note of another form
abbrev pub IsStill : {T : Type 0} → T → Before
IsStill x c k h = NoMisfit c.setup k → IsQuiet c.setup (h ++ c.noted)
