-- Which tasks may start, and where.
use Rattle.std.specs.Prelude.{◌≡◌, ℕ, ◌+◌, ◌<◌, true, false, List, [], ◌∷◌, length, Option, Some, None}
use Rattle.gs_types.specs.declared.value.Value.{Value}
use Rattle.gs_types.specs.declared.value.Value.TheVariants as value
use Rattle.gs_types.specs.declared.job.Arg.{Arg}
use Rattle.gs_types.specs.declared.job.Arg.TheVariants.{Given, Both, OutFile, OutInt, OutStr}
use Rattle.gs_types.specs.declared.job.Job.{Job}
use Rattle.gs_types.specs.declared.limits.TheConstants.{WORKER_FAILURES}
use Rattle.gs_types.specs.History.{History, outs_in, worker_in, busy, worker_failures}
use Rattle.gs_idl.specs.Interface.{name_at}
use Rattle.gs_broker.specs.Choice.{before}
use Rattle.gs_broker.specs.declared.choice.Pair.{Pair}
use Rattle.gs_talk.specs.Seq.{Task, task_at}
use Rattle.gs_talk.specs.Actions.{DependsOn}
use Rattle.gs_history.specs.Setup.{Setup, world_at}
use Rattle.gs_history.specs.Frontier.{IsDone, IsWithin}

-- the task is called within the frontier and not done, and those that it truly depends on are done
pub record IsOpen (s : Setup) (h : History) (n : ℕ) (t : Task) : Type 0 where
  pub moment : ℕ
  pub within : IsWithin s h moment
  pub called : task_at (world_at s moment).tasks n ≡ Some t
  pub unfinished : outs_in h n ≡ None
  pub inputs : (m : ℕ) → DependsOn s.run n m → IsDone h m

-- and it is not in flight
pub record IsReady (s : Setup) (h : History) (n : ℕ) (t : Task) : Type 0 where
  pub opened : IsOpen s h n t
  pub idle : worker_in h n ≡ None

-- the worker takes the operation, has a free slot and has not failed too often
pub record CanTake (s : Setup) (h : History) (op w : ℕ) : Type 0 where
  pub takes : s.takes w op ≡ true
  pub free : busy h w < s.slots w
  pub usable : worker_failures h w < WORKER_FAILURES

-- ---- the choice

abbrev pub value_length : Value → ℕ
value_length (value.File bytes) = length bytes
value_length (value.Int v) = 0
value_length (value.Str b) = 0

-- the lengths of the files that are passed in, together
abbrev pub input_lengths : List Arg → ℕ
input_lengths [] = 0
input_lengths (Given v ∷ args) = value_length v + input_lengths args
input_lengths (Both bytes ∷ args) = length bytes + input_lengths args
input_lengths (OutFile ∷ args) = input_lengths args
input_lengths (OutInt ∷ args) = input_lengths args
input_lengths (OutStr ∷ args) = input_lengths args

abbrev pub input_bytes : Option (List Arg) → ℕ
input_bytes None = 0
input_bytes (Some args) = input_lengths args

-- what it costs to start the task on the worker
abbrev pub pair_in : Setup → (n : ℕ) → Task → (w : ℕ) → Pair
pair_in s n t w = record { cost = s.cost t.op w (input_bytes t.args); n = n; worker = w }

-- no other pair that could be started comes before this one
abbrev pub IsLeast : Setup → History → (n : ℕ) → Task → (w : ℕ) → Type 0
IsLeast s h n t w = (m u : ℕ) (other : Task) → IsReady s h m other → CanTake s h other.op u
    → before (pair_in s m other u) (pair_in s n t w) ≡ false

-- ---- the job

-- the job is the task's, with its number, for the worker and its program
pub record IsJob (s : Setup) (n w : ℕ) (t : Task) (job : Job) : Type 0 where
  pub number : job.n ≡ n
  pub worker : job.worker ≡ w
  pub program : s.program w ≡ Some job.program
  pub op : job.op ≡ name_at s.run.texts.ops t.op
  pub args : t.args ≡ Some job.args
