-- What a list of tasks says, as plain functions.
use Rattle.std.specs.Prelude.{ℕ, Option, length}
use Rattle.gs_broker.specs.declared.choice.Ready.{Ready}
use Rattle.gs_queue.specs.Fronts.{task_at}
use Rattle.gs_queue.specs.declared.listed.Listed.{Listed}

-- how many numbers there are
unfoldable pub size_in : Listed → ℕ
size_in l = length l.tasks.items

-- the listed task of this number
unfoldable pub task_in : Listed → ℕ → Option Ready
task_in l n = task_at l.tasks.items n
