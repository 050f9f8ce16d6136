-- Tasks whose children have ended.
use Rattle.std.specs.Prelude.{◌≡◌, List, Some, slice_get}
use Rattle.std.specs.declared.process.Child.{Child}
use Rattle.gs_proc.specs.declared.task.Task.{Task}
use Rattle.gs_proc.specs.declared.task.Ending.{Ending}
use Rattle.gs_proc.specs.declared.task.Ending.TheVariants.{Well}
use Rattle.gs_proc.specs.declared.task.End.{End}
use Rattle.gs_proc.specs.Tasks.{EndedWell}

-- where the task is told to have ended well, its child was asked, and has ended with status 0
pub record EndedAs {P I O E : Type 0} (task : Task (Child P I O E)) (ending : Ending) : Type 0 where
  pub well : ending ≡ Well → EndedWell task.child

-- the end of the task at this place
pub record IsEnd {P I O E : Type 0} (tasks : List (Task (Child P I O E))) (end : End) : Type 0 where
  pub task : Task (Child P I O E)
  pub here : slice_get tasks end.place ≡ Some task
  pub ended : EndedAs task end.ending
