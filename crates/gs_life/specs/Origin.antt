-- Of what a run is: its texts, the user's files at first, and the law of its tasks.
use Rattle.std.specs.Prelude.{◌≡◌, ℕ, List, Some, option_map}
use Rattle.gs_types.specs.Job.{Meaning}
use Rattle.gs_types.specs.declared.value.Value.{Value}
use Rattle.gs_disk.specs.Folder.{Folder}
use Rattle.gs_disk.specs.Name.{IsUser}
use Rattle.gs_entries.specs.declared.entry.Entry.{Entry}
use Rattle.gs_entries.specs.declared.entry.Texts.{Texts}
use Rattle.gs_talk.specs.Talk.{Given}
use Rattle.gs_talk.specs.Seq.{Run, Files, Known, Task, IsTask}

-- the texts and what they say, the user's files at first, the law, and the entries that stood as
-- the call began
pub record Origin : Type 0 where
  pub texts : Texts
  pub given : Given
  pub files : Folder
  pub law : Meaning
  pub stood : List Entry

-- what each file of a folder holds
abbrev pub contents : Folder → Files
contents folder name = option_map Known (folder name)

-- the sequential run from the user's files at first
abbrev pub run_of : Origin → (fuel : ℕ) → Run
run_of o fuel = record { texts = o.given; law = o.law; files = contents o.files; fuel = fuel }

-- the run has this task at some fuel, and it isn't lost: it gave this
pub record IsOutput (o : Origin) (n : ℕ) (t : Task) (outs : List Value) : Type 0 where
  pub fuel : ℕ
  pub is : IsTask (run_of o fuel) n t
  pub gave : t.outs ≡ Some outs

-- the user's files are those at first
abbrev pub UsersAre : Origin → Folder → Type 0
UsersAre o folder = (x : List ℕ) → IsUser x → folder x ≡ o.files x
