-- The sequential run of the program that is made.
use Rattle.std.specs.Prelude.{◌≡◌, ◌≢◌, ℕ, ◌<◌, ◌≤◌, false, List, length, Some}
use Rattle.gs_types.specs.declared.limits.TheConstants.{FILE_LIMIT, FUEL_DEFAULT}
use Rattle.gs_talk.specs.declared.question.Question.TheVariants.{End}
use Rattle.gs_talk.specs.Seq.{Known, Files, any_lost, Run, seq, EndsIn}
use Rattle.gs_main.specs.Talking.{given_by}
use Rattle.gs_report.specs.Generator.{self_gives}
use Rattle.gs_made.specs.Texts.{file_named, self_interface, self_tree}

-- the run from these files, where the texts have these names
abbrev pub self_run : (idl_name program_name : List ℕ) → Files → (seed n : ℕ) → Run
self_run idl_name program_name files seed n = record {
  texts = given_by idl_name program_name self_interface (self_tree seed n);
  law = self_gives;
  files = files;
  fuel = FUEL_DEFAULT;
}

-- none of the files f0 to f15 has this name
abbrev pub IsApart : List ℕ → Type 0
IsApart name = (k : ℕ) → k < 16 → file_named k ≢ name

-- a file stands there, no longer than a file may be
pub record IsFile (files : Files) (name : List ℕ) : Type 0 where
  pub bytes : List ℕ
  pub holds : files name ≡ Some (Known bytes)
  pub short : length bytes ≤ FILE_LIMIT

abbrev pub HoldAll : Files → Type 0
HoldAll files = (k : ℕ) → k < 16 → IsFile files (file_named k)

-- the run ends after so many answers, each to a call, and no task is lost
pub record EndsWhole (r : Run) (n : ℕ) : Type 0 where
  pub ends : EndsIn r n End
  pub tasks : length (seq r n).world.tasks ≡ n
  pub whole : any_lost (seq r n).world ≡ false

abbrev pub MadeRunsEnd : Type 0
MadeRunsEnd = (idl_name program_name : List ℕ) (files : Files) (seed n : ℕ) → n ≤ 2000
    → IsApart idl_name → IsApart program_name → HoldAll files
    → EndsWhole (self_run idl_name program_name files seed n) n
