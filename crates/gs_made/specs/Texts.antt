-- What the texts say that are made from a number.
use Rattle.std.specs.Prelude.{ℕ, zero, suc, pos, ◌+◌, ◌%◌, ◌==◌, true, false, List, [], ◌∷◌, ◌++◌, codes, if◌then◌else◌}
use Rattle.std.specs.Fmt.{decimal}
use Rattle.gs_idl.specs.Interface.{Param, Signature, Interface}
use Rattle.gs_idl.specs.declared.idl.Dir.{Dir}
use Rattle.gs_idl.specs.declared.idl.Dir.TheVariants.{Input, Both, Output}
use Rattle.gs_idl.specs.declared.idl.ParamKind.{ParamKind}
use Rattle.gs_idl.specs.declared.idl.ParamKind.TheVariants.{File, Int}
use Rattle.gs_tree.specs.Program.{Name, num, lit, Passed, Code, call, Codes, none, one, Program}
use Rattle.gs_broker.specs.Text.{Entry}
use Rattle.gs_report.specs.Generator.{behind, drawn, after_tasks}

-- ---- the interface

abbrev pub param : Dir → ParamKind → List ℕ → Param
param dir kind name = record { dir = dir; kind = kind; name = name }

-- it makes a file of two others
abbrev pub hash_op : Signature
hash_op = record {
  name = codes "hash";
  params = param Input File (codes "a") ∷ param Input File (codes "b")
      ∷ param Output File (codes "c") ∷ [];
}

-- it changes a file by a number
abbrev pub mark_op : Signature
mark_op = record {
  name = codes "mark";
  params = param Both File (codes "f") ∷ param Input Int (codes "i") ∷ [];
}

abbrev pub self_interface : Interface
self_interface = record { name = codes "SELF"; ops = hash_op ∷ mark_op ∷ [] }

-- ---- the program

-- one of the files f0 to f15
abbrev pub file_named : ℕ → List ℕ
file_named k = codes "f" ++ decimal k

-- the file that is drawn
abbrev pub file_drawn : ℕ → List ℕ
file_drawn x = file_named (drawn x % 16)

-- the line of task t: two lines stand before the first task's
abbrev pub line_of_task : ℕ → ℕ
line_of_task t = t + 2

abbrev pub name_on : (line : ℕ) → List ℕ → Name
name_on line text = record { line = line; text = text }

abbrev pub file_passed : (line : ℕ) → List ℕ → Passed
file_passed line file = record { line = line; by_address = false; value = lit line file }

abbrev pub number_passed : (line n : ℕ) → Passed
number_passed line n = record { line = line; by_address = false; value = num line (pos n) }

-- `mark` of a file that is drawn, and the task's number
abbrev pub mark_call : (line t x : ℕ) → Code
mark_call line t x = call (name_on line (codes "mark"))
    (file_passed line (file_drawn x) ∷ number_passed line t ∷ [])

-- `hash` of three files that are drawn one after the other
abbrev pub hash_call : (line x : ℕ) → Code
hash_call line x = call (name_on line (codes "hash"))
    (file_passed line (file_drawn x) ∷ file_passed line (file_drawn (behind x))
    ∷ file_passed line (file_drawn (behind (behind x))) ∷ [])

-- the call of task t, drawn from a state
abbrev pub task_call : (t x : ℕ) → Code
task_call t x = if drawn x % 4 == 0 then mark_call (line_of_task t) t (behind x)
    else hash_call (line_of_task t) (behind x)

-- the calls of the first k tasks, before others
abbrev pub task_calls : (seed k : ℕ) → Codes → Codes
task_calls seed zero others = others
task_calls seed (suc k) others =
    task_calls seed k (one (task_call (suc k) (after_tasks seed k)) others)

-- one call a task; `GS_Off` stands on the line behind the last
abbrev pub self_tree : (seed n : ℕ) → Program
self_tree seed n = record {
  vars = [];
  first = [];
  body = task_calls seed n none;
  off = n + 3;
}

-- ---- the workers

-- a worker of four slots, which takes both operations
abbrev pub self_worker : List ℕ → Entry
self_worker name = record {
  name = name;
  slots = 4;
  program = codes "in";
  takes = true ∷ true ∷ [];
}

abbrev pub self_workers : List Entry
self_workers = self_worker (codes "a") ∷ self_worker (codes "b") ∷ []
