-- What the made texts say.
use Rattle.std.specs.Prelude.{◌≡◌, ℕ, ◌<◌, ◌≤◌, true, length, slice_get, None}
use Rattle.gs_idl.specs.Grammar as idl
use Rattle.gs_parse.specs.Faulty.{IsText}
use Rattle.gs_check.specs.Faults.{fault_of}
use Rattle.gs_broker.specs.Text as workers
use Rattle.gs_broker.specs.TextLaws.{takes_by}
use Rattle.gs_report.specs.Generator.{idl_text, program_text, workers_text}
use Rattle.gs_made.specs.Texts.{self_interface, self_tree, self_workers}

-- the interface's text says the interface
abbrev pub SaysInterface : Type 0
SaysInterface = idl.Says idl_text self_interface

-- the program's text says the program, within the limits
abbrev pub SaysProgram : Type 0
SaysProgram = (seed n : ℕ) → n ≤ 2000 → IsText (program_text seed n) (self_tree seed n)

-- the program has no fault
abbrev pub HasNoFault : Type 0
HasNoFault = (seed n : ℕ) → fault_of self_interface.ops (self_tree seed n) ≡ None

-- the workers' text says the workers
abbrev pub SaysWorkers : Type 0
SaysWorkers = workers.Says self_interface.ops workers_text self_workers

-- each worker takes each operation
abbrev pub EachTakesAll : Type 0
EachTakesAll = (w op : ℕ) → w < length self_workers → op < length self_interface.ops
    → takes_by (slice_get self_workers w) op ≡ true
