-- Why a call of `gs` stops: its status, and its line.
use Rattle.std.specs.Prelude.{ℕ, List, [], ◌∷◌, ◌++◌, codes, decimal, Option, Some, None, Result, Ok, Err}
use Rattle.gs_store.specs.Names.{version_name}
use Rattle.gs_store.specs.declared.same.What.{What}
use Rattle.gs_store.specs.declared.same.What.TheVariants.{IdlName, IdlText, ProgramName, ProgramText}
use Rattle.gs_verbs.specs.declared.stops.BadStore.{BadStore as WhyBad}
use Rattle.gs_verbs.specs.declared.stops.BadStore.TheVariants as bad
use Rattle.gs_run.specs.Kinds.{kind_text, fault_kind_text}
use Rattle.gs_run.specs.declared.stop.Stop.{Stop}
use Rattle.gs_run.specs.declared.stop.Stop.TheVariants.{Usage, NoText, BadText, OtherRun, BadStore, Fault, FuelOut, TaskLost, WorkersLost, Gated, NoRun, Disk, Sink, Memory}

abbrev pub status_of : Result Unit Stop → ℕ
status_of (Ok done) = 0
status_of (Err (Usage word)) = 2
status_of (Err (NoText name)) = 3
status_of (Err (BadText name line kind)) = 4
status_of (Err (OtherRun what)) = 5
status_of (Err (BadStore why)) = 6
status_of (Err (Fault line kind)) = 7
status_of (Err (FuelOut fuel)) = 8
status_of (Err (TaskLost n)) = 9
status_of (Err (WorkersLost n)) = 9
status_of (Err Disk) = 10
status_of (Err Sink) = 11
status_of (Err Memory) = 12
status_of (Err Gated) = 13
status_of (Err NoRun) = 15

-- the length of a file, or that there is none
abbrev pub found_text : Option ℕ → List ℕ
found_text None = codes "none"
found_text (Some len) = decimal len

-- a part of the texts
abbrev pub what_text : What → List ℕ
what_text IdlName = codes "idl name"
what_text IdlText = codes "idl text"
what_text ProgramName = codes "program name"
what_text ProgramText = codes "program text"

abbrev pub bad_store_line : WhyBad → List ℕ
bad_store_line (bad.Log at) = codes "gs: bad store: log at " ++ (decimal at ++ 10 ∷ [])
bad_store_line (bad.Record index) = codes "gs: bad store: record " ++ (decimal index ++ 10 ∷ [])
bad_store_line (bad.Lost version kept found) = codes "gs: bad store: file "
    ++ (version_name version ++ (codes " kept " ++ (decimal kept ++ (codes " found "
    ++ (found_text found ++ 10 ∷ [])))))

abbrev pub line_of : Stop → List ℕ
line_of (Usage word) = codes "gs: usage: word " ++ (decimal word ++ 10 ∷ [])
line_of (NoText name) = codes "gs: no text: " ++ (name ++ 10 ∷ [])
line_of (BadText name line kind) = codes "gs: bad text: "
    ++ (name ++ (codes ":" ++ (decimal line ++ (codes ": " ++ (kind_text kind ++ 10 ∷ [])))))
line_of (Fault line kind) = codes "gs: program fault: line "
    ++ (decimal line ++ (codes ": " ++ (fault_kind_text kind ++ 10 ∷ [])))
line_of (FuelOut fuel) = codes "gs: fuel out: " ++ (decimal fuel ++ 10 ∷ [])
line_of (TaskLost n) = codes "gs: task lost: " ++ (decimal n ++ 10 ∷ [])
line_of (WorkersLost n) = codes "gs: workers lost: " ++ (decimal n ++ 10 ∷ [])
line_of (OtherRun what) = codes "gs: other run: " ++ (what_text what ++ 10 ∷ [])
line_of (BadStore why) = bad_store_line why
line_of Gated = codes "gs: gated\n"
line_of NoRun = codes "gs: no run\n"
line_of Disk = codes "gs: disk fault\n"
line_of Sink = codes "gs: sink fault\n"
line_of Memory = codes "gs: no memory\n"

-- what goes to standard error
abbrev pub message_of : Result Unit Stop → List ℕ
message_of (Ok done) = []
message_of (Err stop) = line_of stop
