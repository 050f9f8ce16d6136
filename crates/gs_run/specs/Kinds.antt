-- The words for the kinds of faults.
use Rattle.std.specs.Prelude.{ℕ, List, codes}
use Rattle.gs_idl.specs.declared.token.IdlKind.{IdlKind}
use Rattle.gs_idl.specs.declared.token.IdlKind.TheVariants as idl
use Rattle.gs_parse.specs.declared.fault.ParseKind.{ParseKind}
use Rattle.gs_parse.specs.declared.fault.ParseKind.TheVariants as parse
use Rattle.gs_broker.specs.declared.kind.WorkersKind.{WorkersKind}
use Rattle.gs_broker.specs.declared.kind.WorkersKind.TheVariants as workers
use Rattle.gs_check.specs.declared.kind.CheckKind.{CheckKind}
use Rattle.gs_check.specs.declared.kind.CheckKind.TheVariants as check
use Rattle.gs_plan.specs.declared.kind.DurKind.{DurKind}
use Rattle.gs_plan.specs.declared.kind.DurKind.TheVariants as durations
use Rattle.gs_types.specs.declared.settings.FaultKind.{FaultKind}
use Rattle.gs_types.specs.declared.settings.FaultKind.TheVariants as fault
use Rattle.gs_run.specs.declared.kinds.TextKind.{TextKind}
use Rattle.gs_run.specs.declared.kinds.TextKind.TheVariants.{Idl, Program, Check, Durations, Workers, NoWorker}

abbrev pub idl_kind_text : IdlKind → List ℕ
idl_kind_text idl.TooLong = codes "TooLong"
idl_kind_text idl.BadByte = codes "BadByte"
idl_kind_text idl.OpenComment = codes "OpenComment"
idl_kind_text idl.LongName = codes "LongName"
idl_kind_text idl.Unexpected = codes "Unexpected"
idl_kind_text idl.BadCombination = codes "BadCombination"
idl_kind_text idl.TooMany = codes "TooMany"
idl_kind_text idl.Twice = codes "Twice"
idl_kind_text idl.Reserved = codes "Reserved"

abbrev pub parse_kind_text : ParseKind → List ℕ
parse_kind_text parse.TooLong = codes "TooLong"
parse_kind_text parse.BadByte = codes "BadByte"
parse_kind_text parse.OpenComment = codes "OpenComment"
parse_kind_text parse.OpenString = codes "OpenString"
parse_kind_text parse.BadEscape = codes "BadEscape"
parse_kind_text parse.StringTooLong = codes "StringTooLong"
parse_kind_text parse.LongName = codes "LongName"
parse_kind_text parse.BadNumber = codes "BadNumber"
parse_kind_text parse.WideNumber = codes "WideNumber"
parse_kind_text parse.TooDeep = codes "TooDeep"
parse_kind_text parse.Unexpected = codes "Unexpected"

abbrev pub check_kind_text : CheckKind → List ℕ
check_kind_text check.Twice = codes "Twice"
check_kind_text check.TooMany = codes "TooMany"
check_kind_text check.Unknown = codes "Unknown"
check_kind_text check.WrongKind = codes "WrongKind"
check_kind_text check.WrongCount = codes "WrongCount"
check_kind_text check.NotVariable = codes "NotVariable"
check_kind_text check.BadFormat = codes "BadFormat"

abbrev pub duration_kind_text : DurKind → List ℕ
duration_kind_text durations.TooLong = codes "TooLong"
duration_kind_text durations.BadByte = codes "BadByte"
duration_kind_text durations.BadLine = codes "BadLine"
duration_kind_text durations.UnknownOp = codes "UnknownOp"
duration_kind_text durations.BadNumber = codes "BadNumber"
duration_kind_text durations.Twice = codes "Twice"

abbrev pub workers_kind_text : WorkersKind → List ℕ
workers_kind_text workers.TooLong = codes "TooLong"
workers_kind_text workers.BadByte = codes "BadByte"
workers_kind_text workers.BadLine = codes "BadLine"
workers_kind_text workers.BadName = codes "BadName"
workers_kind_text workers.BadSlots = codes "BadSlots"
workers_kind_text workers.UnknownOp = codes "UnknownOp"
workers_kind_text workers.Twice = codes "Twice"
workers_kind_text workers.TooMany = codes "TooMany"
workers_kind_text workers.Empty = codes "Empty"

abbrev pub kind_text : TextKind → List ℕ
kind_text (Idl kind) = idl_kind_text kind
kind_text (Program kind) = parse_kind_text kind
kind_text (Check kind) = check_kind_text kind
kind_text (Durations kind) = duration_kind_text kind
kind_text (Workers kind) = workers_kind_text kind
kind_text NoWorker = codes "NoWorker"

-- faults of a program that runs
abbrev pub fault_kind_text : FaultKind → List ℕ
fault_kind_text fault.Overflow = codes "Overflow"
fault_kind_text fault.ZeroDivisor = codes "ZeroDivisor"
fault_kind_text fault.StringTooLong = codes "StringTooLong"
fault_kind_text fault.TextTooLong = codes "TextTooLong"
fault_kind_text fault.FileTooLong = codes "FileTooLong"
fault_kind_text fault.BadName = codes "BadName"
fault_kind_text fault.NoFile = codes "NoFile"
fault_kind_text fault.OwnText = codes "OwnText"
fault_kind_text fault.SameOut = codes "SameOut"
fault_kind_text fault.FileOpen = codes "FileOpen"
fault_kind_text fault.HandleOpen = codes "HandleOpen"
fault_kind_text fault.HandleClosed = codes "HandleClosed"
fault_kind_text fault.WrongMode = codes "WrongMode"
fault_kind_text fault.TooManyOpen = codes "TooManyOpen"
fault_kind_text fault.TooManyTasks = codes "TooManyTasks"
fault_kind_text fault.TooManyActions = codes "TooManyActions"
fault_kind_text fault.TooManyNames = codes "TooManyNames"
fault_kind_text fault.BadByte = codes "BadByte"
fault_kind_text fault.StillOpen = codes "StillOpen"
