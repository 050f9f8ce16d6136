-- Why results aren't brought to the user's files.
use Rattle.std.specs.Prelude.{List}
use Rattle.std.specs.Bool.{⊤}
use Rattle.gs_disk.specs.Folder.{Folder}
use Rattle.gs_store.specs.Versions.{IsFirstLost}
use Rattle.gs_back.specs.Finals.{Final, kept_of}
use Rattle.gs_back.specs.declared.err.BackErr.{BackErr}
use Rattle.gs_back.specs.declared.err.BackErr.TheVariants as backs
use Rattle.gs_finish.specs.declared.halt.Halt.{Halt}
use Rattle.gs_finish.specs.declared.halt.Halt.TheVariants.{Disk, NoMemory, Lost}

abbrev pub halt_of_back : BackErr → Halt
halt_of_back (backs.Lost v kept found) = Lost v kept found
halt_of_back backs.Fault = Disk
halt_of_back backs.Memory = NoMemory

-- the version of one of these finals is lost, and the first that is is named
abbrev pub LacksFinal : Folder → List Final → Halt → Type 0
LacksFinal folder fs (Lost v kept found) = IsFirstLost folder (kept_of fs) v kept found
LacksFinal folder fs Disk = ⊤
LacksFinal folder fs NoMemory = ⊤

-- no version is lost
abbrev pub IsNotLost : Halt → Type 0
IsNotLost (Lost v kept found) = ⊥
IsNotLost Disk = ⊤
IsNotLost NoMemory = ⊤
