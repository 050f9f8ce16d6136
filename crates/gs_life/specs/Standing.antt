-- A disk of a run that goes on: each image has the entries, and reads as the disk where it matters.
use Rattle.std.specs.Prelude.{ℕ, List, []}
use Rattle.gs_disk.specs.Folder.{Folder, DiskState}
use Rattle.gs_disk.specs.Moments.{EachNow}
use Rattle.gs_entries.specs.declared.entry.Entry.{Entry}
use Rattle.gs_store.specs.Names.{version_name}
use Rattle.gs_store.specs.Keeps.{Base, Keeps}

-- the users' files and the version files as a folder has them
abbrev pub as_in : Folder → Base
as_in folder = record { free = []; users = folder; outs = λ v. folder (version_name v) }

-- each image has these entries, and the users' files and the named version files as they read
abbrev pub IsSteady : List Entry → DiskState → Type 0
IsSteady es s = EachNow (Keeps (as_in s.folder) es) s

-- the same, but for users' files of these names
abbrev pub as_in_but : List (List ℕ) → Folder → Base
as_in_but free folder = record { free = free; users = folder; outs = λ v. folder (version_name v) }
