-- The end of a run.
use Rattle.std.specs.Prelude.{ℕ, List, ◌++◌}
use Rattle.std.specs.Bool.{⊤}
use Rattle.gs_types.specs.Job.{Meaning}
use Rattle.gs_types.specs.History.{History}
use Rattle.gs_disk.specs.Folder.{Folder, DiskState}
use Rattle.gs_store.specs.Versions.{Kept, IsFirstLost}
use Rattle.gs_site.specs.Link.{Flying}
use Rattle.gs_core.specs.Core.{IsVerdict}
use Rattle.gs_core.specs.declared.verdict.Verdict.TheVariants as verdict
use Rattle.gs_finish.specs.declared.halt.Halt.{Halt}
use Rattle.gs_finish.specs.declared.halt.Halt.TheVariants.{Disk, NoMemory, Lost}
use Rattle.gs_life.specs.Origin.{Origin}
use Rattle.gs_engine.specs.Joined.{Course, Moment, Joined}

-- the file of one of these versions is lost, and the first that is is named
abbrev pub LacksKept : Folder → List Kept → Halt → Type 0
LacksKept folder ks (Lost v kept found) = IsFirstLost folder ks v kept found
LacksKept folder ks Disk = ⊤
LacksKept folder ks NoMemory = ⊤

-- where all is joined and the program has ended with each task done, this holds of the run's origin
abbrev pub WhereEnded : {D K : Type 0} → (D → DiskState) → (K → History → Type 0) → (K → Flying)
    → (K → Meaning) → Moment D K → (Origin → Type 0) → Type 0
WhereEnded state tells jobs law at P = (c : Course) (k : ℕ) (h : History)
    → Joined state tells jobs law c at k h → IsVerdict c.setup k (h ++ c.noted) verdict.Ended
    → P c.origin
