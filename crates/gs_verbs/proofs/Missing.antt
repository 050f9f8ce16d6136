-- What the report of a loaded store may miss: nothing.
use Rattle.std.proofs.Common.{◌≡◌, sym, subst, List}
use Rattle.gs_disk.specs.Folder.{Folder}
use Rattle.gs_entries.specs.declared.entry.Entry.{Entry}
use Rattle.gs_report.specs.Report as reporting
use Rattle.gs_store.specs.Versions.{AllStand, kept_in}
use Rattle.gs_store.specs.declared.err.StoreErr.{StoreErr}
use Rattle.gs_store.specs.declared.err.StoreErr.TheVariants.{BadLog, BadRecord, LostVersion, DiskFault, NoMemory}
use Rattle.gs_verbs.specs.Finding.{unloaded_as, RefusesStore}
use Rattle.gs_verbs.specs.declared.loading.Unloaded.{Unloaded}
use Rattle.gs_verbs.proofs.Stores.{none_lost, finals_stand}

-- a report of a store that is that of the folder misses no version
pub told_as : (folder : Folder) (es : List Entry) (e : StoreErr) (u : Unloaded)
    → AllStand folder (kept_in es) → u ≡ unloaded_as e → reporting.Refuses folder es e
    → RefusesStore folder u
told_as folder es e u stand is r =
    subst (λ (x : Unloaded). RefusesStore folder x) (sym is) (plain e r)
  where
    plain : (x : StoreErr) → reporting.Refuses folder es x → RefusesStore folder (unloaded_as x)
    plain (BadLog at) r = absurd r
    plain (BadRecord index) r = absurd r
    plain (LostVersion v kept found) r =
        absurd (none_lost folder (reporting.kept_of es) v kept found (finals_stand folder es stand) r)
    plain DiskFault r = tt
    plain NoMemory r = tt
