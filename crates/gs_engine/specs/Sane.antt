-- What holds of the values alone at a moment of a run, whatever the run is about.
use Rattle.std.specs.Prelude.{◌≡◌, ℕ, List, true, false, IsSome, is_some}
use Rattle.gs_types.specs.History.{History}
use Rattle.gs_disk.specs.Folder.{DiskState}
use Rattle.gs_entries.specs.Order.{stage_of, has_done}
use Rattle.gs_entries.specs.declared.entry.Entry.{Entry}
use Rattle.gs_entries.specs.declared.entry.Stage.TheVariants.{Running}
use Rattle.gs_store.specs.State.{StoreState, IsDiskOf}
use Rattle.gs_site.specs.Link.{Flying}
use Rattle.gs_site.specs.Recorded.{Recorded}
use Rattle.gs_site.specs.Site.{disk_of, link_of}
use Rattle.gs_site.specs.declared.site.Site.{Site}
use Rattle.gs_main.specs.Shown.{talking}
use Rattle.gs_queue.specs.Queue.{job_of}
use Rattle.gs_core.specs.Talker.{IsAwake}
use Rattle.gs_core.specs.declared.machine.Core.{Core}
use Rattle.gs_engine.specs.Joined.{Moment}

abbrev pub moment_of : {D K : Type 0} → Core → StoreState → Site D K → Moment D K
moment_of core store site = record {
  core = core;
  store = store;
  disk = disk_of site;
  link = link_of site;
}

-- the store is one of a run that goes on, the disk is the store's, the same jobs are in flight in
-- the core and on the link, none of them is of a task that is done, and the program may be asked or
-- answered
pub record Sane {D K : Type 0} (told : Type 0) (state : D → DiskState) (jobs : K → Flying)
    (at : Moment D K) : Type 0 where
  pub stage : stage_of at.store.entries ≡ Running
  pub disk : told → IsDiskOf at.store (state at.disk)
  pub together : (n : ℕ) → is_some (job_of at.core.queue n) ≡ is_some (jobs at.link n)
  pub undone : (n : ℕ) → IsSome (jobs at.link n) → has_done at.store.entries n ≡ false
  pub awake : IsAwake at.core.asked (talking at.core.main).next

-- each task that finished since the mark is done by the entries
abbrev pub IsRecorded : {K : Type 0} → (K → History → Type 0) → List Entry → K → (mark : ℕ) → Type 0
IsRecorded tells es link mark = Recorded tells link mark (λ n. has_done es n ≡ true)
