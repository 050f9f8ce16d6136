-- What is joined goes on where the disk reads the same.
use Rattle.std.proofs.Common.{◌≡◌, ℕ, ◌+◌, ◌≤◌, List, ◌++◌, length, sym, subst, arith}
use Rattle.gs_types.specs.Job.{Meaning}
use Rattle.gs_types.specs.History.{History}
use Rattle.gs_idl.specs.Interface.{KeepRules}
use Rattle.gs_disk.specs.Folder.{Folder, DiskState, Same}
use Rattle.gs_disk.specs.Moments.{EachNow, Passes, Always}
use Rattle.gs_disk.specs.Going.{always_started, always_same}
use Rattle.gs_entries.specs.declared.entry.Entry.{Entry}
use Rattle.gs_store.specs.Keeps.{Keeps}
use Rattle.gs_site.specs.Link.{Flying}
use Rattle.gs_talk.specs.Seq.{Run}
use Rattle.gs_history.specs.Setup.{Setup}
use Rattle.gs_tables.specs.Table.{mains_in}
use Rattle.gs_core.specs.Core.{Stands as CoreStands}
use Rattle.gs_core.specs.Stages.{ahead}
use Rattle.gs_core.specs.declared.machine.Core.{Core}
use Rattle.gs_life.specs.Standing.{as_in, IsSteady}
use Rattle.gs_life.specs.Stands.{IsRunning, Stands}
use Rattle.gs_life.proofs.Images.{image_runs}
use Rattle.gs_engine.specs.Joined.{Course, Moment, Joined, MainsStand, Stopped}

-- ---- disks

pub steady_same : (es : List Entry) (s t : DiskState) → t.folder ≡ s.folder → Passes Same s t
    → IsSteady es s → IsSteady es t
steady_same es s t same passes steady image left =
    let from = passes.now image left in
    subst (λ (f : Folder). Keeps (as_in f) es image) (sym same)
    (subst (Keeps (as_in s.folder) es) (sym from.2.is) (steady from.0 from.1))

pub mains_fewer : (s : Setup) (few count : ℕ) (f g : Folder) → few ≤ count → g ≡ f
    → MainsStand s count f → MainsStand s few g
mains_fewer s few count f g le same mains k n bytes at is =
    subst (λ (x : Folder). MainsStand s count x) (sym same) mains k n bytes (omega (arith, at, le)) is

module _ {D K : Type 0} {state : D → DiskState} {tells : K → History → Type 0} {jobs : K → Flying}
    {law : K → Meaning} {c : Course} where
  pub rules_of : {at : Moment D K} {k : ℕ} {h : History} → Joined state tells jobs law c at k h
      → KeepRules c.origin.given.ops
  rules_of j = subst (λ (r : Run). KeepRules r.texts.ops) c.run_is j.stands.bears.tables.rules

  pub each_stands : {at : Moment D K} {k : ℕ} {h : History} → Joined state tells jobs law c at k h
      → EachNow (Stands c.origin) (state at.disk)
  each_stands {at} j image left = image_runs c.origin (rules_of j) at.store.entries
      (state at.disk).folder image (j.steady image left) j.running

  -- a history that is as it should be is left where a call stops
  pub stopped_here : {at : Moment D K} {k : ℕ} {h : History}
      → Joined state tells jobs law c at k h → Stopped tells c at.link
  stopped_here {at} {k} {h} j =
      record {
        history = h;
        told = j.told;
        good = j.stands.bears.tables.good;
        goes_on = j.goes_on;
      }

  -- the images of a call that changed nothing on the disk
  pub same_stands : {at : Moment D K} {k : ℕ} {h : History}
      → Joined state tells jobs law c at k h → (d : D) → Passes Same (state at.disk) (state d)
      → Always (Stands c.origin) (state at.disk) (state d)
  same_stands {at} j d passes =
      always_same (Stands c.origin) (state at.disk) (state at.disk) (state d)
      (always_started (Stands c.origin) (state at.disk) (each_stands j)) passes

  -- another core stands, over a disk that reads the same
  pub joined_same : {at : Moment D K} {k m : ℕ} {h : History}
      → Joined state tells jobs law c at k h → (core : Core) (d : D)
      → CoreStands core c.setup m (h ++ c.noted)
      → length (mains_in core.tables) + ahead core.stage
      ≤ length (mains_in at.core.tables) + ahead at.core.stage
      → (state d).folder ≡ (state at.disk).folder → Passes Same (state at.disk) (state d)
      → Joined state tells jobs law c
      (record { core = core; store = at.store; disk = d; link = at.link }) m h
  joined_same {at} {k} {m} {h} j core d stands few same passes = record {
    stands = stands;
    told = j.told;
    goes_on = j.goes_on;
    law_is = j.law_is;
    own = j.own;
    steady = steady_same at.store.entries (state at.disk) (state d) same passes j.steady;
    running = subst (λ (f : Folder). IsRunning c.origin f at.store.entries) (sym same) j.running;
    recorded = j.recorded;
    noted = j.noted;
    kept = mains_fewer c.setup (length (mains_in core.tables) + ahead core.stage)
        (length (mains_in at.core.tables) + ahead at.core.stage) (state at.disk).folder
        (state d).folder few same j.kept;
  }
