-- A job that starts, or that the link refuses.
use Rattle.std.proofs.Common.{◌≡◌, ℕ, ◌+◌, ◌≤◌, Bool, true, false, List, [], ◌∷◌, ◌++◌, length, Option, Some, None, IsSome, is_some, refl, sym, ap, subst, ◌∙◌, arith, if◌then◌else◌, inl, inr, ⊎_elim}
use Rattle.std.specs.Prelude.{◌==◌, ◌⊎◌}
use Rattle.std.proofs.lemmas.Bool.Decides.{eqb_tells}
use Rattle.gs_types.specs.Job.{Meaning}
use Rattle.gs_types.specs.History.{LinkEvent, History, started, refused, outs_in}
use Rattle.gs_types.specs.declared.value.Value.{Value}
use Rattle.gs_types.specs.declared.job.Job.{Job}
use Rattle.gs_disk.specs.Folder.{DiskState, Same}
use Rattle.gs_disk.specs.Moments.{Passes}
use Rattle.gs_disk.specs.Going.{same_started}
use Rattle.gs_store.specs.State.{StoreState}
use Rattle.gs_entries.specs.Order.{has_done}
use Rattle.gs_entries.specs.declared.entry.Entry.{Entry}
use Rattle.gs_life.specs.Standing.{IsSteady}
use Rattle.gs_life.specs.Stands.{IsRunning}
use Rattle.gs_site.specs.Link.{Flying, SetsJob, SameJobs}
use Rattle.gs_site.specs.Recorded.{HasFinish, TellsOne, TellsBefore, recorded_wider, recorded_more}
use Rattle.gs_history.specs.Setup.{Setup}
use Rattle.gs_history.specs.Good.{IsStart, IsRefused, GoesOn}
use Rattle.gs_tables.specs.Table.{mains_in}
use Rattle.gs_tables.specs.declared.tables.Tables.{Tables}
use Rattle.gs_core.specs.Core.{Stands as CoreStands}
use Rattle.gs_core.specs.Stages.{ahead}
use Rattle.gs_core.specs.declared.machine.Core.{Core}
use Rattle.gs_core.specs.declared.stage.Stage.{Stage}
use Rattle.gs_core.specs.declared.stage.Stage.TheVariants as stage
use Rattle.gs_finish.specs.declared.halt.Halt.TheVariants.{NoMemory}
use Rattle.gs_engine.specs.Joined.{Course, Joined, IsOwnJob, Before, Goes}
use Rattle.gs_engine.specs.Sane.{IsRecorded}
use Rattle.gs_engine.specs.Starting.{HasStart}
use Rattle.gs_engine.specs.Steps.{whatever}
use Rattle.gs_engine.proofs.Standing.{same_stands, mains_fewer}
use Rattle.gs_engine.proofs.Settling.{done, halt}

-- ---- the same jobs

some_is : {X : Type 0} (x y : X) → Some x ≡ Some y → x ≡ y
some_is x y e = cc

not_some : {X : Type 0} (x : X) → None ≡ Some x → ⊥
not_some x e = absurd cc

-- what is set at one number is set there, and the others are as before
pub started_together : {J W : Type 0} (n : ℕ) (w : W) (job : J) (core core_new : ℕ → Option W)
    (jobs jobs_new : ℕ → Option J)
    → ((m : ℕ) → core_new m ≡ (if n == m then Some w else core m))
    → ((m : ℕ) → jobs_new m ≡ (if n == m then Some job else jobs m))
    → ((m : ℕ) → is_some (core m) ≡ is_some (jobs m)) → (m : ℕ)
    → is_some (core_new m) ≡ is_some (jobs_new m)
started_together n w job core core_new jobs jobs_new sets flies together m =
    ap is_some (sets m) ∙ of_test (n == m) ∙ sym (ap is_some (flies m))
  where
    of_test : (b : Bool) → is_some (if b then Some w else core m)
        ≡ is_some (if b then Some job else jobs m)
    of_test true = refl
    of_test false = together m

pub refused_together : {J W : Type 0} (n : ℕ) (w : W) (core core_mid core_new : ℕ → Option W)
    (jobs jobs_new : ℕ → Option J) → core n ≡ None
    → ((m : ℕ) → core_mid m ≡ (if n == m then Some w else core m))
    → ((m : ℕ) → core_new m ≡ (if n == m then None else core_mid m))
    → ((m : ℕ) → jobs_new m ≡ jobs m)
    → ((m : ℕ) → is_some (core m) ≡ is_some (jobs m)) → (m : ℕ)
    → is_some (core_new m) ≡ is_some (jobs_new m)
refused_together n w core core_mid core_new jobs jobs_new idle sets unsets same together m =
    ap is_some (back m) ∙ together m ∙ sym (ap is_some (same m))
  where
    back : (m : ℕ) → core_new m ≡ core m
    back m = elim (eqb_tells n m) [
      | inl at ↦ unsets m ∙ ap (λ (b : Bool). if b then None else core_mid m) at.0 ∙ sym idle
          ∙ ap core at.1
      | inr other ↦ unsets m ∙ ap (λ (b : Bool). if b then None else core_mid m) other.0 ∙ sets m
          ∙ ap (λ (b : Bool). if b then Some w else core m) other.0
    ]

-- no job in flight is of a task that is done
pub started_undone : {J : Type 0} (n : ℕ) (job : J) (jobs jobs_new : ℕ → Option J)
    (done : ℕ → Bool) → ((m : ℕ) → jobs_new m ≡ (if n == m then Some job else jobs m))
    → done n ≡ false → ((m : ℕ) → IsSome (jobs m) → done m ≡ false) → (m : ℕ)
    → IsSome (jobs_new m) → done m ≡ false
started_undone n job jobs jobs_new done flies undone old m is = elim (eqb_tells n m) [
  | inl at ↦ sym (ap done at.1) ∙ undone
  | inr other ↦ old m (sym (ap is_some (flies m
      ∙ ap (λ (b : Bool). if b then Some job else jobs m) other.0)) ∙ is)
]

-- ---- what goes on

mains_settled : (t u : Tables) (g s : Stage) → u ≡ t → s ≡ stage.Settled
    → length (mains_in u) + ahead s ≤ length (mains_in t) + ahead g
mains_settled t u g s same settled =
    let a = ap (λ (x : Tables). length (mains_in x)) same in
    let b = ap ahead settled in omega (arith, a, b)

same_disk : {D : Type 0} (state : D → DiskState) (d e : D) → e ≡ d
    → Passes Same (state d) (state e)
same_disk {D = D} state d e same =
    subst (λ (x : D). Passes Same (state d) (state x)) (sym same) (same_started (state d))

own_started : {K : Type 0} (jobs : K → Flying) (s : Setup) (job : Job) (link link_new : K) (h : History)
    → SetsJob job.n (Some job) (jobs link) (jobs link_new) → IsStart s h job.n job.worker job
    → ((m : ℕ) (x : Job) → jobs link m ≡ Some x → IsOwnJob s m x) → (m : ℕ) (x : Job)
    → jobs link_new m ≡ Some x → IsOwnJob s m x
own_started jobs s job link link_new h flies start old m x is = elim (eqb_tells job.n m) [
  | inl at ↦
      let own : IsOwnJob s job.n job = record {
        worker = job.worker;
        task = start.task;
        called = record {
          moment = start.due.ready.opened.moment;
          is = start.due.ready.opened.called;
        };
        is = start.job_of;
      } in
      let same : job ≡ x =
      some_is job x (sym (flies.each m
      ∙ ap (λ (b : Bool). if b then Some job else jobs link m) at.0) ∙ is) in
      subst (λ (i : ℕ). IsOwnJob s i x) at.1 (subst (IsOwnJob s job.n) same own)
  | inr other ↦ old m x (sym (flies.each m
      ∙ ap (λ (b : Bool). if b then Some job else jobs link m) other.0) ∙ is)
]

module _ {D K : Type 0} {state : D → DiskState} {tells : K → History → Type 0} {jobs : K → Flying}
    {law : K → Meaning} where
  -- what holds of the tables and the disk goes on
  module _ (core core_new : Core) (store : StoreState) (d d_new : D) (link link_new : K)
      (same : d_new ≡ d) (tables : core_new.tables ≡ core.tables)
      (settled : core_new.stage ≡ stage.Settled) (law_same : law link_new ≡ law link) where
    joined_event : {c : Course} {k : ℕ} {h : History} (e : LinkEvent)
        → Joined state tells jobs law c
        (record { core = core; store = store; disk = d; link = link }) k h
        → CoreStands core_new c.setup k (e ∷ h ++ c.noted)
        → tells link_new (e ∷ h ++ c.past) → GoesOn (e ∷ h ++ c.noted)
        → ((m : ℕ) (x : Job) → jobs link_new m ≡ Some x → IsOwnJob c.setup m x)
        → outs_in (e ∷ h ++ c.noted) ≡ outs_in (h ++ c.noted)
        → Joined state tells jobs law c
        (record { core = core_new; store = store; disk = d_new; link = link_new }) k (e ∷ h)
    joined_event {c} {k} {h} e j stands told goes_on own outs = record {
      stands = stands;
      told = told;
      goes_on = goes_on;
      law_is = law_same ∙ j.law_is;
      own = own;
      steady = subst (λ (e : D). IsSteady store.entries (state e)) (sym same) j.steady;
      running = subst (λ (e : D). IsRunning c.origin (state e).folder store.entries) (sym same)
          j.running;
      recorded = λ n is. j.recorded n
          (subst (λ (f : ℕ → Option (List Value)). IsSome (f n)) outs is);
      noted = λ n is. subst (λ (f : ℕ → Option (List Value)). IsSome (f n)) (sym outs)
          (j.noted n is);
      kept = mains_fewer c.setup (length (mains_in core_new.tables) + ahead core_new.stage)
          (length (mains_in core.tables) + ahead core.stage) (state d).folder (state d_new).folder
          (mains_settled core.tables core_new.tables core.stage core_new.stage tables settled)
          (ap (λ (e : D). (state e).folder) same) j.kept;
    }

    -- the link took the job
    pub goes_started : (job : Job)
        → ((s : Setup) (k : ℕ) (h : History) (j : Job) → CoreStands core s k h
        → IsStart s h job.n job.worker j
        → CoreStands core_new s k (started job.n job.worker j ∷ h))
        → SetsJob job.n (Some job) (jobs link) (jobs link_new)
        → ((past : History) → tells link past
        → tells link_new (started job.n job.worker job ∷ past))
        → Goes state tells jobs law (record { core = core; store = store; disk = d; link = link })
        (record { core = core_new; store = store; disk = d_new; link = link_new }) (HasStart job)
        whatever done
    goes_started job stands flies told c k h j p = (
      same_stands j d_new (same_disk state d d_new same),
      record {
        questions = k;
        history = started job.n job.worker job ∷ h;
        joined = joined_event (started job.n job.worker job) j
            (stands c.setup k (h ++ c.noted) job j.stands p) (told (h ++ c.past) j.told) tt
            (own_started jobs c.setup job link link_new (h ++ c.noted) flies p j.own) refl;
        holds = tt;
      },
    )

    -- the link refused it
    pub goes_refused : (job : Job) (core_mid : Core) → core_mid.stage ≡ stage.Settled
        → ((s : Setup) (k : ℕ) (h : History) (j : Job) → CoreStands core s k h
        → IsStart s h job.n job.worker j
        → CoreStands core_mid s k (started job.n job.worker j ∷ h))
        → ((s : Setup) (k : ℕ) (h : History) (w : ℕ) (j : Job) → core_mid.stage ≡ stage.Settled
        → CoreStands core_mid s k (started job.n w j ∷ h) → IsRefused s h job.n w
        → CoreStands core_new s k (refused job.n w ∷ h))
        → SameJobs (jobs link) (jobs link_new)
        → ((past : History) → tells link past → tells link_new (refused job.n job.worker ∷ past))
        → Goes state tells jobs law (record { core = core; store = store; disk = d; link = link })
        (record { core = core_new; store = store; disk = d_new; link = link_new }) (HasStart job)
        whatever done
    goes_refused job core_mid mid starts refuses flies told c k h j p =
        let s = c.setup in
        let refusal : IsRefused s (h ++ c.noted) job.n job.worker =
        record { task = p.task; due = p.due; goes_on = p.goes_on } in (
          same_stands j d_new (same_disk state d d_new same),
          record {
            questions = k;
            history = refused job.n job.worker ∷ h;
            joined = joined_event (refused job.n job.worker) j
                (refuses s k (h ++ c.noted) job.worker job mid
                (starts s k (h ++ c.noted) job j.stands p) refusal)
                (told (h ++ c.past) j.told) tt
                (λ m x is. j.own m x (sym (flies.each m) ∙ is)) refl;
            holds = tt;
          },
        )

  -- it was stopped where only the link is another, which tells the same
  pub goes_unstarted : (core : Core) (store : StoreState) (d d_new : D) (link link_new : K)
      → d_new ≡ d → ((past : History) → tells link past → tells link_new past) → (P : Before)
      (Q : Unit {0} → Before)
      → Goes state tells jobs law (record { core = core; store = store; disk = d; link = link })
      (record { core = core; store = store; disk = d_new; link = link_new }) P Q (halt NoMemory)
  goes_unstarted core store d d_new link link_new same told P Q c k h j p = (
    same_stands j d_new (same_disk state d d_new same),
    (
      record {
        history = h;
        told = told (h ++ c.past) j.told;
        good = j.stands.bears.tables.good;
        goes_on = j.goes_on;
      },
      tt,
    ),
  )

-- what finished since the mark is recorded, after an event that isn't the end of a task
pub recorded_by : {K : Type 0} (tells : K → History → Type 0) (es : List Entry) (old new : K)
    (mark mark_new : ℕ) (e : LinkEvent) → mark_new ≡ mark → TellsOne tells new
    → TellsBefore tells old new
    → ((past : History) → tells old past → tells new (e ∷ past))
    → ((n : ℕ) → HasFinish n (e ∷ []) → ⊥) → IsRecorded tells es old mark
    → IsRecorded tells es new mark_new
recorded_by tells es old new mark mark_new e same one before grows never was =
    subst (λ (m : ℕ). IsRecorded tells es new m) (sym same)
    (recorded_wider tells new mark (λ n. HasFinish n (e ∷ []) ⊎ (has_done es n ≡ true))
    (λ n. has_done es n ≡ true) (λ n. ⊎_elim (λ has. absurd (never n has)) (λ is. is))
    (recorded_more tells old new mark (λ n. has_done es n ≡ true) e one before grows was))
