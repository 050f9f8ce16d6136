-- A job in flight ends, and the run goes on.
use Rattle.std.proofs.Common.{◌≡◌, ◌≢◌, ◌⊎◌, ℕ, ◌+◌, ◌≤◌, Bool, true, List, [], ◌∷◌, ◌++◌, length, Option, Some, None, IsSome, is_some, Result, Ok, refl, sym, ap, subst, ◌∙◌, arith, if◌then◌else◌, inl, inr}
use Rattle.std.specs.Prelude.{All}
use Rattle.std.proofs.lemmas.Bool.Decides.{eqb_tells}
use Rattle.gs_types.specs.Job.{Meaning, Gives}
use Rattle.gs_types.specs.History.{History, finished, failed, outs_in}
use Rattle.gs_types.specs.declared.job.Job.{Job}
use Rattle.gs_types.specs.declared.memory.NoMemory.{NoMemory}
use Rattle.gs_types.specs.declared.note.OutNote.{OutNote}
use Rattle.gs_types.specs.declared.value.Value.{Value}
use Rattle.gs_disk.specs.Folder.{Folder, DiskState, Same}
use Rattle.gs_disk.specs.Moments.{Passes}
use Rattle.gs_disk.specs.Going.{same_started}
use Rattle.gs_entries.specs.Order.{stage_of, has_done}
use Rattle.gs_entries.specs.declared.entry.Entry.{Entry}
use Rattle.gs_entries.specs.declared.entry.Stage.TheVariants as stages
use Rattle.gs_store.specs.State.{StoreState, IsDiskOf}
use Rattle.gs_site.specs.Link.{Flying, SetsJob, HasEnded, TellsEnd, EndsByLaw}
use Rattle.gs_site.specs.declared.link.Event.{Event}
use Rattle.gs_site.specs.declared.link.Event.TheVariants.{Finished, Failed}
use Rattle.gs_site.specs.Recorded.{HasFinish, TellsOne, TellsBefore, recorded_wider, recorded_more}
use Rattle.gs_queue.specs.Queue.{job_of}
use Rattle.gs_talk.specs.Seq.{Run, Task}
use Rattle.gs_history.specs.Setup.{Setup}
use Rattle.gs_history.specs.Good.{IsQuiet, IsFinish, IsFailure}
use Rattle.gs_tables.specs.Outs.{outs_noted}
use Rattle.gs_tables.specs.Table.{mains_in}
use Rattle.gs_tables.specs.declared.tables.Tables.{Tables}
use Rattle.gs_keep.specs.Given.{IsWithin, fit_within}
use Rattle.gs_main.specs.Shown.{talking}
use Rattle.gs_history.specs.Notes.{NoMisfit}
use Rattle.gs_core.specs.Core.{IsVerdict, Stands as CoreStands, SameProgram, SetsJob as SetsCoreJob}
use Rattle.gs_core.specs.Stages.{ahead, reopened}
use Rattle.gs_core.specs.Talker.{IsAwake}
use Rattle.gs_core.specs.declared.machine.Core.{Core}
use Rattle.gs_core.specs.declared.stage.Stage.TheVariants as stage
use Rattle.gs_core.specs.declared.verdict.Verdict.{Verdict}
use Rattle.gs_core.specs.declared.verdict.Verdict.TheVariants as verdict
use Rattle.gs_finish.specs.Finishing.{IsNotLost}
use Rattle.gs_finish.specs.declared.halt.Halt.{Halt}
use Rattle.gs_engine.specs.Joined.{Course, Joined, IsOwnJob, MainsStand, Goes}
use Rattle.gs_engine.specs.Sane.{Sane, IsRecorded}
use Rattle.gs_engine.specs.Steps.{whatever}
use Rattle.gs_engine.specs.Waiting.{IsStillNow, HasGiven, MarksDone, SameMains, KeepsGiven, HasEndedAt, HasFinished}
use Rattle.gs_engine.proofs.Settling.{done, halt}
use Rattle.gs_engine.proofs.Standing.{same_stands}
use Rattle.gs_engine.proofs.Waiting.{job_gave, given_notes, no_notes}

-- ---- before the wait

-- any verdict but a misfit says that there is none
pub fits_by : (s : Setup) (k : ℕ) (h : History) (v : Verdict)
    → ((index : ℕ) → v ≡ verdict.Misfit index → ⊥) → IsVerdict s k h v → NoMisfit s k
fits_by s k h verdict.More other is = is.0
fits_by s k h verdict.Ended other is = is.0
fits_by s k h verdict.FuelOut other is = is.0
fits_by s k h (verdict.Fault line kind) other is = is.0
fits_by s k h (verdict.TaskLost n) other is = is.1
fits_by s k h (verdict.WorkersLost n) other is = is.1
fits_by s k h (verdict.Misfit index) other is = absurd (other index refl)

-- ---- what is in flight

none_some : {X : Type 0} (x : X) → None ≡ Some x → ⊥
none_some x e = absurd cc

none_is : {X : Type 0} (o : Option X) → o ≡ None → IsSome o → ⊥
none_is o is there = absurd cc

own_ended : {K : Type 0} (jobs : K → Flying) (s : Setup) (n : ℕ) (link link_new : K)
    → SetsJob n None (jobs link) (jobs link_new)
    → ((m : ℕ) (x : Job) → jobs link m ≡ Some x → IsOwnJob s m x) → (m : ℕ) (x : Job)
    → jobs link_new m ≡ Some x → IsOwnJob s m x
own_ended jobs s n link link_new flies old m x is = elim (eqb_tells n m) [
  | inl at ↦ absurd (none_some x (sym (flies.each m
      ∙ ap (λ (b : Bool). if b then None else jobs link m) at.0) ∙ is))
  | inr other ↦ old m x (sym (flies.each m
      ∙ ap (λ (b : Bool). if b then None else jobs link m) other.0) ∙ is)
]

-- ---- what is done

-- what finished, the entries say is done
outs_recorded : (n : ℕ) (outs : List Value) (h : History) (es es_new : List Entry)
    → MarksDone n es es_new → ((m : ℕ) → IsSome (outs_in h m) → has_done es m ≡ true) → (m : ℕ)
    → IsSome (outs_in (finished n outs ∷ h) m) → has_done es_new m ≡ true
outs_recorded n outs h es es_new marks old m is = elim (eqb_tells n m) [
  | inl at ↦ subst (λ (i : ℕ). has_done es_new i ≡ true) at.1 marks.here
  | inr other ↦ marks.others m other.1 ∙ old m
      (sym (ap (λ (b : Bool). is_some (if b then Some outs else outs_in h m)) other.0) ∙ is)
]

-- what the entries say is done, finished
outs_known : (n : ℕ) (outs : List Value) (h : History) (es es_new : List Entry)
    → MarksDone n es es_new → ((m : ℕ) → has_done es m ≡ true → IsSome (outs_in h m)) → (m : ℕ)
    → has_done es_new m ≡ true → IsSome (outs_in (finished n outs ∷ h) m)
outs_known n outs h es es_new marks old m is = elim (eqb_tells n m) [
  | inl at ↦ ap (λ (b : Bool). is_some (if b then Some outs else outs_in h m)) at.0
  | inr other ↦ ap (λ (b : Bool). is_some (if b then Some outs else outs_in h m)) other.0
      ∙ old m (sym (marks.others m other.1) ∙ is)
]

-- ---- the contents that the program closed

mains_ended : (core core_new : Core) → mains_in core_new.tables ≡ mains_in core.tables
    → core_new.stage ≡ reopened core.stage → core.stage ≡ stage.Settled
    → length (mains_in core_new.tables) + ahead core_new.stage
    ≤ length (mains_in core.tables) + ahead core.stage
mains_ended core core_new mains set settled =
    let a = ap length mains in
    let b : ahead core_new.stage ≡ 0 = ap ahead (set ∙ ap reopened settled) in omega (arith, a, b)

mains_same : (core core_new : Core) → core_new.tables ≡ core.tables
    → core_new.stage ≡ core.stage
    → length (mains_in core_new.tables) + ahead core_new.stage
    ≤ length (mains_in core.tables) + ahead core.stage
mains_same core core_new tables set =
    let a = ap (λ (t : Tables). length (mains_in t)) tables in
    let b = ap ahead set in omega (arith, a, b)

mains_kept : (s : Setup) (few count : ℕ) (f g : Folder) → few ≤ count → SameMains f g
    → MainsStand s count f → MainsStand s few g
mains_kept s few count f g le same mains k n bytes at is =
    same n ∙ mains k n bytes (omega (arith, at, le)) is

-- ---- what a wait told

abbrev pub ended : Event → Result Event NoMemory
ended e = Ok e

-- what finished is within the limits
pub finish_within : {K : Type 0} (jobs : K → Flying) (faults : K → ℕ) (old new : K) (e : Event)
    (n : ℕ) (outs : List Value) → e ≡ Finished n outs → HasEnded jobs faults old new (ended e)
    → All IsWithin outs
finish_within jobs faults old new e n outs is h =
    let g = subst (λ (x : Event). HasEnded jobs faults old new (ended x)) is h in
    fit_within g.ended.0.args outs g.ended.2

-- the job of a task finished, with what the law says
pub finish_told : {K L : Type 0} (tells : K → History → Type 0) (jobs : K → Flying)
    (faults : K → ℕ) (meaning : L → Meaning) (law : K → L) (old new : K) (e : Event) (n : ℕ)
    (outs : List Value) → e ≡ Finished n outs → HasEnded jobs faults old new (ended e)
    → TellsEnd tells old new (ended e) → EndsByLaw tells jobs meaning law old (ended e)
    → law new ≡ law old → HasFinished tells jobs (λ l. meaning (law l)) n outs old new
finish_told tells jobs faults meaning law old new e n outs is h told by same =
    let g = subst (λ (x : Event). HasEnded jobs faults old new (ended x)) is h in
    let t = subst (λ (x : Event). TellsEnd tells old new (ended x)) is told in
    let b = subst (λ (x : Event). EndsByLaw tells jobs meaning law old (ended x)) is by in
    record {
      job = g.ended.0;
      flew = g.ended.1;
      flies = g.flies;
      law_same = ap meaning same;
      told = t;
      by_law = λ past is_told. b past is_told g.ended.0 g.ended.1;
    }

-- a job that was in flight failed
pub record Fails {K : Type 0} (jobs : K → Flying) (n : ℕ) (old new : K) : Type 0 where
  pub job : Job
  pub flew : jobs old n ≡ Some job
  pub flies : SetsJob n None (jobs old) (jobs new)

pub fail_flew : {K : Type 0} (jobs : K → Flying) (faults : K → ℕ) (old new : K) (e : Event)
    (n : ℕ) → e ≡ Failed n → HasEnded jobs faults old new (ended e) → Fails jobs n old new
fail_flew jobs faults old new e n is h =
    let g = subst (λ (x : Event). HasEnded jobs faults old new (ended x)) is h in
    record { job = g.ended.0; flew = g.ended.1; flies = g.flies }

pub fail_told : {K : Type 0} (tells : K → History → Type 0) (old new : K) (e : Event) (n : ℕ)
    → e ≡ Failed n → TellsEnd tells old new (ended e) → (past : History) → tells old past
    → tells new (failed n ∷ past)
fail_told tells old new e n is told =
    subst (λ (x : Event). TellsEnd tells old new (ended x)) is told

-- ---- the values

-- the core is told too
pub sane_ended : {D K told : Type 0} {state : D → DiskState} {jobs : K → Flying}
    (core core_new : Core) (store store_new : StoreState) (d d_new : D) (link : K) (n : ℕ)
    → HasEndedAt n told state jobs
    (record { core = core; store = store; disk = d; link = link })
    → SameProgram core core_new → SetsCoreJob n None core core_new
    → stage_of store_new.entries ≡ stages.Running → (told → IsDiskOf store_new (state d_new))
    → ((m : ℕ) → n ≢ m → has_done store_new.entries m ≡ has_done store.entries m)
    → Sane told state jobs
    (record { core = core_new; store = store_new; disk = d_new; link = link })
sane_ended {jobs = jobs} core core_new store store_new d d_new link n at_end program sets running
    disk others =
    record {
      stage = running;
      disk = disk;
      together = λ m. elim (eqb_tells n m) [
        | inl at ↦ ap is_some (sets m
            ∙ ap (λ (b : Bool). if b then None else job_of core.queue m) at.0)
            ∙ sym (ap is_some (ap (jobs link) (sym at.1) ∙ at_end.ended))
        | inr other ↦ ap is_some (sets m
            ∙ ap (λ (b : Bool). if b then None else job_of core.queue m) other.0)
            ∙ at_end.together m other.1
      ];
      undone = λ m is. elim (eqb_tells n m) [
        | inl at ↦ absurd (none_is (jobs link n) at_end.ended
            (subst (λ (i : ℕ). IsSome (jobs link i)) (sym at.1) is))
        | inr other ↦ others m other.1 ∙ at_end.undone m is
      ];
      awake = subst (λ x. IsAwake x (talking core_new.main).next) (sym program.asked)
          (subst (λ x. IsAwake core.asked (talking x).next) (sym program.main) at_end.awake);
    }

-- ---- what is recorded

pub recorded_finished : {K : Type 0} (tells : K → History → Type 0) (old new : K) (mark n : ℕ)
    (outs : List Value) (es es_new : List Entry)
    → TellsOne tells new → TellsBefore tells old new
    → ((past : History) → tells old past → tells new (finished n outs ∷ past))
    → MarksDone n es es_new → IsRecorded tells es old mark → IsRecorded tells es_new new mark
recorded_finished tells old new mark n outs es es_new one before told marks recorded =
    recorded_wider tells new mark
    (λ m. HasFinish m (finished n outs ∷ []) ⊎ (has_done es m ≡ true))
    (λ m. has_done es_new m ≡ true) wider
    (recorded_more tells old new mark (λ m. has_done es m ≡ true) (finished n outs) one before told
    recorded)
  where
    of_one : (m : ℕ) → HasFinish m (finished n outs ∷ []) → has_done es_new m ≡ true
    of_one m (inl same) = subst (λ (i : ℕ). has_done es_new i ≡ true) same marks.here
    of_one m (inr none) = absurd none

    of_old : (m : ℕ) → has_done es m ≡ true → has_done es_new m ≡ true
    of_old m is = elim (eqb_tells n m) [
      | inl at ↦ subst (λ (i : ℕ). has_done es_new i ≡ true) at.1 marks.here
      | inr other ↦ marks.others m other.1 ∙ is
    ]

    wider : (m : ℕ) → HasFinish m (finished n outs ∷ []) ⊎ (has_done es m ≡ true)
        → has_done es_new m ≡ true
    wider m (inl one) = of_one m one
    wider m (inr old) = of_old m old

module _ {D K : Type 0} {state : D → DiskState} {tells : K → History → Type 0} {jobs : K → Flying}
    {law : K → Meaning} where
  -- ---- the run

  -- the end is as it should be
  finish_is : {c : Course} {k : ℕ} {h : History} (core : Core) (store : StoreState) (d : D)
      (link link_new : K) (n : ℕ) (outs : List Value)
      → Joined state tells jobs law c
      (record { core = core; store = store; disk = d; link = link }) k h
      → IsSome (job_of core.queue n) → HasFinished tells jobs law n outs link link_new
      → IsQuiet c.setup (h ++ c.noted) → IsFinish c.setup (h ++ c.noted) n outs
  finish_is {c} {k} {h} core store d link link_new n outs j flew f quiet =
      let own = j.own n f.job f.flew in
      record {
        task = own.task;
        called = own.called;
        gave = job_gave c.setup n own.worker own.task f.job c.origin.law outs own.called own.is
            (ap (λ (r : Run). r.law) c.run_is)
            (subst (λ (l : Meaning). Gives l f.job.op f.job.args outs) j.law_is
            (f.by_law (h ++ c.past) j.told));
        flies = sym (ap is_some (j.stands.bears.works.jobs n)) ∙ flew;
        quiet = quiet;
      }

  given_by : {c : Course} {k : ℕ} {h : History} (core : Core) (store : StoreState) (d : D)
      (link : K) (n : ℕ) (outs : List Value)
      → Joined state tells jobs law c
      (record { core = core; store = store; disk = d; link = link }) k h
      → (fits : IsFinish c.setup (h ++ c.noted) n outs) → HasGiven core c.setup n fits.task outs
  given_by {c} {k} {h} core store d link n outs j fits = record {
    questions = k;
    history = h ++ c.noted;
    stands = j.stands;
    called = fits.called;
    gave = fits.gave;
  }

  -- what the task gave was kept, and the core was told
  pub finished_goes : (core core_new : Core) (store store_new : StoreState) (d d_new : D)
      (link link_new : K) (n : ℕ) (outs : List Value) (notes : List OutNote)
      → core.stage ≡ stage.Settled → IsSome (job_of core.queue n)
      → mains_in core_new.tables ≡ mains_in core.tables → core_new.stage ≡ reopened core.stage
      → ((s : Setup) (k : ℕ) (h : History) (values : List Value) → core.stage ≡ stage.Settled
      → CoreStands core s k h → (fits : IsFinish s h n values)
      → notes ≡ outs_noted 1 fits.task.params values
      → CoreStands core_new s k (finished n values ∷ h))
      → MarksDone n store.entries store_new.entries
      → ((s : Setup) (t : Task) → HasGiven core s n t outs → notes ≡ outs_noted 1 t.params outs)
      → SameMains (state d).folder (state d_new).folder
      → KeepsGiven core store.entries store_new.entries n outs (state d) (state d_new)
      (given_notes notes)
      → HasFinished tells jobs law n outs link link_new
      → Goes state tells jobs law (record { core = core; store = store; disk = d; link = link })
      (record { core = core_new; store = store_new; disk = d_new; link = link_new }) IsStillNow
      whatever done
  finished_goes core core_new store store_new d d_new link link_new n outs notes settled flew mains
      set stands marks notes_are same keeps ended c k h j quiet =
      let fits = finish_is core store d link link_new n outs j flew ended quiet in
      let given = given_by core store d link n outs j fits in
      let stood = keeps c.origin c.setup fits.task c.run_is given j.steady j.running in (
        stood.always,
        record {
          questions = k;
          history = finished n outs ∷ h;
          joined = record {
            stands = stands c.setup k (h ++ c.noted) outs settled j.stands fits
                (notes_are c.setup fits.task given);
            told = ended.told (h ++ c.past) j.told;
            goes_on = tt;
            law_is = ended.law_same ∙ j.law_is;
            own = own_ended jobs c.setup n link link_new ended.flies j.own;
            steady = stood.steady;
            running = stood.holds;
            recorded = outs_recorded n outs (h ++ c.noted) store.entries store_new.entries marks
                j.recorded;
            noted = outs_known n outs (h ++ c.noted) store.entries store_new.entries marks j.noted;
            kept = mains_kept c.setup (length (mains_in core_new.tables) + ahead core_new.stage)
                (length (mains_in core.tables) + ahead core.stage) (state d).folder
                (state d_new).folder (mains_ended core core_new mains set settled) same j.kept;
          };
          holds = tt;
        },
      )

  -- what the task gave was not kept
  pub finished_halts : (core : Core) (store store_new : StoreState) (d d_new : D)
      (link link_new : K) (n : ℕ) (outs : List Value) (e : Halt) → IsNotLost e
      → IsSome (job_of core.queue n)
      → KeepsGiven core store.entries store_new.entries n outs (state d) (state d_new) (no_notes e)
      → HasFinished tells jobs law n outs link link_new
      → Goes state tells jobs law (record { core = core; store = store; disk = d; link = link })
      (record { core = core; store = store_new; disk = d_new; link = link_new }) IsStillNow
      whatever (halt e)
  finished_halts core store store_new d d_new link link_new n outs e found flew keeps ended c k h j
      quiet =
      let fits = finish_is core store d link link_new n outs j flew ended quiet in
      let given = given_by core store d link n outs j fits in
      let stood = keeps c.origin c.setup fits.task c.run_is given j.steady j.running in (
        stood.always,
        (
          record {
            history = finished n outs ∷ h;
            told = ended.told (h ++ c.past) j.told;
            good = (j.stands.bears.tables.good, fits);
            goes_on = tt;
          },
          found,
        ),
      )

  -- the task failed, and the core was told
  pub failed_goes : (core core_new : Core) (store : StoreState) (d d_new : D) (link link_new : K)
      (n : ℕ) → d_new ≡ d → core.stage ≡ stage.Settled → IsSome (job_of core.queue n)
      → core_new.tables ≡ core.tables → core_new.stage ≡ core.stage
      → ((s : Setup) (k : ℕ) (h : History) → core.stage ≡ stage.Settled → CoreStands core s k h
      → IsFailure s h n → CoreStands core_new s k (failed n ∷ h))
      → SetsJob n None (jobs link) (jobs link_new) → law link_new ≡ law link
      → ((past : History) → tells link past → tells link_new (failed n ∷ past))
      → Goes state tells jobs law (record { core = core; store = store; disk = d; link = link })
      (record { core = core_new; store = store; disk = d_new; link = link_new }) IsStillNow
      whatever done
  failed_goes core core_new store d d_new link link_new n same settled flew tables set stands flies
      law_same told c k h j quiet = (
        same_stands j d_new (same_disk d_new same),
        record {
          questions = k;
          history = failed n ∷ h;
          joined = record {
            stands = stands c.setup k (h ++ c.noted) settled j.stands (record {
              flies = sym (ap is_some (j.stands.bears.works.jobs n)) ∙ flew;
              quiet = quiet;
            });
            told = told (h ++ c.past) j.told;
            goes_on = tt;
            law_is = law_same ∙ j.law_is;
            own = own_ended jobs c.setup n link link_new flies j.own;
            steady = subst (λ (e : D). Rattle.gs_life.specs.Standing.IsSteady store.entries (state e))
                (sym same) j.steady;
            running = subst (λ (e : D). Rattle.gs_life.specs.Stands.IsRunning c.origin
                (state e).folder store.entries) (sym same) j.running;
            recorded = j.recorded;
            noted = j.noted;
            kept = mains_kept c.setup (length (mains_in core_new.tables) + ahead core_new.stage)
                (length (mains_in core.tables) + ahead core.stage) (state d).folder
                (state d_new).folder (mains_same core core_new tables set) (same_mains d_new same)
                j.kept;
          };
          holds = tt;
        },
      )
    where
      same_disk : (e : D) → e ≡ d → Passes Same (state d) (state e)
      same_disk e is =
          subst (λ (x : D). Passes Same (state d) (state x)) (sym is) (same_started (state d))

      same_mains : (e : D) → e ≡ d → SameMains (state d).folder (state e).folder
      same_mains e is = subst (λ (x : D). SameMains (state d).folder (state x).folder) (sym is)
          (λ m. refl)
