-- All is joined where a call begins.
use Rattle.std.proofs.Common.{◌≡◌, ℕ, zero, suc, ◌+◌, true, List, [], ◌++◌, length, Option, Some, None, IsSome, refl, sym, ap, subst, ◌∙◌, arith}
use Rattle.std.specs.Prelude.{map, is_some}
use Rattle.gs_types.specs.Job.{Meaning}
use Rattle.gs_types.specs.History.{History}
use Rattle.gs_types.specs.declared.job.Job.{Job}
use Rattle.gs_disk.specs.Folder.{Folder, DiskState}
use Rattle.gs_entries.specs.Order.{stage_of, has_done}
use Rattle.gs_entries.specs.declared.entry.Stage.TheVariants as stages
use Rattle.gs_entries.specs.declared.entry.Texts.{Texts}
use Rattle.gs_store.specs.State.{StoreState, IsDiskOf}
use Rattle.gs_broker.specs.declared.broker.Broker.{Broker}
use Rattle.gs_site.specs.Link.{Flying, IsIdle}
use Rattle.gs_site.specs.Recorded.{recorded_none}
use Rattle.gs_talk.specs.Seq.{seq}
use Rattle.gs_talk.specs.declared.question.Question.{Question}
use Rattle.gs_main.specs.Shown.{talking}
use Rattle.gs_main.specs.Talking.{Talking, IsFree}
use Rattle.gs_main.specs.declared.dialogue.Main.{Main}
use Rattle.gs_history.specs.Setup.{Noting, Setup, world_at}
use Rattle.gs_history.specs.Notes.{AreNoted}
use Rattle.gs_queue.specs.Queue.{job_of}
use Rattle.gs_tables.specs.Table.{mains_in}
use Rattle.gs_tables.specs.declared.noted.DoneNote.{DoneNote}
use Rattle.gs_core.specs.Beginning.{IsGiven}
use Rattle.gs_core.specs.Core.{Stands as CoreStands}
use Rattle.gs_core.specs.Stages.{ahead}
use Rattle.gs_core.specs.Talker.{IsAwake}
use Rattle.gs_core.specs.declared.machine.Core.{Core}
use Rattle.gs_core.specs.declared.stage.Stage.{Stage}
use Rattle.gs_core.specs.declared.stage.Stage.TheVariants as stage
use Rattle.gs_life.specs.Origin.{Origin}
use Rattle.gs_life.specs.Called.{StandsFor, Stood}
use Rattle.gs_life.specs.Stands.{IsRunning}
use Rattle.gs_engine.specs.Beginning.{notes_in, parts_of, Call, Enters, Begun}
use Rattle.gs_engine.specs.Joined.{MainsStand}
use Rattle.gs_engine.specs.Sane.{Sane, IsRecorded}
use Rattle.gs_engine.proofs.BeginningNotes.{events_of, noted_go_on}
use Rattle.gs_engine.proofs.BeginningWords.{done}

-- ---- no job is in flight

no_job : (o : Option Job) (job : Job) → o ≡ None → o ≡ Some job → ⊥
no_job o job none is = cc

none_there : (o : Option Job) → o ≡ None → IsSome o → ⊥
none_there (Some job) none some = absurd cc
none_there None none some = absurd cc

-- ---- no content was closed

nothing_closed : (s : Setup) → (world_at s 0).closed ≡ []
unfolding seq
nothing_closed s = refl

none_few : (s : Setup) (mains : List ℕ) (g : Stage) → g ≡ stage.Open
    → mains ≡ map length (world_at s 0).closed → length mains + ahead g ≡ 0
none_few s mains g still are =
    let a = ap length (are ∙ ap (map length) (nothing_closed s)) in
    let b = ap ahead still in omega (arith, a, b)

no_mains : (s : Setup) (count : ℕ) (f : Folder) → count ≡ 0 → MainsStand s count f
no_mains s count f none k zero bytes le at = absurd cc
no_mains s count f none k (suc n) bytes le at = absurd (omega (arith, none, le))

few_by : (core : Core) (s : Setup) (h : History) → core.stage ≡ stage.Open
    → CoreStands core s 0 h → length (mains_in core.tables) + ahead core.stage ≡ 0
unfolding mains_in
few_by core s h still stands =
    none_few s core.tables.mains.items core.stage still stands.bears.tables.mains

-- ---- what holds of the values alone

pub sane_begun : {D K : Type 0} {state : D → DiskState} {jobs : K → Flying} {told : Type 0}
    (core : Core) (main : Main) (store : StoreState) (d : D) (link : K)
    → stage_of store.entries ≡ stages.Running → (told → IsDiskOf store (state d))
    → IsIdle (jobs link) → ((n : ℕ) → job_of core.queue n ≡ None) → core.main ≡ main
    → core.asked ≡ None → IsFree (talking main).next
    → Sane told state jobs (record { core = core; store = store; disk = d; link = link })
sane_begun {jobs = jobs} core main store d link running disk idle none is unasked free = record {
  stage = running;
  disk = disk;
  together = λ n. ap is_some (none n) ∙ sym (ap is_some (idle.none n));
  undone = λ n some. absurd (none_there (jobs link n) (idle.none n) some);
  awake = subst (λ (o : Option Question). IsAwake o (talking core.main).next) (sym unasked)
      (subst (λ (m : Main). IsFree (talking m).next) (sym is) free);
}

-- nothing finished since the mark, which is the end of the history
pub recorded_begun : {K : Type 0} (tells : K → History → Type 0) (store : StoreState) (link : K)
    (mark : ℕ) → ((h g : History) → tells link h → tells link g → h ≡ g)
    → ((past : History) → tells link past → mark ≡ length past)
    → IsRecorded tells store.entries link mark
recorded_begun tells store link mark one at past h told behind n has =
    recorded_none tells link mark (λ m. has_done store.entries m ≡ true) (h ++ past) one told
    (sym (at (h ++ past) told)) past h told behind n has

module _ {D K : Type 0} {state : D → DiskState} {tells : K → History → Type 0} {jobs : K → Flying}
  where
    -- all is joined
    pub begun : {law : K → Meaning} (core : Core) (texts : Texts) (m : Talking) (broker : Broker)
        (window : ℕ) (store store_new : StoreState) (d d_new : D) (link : K) → IsIdle (jobs link)
        → core.stage ≡ stage.Open → notes_in 0 store_new.entries ≡ notes_in 0 store.entries
        → ((s : Setup) (h : History) → IsGiven m broker window (notes_in 0 store_new.entries) s
        → AreNoted s s.notes h → CoreStands core s 0 h)
        → ((o : Origin) → o.texts ≡ texts → StandsFor o store.entries (state d)
        → Stood o store_new.entries (λ f. IsRunning o f store_new.entries) (state d) (state d_new)
        done)
        → (call : Call)
        → Enters state tells law (parts_of texts m broker window) store.entries d link call
        → Begun state tells jobs law call
        (record { core = core; store = store_new; disk = d_new; link = link })
    begun core texts m broker window store store_new d d_new link idle still same made stood call en =
        let s = call.setup in
        let o = call.origin in
        let now = stood o en.texts_are en.stands in
        let run : IsRunning o (state d_new).folder store_new.entries = now.holds in
        let given : IsGiven m broker window (notes_in 0 store_new.entries) s =
        subst (λ (notes : List DoneNote). IsGiven m broker window notes s) (sym same) en.given in
        let events = events_of o s (state d_new).folder 0 store_new.entries call.run_is en.stands.rules
        run.are.dones in
        let noted : AreNoted s s.notes events.0 =
        subst (λ (xs : List Noting). AreNoted s xs events.0) (sym given.notes_are) events.1.are in
        let stands : CoreStands core s 0 events.0 = made s events.0 given noted in (
          events.0,
          noted,
          record {
            stands = stands;
            told = en.told;
            goes_on = noted_go_on s s.notes events.0 noted;
            law_is = en.law_is;
            own = λ n job is. absurd (no_job (jobs link n) job (idle.none n) is);
            steady = now.steady;
            running = run;
            recorded = events.1.recorded;
            noted = events.1.noted;
            kept = no_mains s (length (mains_in core.tables) + ahead core.stage) (state d_new).folder
                (few_by core s events.0 still stands);
          },
        )
