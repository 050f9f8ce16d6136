-- What a call of `run` did, by where it stopped.
use Rattle.std.proofs.Common.{◌≡◌, ℕ, ◌≤◌, List, [], Option, Some, Result, Ok, Err, refl, sym, ◌∙◌, ap, subst, inl, inr}
use Rattle.std.specs.Prelude.{IsSome}
use Rattle.gs_types.specs.History.{History, outs_in}
use Rattle.gs_types.specs.Job.{Meaning}
use Rattle.gs_types.specs.declared.settings.Settings.{Settings}
use Rattle.gs_broker.specs.Text.{Entry}
use Rattle.gs_broker.specs.Listed.{entries_in}
use Rattle.gs_check.specs.Passing.{interface_in, program_in}
use Rattle.gs_disk.specs.Folder.{Folder, DiskState, Same}
use Rattle.gs_disk.specs.Going.{always_started, always_same, always_then}
use Rattle.gs_disk.specs.Moments.{Leaves, EachNow, Passes}
use Rattle.gs_entries.specs.declared.entry.Entry.{Entry as Store}
use Rattle.gs_entries.specs.Order.{stage_of}
use Rattle.gs_entries.specs.declared.entry.Stage.TheVariants as stages
use Rattle.gs_entries.specs.declared.entry.Texts.{Texts}
use Rattle.gs_entries.specs.declared.entry.GateNote.{GateNote}
use Rattle.gs_store.specs.Keeps.{HasEntries}
use Rattle.gs_store.specs.Loading.{IsStoreOf, IsLoaded}
use Rattle.gs_store.specs.Ordered.{AreInOrder, gate_in}
use Rattle.gs_store.specs.State.{StoreState, IsDiskOf}
use Rattle.gs_talk.specs.Talk.{Given}
use Rattle.gs_verbs.proofs.Stores.{has_one}
use Rattle.gs_life.specs.Called.{StandsFor}
use Rattle.gs_life.specs.Origin.{Origin}
use Rattle.gs_life.specs.Stands.{Stands, Fresh, Running, Gated, Closed, StandsClosed}
use Rattle.gs_engine.specs.Users.{UsersStay}
use Rattle.gs_run.specs.Course.{IsRunOf, NeedsNone, HasCourse, IsFruitless, AtEndBy, Takes, Stood, IsTextOf}
use Rattle.gs_run.specs.Halted.{HaltsAs, CarriedBy, IsOfRun, PutText}
use Rattle.gs_run.specs.Ran.{BlamesBy, Untouched, Begins, Ran}
use Rattle.gs_run.specs.Ready.{stop_unready, store_in, HasResults, HasClosed, IsAtStage, IsReady, IsUnready, UnreadyEnds}
use Rattle.gs_run.specs.Served.{HasList, Served}
use Rattle.gs_run.specs.declared.judge.Plan.{Plan}
use Rattle.gs_run.specs.declared.ready.Ready.{Ready}
use Rattle.gs_run.specs.declared.ready.Ready.TheVariants.{Ended, Going}
use Rattle.gs_run.specs.declared.refusal.Refusal.TheVariants as refusal
use Rattle.gs_run.specs.declared.refusal.Unready.{Unready}
use Rattle.gs_run.specs.declared.refusal.Unready.TheVariants.{Text, Store as BadOne, Other, Disk, Memory}
use Rattle.gs_run.specs.declared.stop.Stop.{Stop}
use Rattle.gs_run.specs.declared.stop.Stop.TheVariants as stop
use Rattle.gs_run.proofs.Entering.{given_is}
use Rattle.gs_run.proofs.Joining.{stands_for, is_of_run}
use Rattle.gs_run.proofs.OneFolder.{not_both}
use Rattle.gs_run.proofs.Sound.{no_bad}
use Rattle.gs_run.proofs.Texting.{closed_text, reads_entries}
use Rattle.gs_run.proofs.Stopping.{may_serve, judged_stop, finish_needs, blames_stop, left_stop, wrote_stop, printed_stop}

-- ---- nothing was begun

untouched : (old new : DiskState) → new.folder ≡ old.folder → Passes Same old new → Untouched old new
untouched old new same images = record { files = same; images = images }

-- no task has finished in no history
none_out : (n : ℕ) → IsSome (outs_in [] n) → ⊥
none_out n is = absurd cc

-- the entries of a folder that stands
entries_at : (o : Origin) (f : Folder) → Stands o f → (es : List Store) × HasEntries es f
entries_at o f (Fresh has fresh) = ([], has)
entries_at o f (Running es has r) = (es, has)
entries_at o f (Gated es has g) = (es, has)
entries_at o f (Closed es has c) = (es, has)

nothing : (o : Origin) (settings : Settings) (results : Type 0) (file : Option (List ℕ))
    (past : History) (old new : DiskState) (tells : History → Type 0) (e : Stop)
    → Leaves old old.folder → EachNow (Stands o) old → Passes Same old new → tells past
    → NeedsNone results e → (IsFruitless {T = Unit} (Err e) → ⊥)
    → AtEndBy e (EachNow (StandsClosed o) new)
    → (es : List Store) × HasEntries es old.folder
    × Stood {T = Unit} o es past old new tells (Takes {T = Unit} o settings es results file (Err e))
    (Err e)
nothing o settings results file past old new tells e reads stand images told needs bare closed =
    let has = entries_at o old.folder (stand old.folder reads) in (
      has.0,
      has.1,
      record {
        always = always_same (Stands o) old old new (always_started (Stands o) old stand) images;
        history = [];
        told = told;
        holds = inl (refl, needs);
        unstarted = λ n done. tt;
        kept = λ whole n is. absurd (none_out n is);
        running = λ fruitless. absurd (bare fruitless);
        closed = closed;
      },
    )

pub ran_unready : (settings : Settings) (told wrote : Type 0) (old new : DiskState) (law : Meaning)
    (tells : History → Type 0) (link out : ℕ) (written i p w : List ℕ) (u : Unready)
    → UnreadyEnds {T = Ready} old.faults new.faults (Err u)
    → (told → IsUnready old.folder i p w u) → (told → new.folder ≡ old.folder)
    → (told → Passes Same old new) → (told → Leaves old old.folder)
    → Ran settings told wrote old new law tells tells link link out out written written i p w
    (Err (stop_unready u))
ran_unready settings told wrote old new law tells link out written i p w (Text (refusal.NoText n)) ends is same images
    reads = record {
      cause = tt;
      judged = is;
      left = λ t. untouched old new (same t) (images t);
      still = λ t c. untouched old new (same t) (images t);
      users = λ t is. absurd is;
      written = λ h. refl;
      stood = λ t o past b. nothing o settings (HasResults old.folder i p) (old.folder w) past old new
          tells (stop.NoText n) (reads t) b.stand (images t) b.told tt (λ x. x) tt;
      printed = λ t h o past b. tt;
    }
ran_unready settings told wrote old new law tells link out written i p w (Text (refusal.BadText n line k)) ends is same images
    reads = record {
      cause = tt;
      judged = is;
      left = λ t. untouched old new (same t) (images t);
      still = λ t c. untouched old new (same t) (images t);
      users = λ t is. absurd is;
      written = λ h. refl;
      stood = λ t o past b. nothing o settings (HasResults old.folder i p) (old.folder w) past old new
          tells (stop.BadText n line k) (reads t) b.stand (images t) b.told tt (λ x. x) tt;
      printed = λ t h o past b. tt;
    }
ran_unready settings told wrote old new law tells link out written i p w (Text refusal.Disk) ends is same images
    reads = record {
      cause = ends;
      judged = λ t. tt;
      left = λ t. tt;
      still = λ t c. untouched old new (same t) (images t);
      users = λ t is. absurd is;
      written = λ h. refl;
      stood = λ t o past b. nothing o settings (HasResults old.folder i p) (old.folder w) past old new
          tells stop.Disk (reads t) b.stand (images t) b.told tt (λ x. x) tt;
      printed = λ t h o past b. tt;
    }
ran_unready settings told wrote old new law tells link out written i p w (Text refusal.Memory) ends is same images
    reads = record {
      cause = tt;
      judged = λ t. tt;
      left = λ t. tt;
      still = λ t c. untouched old new (same t) (images t);
      users = λ t is. absurd is;
      written = λ h. refl;
      stood = λ t o past b. nothing o settings (HasResults old.folder i p) (old.folder w) past old new
          tells stop.Memory (reads t) b.stand (images t) b.told tt (λ x. x) tt;
      printed = λ t h o past b. tt;
    }
ran_unready settings told wrote old new law tells link out written i p w (BadOne why) ends is same images
    reads = record {
      cause = tt;
      judged = λ t. inl (is t);
      left = λ t. inl (untouched old new (same t) (images t));
      still = λ t c. untouched old new (same t) (images t);
      users = λ t is. absurd is;
      written = λ h. refl;
      stood = λ t o past b. nothing o settings (HasResults old.folder i p) (old.folder w) past old new
          tells (stop.BadStore why) (reads t) b.stand (images t) b.told (no_bad o i p old.folder why b.run_is (b.stand old.folder (reads t)) (is t).1) (λ x. x) tt;
      printed = λ t h o past b. tt;
    }
ran_unready settings told wrote old new law tells link out written i p w (Other what) ends is same images
    reads = record {
      cause = tt;
      judged = is;
      left = λ t. untouched old new (same t) (images t);
      still = λ t c. untouched old new (same t) (images t);
      users = λ t is. absurd is;
      written = λ h. refl;
      stood = λ t o past b. nothing o settings (HasResults old.folder i p) (old.folder w) past old new
          tells (stop.OtherRun what) (reads t) b.stand (images t) b.told tt (λ x. x) tt;
      printed = λ t h o past b. tt;
    }
ran_unready settings told wrote old new law tells link out written i p w Disk ends is same images
    reads = record {
      cause = ends;
      judged = λ t. tt;
      left = λ t. tt;
      still = λ t c. untouched old new (same t) (images t);
      users = λ t is. absurd is;
      written = λ h. refl;
      stood = λ t o past b. nothing o settings (HasResults old.folder i p) (old.folder w) past old new
          tells stop.Disk (reads t) b.stand (images t) b.told tt (λ x. x) tt;
      printed = λ t h o past b. tt;
    }
ran_unready settings told wrote old new law tells link out written i p w Memory ends is same images
    reads = record {
      cause = tt;
      judged = λ t. tt;
      left = λ t. tt;
      still = λ t c. untouched old new (same t) (images t);
      users = λ t is. absurd is;
      written = λ h. refl;
      stood = λ t o past b. nothing o settings (HasResults old.folder i p) (old.folder w) past old new
          tells stop.Memory (reads t) b.stand (images t) b.told tt (λ x. x) tt;
      printed = λ t h o past b. tt;
    }

-- ---- what was ready

-- the workers are listed for the operations that the run is given
list_for : (o : Origin) (i p : List ℕ) (t : Texts) (plan : Plan)
    (file : Option (List ℕ)) → IsRunOf o i p → o.texts ≡ t
    → Served t file (interface_in plan.checked) (program_in plan.checked)
    (entries_in plan.workers) → HasList o.given.ops file (entries_in plan.workers)
list_for o i p t plan file run texts served =
    subst (λ (g : Given). HasList g.ops file (entries_in plan.workers))
    (given_is o i p t (interface_in plan.checked) (program_in plan.checked) run texts served.both)
    served.list

course_stop : (o : Origin) (settings : Settings) (workers : List Entry) (es : List Store)
    (h : History) (e : Stop) → HasCourse {T = StoreState} o settings workers es h (Err e)
    → HasCourse {T = Unit} o settings workers es h (Err e)
course_stop o settings workers es h e c = record {
  noted = c.noted;
  are = c.are;
  good = c.good;
  whole = c.whole;
  recorded = c.recorded;
  shows = c.shows;
}

stop_is : (a b : Stop) → ◌≡◌ {A = Result StoreState Stop} (Err a) (Err b) → a ≡ b
stop_is a b e = cc

takes_stop : (o : Origin) (settings : Settings) (f : Folder) (i p w : List ℕ) (r : Ready) (e : Stop)
    (h : History) → IsRunOf o i p → IsOfRun o r → IsReady f i p w r
    → CarriedBy {T = StoreState} o settings r (Err e) h
    → Takes {T = Unit} o settings (store_in r).entries (HasResults f i p) (f w) (Err e) h
takes_stop o settings f i p w (Ended store) e h run of is by =
    inl (by.0, finish_needs (HasResults f i p) e by.1)
takes_stop o settings f i p w (Going t store plan) e h run of is (inl by) =
    inl (by.0, subst (NeedsNone (HasResults f i p)) (sym (stop_is e stop.Memory by.1)) tt)
takes_stop o settings f i p w (Going t store plan) e h run of is (inr by) = inr (
  λ has. not_both f i p t has (record { store = store; finds = is.0; goes_on = is.1 }),
  (
    entries_in plan.workers,
    list_for o i p t plan (f w) run of is.2,
    course_stop o settings (entries_in plan.workers) store.entries h e by,
  ),
)

takes_ok : (o : Origin) (settings : Settings) (f : Folder) (i p w : List ℕ) (r : Ready)
    (store : StoreState) (h : History) → IsRunOf o i p → IsOfRun o r → IsReady f i p w r
    → CarriedBy {T = StoreState} o settings r (Ok store) h
    → Takes {T = Unit} o settings (store_in r).entries (HasResults f i p) (f w) (Ok tt) h
takes_ok o settings f i p w (Ended own) store h run of is by =
    inl (by.0, record { texts = is.0; store = own; finds = is.1; ended = is.2 })
takes_ok o settings f i p w (Going t own plan) store h run of is (inl by) = absurd cc
takes_ok o settings f i p w (Going t own plan) store h run of is (inr c) = inr (
  λ has. not_both f i p t has (record { store = own; finds = is.0; goes_on = is.1 }),
  (
    entries_in plan.workers,
    list_for o i p t plan (f w) run of is.2,
    record {
      noted = c.noted;
      are = c.are;
      good = c.good;
      whole = c.whole;
      recorded = c.recorded;
      shows = c.shows;
    },
  ),
)

takes_sink : (o : Origin) (settings : Settings) (es : List Store) (results : Type 0)
    (file : Option (List ℕ)) (h : History) → Takes {T = Unit} o settings es results file (Ok tt) h
    → Takes {T = Unit} o settings es results file (Err stop.Sink) h
takes_sink o settings es results file h (inl by) = inl by
takes_sink o settings es results file h (inr by) = let c = by.1.2 in inr (
  by.0,
  (
    by.1.0,
    by.1.1,
    record {
      noted = c.noted;
      are = c.are;
      good = c.good;
      whole = c.whole;
      recorded = c.recorded;
      shows = c.shows;
    },
  ),
)

-- ---- it stopped in the run

-- a run of the folder's texts, over a disk that stands
abbrev Carries : (settings : Settings) → (told : Type 0) → (old new : DiskState) → Meaning
    → (tells_old tells_new : History → Type 0) → (i p : List ℕ) → Ready → Result StoreState Stop
    → Type 0
Carries settings told old new law tells_old tells_new i p r answer = told → (o : Origin)
    (past : History) → Begins o i p law tells_old past old
    → IsOfRun o r
    × Stood o (store_in r).entries past old new tells_new (CarriedBy o settings r answer) answer

-- from where the call began, over the disk that was read
pub carries : (settings : Settings) (told : Type 0) (old mid new : DiskState) (law : Meaning)
    (tells_old tells_new : History → Type 0) (i p w : List ℕ) (r : Ready)
    (answer : Result StoreState Stop) → IsAtStage r → (told → IsReady old.folder i p w r)
    → (told → IsLoaded mid (store_in r)) → (told → Passes Same old mid)
    → (told → Leaves old old.folder) → (told → Leaves mid mid.folder)
    → (told → (o : Origin) (past : History) → StandsFor o (store_in r).entries mid → IsRunOf o i p
    → IsOfRun o r → law ≡ o.law → tells_old past
    → Stood o (store_in r).entries past mid new tells_new (CarriedBy o settings r answer) answer)
    → Carries settings told old new law tells_old tells_new i p r answer
carries settings told old mid new law tells_old tells_new i p w r answer stage is loaded images reads
    later goes t o past b =
    let of = is_of_run o i p w old.folder r b.run_is (b.stand old.folder (reads t)) stage (is t) in
    let c = goes t o past
    (stands_for o i p old mid (store_in r) b.run_is b.stand (images t) (later t) (loaded t)) b.run_is
    of b.law_is b.told in (
      of,
      record {
        always = always_then (Stands o) old mid new
            (always_same (Stands o) old old mid (always_started (Stands o) old b.stand) (images t))
            c.always;
        history = c.history;
        told = c.told;
        holds = c.holds;
        unstarted = c.unstarted;
        kept = c.kept;
        running = c.running;
        closed = c.closed;
      },
    )

-- the folder has the entries of the store that was found
found_entries : (f : Folder) (i p w : List ℕ) (r : Ready) → IsReady f i p w r
    → HasEntries (store_in r).entries f
found_entries f i p w (Ended store) is = is.1.found.entries
found_entries f i p w (Going t store plan) is = is.0.found.entries

-- the text of a closed store is the sequential run's
pub text_closed : (o : Origin) (store : StoreState) (s : DiskState) (g : GateNote)
    → Leaves s s.folder → IsDiskOf store s → AreInOrder store.entries
    → gate_in store.entries ≡ Some g → EachNow (StandsClosed o) s → IsTextOf o g.text
text_closed o store s g reads is order gate closed =
    closed_text o store.entries s.folder g order (reads_entries store s reads is)
    (closed s.folder reads) gate

pub ran_stopped : (settings : Settings) (told wrote : Type 0) (old mid new : DiskState)
    (law : Meaning) (tells_old tells_new : History → Type 0) (link_old link_new out : ℕ)
    (written i p w : List ℕ) (r : Ready) (e : Stop) → old.faults ≤ mid.faults
    → HaltsAs {T = StoreState} r (Err e)
    → BlamesBy settings.fuel mid.faults new.faults link_old link_new 0 0 e
    → (told → IsReady old.folder i p w r)
    → Carries settings told old new law tells_old tells_new i p r (Err e)
    → (told → HasClosed old.folder → Untouched old new)
    → (told → IsFruitless {T = Unit} (Err e) → UsersStay old new)
    → Ran settings told wrote old new law tells_old tells_new link_old link_new out out written
    written i p w (Err e)
ran_stopped settings told wrote old mid new law tells_old tells_new link_old link_new out written i p w
    r e le halts blames is carries still users = record {
      cause = blames_stop settings.fuel old.faults mid.faults new.faults link_old link_new out out r e
          le halts blames;
      judged = λ t. judged_stop old.folder i p w r e (is t) halts;
      left = λ t. left_stop old new i p w r e (is t) halts;
      still = still;
      users = users;
      written = λ h. wrote_stop written r e halts;
      stood = λ t o past b.
          let c = carries t o past b in (
            (store_in r).entries,
            found_entries old.folder i p w r (is t),
            record {
              always = c.1.always;
              history = c.1.history;
              told = c.1.told;
              holds = takes_stop o settings old.folder i p w r e c.1.history b.run_is c.0 (is t)
                  c.1.holds;
              unstarted = c.1.unstarted;
              kept = c.1.kept;
              running = c.1.running;
              closed = c.1.closed;
            },
          );
      printed = λ t h o past b. printed_stop o written r e halts;
    }

-- ---- it came to its end

pub ran_put : (settings : Settings) (told wrote : Type 0) (old new : DiskState) (law : Meaning)
    (tells_old tells_new : History → Type 0) (link_old link_new out_old out_new : ℕ)
    (written_old written_new i p w : List ℕ) (r : Ready) (store : StoreState) (text : List ℕ)
    (answer : Result Unit Stop) → (told → IsReady old.folder i p w r)
    → Carries settings told old new law tells_old tells_new i p r (Ok store)
    → (told → (o : Origin) → EachNow (StandsClosed o) new → IsTextOf o text)
    → PutText wrote text written_old written_new out_old out_new answer
    → (told → HasClosed old.folder → Untouched old new)
    → Ran settings told wrote old new law tells_old tells_new link_old link_new out_old out_new
    written_old written_new i p w answer
ran_put settings told wrote old new law tells_old tells_new link_old link_new out_old out_new
    written_old written_new i p w r store text (Ok done) is carries text_of put still = record {
      cause = tt;
      judged = λ t. may_serve old.folder i p w r (is t);
      left = λ t. tt;
      still = still;
      users = λ t is. absurd is;
      written = λ h. (text, put h);
      stood = λ t o past b.
          let c = carries t o past b in (
            (store_in r).entries,
            found_entries old.folder i p w r (is t),
            record {
              always = c.1.always;
              history = c.1.history;
              told = c.1.told;
              holds = takes_ok o settings old.folder i p w r store c.1.history b.run_is c.0 (is t)
                  c.1.holds;
              unstarted = c.1.unstarted;
              kept = c.1.kept;
              running = c.1.running;
              closed = c.1.closed;
            },
          );
      printed = λ t h o past b. (text, text_of t o (carries t o past b).1.closed, put h);
    }
ran_put settings told wrote old new law tells_old tells_new link_old link_new out_old out_new
    written_old written_new i p w r store text (Err stop.Sink) is carries text_of put still = record {
      cause = put.0;
      judged = λ t. may_serve old.folder i p w r (is t);
      left = λ t. tt;
      still = still;
      users = λ t is. absurd is;
      written = λ h. (text, (put.1 h).0, (put.1 h).2);
      stood = λ t o past b.
          let c = carries t o past b in (
            (store_in r).entries,
            found_entries old.folder i p w r (is t),
            record {
              always = c.1.always;
              history = c.1.history;
              told = c.1.told;
              holds = takes_sink o settings (store_in r).entries (HasResults old.folder i p) (old.folder w) c.1.history
                  (takes_ok o settings old.folder i p w r store c.1.history b.run_is c.0 (is t)
                  c.1.holds);
              unstarted = c.1.unstarted;
              kept = c.1.kept;
              running = c.1.running;
              closed = c.1.closed;
            },
          );
      printed = λ t h o past b. (text, text_of t o (carries t o past b).1.closed, put.1 h);
    }
ran_put settings told wrote old new law tells_old tells_new link_old link_new out_old out_new
    written_old written_new i p w r store text (Err (stop.Usage word)) is carries text_of put still = absurd put
ran_put settings told wrote old new law tells_old tells_new link_old link_new out_old out_new
    written_old written_new i p w r store text (Err (stop.NoText name)) is carries text_of put still = absurd put
ran_put settings told wrote old new law tells_old tells_new link_old link_new out_old out_new
    written_old written_new i p w r store text (Err (stop.BadText name line k)) is carries text_of put still = absurd put
ran_put settings told wrote old new law tells_old tells_new link_old link_new out_old out_new
    written_old written_new i p w r store text (Err (stop.OtherRun what)) is carries text_of put still = absurd put
ran_put settings told wrote old new law tells_old tells_new link_old link_new out_old out_new
    written_old written_new i p w r store text (Err (stop.BadStore why)) is carries text_of put still = absurd put
ran_put settings told wrote old new law tells_old tells_new link_old link_new out_old out_new
    written_old written_new i p w r store text (Err (stop.Fault line k)) is carries text_of put still = absurd put
ran_put settings told wrote old new law tells_old tells_new link_old link_new out_old out_new
    written_old written_new i p w r store text (Err (stop.FuelOut fuel)) is carries text_of put still = absurd put
ran_put settings told wrote old new law tells_old tells_new link_old link_new out_old out_new
    written_old written_new i p w r store text (Err (stop.TaskLost n)) is carries text_of put still = absurd put
ran_put settings told wrote old new law tells_old tells_new link_old link_new out_old out_new
    written_old written_new i p w r store text (Err (stop.WorkersLost n)) is carries text_of put still = absurd put
ran_put settings told wrote old new law tells_old tells_new link_old link_new out_old out_new
    written_old written_new i p w r store text (Err stop.Gated) is carries text_of put still = absurd put
ran_put settings told wrote old new law tells_old tells_new link_old link_new out_old out_new
    written_old written_new i p w r store text (Err stop.NoRun) is carries text_of put still = absurd put
ran_put settings told wrote old new law tells_old tells_new link_old link_new out_old out_new
    written_old written_new i p w r store text (Err stop.Disk) is carries text_of put still = absurd put
ran_put settings told wrote old new law tells_old tells_new link_old link_new out_old out_new
    written_old written_new i p w r store text (Err stop.Memory) is carries text_of put still = absurd put

-- where the store is closed the disk was only read
pub stays_closed : (told : Type 0) (old mid new : DiskState) (i p w : List ℕ) (r : Ready)
    → (told → IsReady old.folder i p w r) → (told → mid.folder ≡ old.folder)
    → (told → Passes Same old mid)
    → (stage_of (store_in r).entries ≡ stages.Closed → new ≡ mid)
    → told → HasClosed old.folder → Untouched old new
stays_closed told old mid new i p w r is same images still t c =
    let one : c.store.entries ≡ (store_in r).entries = one_found old.folder i p w r c.store c.found (is t) in
    let at : stage_of (store_in r).entries ≡ stages.Closed = sym (ap stage_of one) ∙ c.closed in
    subst (λ (s : DiskState). Untouched old s) (sym (still at))
    (untouched old mid (same t) (images t))
  where
    one_found : (f : Folder) (i p w : List ℕ) (r : Ready) (store : StoreState) → IsStoreOf store f
        → IsReady f i p w r → store.entries ≡ (store_in r).entries
    one_found f i p w (Ended own) store found is = has_one f store own found is.1.found
    one_found f i p w (Going t own plan) store found is = has_one f store own found is.0.found

-- ---- the same call in other words

pub ran_as : (settings : Settings) (told wrote : Type 0) (old same_old new : DiskState)
    (law : Meaning) (tells_old tells_new : History → Type 0) (link_old link_new out_old out_new : ℕ)
    (written_old written_new i p w : List ℕ) (answer same : Result Unit Stop) → old ≡ same_old
    → same ≡ answer
    → Ran settings told wrote old new law tells_old tells_new link_old link_new out_old out_new
    written_old written_new i p w answer
    → Ran settings told wrote same_old new law tells_old tells_new link_old link_new out_old out_new
    written_old written_new i p w same
ran_as settings told wrote old same_old new law tells_old tells_new link_old link_new out_old out_new
    written_old written_new i p w answer same is gave ran =
    subst (λ (s : DiskState). Ran settings told wrote s new law tells_old tells_new link_old
    link_new out_old out_new written_old written_new i p w same) is
    (subst (λ (r : Result Unit Stop). Ran settings told wrote old new law tells_old tells_new
    link_old link_new out_old out_new written_old written_new i p w r) (sym gave) ran)
