-- What the engine did, as the course of a run.
use Rattle.std.proofs.Common.{◌≡◌, ◌≢◌, ℕ, ◌==◌, Bool, true, false, List, [], ◌∷◌, ◌++◌, map, Option, Some, None, Result, Ok, Err, refl, sym, ◌∙◌, ap, inr}
use Rattle.std.specs.Prelude.{IsSome, if◌then◌else◌}
use Rattle.gs_types.specs.History.{History, noted, started, refused, finished, failed, abandoned, outs_in}
use Rattle.gs_types.specs.declared.settings.Settings.{Settings}
use Rattle.gs_types.specs.declared.value.Value.{Value}
use Rattle.gs_broker.specs.Text.{Entry}
use Rattle.gs_disk.specs.Folder.{DiskState}
use Rattle.gs_disk.specs.Moments.{EachNow, Always}
use Rattle.gs_entries.specs.Order.{has_done}
use Rattle.gs_entries.specs.declared.entry.Entry.{Entry as Store}
use Rattle.gs_store.specs.State.{StoreState}
use Rattle.gs_talk.specs.declared.question.Question.{Question}
use Rattle.gs_talk.specs.declared.question.Question.TheVariants as q
use Rattle.gs_talk_laws.specs.Fuels.{IsPrefixOf}
use Rattle.gs_history.specs.Setup.{Noting, Setup}
use Rattle.gs_history.specs.Notes.{IsMisfit, AreNoted}
use Rattle.gs_history.specs.Frontier.{HasStopped}
use Rattle.gs_history.specs.Good.{Good, GoesOn}
use Rattle.gs_history.specs.Losses.{NoLoss}
use Rattle.gs_history.proofs.Ending.{stopped_is_ended}
use Rattle.gs_history.proofs.Fitting.{notes_fit}
use Rattle.gs_tables.specs.Noted.{noting_of}
use Rattle.gs_life.specs.Origin.{Origin}
use Rattle.gs_life.specs.Stands.{Stands, StandsClosed}
use Rattle.gs_engine.specs.Beginning.{notes_in, Call}
use Rattle.gs_engine.specs.Running as engine
use Rattle.gs_engine.specs.Running.{StandsRunning, KeepsDone}
use Rattle.gs_engine.specs.declared.running.RunFault.{RunFault}
use Rattle.gs_engine.specs.declared.running.RunFault.TheVariants as fault
use Rattle.gs_run.specs.Course.{setup_for, IsUnstarted, IsCutShort, EndsSo, Shows, IsFruitless, AtEnd, Stood}
use Rattle.gs_run.specs.Halted.{stop_of_fault, RunsBy}
use Rattle.gs_run.proofs.Found.{from, always_first, each_running, each_closed}
use Rattle.gs_run.specs.declared.stop.Stop.{Stop}

-- ---- what is recorded isn't started

none_some : (o : Option (List Value)) → o ≡ None → IsSome o → ⊥
none_some (Some x) is some = absurd cc
none_some None is some = absurd cc

some_if : (b : Bool) (v : List Value) (o : Option (List Value)) → IsSome o
    → IsSome (if b then Some v else o)
some_if true v o some = refl
some_if false v o some = some

-- what was recorded before is so after more
later_some : (h past : History) (n : ℕ) → IsSome (outs_in past n) → IsSome (outs_in (h ++ past) n)
later_some [] past n some = some
later_some (noted m outs ∷ h) past n some = some_if (m == n) outs
    (outs_in (h ++ past) n) (later_some h past n some)
later_some (started m w job ∷ h) past n some = later_some h past n some
later_some (refused m w ∷ h) past n some = later_some h past n some
later_some (finished m outs ∷ h) past n some = some_if (m == n) outs
    (outs_in (h ++ past) n) (later_some h past n some)
later_some (failed m ∷ h) past n some = later_some h past n some
later_some (abandoned ∷ h) past n some = later_some h past n some

first_if : (b : Bool) (v : List Value) (o p : Option (List Value)) → (IsSome o → IsSome p)
    → IsSome (if b then Some v else o) → IsSome (if b then Some v else p)
first_if true v o p more some = refl
first_if false v o p more some = more some

-- what is an output after a time is one of the whole
first_some : (h past : History) (n : ℕ) → IsSome (outs_in h n) → IsSome (outs_in (h ++ past) n)
first_some [] past n some = absurd cc
first_some (noted m outs ∷ h) past n some = first_if (m == n) outs (outs_in h n)
    (outs_in (h ++ past) n) (first_some h past n) some
first_some (started m w job ∷ h) past n some = first_some h past n some
first_some (refused m w ∷ h) past n some = first_some h past n some
first_some (finished m outs ∷ h) past n some = first_if (m == n) outs (outs_in h n)
    (outs_in (h ++ past) n) (first_some h past n) some
first_some (failed m ∷ h) past n some = first_some h past n some
first_some (abandoned ∷ h) past n some = first_some h past n some

-- what is started isn't recorded
other_task : (h past : History) (m n : ℕ) → outs_in (h ++ past) m ≡ None
    → IsSome (outs_in past n) → m ≢ n
other_task h past m n none some same = none_some (outs_in (h ++ past) n)
    (ap (λ (k : ℕ). outs_in (h ++ past) k) (sym same) ∙ none) (later_some h past n some)

-- notes alone aren't behind an event of the call
noted_alone : (s : Setup) (xs : List Noting) (h past : History) (n : ℕ)
    → AreNoted s xs (h ++ past) → IsUnstarted h n
noted_alone s xs [] past n are = tt
noted_alone s [] (noted m outs ∷ h) past n are = absurd are
noted_alone s (x ∷ xs) (noted m outs ∷ h) past n are = noted_alone s xs h past n are.1
noted_alone s [] (started m w job ∷ h) past n are = absurd are
noted_alone s (x ∷ xs) (started m w job ∷ h) past n are = absurd are
noted_alone s [] (refused m w ∷ h) past n are = absurd are
noted_alone s (x ∷ xs) (refused m w ∷ h) past n are = absurd are
noted_alone s [] (finished m outs ∷ h) past n are = absurd are
noted_alone s (x ∷ xs) (finished m outs ∷ h) past n are = absurd are
noted_alone s [] (failed m ∷ h) past n are = absurd are
noted_alone s (x ∷ xs) (failed m ∷ h) past n are = absurd are
noted_alone s [] (abandoned ∷ h) past n are = absurd are
noted_alone s (x ∷ xs) (abandoned ∷ h) past n are = absurd are

pub unstarted : (s : Setup) (h past : History) (n : ℕ) → Good s (h ++ past)
    → IsSome (outs_in past n) → IsUnstarted h n
unstarted s [] past n good some = tt
unstarted s (noted m outs ∷ h) past n good some =
    noted_alone s s.notes (noted m outs ∷ h) past n good
unstarted s (started m w job ∷ h) past n good some =
    (other_task h past m n good.1.due.ready.opened.unfinished some, unstarted s h past n good.0 some)
unstarted s (refused m w ∷ h) past n good some =
    (other_task h past m n good.1.due.ready.opened.unfinished some, unstarted s h past n good.0 some)
unstarted s (finished m outs ∷ h) past n good some = unstarted s h past n good.0 some
unstarted s (failed m ∷ h) past n good some = unstarted s h past n good.0 some
unstarted s (abandoned ∷ h) past n good some = unstarted s h past n good.0 some

-- ---- how the run ended

ends_so : (s : Setup) (k : ℕ) (h : History) (x : Question) → ((j i : ℕ) → IsMisfit s j i → ⊥)
    → Good s h → NoLoss s h → HasStopped s h k x → EndsSo s h x
ends_so s k h x fit good none stopped =
    ((k, stopped_is_ended s k h x good (notes_fit s k (λ j lt i. fit j i)) stopped), none)

-- ---- the course

-- the call of a run with these settings and workers over these entries
abbrev pub call_for : Origin → Settings → List Entry → List Store → History → Call
call_for o settings workers es past = record {
  origin = o;
  setup = setup_for o settings workers es;
  run_is = refl;
  past = past;
}

abbrev pub stops : (fuel : ℕ) → Result StoreState RunFault → Result StoreState Stop
stops fuel (Ok store) = Ok store
stops fuel (Err e) = Err (stop_of_fault fuel e)

-- the course, by its parts
course : (o : Origin) (settings : Settings) (workers : List Entry) (es : List Store) (past : History)
    (old new : DiskState) (tells : History → Type 0) (answer : Result StoreState Stop)
    (before history : History)
    → Always (Stands o) old new
    → tells (history ++ past)
    → AreNoted (setup_for o settings workers es) (map noting_of (notes_in 0 es)) before
    → Good (setup_for o settings workers es) (history ++ before)
    → ((IsCutShort answer → ⊥)
    → GoesOn (history ++ before))
    → ((n : ℕ) → has_done es n ≡ true → IsSome (outs_in before n))
    → Shows (setup_for o settings workers es)
    (history ++ before) answer
    → ((IsCutShort answer → ⊥) → KeepsDone (history ++ before) new)
    → (IsFruitless answer → EachNow (StandsRunning o) new)
    → AtEnd answer
    (EachNow (StandsClosed o) new)
    → Stood o es past old new tells (RunsBy o settings workers es answer) answer
course o settings workers es past old new tells answer before history always told are good whole recorded
    shows kept running closed = record {
      always = always;
      history = history;
      told = told;
      holds = inr (record {
        noted = before;
        are = are;
        good = good;
        whole = whole;
        recorded = recorded;
        shows = shows;
      });
      unstarted = λ n done. unstarted
          (setup_for o settings workers es) history before n good
          (recorded n done);
      kept = λ not n some. kept not n (first_some history before n some);
      running = running;
      closed = closed;
    }

pub stood_ran : {K : Type 0} (o : Origin) (settings : Settings) (workers : List Entry)
    (es : List Store) (past : History) (old new : DiskState) (tells : K → History → Type 0)
    (link : K) (before : History) (r : Result StoreState RunFault)
    → IsPrefixOf o.stood es
    → ((k i : ℕ) → IsMisfit (setup_for o settings workers es) k i → ⊥)
    → engine.Ran tells (call_for (from o es) settings workers es past) old new link before r
    → Stood o es past old new (tells link) (RunsBy o settings workers es (stops settings.fuel r))
    (stops settings.fuel r)
stood_ran o settings workers es past old new tells link before (Ok store) first fit ran =
    let s = setup_for o settings workers es in
    course o settings workers es past old new (tells link) (stops settings.fuel (Ok store)) before
    ran.history (always_first o es old new first ran.always) ran.told ran.are ran.good ran.whole ran.recorded
    (ends_so s ran.shows.0 (ran.history ++ before) q.End fit ran.good ran.shows.1.1 ran.shows.1.2)
    ran.kept (λ is. each_running o es new first (ran.running is)) (each_closed o es new first ran.closed)
stood_ran o settings workers es past old new tells link before
    (Err (fault.Program line kind)) first fit ran =
    let s = setup_for o settings workers es in
    course o settings workers es past old new (tells link)
    (stops settings.fuel (Err (fault.Program line kind))) before
    ran.history (always_first o es old new first ran.always) ran.told ran.are ran.good ran.whole ran.recorded
    (ends_so s ran.shows.0 (ran.history ++ before) (q.Fault line kind) fit ran.good ran.shows.1.1
    ran.shows.1.2)
    ran.kept (λ is. each_running o es new first (ran.running is)) tt
stood_ran o settings workers es past old new tells link before (Err fault.FuelOut) first fit ran =
    let s = setup_for o settings workers es in
    course o settings workers es past old new (tells link)
    (stops settings.fuel (Err fault.FuelOut)) before
    ran.history (always_first o es old new first ran.always) ran.told ran.are ran.good ran.whole ran.recorded
    (ends_so s ran.shows.0 (ran.history ++ before) q.FuelOut fit ran.good ran.shows.1.1
    ran.shows.1.2)
    ran.kept (λ is. each_running o es new first (ran.running is)) tt
stood_ran o settings workers es past old new tells link before (Err (fault.TaskLost n)) first fit ran =
    let s = setup_for o settings workers es in
    course o settings workers es past old new (tells link)
    (stops settings.fuel (Err (fault.TaskLost n))) before
    ran.history (always_first o es old new first ran.always) ran.told ran.are ran.good ran.whole ran.recorded
    ran.shows.1.0
    ran.kept (λ is. each_running o es new first (ran.running is)) tt
stood_ran o settings workers es past old new tells link before (Err (fault.WorkersLost n)) first fit ran =
    let s = setup_for o settings workers es in
    course o settings workers es past old new (tells link)
    (stops settings.fuel (Err (fault.WorkersLost n))) before
    ran.history (always_first o es old new first ran.always) ran.told ran.are ran.good ran.whole ran.recorded
    ran.shows.1.0
    ran.kept (λ is. each_running o es new first (ran.running is)) tt
stood_ran o settings workers es past old new tells link before
    (Err (fault.BadRecord index)) first fit ran =
    absurd (ran.sound index refl)
stood_ran o settings workers es past old new tells link before
    (Err (fault.Lost v kept found)) first fit ran =
    absurd ran.shows
stood_ran o settings workers es past old new tells link before (Err fault.Disk) first fit ran =
    let s = setup_for o settings workers es in
    course o settings workers es past old new (tells link)
    (stops settings.fuel (Err fault.Disk)) before
    ran.history (always_first o es old new first ran.always) ran.told ran.are ran.good ran.whole ran.recorded
    tt
    ran.kept (λ is. each_running o es new first (ran.running is)) tt
stood_ran o settings workers es past old new tells link before (Err fault.NoMemory) first fit ran =
    let s = setup_for o settings workers es in
    course o settings workers es past old new (tells link)
    (stops settings.fuel (Err fault.NoMemory)) before
    ran.history (always_first o es old new first ran.always) ran.told ran.are ran.good ran.whole ran.recorded
    tt
    ran.kept (λ is. each_running o es new first (ran.running is)) tt
