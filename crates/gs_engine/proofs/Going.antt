-- A call, from its beginning to its end.
use Rattle.std.proofs.Common.{◌≡◌, ℕ, ◌∙◌, List, [], ◌∷◌, ◌++◌, Result, Ok, Err, sym, ap, subst, arith, All}
use Rattle.gs_types.specs.Job.{Meaning}
use Rattle.gs_types.specs.History.{History, noted, started, refused, finished, failed, abandoned}
use Rattle.gs_disk.specs.Folder.{Folder, DiskState}
use Rattle.gs_disk.specs.Moments.{Always}
use Rattle.gs_disk.specs.Going.{always_then}
use Rattle.gs_entries.specs.Order.{stage_of}
use Rattle.gs_entries.specs.declared.entry.Entry.{Entry}
use Rattle.gs_entries.specs.declared.entry.Stage.{Stage}
use Rattle.gs_entries.specs.declared.entry.Stage.TheVariants as stages
use Rattle.gs_site.specs.Link.{Flying}
use Rattle.gs_talk_laws.specs.Fuels.{IsPrefixOf}
use Rattle.gs_policy.specs.Cost.{Cost}
use Rattle.gs_history.specs.Good.{Good, GoesOn}
use Rattle.gs_history.specs.Notes.{AreNoted, IsMisfit}
use Rattle.gs_history.specs.Setup.{Noting, Setup}
use Rattle.gs_core.specs.Core.{IsVerdict}
use Rattle.gs_core.specs.declared.verdict.Verdict.{Verdict}
use Rattle.gs_finish.specs.Finishing.{IsNotLost}
use Rattle.gs_finish.specs.declared.halt.Halt.{Halt}
use Rattle.gs_life.specs.Called.{StandsFor}
use Rattle.gs_life.specs.Origin.{Origin}
use Rattle.gs_life.specs.Stands.{IsRight, Stands, StandsAt}
use Rattle.gs_engine.specs.Beginning.{Parts, Call, Enters, Begun, course_of}
use Rattle.gs_engine.specs.Joined.{Course, Moment, Joined, Goes}
use Rattle.gs_engine.specs.Running.{HasRound, Shows, Concludes, Went, fault_of_halt}
use Rattle.gs_engine.specs.Starting.{HasCosts}
use Rattle.gs_engine.specs.declared.running.RunFault.{RunFault}
use Rattle.gs_engine.specs.declared.running.RunFault.TheVariants as fault
use Rattle.gs_engine.proofs.BeginningNotes.{events_of, noted_go_on}
use Rattle.gs_engine.proofs.Concluding.{failing, halt_cut, halt_fruitless, halt_shows, halt_sound}
use Rattle.gs_engine.proofs.Keeping.{done_among}

-- ---- what is recorded as the call begins

none_right : (o : Origin) (f : Folder) → All (IsRight o f) []
none_right o f k d lt = absurd (omega arith)

rights_of : (o : Origin) (f : Folder) (es : List Entry) (s : Stage) → StandsAt o f es s
    → All (IsRight o f) es × IsPrefixOf o.stood es
rights_of o f es stages.Fresh at = (
  subst (λ (l : List Entry). All (IsRight o f) l) (sym at.0) (none_right o f),
  ([], ap (λ (l : List Entry). l ++ []) at.1.goes_on ∙ sym at.0),
)
rights_of o f es stages.Running at = (at.are.dones, at.are.goes_on)
rights_of o f es stages.Gated at = (at.are.dones, at.are.goes_on)
rights_of o f es stages.Closed at = (at.are.dones, at.are.goes_on)

noted_good : (s : Setup) (h : History) → AreNoted s s.notes h → GoesOn h → Good s h
noted_good s [] are on = are
noted_good s (noted n outs ∷ h) are on = are
noted_good s (started n w job ∷ h) are on = absurd (only s.notes are)
  where
    only : (xs : List Noting) → AreNoted s xs (started n w job ∷ h) → ⊥
    only [] is = is
    only (x ∷ xs) is = is
noted_good s (refused n w ∷ h) are on = absurd (only s.notes are)
  where
    only : (xs : List Noting) → AreNoted s xs (refused n w ∷ h) → ⊥
    only [] is = is
    only (x ∷ xs) is = is
noted_good s (finished n outs ∷ h) are on = absurd (only s.notes are)
  where
    only : (xs : List Noting) → AreNoted s xs (finished n outs ∷ h) → ⊥
    only [] is = is
    only (x ∷ xs) is = is
noted_good s (failed n ∷ h) are on = absurd (only s.notes are)
  where
    only : (xs : List Noting) → AreNoted s xs (failed n ∷ h) → ⊥
    only [] is = is
    only (x ∷ xs) is = is
noted_good s (abandoned ∷ h) are on = absurd on

-- ---- calls

-- it was stopped as it began
pub begin_went : {D K : Type 0} {state : D → DiskState} {tells : K → History → Type 0}
    {law : K → Meaning} (T : Type 0) (parts : Parts) (es : List Entry) (d d_new : D)
    (link link_new : K) (e : Halt) → link_new ≡ link → IsNotLost e
    → ((o : Origin) → o.texts ≡ parts.texts → StandsFor o es (state d)
    → Always (Stands o) (state d) (state d_new)) → (call : Call)
    → Enters state tells law parts es d link call
    → (before : History)
    × Went tells call (state d) (state d_new) link_new before (failing {T = T} (fault_of_halt e))
begin_went {K = K} {state = state} {tells = tells} T parts es d d_new link link_new e same found
    stands call enters =
    let for = enters.stands in
    let rights = rights_of call.origin (state d).folder es (stage_of es) for.stands in
    let events = events_of call.origin call.setup (state d).folder 0 es call.run_is for.rules
    rights.0 in
    let are : AreNoted call.setup call.setup.notes events.0 =
    subst (λ (xs : List Noting). AreNoted call.setup xs events.0) (sym enters.given.notes_are)
    events.1.are in
    let on = noted_go_on call.setup call.setup.notes events.0 are in (
      events.0,
      record {
        always = stands call.origin enters.texts_are for;
        history = [];
        told = subst (λ (l : K). tells l call.past) (sym same) enters.told;
        are = are;
        good = noted_good call.setup events.0 are on;
        goes_on = on;
        recorded = λ n is.
            events.1.noted n (done_among call.origin.stood es n rights.1 is);
        shows = halt_shows T call.setup events.0 e found;
        kept = λ whole. absurd (whole (halt_cut e));
        running = λ is. absurd (halt_fruitless T e is);
        sound = halt_sound T e;
        closed = tt;
      },
    )

module _ {D K : Type 0} {state : D → DiskState} {tells : K → History → Type 0} {jobs : K → Flying}
    {law : K → Meaning} where
  -- it was stopped on its way
  pub drive_went : (T : Type 0) (parts : Parts) (es : List Entry) (d d_new : D) (link : K)
      (two : Moment D K) (link_new : K) (cost : Cost) (e : Halt) (three : Moment D K)
      → three.disk ≡ d_new → three.link ≡ link_new
      → ((o : Origin) → o.texts ≡ parts.texts → StandsFor o es (state d)
      → Always (Stands o) (state d) (state two.disk))
      → ((call : Call) → Enters state tells law parts es d link call
      → Begun state tells jobs law call two)
      → Goes state tells jobs law two three (HasCosts cost) HasRound (Err e) → (call : Call)
      → Enters state tells law parts es d link call → cost ≡ call.setup.cost
      → (before : History)
      × Went tells call (state d) (state d_new) link_new before (failing {T = T} (fault_of_halt e))
  drive_went T parts es d d_new link two link_new cost e three disk_is link_is stands begun goes call
      enters costs =
      let start = begun call enters in
      let c : Course = course_of call start.0 in
      let a = goes c 0 [] start.2 costs in
      let s = a.1.0 in (
        start.0,
        record {
          always = subst (λ (x : D). Always (Stands call.origin) (state d) (state x)) disk_is
              (always_then (Stands call.origin) (state d) (state two.disk) (state three.disk)
              (stands call.origin enters.texts_are enters.stands) a.0);
          history = s.history;
          told = subst (λ (l : K). tells l (s.history ++ call.past)) link_is s.told;
          are = start.1;
          good = s.good;
          goes_on = s.goes_on;
          recorded = λ n is. start.2.noted n
              (done_among call.origin.stood two.store.entries n start.2.running.are.goes_on is);
          shows = halt_shows T call.setup (s.history ++ start.0) e a.1.1;
          kept = λ whole. absurd (whole (halt_cut e));
          running = λ is. absurd (halt_fruitless T e is);
          sound = halt_sound T e;
          closed = tt;
        },
      )

  -- it came to its end
  pub end_went : (T : Type 0) (parts : Parts) (es : List Entry) (d d_new : D) (link : K)
      (two : Moment D K) (link_new : K) (cost : Cost) (v : Verdict) (r : Result T RunFault)
      (three : Moment D K) → link_new ≡ three.link
      → ((o : Origin) → o.texts ≡ parts.texts → StandsFor o es (state d)
      → Always (Stands o) (state d) (state two.disk))
      → ((call : Call) → Enters state tells law parts es d link call
      → Begun state tells jobs law call two)
      → Goes state tells jobs law two three (HasCosts cost) HasRound (Ok v)
      → ((c : Course) (k : ℕ) (h : History) → Joined state tells jobs law c three k h
      → IsVerdict c.setup k (h ++ c.noted) v
      → Concludes c h (state three.disk) (state d_new) r)
      → ((call : Call) → Enters state tells law parts es d link call → (k index : ℕ)
      → IsMisfit call.setup k index → ⊥) → (call : Call)
      → Enters state tells law parts es d link call → cost ≡ call.setup.cost
      → (before : History) × Went tells call (state d) (state d_new) link_new before r
  end_went T parts es d d_new link two link_new cost v r three link_is stands begun goes concludes fits
      call enters costs =
      let start = begun call enters in
      let c : Course = course_of call start.0 in
      let a = goes c 0 [] start.2 costs in
      let at = a.1 in
      let ends = concludes c at.questions at.history at.joined at.holds.0 in (
        start.0,
        record {
          always = always_then (Stands call.origin) (state d) (state three.disk) (state d_new)
              (always_then (Stands call.origin) (state d) (state two.disk) (state three.disk)
              (stands call.origin enters.texts_are enters.stands) a.0) ends.always;
          history = at.history;
          told = subst (λ (l : K). tells l (at.history ++ call.past)) (sym link_is) at.joined.told;
          are = start.1;
          good = at.joined.stands.bears.tables.good;
          goes_on = at.joined.goes_on;
          recorded = λ n is. start.2.noted n
              (done_among call.origin.stood two.store.entries n start.2.running.are.goes_on is);
          shows = ends.shows;
          kept = ends.kept;
          running = ends.running;
          sound = λ index is.
              let m : Shows call.setup (at.history ++ start.0) (failing {T = T} (fault.BadRecord index)) =
              subst (Shows call.setup (at.history ++ start.0)) is ends.shows in
              fits call enters m.0 index m.1;
          closed = ends.closed;
        },
      )
