-- What a run that is over has recorded.
use Rattle.std.proofs.Common.{◌≡◌, ℕ, ◌==◌, ◌∙◌, Bool, append_assoc, List, [], ◌∷◌, ◌++◌, true, Ok, refl, sym, ap, subst}
use Rattle.std.specs.Prelude.{slice_index_or, ◌||◌}
use Rattle.std.specs.List.{list_any}
use Rattle.std.proofs.lemmas.List.Folds.{list_any-append}
use Rattle.gs_types.specs.Job.{Meaning}
use Rattle.gs_types.specs.History.{History}
use Rattle.gs_disk.specs.Folder.{Folder, DiskState}
use Rattle.gs_disk.specs.Moments.{EachNow}
use Rattle.gs_entries.specs.Order.{has_done, dones, done_by}
use Rattle.gs_entries.specs.declared.entry.Entry.{Entry}
use Rattle.gs_entries.specs.declared.entry.Entry.TheVariants as made
use Rattle.gs_site.specs.Link.{Flying}
use Rattle.gs_talk_laws.proofs.Lists.{prefix_same}
use Rattle.gs_talk_laws.specs.Fuels.{IsPrefixOf}
use Rattle.gs_core.specs.Core.{IsVerdict}
use Rattle.gs_core.specs.declared.verdict.Verdict.TheVariants as verdict
use Rattle.gs_finish.specs.declared.halt.Halt.{Halt}
use Rattle.gs_life.proofs.Images.{running_image}
use Rattle.gs_life.specs.Called.{Closes}
use Rattle.gs_life.specs.Origin.{Origin}
use Rattle.gs_life.specs.Stands.{IsRight, IsRunning, StandsClosed}
use Rattle.gs_engine.specs.Joined.{Course, Moment, Joined}
use Rattle.gs_engine.specs.Running.{StandsRunning, KeepsDone}
use Rattle.gs_engine.specs.Sealing.{WhereEnded}
use Rattle.gs_engine.proofs.Standing.{rules_of}

-- ---- entries that are added

dones_append : (es more : List Entry) → dones (es ++ more) ≡ dones es ++ dones more
dones_append [] more = refl
dones_append (e ∷ es) more = ap (λ (l : List ℕ). done_by e ++ l) (dones_append es more)
    ∙ sym (append_assoc (done_by e) (dones es) (dones more))

-- what is done stays so as entries are added
done_stays : (es more : List Entry) (n : ℕ) → has_done es n ≡ true
    → has_done (es ++ more) n ≡ true
done_stays es more n is = ap (list_any (λ m. n == m)) (dones_append es more)
    ∙ list_any-append (λ m. n == m) (dones es) (dones more)
    ∙ ap (λ (b : Bool). b || list_any (λ m. n == m) (dones more)) is

pub done_among : (stood es : List Entry) (n : ℕ) → IsPrefixOf stood es → has_done stood n ≡ true
    → has_done es n ≡ true
done_among stood es n part is =
    subst (λ (l : List Entry). has_done l n ≡ true) part.1 (done_stays stood part.0 n is)

-- ---- the run as it stands now

-- the same run, with the entries that stand now
abbrev stood_on : Origin → List Entry → Origin
stood_on o es = record {
  texts = o.texts;
  given = o.given;
  files = o.files;
  law = o.law;
  stood = es;
}

abbrev course_on : Course → List Entry → Course
course_on c es = record {
  origin = stood_on c.origin es;
  setup = c.setup;
  run_is = c.run_is;
  noted = c.noted;
  past = c.past;
}

right_on : (o : Origin) (es : List Entry) (f : Folder) (e : Entry) → IsRight o f e
    → IsRight (stood_on o es) f e
right_on o es f (made.Done n op notes) right = record {
  task = right.task;
  outs = right.outs;
  output = record {
    fuel = right.output.fuel;
    is = right.output.is;
    gave = right.output.gave;
  };
  op_is = right.op_is;
  notes_are = right.notes_are;
  files = right.files;
}
right_on o es f (made.Header t) right = right
right_on o es f (made.Gate g) right = right
right_on o es f made.Closed right = right

running_on : (o : Origin) (f : Folder) (es : List Entry) → IsRunning o f es
    → IsRunning (stood_on o es) f es
running_on o f es r = record {
  stage = r.stage;
  are = record {
    in_order = r.are.in_order;
    header = r.are.header;
    goes_on = prefix_same es;
    dones = λ k d lt. right_on o es f (slice_index_or es k d) (r.are.dones k d lt);
  };
  users = r.users;
}

module _ {D K : Type 0} {state : D → DiskState} {tells : K → History → Type 0} {jobs : K → Flying}
    {law : K → Meaning} where
  joined_on : (c : Course) (at : Moment D K) (k : ℕ) (h : History)
      → Joined state tells jobs law c at k h
      → Joined state tells jobs law (course_on c at.store.entries) at k h
  joined_on c at k h j = record {
    stands = j.stands;
    told = j.told;
    goes_on = j.goes_on;
    law_is = j.law_is;
    own = j.own;
    steady = j.steady;
    running = running_on c.origin (state at.disk).folder at.store.entries j.running;
    recorded = j.recorded;
    noted = j.noted;
    kept = j.kept;
  }

  -- where nothing more was done
  pub keeps_plain : (c : Course) (at : Moment D K) (k : ℕ) (h : History)
      → Joined state tells jobs law c at k h → KeepsDone (h ++ c.noted) (state at.disk)
  keeps_plain c at k h j = λ n is image left. record {
    entries = at.store.entries;
    are = (j.steady image left).entries;
    done = j.recorded n is;
  }

  pub runs_plain : (c : Course) (at : Moment D K) (k : ℕ) (h : History)
      → Joined state tells jobs law c at k h → EachNow (StandsRunning c.origin) (state at.disk)
  runs_plain c at k h j = λ image left. (
    at.store.entries,
    (j.steady image left).entries,
    running_image c.origin (rules_of j) at.store.entries (state at.disk).folder image
        (j.steady image left) j.running,
  )

  -- where the results were brought back
  pub keeps_sealed : (T : Type 0) (at : Moment D K) (d_new : D) (x : T)
      → WhereEnded state tells jobs law at
      (λ o. Closes {T = T} {E = Halt} o (state at.disk) (state d_new) (Ok x)) → (c : Course) (k : ℕ)
      (h : History) → Joined state tells jobs law c at k h
      → IsVerdict c.setup k (h ++ c.noted) verdict.Ended → KeepsDone (h ++ c.noted) (state d_new)
  keeps_sealed T at d_new x closes c k h j ends =
      let es = at.store.entries in
      let closed : EachNow (StandsClosed (stood_on c.origin es)) (state d_new) =
      (closes (course_on c es) k h (joined_on c at k h j) ends).closed in
      λ n is image left. let stands = closed image left in record {
        entries = stands.0;
        are = stands.1;
        done = done_among es stands.0 n stands.2.are.goes_on (j.recorded n is);
      }
