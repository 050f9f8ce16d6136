-- What the core needs from the disk, answered.
use Rattle.std.proofs.Common.{◌≡◌, ◌≢◌, ℕ, suc, ◌+◌, ◌<◌, ◌≤◌, ◌^◌, List, [], ◌∷◌, ◌++◌, length, Option, Some, None, Result, Ok, Err, refl, sym, ap, subst, ◌∙◌, arith, add-one, inl, inr}
use Rattle.std.specs.Prelude.{option_map, map}
use Rattle.std.proofs.lemmas.List.{length-map}
use Rattle.std.proofs.lemmas.Bool.Decides.{eqb_tells}
use Rattle.gs_types.specs.Job.{Meaning}
use Rattle.gs_types.specs.History.{History}
use Rattle.gs_types.specs.declared.note.Version.{Version}
use Rattle.gs_types.specs.declared.note.Version.TheVariants as versions
use Rattle.gs_disk.specs.Folder.{Folder, DiskState, Same, KeepsOthers}
use Rattle.gs_disk.specs.Moments.{Leaves, Passes}
use Rattle.gs_disk.specs.Going.{always_then, same_started}
use Rattle.gs_disk.specs.Name.{IsUser}
use Rattle.gs_site.specs.Link.{Flying}
use Rattle.gs_store.specs.Apart.{version_apart}
use Rattle.gs_store.specs.Names.{version_name, main_name}
use Rattle.gs_store.specs.State.{StoreState}
use Rattle.gs_store.specs.Versions.{len_of}
use Rattle.gs_store.specs.Told.{PutsVersion, IsOutside}
use Rattle.gs_store.specs.declared.err.StoreErr.{StoreErr}
use Rattle.gs_store.specs.declared.err.StoreErr.TheVariants as stores
use Rattle.gs_talk.specs.Seq.{Run, Content, Known, Standing as SeqStanding, seq, step_by}
use Rattle.gs_talk.specs.Talk.{Dialogue, Done, Ask, Stop}
use Rattle.gs_talk.specs.declared.question.Question.TheVariants as q
use Rattle.gs_talk_laws.specs.Numbers.{at_number}
use Rattle.gs_talk_laws.specs.Fuels.{IsClosed}
use Rattle.gs_talk_laws.specs.Versions.{version_value}
use Rattle.gs_talk_laws.proofs.Fuels.{same_closed}
use Rattle.gs_talk_laws.proofs.Lists.{get_last}
use Rattle.gs_talk_laws.proofs.Staying.{next_seq}
use Rattle.gs_history.specs.Setup.{Setup, world_at, rest_at}
use Rattle.gs_history.specs.Frontier.{IsThere, MayGoOn}
use Rattle.gs_looks.specs.Looked.{IsSeen}
use Rattle.gs_looks.specs.declared.look.Seen.{Seen}
use Rattle.gs_tables.specs.Table.{mains_in}
use Rattle.gs_tables.specs.Asked.{IsKept}
use Rattle.gs_tables.specs.declared.tables.Tables.{Tables}
use Rattle.gs_core.specs.Core.{Stands as CoreStands, Advances}
use Rattle.gs_core.specs.Stages.{ahead, with_seen, with_saved, AnswersLook, IsLoaded, ByAsked, LoadBy, SaveBy}
use Rattle.gs_core.specs.declared.machine.Core.{Core}
use Rattle.gs_core.specs.declared.stage.Stage.{Stage}
use Rattle.gs_core.specs.declared.stage.Stage.TheVariants as stage
use Rattle.gs_core.specs.declared.stage.Step.{Step}
use Rattle.gs_core.specs.declared.stage.Step.TheVariants as step
use Rattle.gs_core.specs.declared.stage.Loaded.{Loaded}
use Rattle.gs_finish.specs.Finishing.{IsNotLost}
use Rattle.gs_finish.specs.Halting.{Lacks, halt_of}
use Rattle.gs_finish.specs.declared.halt.Halt.{Halt}
use Rattle.gs_finish.specs.declared.halt.Halt.TheVariants.{Disk, NoMemory, Lost}
use Rattle.gs_life.specs.Origin.{contents}
use Rattle.gs_life.specs.Stands.{Stands}
use Rattle.gs_life.proofs.Images.{stays_running}
use Rattle.gs_engine.specs.Joined.{Course, Moment, Joined, MainsStand, Before, Goes}
use Rattle.gs_engine.specs.Reading.{IsOwn, held, LacksLength}
use Rattle.gs_engine.specs.Steps.{Needs, always, whatever}
use Rattle.gs_engine.proofs.Standing.{rules_of, same_stands, stopped_here, joined_same}
use Rattle.gs_engine.proofs.Due.{versions_stand}

-- ---- what was read of a version

-- it is what the version holds in the sequential run
loaded_by : (s : Setup) (k : ℕ) (h : History) (v : Version) (kept : Option ℕ) (f : Folder)
    → IsOwn v → IsThere h v → IsKept s k v kept
    → ((x : List ℕ) → IsUser x → contents f x ≡ s.run.files x)
    → ((bytes : List ℕ) → version_value s.run.files (world_at s k) v ≡ Some (Known bytes)
    → f (version_name v) ≡ Some bytes)
    → held f v ≡ version_value s.run.files (world_at s k) v
loaded_by s k h v (Some kept) f own there (bytes, is, long) users stands =
    ap (option_map Known) (stands bytes is) ∙ sym is
loaded_by s k h v None f own there (name, is) users stands =
    subst (λ (w : Version). held f w ≡ version_value s.run.files (world_at s k) w) (sym is)
    (users name (subst IsOwn is own))

of_open : (s : Setup) (k : ℕ) (h : History) (v : Version) (kept : Option ℕ) (d : Dialogue)
    → MayGoOn s h k d → ByAsked (LoadBy s k v kept) d → IsThere h v × IsKept s k v kept
of_open s k h v kept (Done n st) may by = absurd may
of_open s k h v kept (Stop x st) may by = absurd may
of_open s k h v kept (Ask (q.OpenFile name mode line) st next) may by =
    (subst (IsThere h) (sym by.0) may, by.1)
of_open s k h v kept (Ask (q.Call op line args) st next) may by = absurd by
of_open s k h v kept (Ask (q.Use n place) st next) may by = absurd by
of_open s k h v kept (Ask (q.CloseFile name bytes) st next) may by = absurd by
of_open s k h v kept (Ask q.Barrier st next) may by = absurd by
of_open s k h v kept (Ask q.End st next) may by = absurd by
of_open s k h v kept (Ask (q.Fault line kind) st next) may by = absurd by
of_open s k h v kept (Ask q.FuelOut st next) may by = absurd by

-- ---- answers

abbrev pub done : Result (Unit {0}) Halt
done = Ok tt

abbrev pub halt : Halt → Result (Unit {0}) Halt
halt e = Err e

-- ---- what is lost

-- an error of the disk or of memory is no loss
pub outside_found : (e : StoreErr) → IsOutside e → IsNotLost (halt_of e)
outside_found (stores.BadLog at) out = tt
outside_found (stores.BadRecord index) out = tt
outside_found (stores.LostVersion v kept found) out = absurd out
outside_found stores.DiskFault out = tt
outside_found stores.NoMemory out = tt

-- what isn't lost lacks nothing
pub found_lacks : (f : Folder) (e : Halt) → IsNotLost e → LacksLength f e
found_lacks f (Lost v kept found) never = absurd never
found_lacks f Disk never = tt
found_lacks f NoMemory never = tt

pub version_lacks : (f g : Folder) (v : Version) (kept : Option ℕ) (e : Halt) → g ≡ f
    → Lacks f v kept e → LacksLength g e
version_lacks f g v kept (Lost w len found) same lacks = (
  lacks.2 ∙ ap (λ (h : Folder). len_of h v) (sym same) ∙ ap (len_of g) (sym lacks.0),
  lacks.3,
)
version_lacks f g v kept Disk same lacks = tt
version_lacks f g v kept NoMemory same lacks = tt

-- ---- nothing more is ahead

looked_few : (t u : Tables) (g s : Stage) → u ≡ t → ahead s ≡ 0
    → length (mains_in u) + ahead s ≤ length (mains_in t) + ahead g
looked_few t u g s same none =
    let a = ap (λ (x : Tables). length (mains_in x)) same in omega (arith, a, none)

seen_ahead : (seen : Seen) (g : Stage) → ahead (with_seen seen g) ≡ 0
seen_ahead seen stage.Open = refl
seen_ahead seen (stage.Looking name) = refl
seen_ahead seen (stage.Looked name other) = refl
seen_ahead seen stage.Loading = refl
seen_ahead seen (stage.Loaded l) = refl
seen_ahead seen (stage.Saving len) = refl
seen_ahead seen (stage.Saved len) = refl
seen_ahead seen stage.Settled = refl

answers_look : (s : Setup) (seen : Seen) (g : Stage) (name : List ℕ) → g ≡ stage.Looking name
    → IsSeen (s.run.files name) seen → AnswersLook s seen g
answers_look s seen g name is seen_is =
    subst (AnswersLook s seen) (sym is) seen_is

-- ---- a content more is kept

abbrev pub kept : Result (Unit {0}) StoreErr
kept = Ok tt

-- the content that the program closes is the next of those that it closes
record IsNextClosed (s : Setup) (k n : ℕ) (bytes : List ℕ) : Type 0 where
  number : n ≡ length (world_at s k).closed + 1
  after : (world_at s (suc k)).closed ≡ (world_at s k).closed ++ bytes ∷ []

saved_is : (s : Setup) (k n : ℕ) (bytes : List ℕ) (d : Dialogue) → rest_at s k ≡ d
    → ByAsked (SaveBy s k n bytes) d → IsNextClosed s k n bytes
saved_is s k n bytes (Done m st) is by = absurd by
saved_is s k n bytes (Stop x st) is by = absurd by
saved_is s k n bytes (Ask (q.CloseFile name content) st next) is by = record {
  number = by.0;
  after = ap (λ (at : SeqStanding). at.world.closed) (next_seq s.run k)
      ∙ ap (λ (d : Dialogue). (step_by s.run (seq s.run k) d).world.closed) is
      ∙ ap (λ (b : List ℕ). (world_at s k).closed ++ b ∷ []) (sym by.1);
}
saved_is s k n bytes (Ask (q.Call op line args) st next) is by = absurd by
saved_is s k n bytes (Ask (q.Use m place) st next) is by = absurd by
saved_is s k n bytes (Ask (q.OpenFile name mode line) st next) is by = absurd by
saved_is s k n bytes (Ask q.Barrier st next) is by = absurd by
saved_is s k n bytes (Ask q.End st next) is by = absurd by
saved_is s k n bytes (Ask (q.Fault line kind) st next) is by = absurd by
saved_is s k n bytes (Ask q.FuelOut st next) is by = absurd by

last_closed : (xs : List (List ℕ)) (x : List ℕ) (n : ℕ) → n ≡ length xs + 1
    → at_number (xs ++ x ∷ []) n ≡ Some x
last_closed xs x n is = ap (at_number (xs ++ x ∷ [])) (is ∙ add-one (length xs)) ∙ get_last xs x

-- the kept contents, and one more
mains_more : (s : Setup) (k n count more : ℕ) (bytes : List ℕ) (f g : Folder) → n < 2 ^ 32
    → (more ≤ n) × (n ≤ count + 1) → IsNextClosed s k n bytes
    → g (main_name n) ≡ Some bytes → KeepsOthers (main_name n ∷ []) f g → MainsStand s count f
    → MainsStand s more g
mains_more s k n count more bytes f g small counts next put others mains j m b le at =
    elim (eqb_tells m n) [
      | inl same ↦
          let mine : at_number (world_at s (suc k)).closed n ≡ Some bytes =
          ap (λ (l : List (List ℕ)). at_number l n) next.after
          ∙ last_closed (world_at s k).closed bytes n next.number in
          let one : IsClosed s.run n b =
          record { moment = j; is = ap (at_number (world_at s j).closed) (sym same.1) ∙ at } in
          let two : IsClosed s.run n bytes = record { moment = suc k; is = mine } in
          ap (λ (i : ℕ). g (main_name i)) same.1 ∙ put
          ∙ ap Some (same_closed s.run s.run.fuel s.run.fuel n bytes b two one)
      | inr other ↦
          let apart : main_name m ≢ main_name n =
          version_apart (versions.Main m) (versions.Main n) (omega (arith, le, counts.0, small))
          small (λ is. other.1 (main_one m n is)) in
          others.each (main_name m) (apart, tt)
          ∙ mains j m b (omega (arith, le, counts.0, counts.1, other.1)) at
    ]
  where
    main_one : (a c : ℕ) → versions.Main a ≡ versions.Main c → a ≡ c
    main_one a c is = cc

-- how many contents are kept
counted : (s : Setup) (k n : ℕ) (core core_new : Core) (bytes : List ℕ)
    → core.stage ≡ stage.Saving (length bytes) → core_new.tables ≡ core.tables
    → core_new.stage ≡ with_saved core.stage → mains_in core.tables ≡ map length (world_at s k).closed
    → n ≡ length (world_at s k).closed + 1
    → (length (mains_in core_new.tables) + ahead core_new.stage ≤ n)
    × (n ≤ length (mains_in core.tables) + ahead core.stage + 1)
counted s k n core core_new bytes saving tables set mains number =
    let a = ap (λ (t : Tables). length (mains_in t)) tables in
    let b = ap length mains in
    let d = length-map (world_at s k).closed length in
    let e = ap ahead (set ∙ ap with_saved saving) in
    let f = ap ahead saving in (omega (arith, a, b, d, e, number), omega (arith, b, d, f, number))

module _ {D K : Type 0} {state : D → DiskState} {tells : K → History → Type 0} {jobs : K → Flying}
    {law : K → Meaning} where
  users_of : {c : Course} {at : Moment D K} {k : ℕ} {h : History}
      → Joined state tells jobs law c at k h → (x : List ℕ) → IsUser x
      → contents (state at.disk).folder x ≡ c.setup.run.files x
  users_of {c} {at} j x user = ap (option_map Known) (j.running.users x user)
      ∙ sym (ap (λ (r : Run). r.files x) c.run_is)

  -- a file was looked at
  pub look_goes : (core core_new : Core) (store : StoreState) (d d_new : D) (link : K)
      (name : List ℕ) (seen : Seen) → IsUser name → core.stage ≡ stage.Looking name
      → IsSeen (held (state d).folder (versions.Original name)) seen
      → core_new.tables ≡ core.tables → core_new.stage ≡ with_seen seen core.stage
      → ((s : Setup) (k : ℕ) (h : History) → CoreStands core s k h
      → AnswersLook s seen core.stage → CoreStands core_new s k h)
      → (state d_new).folder ≡ (state d).folder → Passes Same (state d) (state d_new)
      → Goes state tells jobs law (record { core = core; store = store; disk = d; link = link })
      (record { core = core_new; store = store; disk = d_new; link = link })
      (Needs core (step.Look name)) whatever done
  look_goes core core_new store d d_new link name seen user looking seen_is tables set stands same
      passes c k h j p = (
        same_stands j d_new passes,
        record {
          questions = k;
          history = h;
          joined = joined_same j core_new d_new
              (stands c.setup k (h ++ c.noted) j.stands (answers_look c.setup seen core.stage name looking
              (subst (λ (o : Option Content). IsSeen o seen) (users_of j name user) seen_is)))
              (looked_few core.tables core_new.tables core.stage core_new.stage tables
              (ap ahead set ∙ seen_ahead seen core.stage)) same passes;
          holds = tt;
        },
      )

  -- a version was read
  pub load_goes : (core core_new : Core) (store : StoreState) (d d_new : D) (link : K)
      (v : Version) (kept : Option ℕ) (loaded : Loaded) → IsOwn v
      → IsLoaded (held (state d).folder v) loaded → core_new.tables ≡ core.tables
      → core_new.stage ≡ stage.Loaded loaded
      → ((s : Setup) (k : ℕ) (h : History) (u : Version) (len : Option ℕ) → CoreStands core s k h
      → ByAsked (LoadBy s k u len) (rest_at s k)
      → IsLoaded (version_value s.run.files (world_at s k) u) loaded → CoreStands core_new s k h)
      → (state d_new).folder ≡ (state d).folder → Passes Same (state d) (state d_new)
      → Goes state tells jobs law (record { core = core; store = store; disk = d; link = link })
      (record { core = core_new; store = store; disk = d_new; link = link })
      (Needs core (step.Load v kept)) whatever done
  load_goes core core_new store d d_new link v kept loaded own read tables set stands same passes
      c k h j p =
      let s = c.setup in
      let asked = of_open s k (h ++ c.noted) v kept (rest_at s k) p.0 p.1 in
      let holds : held (state d).folder v ≡ version_value s.run.files (world_at s k) v =
      loaded_by s k (h ++ c.noted) v kept (state d).folder own asked.0 asked.1 (users_of j)
      (λ bytes value. versions_stand j v bytes own asked.0 value) in (
        same_stands j d_new passes,
        record {
          questions = k;
          history = h;
          joined = joined_same j core_new d_new
              (stands s k (h ++ c.noted) v kept j.stands p.1
              (subst (λ (o : Option Content). IsLoaded o loaded) holds read))
              (looked_few core.tables core_new.tables core.stage core_new.stage tables
              (ap ahead set)) same passes;
          holds = tt;
        },
      )

  -- it was stopped, and nothing was changed
  pub halts_same : (core : Core) (store : StoreState) (d d_new : D) (link : K)
      → Passes Same (state d) (state d_new) → (P : Before) (Q : Unit {0} → Before) (e : Halt)
      → ((c : Course) (k : ℕ) (h : History) → Joined state tells jobs law c
      (record { core = core; store = store; disk = d; link = link }) k h → P c k h → IsNotLost e)
      → Goes state tells jobs law (record { core = core; store = store; disk = d; link = link })
      (record { core = core; store = store; disk = d_new; link = link }) P Q (halt e)
  halts_same core store d d_new link passes P Q e never c k h j p =
      (same_stands j d_new passes, (stopped_here j, never c k h j p))

  -- a version that is there isn't lost
  pub load_found : (core : Core) (store : StoreState) (d : D) (link : K) (v : Version)
      (kept : Option ℕ) (e : Halt) → IsOwn v → Lacks (state d).folder v kept e → (c : Course) (k : ℕ)
      (h : History) → Joined state tells jobs law c
      (record { core = core; store = store; disk = d; link = link }) k h
      → Needs core (step.Load v kept) c k h → IsNotLost e
  load_found core store d link v k_was (Lost w len found) own lacks c k h j p =
      let s = c.setup in
      let asked = of_open s k (h ++ c.noted) v k_was (rest_at s k) p.0 p.1 in
      let is : IsKept s k v (Some len) = subst (IsKept s k v) lacks.1 asked.1 in
      absurd (lacks.3 (lacks.2 ∙ ap (option_map length) (versions_stand j v is.0 own asked.0 is.1)
      ∙ ap Some (sym is.2)))
  load_found core store d link v k_was Disk own lacks c k h j p = tt
  load_found core store d link v k_was NoMemory own lacks c k h j p = tt

  -- a content was kept
  save_here : (core core_new : Core) (store : StoreState) (d d_new : D) (link : K) (n : ℕ)
      (bytes : List ℕ) → core.stage ≡ stage.Saving (length bytes) → n < 2 ^ 32
      → Leaves (state d_new) (state d_new).folder
      → PutsVersion store (versions.Main n) bytes (state d) (state d_new) kept
      → core_new.tables ≡ core.tables → core_new.stage ≡ with_saved core.stage
      → ((s : Setup) (k : ℕ) (h : History) → CoreStands core s k h → CoreStands core_new s k h)
      → Goes state tells jobs law (record { core = core; store = store; disk = d; link = link })
      (record { core = core_new; store = store; disk = d_new; link = link })
      (Needs core (step.Save n bytes)) whatever done
  unfolding mains_in
  save_here core core_new store d d_new link n bytes saving small reads puts tables set stands c k h
      j p =
      let runs = stays_running c.origin (rules_of j) store.entries (state d) (state d_new) reads
      j.steady j.running puts.any_moment in (
        runs.always,
        record {
          questions = k;
          history = h;
          joined = record {
            stands = stands c.setup k (h ++ c.noted) j.stands;
            told = j.told;
            goes_on = j.goes_on;
            law_is = j.law_is;
            own = j.own;
            steady = runs.steady;
            running = runs.running;
            recorded = j.recorded;
            noted = j.noted;
            kept =
                let next = saved_is c.setup k n bytes (rest_at c.setup k) refl p.1 in
                mains_more c.setup k n (length (mains_in core.tables) + ahead core.stage)
                (length (mains_in core_new.tables) + ahead core_new.stage) bytes (state d).folder
                (state d_new).folder small
                (counted c.setup k n core core_new bytes saving tables set
                j.stands.bears.tables.mains next.number) next puts.put puts.others j.kept;
          };
          holds = tt;
        },
      )

  -- the same, where the store that comes back is the same
  pub save_goes : (core core_new : Core) (store store_new : StoreState) (d d_new : D) (link : K)
      (n : ℕ) (bytes : List ℕ) → store_new ≡ store → core.stage ≡ stage.Saving (length bytes)
      → n < 2 ^ 32 → Leaves (state d_new) (state d_new).folder
      → PutsVersion store (versions.Main n) bytes (state d) (state d_new) kept
      → core_new.tables ≡ core.tables → core_new.stage ≡ with_saved core.stage
      → ((s : Setup) (k : ℕ) (h : History) → CoreStands core s k h → CoreStands core_new s k h)
      → Goes state tells jobs law (record { core = core; store = store; disk = d; link = link })
      (record { core = core_new; store = store_new; disk = d_new; link = link })
      (Needs core (step.Save n bytes)) whatever done
  save_goes core core_new store store_new d d_new link n bytes same saving small reads puts tables
      set stands =
      subst (λ (st : StoreState).
      Goes state tells jobs law (record { core = core; store = store; disk = d; link = link })
      (record { core = core_new; store = st; disk = d_new; link = link })
      (Needs core (step.Save n bytes)) whatever done) (sym same)
      (save_here core core_new store d d_new link n bytes saving small reads puts tables set stands)

  -- it was not kept
  pub save_halts : (core : Core) (store store_new : StoreState) (d d_new : D) (link : K) (n : ℕ)
      (bytes : List ℕ) (r : Result (Unit {0}) StoreErr) → Leaves (state d_new) (state d_new).folder
      → PutsVersion store (versions.Main n) bytes (state d) (state d_new) r
      → (P : Before) (Q : Unit {0} → Before) (e : Halt) → IsNotLost e
      → Goes state tells jobs law (record { core = core; store = store; disk = d; link = link })
      (record { core = core; store = store_new; disk = d_new; link = link }) P Q (halt e)
  save_halts core store store_new d d_new link n bytes r reads puts P Q e never c k h j p =
      let runs = stays_running c.origin (rules_of j) store.entries (state d) (state d_new) reads
      j.steady j.running puts.any_moment in (runs.always, (stopped_here j, never))

  -- nothing was done
  pub nothing_goes : (core : Core) (store : StoreState) (d : D) (link : K) (P : Before)
      → Goes state tells jobs law (record { core = core; store = store; disk = d; link = link })
      (record { core = core; store = store; disk = d; link = link }) P whatever done
  nothing_goes core store d link P c k h j p = (
    same_stands j d (same_started (state d)),
    record { questions = k; history = h; joined = j; holds = tt },
  )

  -- the program was asked as far as it may be
  pub advance_goes : (core core_new : Core) (store : StoreState) (d : D) (link : K) (x : Step)
      → ((s : Setup) (k : ℕ) (h : History) → CoreStands core s k h
      → Advances core core_new s k h x)
      → length (mains_in core_new.tables) + ahead core_new.stage
      ≤ length (mains_in core.tables) + ahead core.stage
      → Goes state tells jobs law (record { core = core; store = store; disk = d; link = link })
      (record { core = core_new; store = store; disk = d; link = link }) always
      (λ y. Needs core_new x) done
  advance_goes core core_new store d link x advances few c k h j p =
      let a = advances c.setup k (h ++ c.noted) j.stands in (
        same_stands j d (same_started (state d)),
        record {
          questions = a.0;
          history = h;
          joined = joined_same j core_new d a.1.stands few refl (same_started (state d));
          holds = a.1.due;
        },
      )

  -- it was stopped after that, and disk and link are the same
  pub halts_after : {one : Moment D K} {P : Before} (core core_new : Core)
      (store store_new : StoreState) (d : D) (link : K)
      → Goes state tells jobs law one
      (record { core = core; store = store; disk = d; link = link }) P whatever done
      → (Q : Unit {0} → Before) (e : Halt) → IsNotLost e
      → Goes state tells jobs law one
      (record { core = core_new; store = store_new; disk = d; link = link }) P Q (halt e)
  halts_after core core_new store store_new d link first Q e never c k h j p =
      let a = first c k h j p in (a.0, (stopped_here a.1.joined, never))

  -- one call more
  pub goes_on : {A B : Type 0} {one two : Moment D K} {P : Before} (Q : A → Before) (x : A)
      (three : Moment D K) (M : Before) (R : B → Before) (r : Result B Halt)
      → Goes state tells jobs law one two P Q (Ok x)
      → ((c : Course) (k : ℕ) (h : History) (m : ℕ) (g : History) → P c k h → Q x c m g → M c m g)
      → Goes state tells jobs law two three M R r → Goes state tells jobs law one three P R r
  goes_on {one} {two} Q x three M R r first more second c k h j p =
      let a = first c k h j p in
      let m = a.1.questions in
      let g = a.1.history in
      let b = second c m g a.1.joined (more c k h m g p a.1.holds) in (
        always_then (Stands c.origin) (state one.disk) (state two.disk) (state three.disk) a.0 b.0,
        b.1,
      )

  -- a call that stopped, of which more or less is said
  pub goes_stopped : {A B : Type 0} {one : Moment D K} {P : Before} (two : Moment D K)
      (Q : A → Before) (S : Before) (R : B → Before) (e : Halt)
      → ((c : Course) (k : ℕ) (h : History) → S c k h → P c k h)
      → Goes state tells jobs law one two P Q (Err e) → Goes state tells jobs law one two S R (Err e)
  goes_stopped two Q S R e more first c k h j p = first c k h j (more c k h p)

  -- it was stopped where it stood
  pub halts_now : {A : Type 0} {one two : Moment D K} {P : Before}
      → Goes state tells jobs law one two P whatever done → (R : A → Before) (e : Halt)
      → IsNotLost e → Goes state tells jobs law one two P R (Err e)
  halts_now first R e never c k h j p =
      let a = first c k h j p in (a.0, (stopped_here a.1.joined, never))

  -- nothing was done, and it was stopped
  pub nothing_halts : (core : Core) (store : StoreState) (d : D) (link : K) (P : Before)
      (Q : Unit {0} → Before) (e : Halt) → IsNotLost e
      → Goes state tells jobs law (record { core = core; store = store; disk = d; link = link })
      (record { core = core; store = store; disk = d; link = link }) P Q (halt e)
  nothing_halts core store d link P Q e never c k h j p =
      (same_stands j d (same_started (state d)), (stopped_here j, never))

  -- more is known of where it came to
  pub goes_known : {A : Type 0} {one two : Moment D K} {P : Before} (x : A) (R : A → Before)
      → Goes state tells jobs law one two P whatever (Ok x)
      → ((c : Course) (k : ℕ) (h : History) (m : ℕ) (g : History) → P c k h
      → Joined state tells jobs law c two m g → R x c m g)
      → Goes state tells jobs law one two P R (Ok x)
  goes_known x R first more c k h j p =
      let a = first c k h j p in (
        a.0,
        record {
          questions = a.1.questions;
          history = a.1.history;
          joined = a.1.joined;
          holds = more c k h a.1.questions a.1.history p a.1.joined;
        },
      )

  -- the program was asked as far as it may be, and what it needs was done
  pub advance_then : {one : Moment D K} (three : Moment D K) (core core_new : Core)
      (store : StoreState) (d : D) (link : K) (x : Step) (r : Result (Unit {0}) Halt)
      → Goes state tells jobs law one
      (record { core = core; store = store; disk = d; link = link }) always whatever done
      → ((s : Setup) (k : ℕ) (h : History) → CoreStands core s k h
      → Advances core core_new s k h x)
      → length (mains_in core_new.tables) + ahead core_new.stage
      ≤ length (mains_in core.tables) + ahead core.stage
      → Goes state tells jobs law
      (record { core = core_new; store = store; disk = d; link = link }) three (Needs core_new x)
      whatever r
      → Goes state tells jobs law one three always whatever r
  advance_then three core core_new store d link x r before advances few =
      goes_on (λ y. Needs core_new x) (tt {0}) three (Needs core_new x) whatever r
      (goes_on whatever (tt {0}) (record { core = core_new; store = store; disk = d; link = link }) always
      (λ y. Needs core_new x) done before (λ c k h m g p q. tt)
      (advance_goes core core_new store d link x advances few)) (λ c k h m g p q. q)

  -- it has settled
  pub settled_goes : {one : Moment D K} (core core_new : Core) (store : StoreState) (d : D)
      (link : K)
      → Goes state tells jobs law one
      (record { core = core; store = store; disk = d; link = link }) always whatever done
      → ((s : Setup) (k : ℕ) (h : History) → CoreStands core s k h
      → Advances core core_new s k h step.Settled)
      → length (mains_in core_new.tables) + ahead core_new.stage
      ≤ length (mains_in core.tables) + ahead core.stage
      → Goes state tells jobs law one
      (record { core = core_new; store = store; disk = d; link = link }) always whatever done
  settled_goes core core_new store d link before advances few =
      advance_then (record { core = core_new; store = store; disk = d; link = link }) core core_new
      store d link step.Settled done before advances few
      (nothing_goes core_new store d link (Needs core_new step.Settled))
