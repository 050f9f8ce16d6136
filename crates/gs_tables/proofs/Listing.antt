-- Open tasks, and how they are listed.
use Rattle.std.proofs.Common.{◌≡◌, ◌<◌, ◌≤◌, ◌+◌, ℕ, zero, suc, Bool, true, false, refl, sym, ap, ◌∙◌, subst, List, ◌||◌, ◌==◌, length, arith, Option, Some, None, IsSome, is_some, inl, inr, ◌∷◌, []}
use Rattle.std.specs.Prelude.{min}
use Rattle.std.specs.List.{slice_get}
use Rattle.std.proofs.lemmas.Bool.Decides.{eqb_tells}
use Rattle.gs_policy.specs.declared.limits.TheConstants.{BYTES_LIMIT}
use Rattle.gs_broker.specs.declared.choice.Ready.{Ready}
use Rattle.gs_types.specs.declared.note.Version.{Version}
use Rattle.gs_types.specs.declared.note.Version.TheVariants.{Original, Out, Main}
use Rattle.gs_types.specs.declared.value.Value.{Value}
use Rattle.gs_types.specs.History.{History, outs_in}
use Rattle.gs_graph.specs.Graph.{done_in, needs_in, count_in, followers_in, ListsReady, ListsFollowers}
use Rattle.gs_graph.specs.Numbers.{has}
use Rattle.gs_talk.specs.Seq.{Task, task_at, IsTask}
use Rattle.gs_talk.specs.Actions.{DependsOn}
use Rattle.gs_talk_laws.specs.Numbers.{at_number}
use Rattle.gs_talk_laws.specs.Versions.{readings, IsTaskOf}
use Rattle.gs_talk_laws.proofs.Depends.{reads_what_it_depends_on}
use Rattle.gs_talk_laws.proofs.Stays.{tasks_read_versions, readings_stay}
use Rattle.gs_talk_laws.proofs.Lists.{get_within}
use Rattle.gs_history.specs.Setup.{Setup, world_at, count_at}
use Rattle.gs_history.specs.Frontier.{IsDone, IsThere}
use Rattle.gs_history.specs.Ready.{IsOpen, input_bytes}
use Rattle.gs_history.proofs.Dependences.{inputs_are_versions, depends_before, number_some}
use Rattle.gs_tables.specs.Rows.{row_at, listed_row, read_lengths}
use Rattle.gs_tables.specs.Sources.{feeds}
use Rattle.gs_tables.specs.Table.{is_open, entry_of, followers_of}
use Rattle.gs_tables.specs.Holds.{Holds}
use Rattle.gs_tables.specs.Starts.{IsSmall, IsEntry, IsOpenSaid, Follow}
use Rattle.gs_tables.specs.declared.row.Row.{Row}
use Rattle.gs_tables.specs.declared.tables.Tables.{Tables}
use Rattle.gs_tables.proofs.Reading.{is_left_of}
use Rattle.gs_tables.proofs.Supplying.{supplied}

-- ---- how it is listed

pub entry_is : (t : Tables) (s : Setup) (k n : ℕ) (h : History) (task : Task) → Holds t s k h → IsSmall task → task_at (world_at s k).tasks n ≡ Some task → ((m : ℕ) → DependsOn s.run n m → IsDone h m) → IsEntry (entry_of t n) n task
unfolding entry_of
entry_is t s k n h task holds small at inputs =
    let all = supplied t s k n h task holds at inputs in
    let row = all.row in
    let bytes : read_lengths t.rows.items row.reads row.kept ≡ input_bytes task.args = all.ok.1 ∙ sym (ap input_bytes all.args_are) in
    let to : listed_row t.rows.items n (row_at t.rows.items n) ≡ listed_row t.rows.items n (Some row) = ap (listed_row t.rows.items n) all.at in
    let op = all.op in
    let few = small.op in
    let less = small.bytes in
    record {
      number = ap (λ (r : Ready). r.n) to;
      op_is = ap (λ (r : Ready). r.op) to ∙ exact_op row.op task.op op few;
      bytes_are = ap (λ (r : Ready). r.bytes) to ∙ exact (read_lengths t.rows.items row.reads row.kept) (input_bytes task.args) bytes less;
    }
  where
    exact_op : (a b : ℕ) → a ≡ b → b < 64 → min a 63 ≡ b
    exact_op a b e lt = omega arith

    exact : (a b : ℕ) → a ≡ b → b ≤ BYTES_LIMIT → min a BYTES_LIMIT ≡ b
    exact a b e le = omega arith

-- ---- which tasks are open

feeds_at : (p i place : ℕ) (reads : List (Option Version)) → slice_get reads i ≡ Some (Some (Out p place)) → feeds p reads ≡ true
feeds_at p i place [] e = absurd cc
feeds_at p zero place (v ∷ reads) e = let same : v ≡ Some (Out p place) = cc in ap (λ (x : Option Version). feeds p (x ∷ reads)) same ∙ here p (feeds p reads)
  where
    here : (p : ℕ) (b : Bool) → ((p == p) || b) ≡ true
    here p b = elim (eqb_tells p p) [ inl same ↦ ap (λ (t : Bool). t || b) same.0 | inr other ↦ absurd (other.1 refl) ]
feeds_at p (suc i) place (None ∷ reads) e = feeds_at p i place reads e
feeds_at p (suc i) place (Some (Original name) ∷ reads) e = feeds_at p i place reads e
feeds_at p (suc i) place (Some (Main j) ∷ reads) e = feeds_at p i place reads e
feeds_at p (suc i) place (Some (Out m at) ∷ reads) e = ap (λ (b : Bool). (m == p) || b) (feeds_at p i place reads e) ∙ or_true (m == p)
  where
    or_true : (b : Bool) → (b || true) ≡ true
    or_true true = refl
    or_true false = refl

fed_by : (p : ℕ) (reads : List (Option Version)) → feeds p reads ≡ true → (i : ℕ) × (place : ℕ) × (slice_get reads i ≡ Some (Some (Out p place)))
fed_by p [] e = absurd cc
fed_by p (None ∷ reads) e = let r = fed_by p reads e in (suc r.0, r.1, r.2)
fed_by p (Some (Original name) ∷ reads) e = let r = fed_by p reads e in (suc r.0, r.1, r.2)
fed_by p (Some (Main j) ∷ reads) e = let r = fed_by p reads e in (suc r.0, r.1, r.2)
fed_by p (Some (Out m at) ∷ reads) e = elim (eqb_tells m p) [
  | inl same ↦ (0, at, ap (λ (j : ℕ). Some (Some (Out j at))) same.1)
  | inr other ↦ let r = fed_by p reads (ap (λ (b : Bool). b || feeds p reads) (sym other.0) ∙ e) in (suc r.0, r.1, r.2)
]

task_below : (xs : List Task) (n : ℕ) (t : Task) → task_at xs n ≡ Some t → n ≤ length xs
task_below xs zero t e = omega arith
task_below xs (suc n) t e = let lt = get_within xs n t e in omega arith

none_if : (o : Option (List Value)) → is_some o ≡ false → o ≡ None
none_if None e = refl
none_if (Some v) e = absurd cc

-- what a task reads comes from earlier tasks
read_first : (s : Setup) (k n i m place : ℕ) (task : Task) (reads : List (Option Version)) → IsTaskOf s.run (world_at s k) n task reads → slice_get reads i ≡ Some (Some (Out m place)) → (0 < m) × (m < n)
read_first s k n i m place task reads of e =
    let r = of.each i (Out m place) e in
    let left = is_left_of s k m place r.name r.version in
    (number_some (world_at s k) m left.task left.is, r.before)

version_there : (t : Tables) (s : Setup) (k n : ℕ) (h : History) (task : Task) (reads : List (Option Version)) → Holds t s k h → IsTaskOf s.run (world_at s k) n task reads → at_number (readings s.run k) n ≡ Some reads → n ≤ count_at s k
    → ((p : ℕ) → needs_in t.graph n p ≡ true → done_in t.graph p ≡ true) → (i : ℕ) (v : Version) → slice_get reads i ≡ Some (Some v) → IsThere h v
version_there t s k n h task reads holds of now le produced i (Original name) e = tt
version_there t s k n h task reads holds of now le produced i (Main j) e = tt
version_there t s k n h task reads holds of now le produced i (Out m place) e =
    let first = read_first s k n i m place task reads of e in
    let before = first.0 in
    let after = first.1 in
    sym (holds.graph.done m before (omega arith)) ∙ produced m (holds.graph.needs n m reads now ∙ feeds_at m i place reads e)

-- what the graph lists is open
pub listed_open : (t : Tables) (s : Setup) (k n : ℕ) (h : History) (task : Task) → Holds t s k h → ListsReady t.graph → task_at (world_at s k).tasks n ≡ Some task → is_open t n ≡ true → IsOpen s h n task
unfolding is_open
listed_open t s k n h task holds lists at is =
    let ready = lists.sound n is in
    let known = tasks_read_versions s.run k n task at in
    let le = task_below (world_at s k).tasks n task at in
    record {
      moment = k;
      within = holds.within;
      called = at;
      unfinished = none_if (outs_in h n) (sym (holds.graph.done n ready.first le) ∙ ready.unfinished);
      inputs = (inputs_are_versions s h k n known.0 known.1).done (version_there t s k n h task known.0 holds known.2 known.1 le ready.produced);
    }

-- an open task is listed by the graph
pub open_listed : (t : Tables) (s : Setup) (k n : ℕ) (h : History) (task : Task) → Holds t s k h → ListsReady t.graph → task_at (world_at s k).tasks n ≡ Some task → outs_in h n ≡ None → ((m : ℕ) → DependsOn s.run n m → IsDone h m) → is_open t n ≡ true
unfolding is_open
open_listed t s k n h task holds lists at none inputs =
    let known = tasks_read_versions s.run k n task at in
    let reads = known.0 in
    let le = task_below (world_at s k).tasks n task at in
    let pos = number_some (world_at s k) n task at in
    let count = holds.graph.count in
    let there = (inputs_are_versions s h k n reads known.1).there inputs in
    lists.full n (record {
      first = pos;
      added = omega arith;
      unfinished = holds.graph.done n pos le ∙ ap is_some none;
      produced = λ p e.
          let fed = fed_by p reads (sym (holds.graph.needs n p reads known.1) ∙ e) in
          let first = read_first s k n fed.0 p fed.1 task reads known.2 fed.2 in
          let before = first.0 in
          let after = first.1 in
          holds.graph.done p before (omega arith) ∙ there fed.0 (Out p fed.1) fed.2;
    })

pub said_open : (t : Tables) (s : Setup) (k n : ℕ) (h : History) (task : Task) → Holds t s k h → ListsReady t.graph → task_at (world_at s k).tasks n ≡ Some task → (b : Bool) → is_open t n ≡ b → IsOpenSaid s h n task b
said_open t s k n h task holds lists at true e = listed_open t s k n h task holds lists at e
said_open t s k n h task holds lists at false e = λ is. let f : true ≡ false = sym (open_listed t s k n h task holds lists at is.unfinished is.inputs) ∙ e in cc

-- ---- who follows

has_at : (n : ℕ) (xs : List ℕ) → has n xs ≡ true → (i : ℕ) × (slice_get xs i ≡ Some n)
has_at n [] e = absurd cc
has_at n (x ∷ xs) e = elim (eqb_tells x n) [
  | inl same ↦ (0, ap Some same.1)
  | inr other ↦ let r = has_at n xs (ap (λ (b : Bool). b || has n xs) (sym other.0) ∙ e) in (suc r.0, r.1)
]

pub follow : (t : Tables) (s : Setup) (k n : ℕ) (h : History) → Holds t s k h → ListsFollowers t.graph n → Follow s k n (followers_of t n)
unfolding followers_of
follow t s k n h holds lists m task at depends =
    let known = tasks_read_versions s.run k m task at in
    let from = reads_what_it_depends_on s.run m n depends in
    let later = readings_stay s.run from.moment (from.moment + k) m from.reads (omega arith) from.is in
    let now = readings_stay s.run k (from.moment + k) m known.0 (omega arith) known.1 in
    let same : Some from.reads ≡ Some known.0 = sym later ∙ now in
    let is : from.reads ≡ known.0 = cc in
    let fed = feeds_at n from.place from.from known.0 (ap (λ (l : List (Option Version)). slice_get l from.place) (sym is) ∙ from.version) in
    has_at m (followers_in t.graph n) (lists m ∙ holds.graph.needs m n known.0 known.1 ∙ fed)
