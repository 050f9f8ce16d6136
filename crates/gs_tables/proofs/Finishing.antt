-- A task has finished.
use Rattle.std.proofs.Common.{◌≡◌, ◌≢◌, ◌<◌, ◌≤◌, ◌+◌, ◌-◌, ◌==◌, ℕ, zero, suc, Bool, true, false, refl, sym, ap, ◌∙◌, subst, List, [], ◌∷◌, length, arith, Option, Some, None, is_some, if◌then◌else◌, inl, inr}
use Rattle.std.specs.Prelude.{option_map, slice_set}
use Rattle.std.specs.List.{slice_get}
use Rattle.std.proofs.lemmas.Bool.{cases_lt, ne_eqb}
use Rattle.std.proofs.lemmas.Bool.Decides.{eqb_tells}
use Rattle.gs_types.specs.declared.note.OutNote.{OutNote}
use Rattle.gs_types.specs.declared.note.Version.{Version}
use Rattle.gs_types.specs.declared.value.Value.{Value}
use Rattle.gs_types.specs.History.{History, finished, outs_in}
use Rattle.gs_graph.specs.Edges.{done_too}
use Rattle.gs_graph.specs.Graph.{count_in, done_in, needs_in, actions_in}
use Rattle.gs_names.specs.Table.{names_in}
use Rattle.gs_talk.specs.Seq.{Task, task_at, IsTask}
use Rattle.gs_talk.specs.Actions.{acts}
use Rattle.gs_talk_laws.proofs.Lists.{get_within}
use Rattle.gs_history.specs.Setup.{Setup, world_at, count_at}
use Rattle.gs_history.specs.Frontier.{one_unless, unfinished}
use Rattle.gs_history.specs.Good.{IsFinish}
use Rattle.gs_history.proofs.Events.{within_more, event_keeps}
use Rattle.gs_history.proofs.Ending.{one_task}
use Rattle.gs_history.proofs.Opening.{flying_is_open}
use Rattle.gs_tables.specs.Outs.{outs_noted}
use Rattle.gs_tables.specs.Rows.{IsRow, IsFinishedRow, row_at}
use Rattle.gs_tables.specs.Marks.{AreMade}
use Rattle.gs_tables.specs.Holds.{HasRow, Holds}
use Rattle.gs_tables.specs.declared.row.Row.{Row}
use Rattle.gs_tables.specs.declared.tables.Tables.{Tables}

-- ---- one row

set_here : (rows : List Row) (i : ℕ) (r x : Row) → slice_get rows i ≡ Some r → slice_get (slice_set rows i x) i ≡ Some x
set_here [] i r x e = absurd cc
set_here (y ∷ rows) zero r x e = refl
set_here (y ∷ rows) (suc i) r x e = set_here rows i r x e

set_other : (rows : List Row) (i j : ℕ) (x : Row) → i ≢ j → slice_get (slice_set rows i x) j ≡ slice_get rows j
set_other [] i j x ne = refl
set_other (y ∷ rows) zero zero x ne = absurd (ne refl)
set_other (y ∷ rows) zero (suc j) x ne = refl
set_other (y ∷ rows) (suc i) zero x ne = refl
set_other (y ∷ rows) (suc i) (suc j) x ne = set_other rows i j x (λ e. ne (ap suc e))

set_length : (rows : List Row) (i : ℕ) (x : Row) → length (slice_set rows i x) ≡ length rows
set_length [] i x = refl
set_length (y ∷ rows) zero x = refl
set_length (y ∷ rows) (suc i) x = ap suc (set_length rows i x)

-- ---- one less

pub same_before : (h : History) (n : ℕ) (vs : List Value) (c : ℕ) → c < n → unfinished (finished n vs ∷ h) c ≡ unfinished h c
same_before h n vs zero lt = refl
same_before h n vs (suc c) lt =
    let before = same_before h n vs c (omega arith) in
    let here = ap one_unless (ap (λ (b : Bool). if b then Some vs else outs_in h (suc c)) (ne_eqb n (suc c) (λ e. omega arith))) in omega arith

pub one_less : (h : History) (n : ℕ) (vs : List Value) (c : ℕ) → 0 < n → n ≤ c → outs_in h n ≡ None → unfinished (finished n vs ∷ h) c + 1 ≡ unfinished h c
one_less h n vs zero pos le none = absurd (omega arith)
one_less h n vs (suc c) pos le none = elim (eqb_tells n (suc c)) [
  | inl same ↦
      let before = same_before h n vs c (let e = same.1 in omega arith) in
      let here = ap one_unless (ap (λ (b : Bool). if b then Some vs else outs_in h (suc c)) same.0) in
      let was = ap one_unless (sym (ap (outs_in h) same.1) ∙ none) in omega arith
  | inr other ↦
      let before = one_less h n vs c pos (below n c le other.1) none in
      let here = ap one_unless (ap (λ (b : Bool). if b then Some vs else outs_in h (suc c)) other.0) in omega arith
]
  where
    below : (n c : ℕ) → n ≤ suc c → n ≢ suc c → n ≤ c
    below n c le ne = elim (cases_lt c n) [ inl lt ↦ absurd (ne (omega arith)) | inr not ↦ omega arith ]

-- ---- the tables

pub record Finishes (old new : Tables) (n : ℕ) (outs : List OutNote) : Type 0 where
  pub rows : IsFinishedRow (n - 1) outs old.rows.items new.rows.items
  pub notes : new.notes ≡ old.notes
  pub looks : new.looks ≡ old.looks
  pub mains : new.mains ≡ old.mains
  pub names : new.names ≡ old.names
  pub window : new.window ≡ old.window
  pub unfinished_is : new.unfinished ≡ old.unfinished - 1
  pub count : count_in new.graph ≡ count_in old.graph
  pub done : n ≤ count_in old.graph → (m : ℕ) → done_in new.graph m ≡ done_too n (done_in old.graph) m
  pub needs : (m p : ℕ) → needs_in new.graph m p ≡ needs_in old.graph m p
  pub actions : actions_in new.graph ≡ actions_in old.graph

row_finished : (old new : List Row) (h : History) (n : ℕ) (outs : List OutNote) (values : List Value) (m : ℕ) (task : Task) (rs : List (Option Version)) → 0 < n → IsFinishedRow (n - 1) outs old new
    → ((t : Task) → n ≡ m → t ≡ task → outs ≡ outs_noted 1 t.params values) → HasRow old h m task rs → HasRow new (finished n values ∷ h) m task rs
row_finished old new h n outs values zero task rs pos done says has = absurd (let e = has.at in cc)
row_finished old new h n outs values (suc i) task rs pos done says has = elim (eqb_tells n (suc i)) [
  | inl same ↦
      let at : n - 1 ≡ i = let e = same.1 in omega arith in
      let x : Row = record { op = has.row.op; called = has.row.called; reads = has.row.reads; kept = has.row.kept; outs = Some outs } in
      let one : Some done.row ≡ Some has.row = sym done.at ∙ ap (slice_get old) at ∙ has.at in
      let is : done.row ≡ has.row = cc in
      record {
        row = x;
        at = ap (λ (l : List Row). slice_get l i) done.rows ∙ ap (λ (j : ℕ). slice_get (slice_set old j (record done.row { outs = Some outs })) i) at ∙ ap (λ (r : Row). slice_get (slice_set old i (record r { outs = Some outs })) i) is ∙ set_here old i has.row x has.at;
        is = record {
          op = has.is.op;
          called = has.is.called;
          read = has.is.read;
          kept = has.is.kept;
          outs = ap Some (says task same.1 refl) ∙ sym (ap (λ (b : Bool). option_map (outs_noted 1 task.params) (if b then Some values else outs_in h (suc i))) same.0);
        };
      }
  | inr other ↦ record {
    row = has.row;
    at = ap (λ (l : List Row). slice_get l i) done.rows ∙ set_other old (n - 1) i _ (let ne = other.1 in λ e. ne (omega arith)) ∙ has.at;
    is = record {
      op = has.is.op;
      called = has.is.called;
      read = has.is.read;
      kept = has.is.kept;
      outs = has.is.outs ∙ sym (ap (λ (b : Bool). option_map (outs_noted 1 task.params) (if b then Some values else outs_in h (suc i))) other.0);
    };
  }
]

same_outs : (t u : Task) (outs : List OutNote) (values : List Value) → t ≡ u → outs ≡ outs_noted 1 t.params values → outs ≡ outs_noted 1 u.params values
same_outs t u outs values e f = f ∙ ap (λ (x : Task). outs_noted 1 x.params values) e

pub finished_holds : (old new : Tables) (s : Setup) (k : ℕ) (h : History) (n : ℕ) (outs : List OutNote) (values : List Value) → Holds old s k h → (fits : IsFinish s h n values) → 0 < n → n ≤ count_at s k → outs ≡ outs_noted 1 fits.task.params values → Finishes old new n outs
    → Holds new s k (finished n values ∷ h)
finished_holds old new s k h n outs values holds fits pos le says done =
    let none = (flying_is_open s h n holds.good fits.flies).1.unfinished in
    let less = one_less h n values (count_at s k) pos le none in
    let was = holds.unfinished_is in
    record {
      count = ap length done.rows.rows ∙ set_length old.rows.items (n - 1) _ ∙ holds.count;
      rows = λ m task rs at_t at_r. row_finished old.rows.items new.rows.items h n outs values m task rs pos done.rows
          (λ t same is. same_outs fits.task t outs values (one_task s.run n fits.task t fits.called (record { moment = k; is = ap (task_at (world_at s k).tasks) same ∙ at_t ∙ ap Some (sym is) })) says) (holds.rows m task rs at_t at_r);
      mains = ap (λ v. v.items) done.mains ∙ holds.mains;
      looks = subst (λ l. Rattle.gs_looks.specs.Looked.AreSeen (Rattle.gs_looks.specs.Looked.looks_in l) s.run.files) (sym done.looks) holds.looks;
      writes = ap Rattle.gs_names.specs.Table.writes_in done.names ∙ holds.writes;
      names = ap names_in done.names ∙ holds.names;
      made = subst (λ l. AreMade l (actions_in new.graph) (acts s.run k)) (sym (ap names_in done.names)) (subst (λ l. AreMade (names_in old.names) l (acts s.run k)) (sym done.actions) holds.made);
      graph = record {
        count = done.count ∙ holds.graph.count;
        done = λ m first last. done.done (let c = holds.graph.count in omega arith) m ∙ elim (eqb_tells n m) [
          | inl same ↦ ap (λ (b : Bool). if b then true else done_in old.graph m) same.0 ∙ sym (ap (λ (b : Bool). is_some (if b then Some values else outs_in h m)) same.0)
          | inr other ↦ ap (λ (b : Bool). if b then true else done_in old.graph m) other.0 ∙ holds.graph.done m first last ∙ sym (ap (λ (b : Bool). is_some (if b then Some values else outs_in h m)) other.0)
        ];
        needs = λ m p rs e. done.needs m p ∙ holds.graph.needs m p rs e;
      };
      unfinished_is = let e = done.unfinished_is in omega arith;
      window = done.window ∙ holds.window;
      notes = λ m. ap (λ i. Rattle.gs_tables.specs.Noted.noting_in i m) done.notes ∙ holds.notes m;
      ahead = λ m lt. subst (Rattle.gs_tables.specs.Holds.IsAhead s m) (sym (ap (λ (b : Bool). if b then Some values else outs_in h m) (ne_eqb n m (λ e. omega arith)))) (holds.ahead m lt);
      within = within_more s h (finished n values ∷ h) (event_keeps (finished n values) h) k holds.within;
      good = (holds.good, fits);
      fit = holds.fit;
      rules = holds.rules;
      known = holds.known;
    }
