-- Entries in order are few: a header, a gate, a closed entry, and each task once.
use Rattle.std.proofs.Common.{◌≡◌, ℕ, ◌+◌, ◌<◌, ◌≤◌, Bool, true, false, eqb, List, [], ◌∷◌, ◌++◌, length, refl, sym, ap, subst, ◌∙◌, arith, append_assoc, length-append}
use Rattle.std.specs.Prelude.{◌||◌, nat_le, Some}
use Rattle.std.specs.Cmp.{nat_eq_equiv}
use Rattle.std.specs.List.{list_any, IsDistinct}
use Rattle.std.proofs.lemmas.Bool.{leb-true, eqb-true}
use Rattle.std.proofs.lemmas.List.{append-nil, length-map}
use Rattle.std.proofs.lemmas.List.Folds.{list_any-append}
use Rattle.std.proofs.lemmas.Map.Keys.{IsDistinct-push, IsDistinct-from_apart}
use Rattle.std.proofs.lemmas.Map.Steps.{length-le_from_distinct_below}
use Rattle.gs_types.specs.declared.limits.TheConstants.{TASK_LIMIT}
use Rattle.gs_types.specs.declared.note.OutNote.{OutNote}
use Rattle.gs_log.specs.declared.limits.TheConstants.{MAX_RECORDS}
use Rattle.gs_fields.specs.Format.{four, pair}
use Rattle.gs_entries.specs.Notes.{within, task, operation, outs}
use Rattle.gs_entries.specs.Entries.{entry}
use Rattle.gs_entries.specs.Order.{stage_by, later, stage_of, done_by, dones, may_follow, follows}
use Rattle.gs_entries.specs.declared.entry.Entry.{Entry}
use Rattle.gs_entries.specs.declared.entry.Entry.TheVariants as made
use Rattle.gs_entries.specs.declared.entry.Stage.{Stage}
use Rattle.gs_entries.specs.declared.entry.Stage.TheVariants as stages
use Rattle.gs_entries.proofs.Loop.{both}
use Rattle.gs_entries.proofs.Ordered.{stage_push, dones_push, not_done}
use Rattle.gs_store.specs.Keeps.{spelled}
use Rattle.gs_store.specs.Ordered.{AreBehind, AreInOrder}

behind_push : (before es : List Entry) (e : Entry) → AreBehind before es → entry.fits e ≡ true
    → follows (before ++ es) e ≡ true → AreBehind before (es ++ e ∷ [])
behind_push before [] e h fits may =
    (fits, subst (λ (l : List Entry). follows l e ≡ true) (append-nil before) may, tt)
behind_push before (x ∷ es) e h fits may = (
  h.0,
  h.1,
  behind_push (before ++ x ∷ []) es e h.2 fits
      (subst (λ (l : List Entry). follows l e ≡ true) (sym (append_assoc before (x ∷ []) es))
      may),
)

-- one entry more
pub in_order_push : (es : List Entry) (e : Entry) → AreInOrder es → entry.fits e ≡ true
    → follows es e ≡ true → AreInOrder (es ++ e ∷ [])
in_order_push es e h fits may = behind_push [] es e h fits may

-- ---- how many there are

abbrev rank : Stage → ℕ
rank stages.Fresh = 0
rank stages.Running = 1
rank stages.Gated = 2
rank stages.Closed = 3

rank_step : (s : Stage) (es : List Entry) (e : Entry) → may_follow s es e ≡ true
    → rank (later s (stage_by e)) + length (done_by e) ≡ rank s + 1
rank_step stages.Fresh es (made.Header t) may = refl
rank_step stages.Fresh es (made.Done n op os) may = absurd cc
rank_step stages.Fresh es (made.Gate g) may = absurd cc
rank_step stages.Fresh es made.Closed may = absurd cc
rank_step stages.Running es (made.Header t) may = absurd cc
rank_step stages.Running es (made.Done n op os) may = refl
rank_step stages.Running es (made.Gate g) may = refl
rank_step stages.Running es made.Closed may = absurd cc
rank_step stages.Gated es (made.Header t) may = absurd cc
rank_step stages.Gated es (made.Done n op os) may = absurd cc
rank_step stages.Gated es (made.Gate g) may = absurd cc
rank_step stages.Gated es made.Closed may = refl
rank_step stages.Closed es (made.Header t) may = absurd cc
rank_step stages.Closed es (made.Done n op os) may = absurd cc
rank_step stages.Closed es (made.Gate g) may = absurd cc
rank_step stages.Closed es made.Closed may = absurd cc

rank_most : (s : Stage) → rank s ≤ 3
rank_most stages.Fresh = omega arith
rank_most stages.Running = omega arith
rank_most stages.Gated = omega arith
rank_most stages.Closed = omega arith

-- the tasks that are done are numbers of tasks, each once
record AreTasks (ds : List ℕ) : Type 0 where
  distinct : IsDistinct eqb ds
  within : (q : ℕ) → list_any (eqb q) ds ≡ true → q < TASK_LIMIT + 1

task_within : (n op : ℕ) (os : List OutNote) → entry.fits (made.Done n op os) ≡ true
    → n ≤ TASK_LIMIT
unfolding entry
task_within n op os fits =
    let parts = both (task.fits n) ((pair operation outs).fits (op, os)) fits in
    let number = both (four.fits n) (within 1 TASK_LIMIT n) parts.0 in
    leb-true n TASK_LIMIT (both (nat_le 1 n) (nat_le n TASK_LIMIT) number.1).1

or_true : (a b : Bool) (P : Type 0) → (a || b) ≡ true → (a ≡ true → P)
    → (b ≡ true → P) → P
or_true true b P e f g = f refl
or_true false b P e f g = g e

one_within : (q n : ℕ) → n ≤ TASK_LIMIT → list_any (eqb q) (n ∷ []) ≡ true
    → q < TASK_LIMIT + 1
one_within q n le e =
    or_true (eqb q n) false (q < TASK_LIMIT + 1) e
    (λ same. let is = eqb-true q n same in omega arith) (λ no. absurd cc)

tasks_step : (es : List Entry) (e : Entry) → entry.fits e ≡ true → follows es e ≡ true
    → AreTasks (dones es) → AreTasks (dones es ++ done_by e)
tasks_step es (made.Header t) fits may h = subst AreTasks (sym (append-nil (dones es))) h
tasks_step es (made.Done n op os) fits may h = record {
  distinct = IsDistinct-push nat_eq_equiv (dones es) n h.distinct
      (not_done es (made.Done n op os) (Some n) (dones es) refl refl may);
  within = λ q e. or_true (list_any (eqb q) (dones es)) (list_any (eqb q) (n ∷ []))
      (q < TASK_LIMIT + 1) (sym (list_any-append (eqb q) (dones es) (n ∷ [])) ∙ e)
      (h.within q) (one_within q n (task_within n op os fits));
}
tasks_step es (made.Gate g) fits may h = subst AreTasks (sym (append-nil (dones es))) h
tasks_step es made.Closed fits may h = subst AreTasks (sym (append-nil (dones es))) h

record Counted (es : List Entry) : Type 0 where
  count : length es ≡ rank (stage_of es) + length (dones es)
  tasks : AreTasks (dones es)

counted_step : (es : List Entry) (e : Entry) → entry.fits e ≡ true → follows es e ≡ true
    → Counted es → Counted (es ++ e ∷ [])
counted_step es e fits may h = record {
  count = let s = ap rank (stage_push stages.Fresh es e) in
      let d = ap length (dones_push es e) in
      let r = rank_step (stage_of es) es e may in
      let c = h.count in
      omega (arith, s, d, r, c, length-append es (e ∷ []), length-append (dones es) (done_by e));
  tasks = subst AreTasks (sym (dones_push es e)) (tasks_step es e fits may h.tasks);
}

counted_after : (before es : List Entry) → AreBehind before es → Counted before
    → Counted (before ++ es)
counted_after before [] h c = subst Counted (sym (append-nil before)) c
counted_after before (e ∷ es) h c =
    subst Counted (append_assoc before (e ∷ []) es)
    (counted_after (before ++ e ∷ []) es h.2 (counted_step before e h.0 h.1 c))

none_counted : Counted []
none_counted = record {
  count = refl;
  tasks = record {
    distinct = IsDistinct-from_apart eqb [] (λ i j d lt none. absurd (omega arith));
    within = λ q e. absurd cc;
  };
}

-- a record has room for one entry more
pub few : (es : List Entry) → AreInOrder es → length es < MAX_RECORDS
few es h =
    let c = counted_after [] es h none_counted in
    let r = rank_most (stage_of es) in
    let d = length-le_from_distinct_below (dones es) (TASK_LIMIT + 1) c.tasks.distinct
    c.tasks.within in
    let k = c.count in
    omega (arith, r, d, k)

length-spelled : (es : List Entry) → length (spelled es) ≡ length es
unfolding spelled
length-spelled es = length-map es (λ e. entry.spell e)

-- and so has its log
pub room_for : (list : List (List ℕ)) (es : List Entry) → list ≡ spelled es → AreInOrder es
    → length list < MAX_RECORDS
room_for list es is order = omega (arith, few es order, ap length is, length-spelled es)

pub pushed_in_order : (es own new : List Entry) (e : Entry) → es ≡ own → AreInOrder es
    → entry.fits e ≡ true → follows own e ≡ true → new ≡ es ++ e ∷ []
    → AreInOrder new
pushed_in_order es own new e same order fits may is =
    subst AreInOrder (sym is) (in_order_push es e order fits
    (subst (λ (l : List Entry). follows l e ≡ true) (sym same) may))
