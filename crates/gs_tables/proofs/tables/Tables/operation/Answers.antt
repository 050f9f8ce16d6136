use Rattle.std.proofs.Common.{◌≡◌, ◌∙◌, ℕ, zero, suc, ◌<◌, sym, ap, List, length, arith, Option, Some, None, inl, inr}
use Rattle.std.specs.Prelude.{option_map}
use Rattle.std.proofs.lemmas.Option.{slice_get_cases}
use Rattle.gs_talk.specs.Seq.{Task, task_at}
use Rattle.gs_talk_laws.proofs.Lists.{get_within}
use Rattle.gs_talk_laws.proofs.Stays.{tasks_read_versions}
use Rattle.gs_history.specs.Setup.{Setup, world_at}
use Rattle.gs_types.specs.History.{History}
use Rattle.gs_tables.specs.Rows.{row_at}
use Rattle.gs_tables.specs.Holds.{Holds}
use Rattle.gs_tables.specs.declared.row.Row.{Row}
use Rattle.gs_tables.specs.declared.tables.Tables.{Tables}
use Rattle.gs_tables.proofs.tables.Tables.operation.Goals as goal

-- a row's task was called
called_row : (rows : List Row) (tasks : List Task) (n : ℕ) (row : Row)
    → length rows ≡ length tasks → row_at rows n ≡ Some row
    → (t : Task) × (task_at tasks n ≡ Some t)
called_row rows tasks zero row same is = absurd cc
called_row rows tasks (suc i) row same is = elim (slice_get_cases tasks i).1 [
  | inl here ↦ (here.0, here.2)
  | inr past ↦ let lt = get_within rows i row is in let le = past.0 in absurd (omega arith)
]

op_of : (t : Tables) (s : Setup) (k n : ℕ) (h : History) (row : Row) → Holds t s k h
    → row_at t.rows.items n ≡ Some row
    → Some row.op ≡ option_map (λ (x : Task). x.op) (task_at (world_at s k).tasks n)
op_of t s k n h row holds is =
    let called = called_row t.rows.items (world_at s k).tasks n row holds.count is in
    let known = tasks_read_versions s.run k n called.0 called.1 in
    let has = holds.rows n called.0 known.0 called.1 known.1 in
    let same : has.row ≡ row = one has.row row (sym has.at ∙ is) in
    ap (λ (r : Row). Some r.op) (sym same) ∙ ap Some has.is.op
    ∙ sym (ap (option_map (λ (x : Task). x.op)) called.1)
  where
    one : (a b : Row) → Some a ≡ Some b → a ≡ b
    one a b e = cc

pub returns-in-Some : goal.returns-in-Some
returns-in-Some c = λ s k h holds. op_of c.args.self.now s k c.args.n h c.in-Some.row.now holds
    (sym (c.in-Some.ensures ∙ ap (λ (rs : List Row). row_at rs c.args.n) c.deref.ensures.value))
