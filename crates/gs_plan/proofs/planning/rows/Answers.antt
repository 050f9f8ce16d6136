use Rattle.std.proofs.Common.{◌+◌, ◌∷◌, [], ℕ, List, length, get_or, length-append, sym, ap, ◌∙◌, arith}
use Rattle.gs_plan.specs.declared.table.Placed.{Placed}
use Rattle.gs_plan.proofs.Waiting.{read_at}
use Rattle.gs_plan.proofs.Joining.{row_more, rows_more}
use Rattle.gs_plan.proofs.planning.rows.Goals as goal

pub loop-task-preserved : goal.loop-task-preserved
loop-task-preserved c =
    let s = c.args.state.now in
    let old = c.loop-task.rows.items in
    let i = c.loop-task.task in
    let pushed = c.in_ok-push.ensures.items in
    let slot = read_at s.slots.items i c.index.result.now (omega (arith, c.requires.slots)) c.index.ensures in
    let start = read_at s.starts.items i c.index-in-loop-task.result.now (omega (arith, c.requires.starts)) c.index-in-loop-task.ensures in
    let end = read_at s.ends.items i c.index-in-loop-task-2.result.now (omega arith) c.index-in-loop-task-2.ensures in
    let row : Placed = record { n = i + 1; slot = c.index.result.now; start = c.index-in-loop-task.result.now; end = c.index-in-loop-task-2.result.now } in
    record {
      count = ap (λ (rs : List Placed). length rs) pushed ∙ length-append old (row ∷ []) ∙ ap (λ (n : ℕ). n + 1) c.loop-task.invariant.count;
      slots = row_more (λ t. t.slot) old c.push.new.self.items row s.slots.items i pushed (omega (arith, c.requires.slots)) slot c.loop-task.invariant.slots;
      starts = row_more (λ t. t.start) old c.push.new.self.items row s.starts.items i pushed (omega (arith, c.requires.starts)) start c.loop-task.invariant.starts;
      each = rows_more old c.push.new.self.items row s.ends.items pushed (ap (λ (n : ℕ). n + 1) (sym c.loop-task.invariant.count)) (end ∙ ap (λ (n : ℕ). get_or s.ends.items n 0) (sym c.loop-task.invariant.count)) c.loop-task.invariant.each;
    }
