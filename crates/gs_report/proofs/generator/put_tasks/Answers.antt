use Rattle.std.proofs.Common.{◌≡◌, ℕ, ◌++◌, ap, ◌∙◌, arith}
use Rattle.gs_report.specs.Generator.{after_tasks, task_lines}
use Rattle.gs_report.proofs.Making.{state_more, text_more}
use Rattle.gs_report.proofs.generator.put_tasks.Goals as goal

pub loop-i-preserved : goal.loop-i-preserved
loop-i-preserved c =
    let seed = c.args.x.now in
    let now = c.in_ok-put_task.ensures in
    record {
      text = text_more seed c.loop-i.i c.loop-i.x c.args.text.now.items c.loop-i.text.items
          c.put_task.new.text.items c.loop-i.invariant.state c.loop-i.invariant.text now.text;
      state = state_more seed c.loop-i.i c.loop-i.x c.put_task.new.x c.loop-i.invariant.state
          now.state;
    }

pub returns-clause-text : goal.returns-clause-text
returns-clause-text c =
    let all : c.loop-i.i ≡ c.args.n = omega (arith, c.loop-i-test.false, c.loop-i.auto.i-end) in
    c.loop-i.invariant.text
    ∙ ap (λ (k : ℕ). c.args.text.now.items ++ task_lines c.args.x.now k) all

pub returns-clause-state : goal.returns-clause-state
returns-clause-state c =
    let all : c.loop-i.i ≡ c.args.n = omega (arith, c.loop-i-test.false, c.loop-i.auto.i-end) in
    c.loop-i.invariant.state ∙ ap (after_tasks c.args.x.now) all
