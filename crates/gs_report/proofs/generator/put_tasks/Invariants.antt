use Rattle.std.proofs.Common.{◌≡◌, ◌++◌}
use Rattle.gs_report.specs.Generator.{after_tasks, task_lines}
use Rattle.gs_report.proofs.generator.put_tasks.Given as goal

abbrev pub invariant-loop-i : goal.invariant-loop-i
invariant-loop-i l = record {
  text : l.text.items ≡ l.fn.text.items ++ task_lines l.fn.x l.i;
  state : l.x ≡ after_tasks l.fn.x l.i;
}
