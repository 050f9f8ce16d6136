use Rattle.std.proofs.Common.{◌∙◌, ap}
use Rattle.gs_proc.proofs.TaskLists.{calls_set, get_set}
use Rattle.gs_proc.proofs.task.await_at.Goals as goal

pub returns-in_err-ending-clause-calls : goal.returns-in_err-ending-clause-calls
returns-in_err-ending-clause-calls g c = calls_set c.args.tasks.now.items c.args.place c.await_end.new.self c.index_mut.result.now (c.await_end.ensures.call ∙ ap (λ t. t.call) c.index_mut.ensures.value)

pub returns-clause-calls : goal.returns-clause-calls
returns-clause-calls g c = calls_set c.args.tasks.now.items c.args.place c.await_end.new.self c.index_mut.result.now (c.await_end.ensures.call ∙ ap (λ t. t.call) c.index_mut.ensures.value)

pub returns-clause-end : goal.returns-clause-end
returns-clause-end g c = record {
  task = c.await_end.new.self;
  here = get_set c.args.tasks.now.items c.args.place c.await_end.new.self c.requires;
  ended = c.in_ok-ending.ensures.well;
}
