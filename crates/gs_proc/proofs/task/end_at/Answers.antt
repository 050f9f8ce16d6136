use Rattle.std.proofs.Common.{◌∙◌, ap, subst, IfSome}
use Rattle.gs_proc.specs.Ends.{EndedAs}
use Rattle.gs_proc.proofs.TaskLists.{calls_set, get_set}
use Rattle.gs_proc.proofs.task.end_at.Goals as goal

pub returns-in_err-ending-clause-calls : goal.returns-in_err-ending-clause-calls
returns-in_err-ending-clause-calls g c = calls_set c.args.tasks.now.items c.args.place c.ask.new.self c.index_mut.result.now (c.ask.ensures.call ∙ ap (λ t. t.call) c.index_mut.ensures.value)

pub returns-in-Some-clause-calls : goal.returns-in-Some-clause-calls
returns-in-Some-clause-calls g c = calls_set c.args.tasks.now.items c.args.place c.ask.new.self c.index_mut.result.now (c.ask.ensures.call ∙ ap (λ t. t.call) c.index_mut.ensures.value)

pub returns-in-None-clause-calls : goal.returns-in-None-clause-calls
returns-in-None-clause-calls g c = calls_set c.args.tasks.now.items c.args.place c.ask.new.self c.index_mut.result.now (c.ask.ensures.call ∙ ap (λ t. t.call) c.index_mut.ensures.value)

pub returns-in-Some-clause-end : goal.returns-in-Some-clause-end
returns-in-Some-clause-end g c = record {
  task = c.ask.new.self;
  here = get_set c.args.tasks.now.items c.args.place c.ask.new.self c.requires;
  ended = subst (λ o. IfSome o (EndedAs c.ask.new.self)) c.in-Some.is c.in_ok-ending.ensures.well;
}
