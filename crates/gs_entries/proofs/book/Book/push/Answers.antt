use Rattle.std.proofs.Common.{ap, ◌∙◌}
use Rattle.gs_entries.specs.Order.{dones}
use Rattle.gs_entries.proofs.Ordered.{not_done, pushed}
use Rattle.gs_entries.proofs.book.Book.push.Goals as goal

pub note_done-requires : goal.note_done-requires
note_done-requires c = not_done c.args.self.now c.args.e c.task_of-done.result c.self.inside.dones.keys (c.self.invariant.1 ∙ ap dones c.self.view_is) c.task_of-done.ensures c.requires

pub invariant_of-self-in-Ok : goal.invariant_of-self-in-Ok
invariant_of-self-in-Ok c = pushed c.self.inside.entries.items c.push.new.self.items c.args.e c.self.inside.stage c.stage_by.result c.later-stage.result c.self.inside.dones.keys c.note_done.new.dones.keys c.task_of-done.result
    c.self.invariant.0 c.stage_by.ensures c.later-stage.ensures c.self.invariant.1 c.task_of-done.ensures c.in-Ok.ensures.ok c.in_ok-push.ensures.items
