use Rattle.std.proofs.Common.{◌∙◌, sym, slice_index, length}
use Rattle.gs_broker.specs.Workers.{takes_at}
use Rattle.gs_broker.proofs.Stranding.{live_at}
use Rattle.gs_broker.proofs.counts.has_live.Goals as goal

pub returns-then-lapses-w-lt-WORKER_FAILURES : goal.returns-then-lapses-w-lt-WORKER_FAILURES
returns-then-lapses-w-lt-WORKER_FAILURES c = sym (live_at (takes_at c.args.workers.now) (slice_index c.args.lapses.now) c.args.op (length c.args.workers.now) c.loop-w.w c.loop-w-test.true (sym c.takes_at.ensures ∙ c.if-takes_at.true) c.if-lapses-w-lt-WORKER_FAILURES.true)
