use Rattle.std.proofs.Common.{◌∙◌, sym, subst, ap, ℕ, length, List, None, slice_index}
use Rattle.gs_broker.specs.Counts.{has_live, IsStranded}
use Rattle.gs_broker.specs.Workers.{takes_at}
use Rattle.gs_broker.specs.Stranded.{scan_stranded, IsLeastStranded}
use Rattle.gs_broker.specs.Broker.{takes_in, lapses_in}
use Rattle.gs_broker.specs.declared.workers.Worker.{Worker}
use Rattle.gs_broker.proofs.Stranding.{least_stranded, is_stranded, not_live}
use Rattle.gs_broker.proofs.Totals.{takes_within}
use Rattle.gs_broker.proofs.broker.Broker.no_worker.Goals as goal

pub returns : goal.returns
unfolding takes_in lapses_in
returns c =
    let ws = c.args.self.now.workers.list.items in
    let ls = c.args.self.now.lapses.items in
    let e = c.least_stranded.ensures
    ∙ ap (λ (xs : List Worker). scan_stranded (λ op. has_live (takes_at xs) (slice_index c.deref.result.now) op (length xs)) c.args.ready.now None) c.as_slice.ensures.value
    ∙ ap (λ (xs : List ℕ). scan_stranded (λ op. has_live (takes_at ws) (slice_index xs) op (length ws)) c.args.ready.now None) c.deref.ensures.value in
    subst (IsLeastStranded (IsStranded (takes_at ws) (slice_index ls)) c.args.ready.now) (sym e)
    (least_stranded (IsStranded (takes_at ws) (slice_index ls)) (λ op. has_live (takes_at ws) (slice_index ls) op (length ws)) c.args.ready.now
    (λ op is. is_stranded (takes_at ws) (slice_index ls) op (length ws) (λ w. takes_within ws w op) is)
    (λ op is. not_live (takes_at ws) (slice_index ls) op (length ws) is))
