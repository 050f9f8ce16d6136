use Rattle.std.proofs.Common.{◌≡◌, ◌<◌, ◌∙◌, sym, ap, refl, length, List, ℕ, Option, Some, None, IfSome}
use Rattle.std.specs.List.{slice_get}
use Rattle.gs_graph.specs.Counted.{size_in}
use Rattle.gs_graph.proofs.Lists.{rises_at}
use Rattle.gs_graph.proofs.Due.{lists_due}
use Rattle.gs_graph.proofs.counters.Counters.ready_at.Goals as goal

pub returns-clause-list : goal.returns-clause-list
returns-clause-list c = lists_due c.args.self.now

pub returns-clause-within : goal.returns-clause-within
unfolding size_in
returns-clause-within c = of_item c.item_at.result (λ m at. rises_at 0 (length c.args.self.now.missing.items) c.args.self.now.ready.items c.args.i m c.args.self.now.rising (sym (ap (λ (xs : List ℕ). slice_get xs c.args.i) c.deref.ensures.value) ∙ sym c.item_at.ensures ∙ at))
  where
    of_item : (o : Option ℕ) → ((m : ℕ) → o ≡ Some m → m < length c.args.self.now.missing.items) → IfSome o (λ m. m < length c.args.self.now.missing.items)
    of_item None each = tt
    of_item (Some m) each = each m refl
