use Rattle.std.proofs.Common.{◌≡◌, ◌≤◌, ℕ, ◌++◌, List, length, take, subst, ◌∙◌}
use Rattle.gs_run.proofs.showing.show.Goals as goal

pub returns-clause-wrote : goal.returns-clause-wrote
returns-clause-wrote g c = λ told.
    subst (λ (l : List ℕ). (k : ℕ) × (k ≤ length l) × (g.O.Sink.written c.put_all.new.sink
    ≡ g.O.Sink.written c.args.out.now ++ take k l)) (c.deref.ensures.value
    ∙ c.in-Ok.ensures.text) (c.put_all.ensures.first_part told)
