use Rattle.std.proofs.Common.{◌≡◌, ◌∙◌, ◌++◌, ◌∷◌, [], ap, List}
use Rattle.gs_broker.specs.Workers.{slots_at}
use Rattle.gs_broker.specs.Listed.{slots_of_list}
use Rattle.gs_broker.specs.declared.workers.Worker.{Worker}
use Rattle.gs_broker.proofs.tests.two_workers.Goals as goal

pub returns : goal.returns
unfolding slots_of_list
returns c =
    let first = c.in_ok-first.first in
    let second = c.in_ok-second.second in
    let items : c.push-2.new.self.list.items ≡ first ∷ second ∷ [] =
    c.in_ok-push-2.ensures.ok ∙ ap (λ (ws : List Worker). ws ++ second ∷ []) (c.in_ok-push.ensures.ok ∙ ap (λ (ws : List Worker). ws ++ first ∷ []) c.empty-workers.ensures) in
    (ap (λ (ws : List Worker). slots_at ws 0) items ∙ c.in_ok-first.ensures, ap (λ (ws : List Worker). slots_at ws 1) items ∙ c.in_ok-second.ensures)
