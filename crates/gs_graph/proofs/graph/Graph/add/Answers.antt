use Rattle.std.proofs.Common.{◌≡◌, ◌-◌, ◌∙◌, ap, ℕ, List, map}
use Rattle.std.specs.Prelude.{◌==◌, if◌then◌else◌}
use Rattle.gs_graph.specs.Numbers.{has}
use Rattle.gs_graph.specs.Edges.{all_below}
use Rattle.gs_graph.specs.Counted.{size_in, waits_in}
use Rattle.gs_graph.specs.Graph.{count_in, needs_in}
use Rattle.gs_graph.proofs.Numbering.{below_places, needs_added}
use Rattle.gs_graph.proofs.graph.Graph.add.Goals as goal

pub add-requires : goal.add-requires
unfolding count_in
add-requires c =
    let old = c.args.self.now.counters in
    let places : c.as_slice.result.now ≡ map (λ p. p - 1) c.args.producers.now = c.as_slice.ensures.value ∙ c.in_ok-places.ensures in
    ap (all_below (size_in old)) places ∙ below_places c.args.n (size_in old) c.args.producers.now c.requires.next c.requires.earlier

pub returns-clause-needs : goal.returns-clause-needs
unfolding count_in needs_in
returns-clause-needs c =
    let old = c.args.self.now.counters in
    let places : c.as_slice.result.now ≡ map (λ p. p - 1) c.args.producers.now = c.as_slice.ensures.value ∙ c.in_ok-places.ensures in
    needs_added (waits_in old) (waits_in c.add.new.self) c.args.n (size_in old) c.args.producers.now c.requires.next c.requires.earlier
    (λ m p. c.in_ok-add.ensures.needs m p ∙ ap (λ (ps : List ℕ). if size_in old == m then has p ps else waits_in old m p) places)
