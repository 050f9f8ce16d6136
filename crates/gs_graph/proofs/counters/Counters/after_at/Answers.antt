use Rattle.std.proofs.Common.{length, ap, ◌∙◌, List}
use Rattle.std.specs.List.{slice_get}
use Rattle.std.specs.declared.vec.Vec.{Vec}
use Rattle.std.specs.declared.alloc.Global.{Global}
use Rattle.gs_graph.specs.Edges.{after}
use Rattle.gs_graph.specs.Counted.{size_in}
use Rattle.gs_graph.proofs.Due.{each_below}
use Rattle.gs_graph.proofs.counters.Counters.after_at.Goals as goal

pub returns-clause-within : goal.returns-clause-within
unfolding size_in
returns-clause-within c =
    let g = c.args.self.now in
    each_below (length g.missing.items) (after g.next.items c.args.p) c.args.i c.after_at.result (g.later c.args.p)
    (c.after_at.ensures ∙ ap (λ (next : List (Vec _ Global)). slice_get (after next c.args.p) c.args.i) c.deref.ensures.value)
