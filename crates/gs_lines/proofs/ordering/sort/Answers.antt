use Rattle.std.proofs.Common.{Bor, ℕ, List}
use Rattle.std.specs.Prelude.{map}
use Rattle.std.proofs.lemmas.List.Sorted.{IsPermutation-map}
use Rattle.gs_lines.proofs.Sorting.{sorted_is_rising}
use Rattle.gs_lines.proofs.ordering.sort.Goals as goal

pub returns : goal.returns
returns c =
    let key = λ (line : Bor (List ℕ)). line.now in
    let old = c.args.all.now.items in
    let new = c.sort_unstable.new.self.items in
    sorted_is_rising key old new (map key old) (IsPermutation-map key old new
    c.sort_unstable.ensures.permutation) c.sort_unstable.ensures.sorted
