use Rattle.std.proofs.Common.{◌∙◌, sym, subst}
use Rattle.std.specs.List.Sorted.{IsPermutation}
use Rattle.gs_lines.proofs.Sorting.{rising_moves, rising_sorted, sorted_is_rising, map-self}
use Rattle.gs_lines.proofs.laws.one_rising_order.Goals as goal

pub returns-clause-lines : goal.returns-clause-lines
returns-clause-lines c = rising_moves

pub returns-clause-order : goal.returns-clause-order
returns-clause-order c = rising_sorted

pub returns-clause-one : goal.returns-clause-one
returns-clause-one c = λ ls ms moves up.
    sym (map-self ms) ∙ sorted_is_rising (λ line. line) ms ms ls (subst (IsPermutation ls) (sym
    (map-self ms)) moves) up
