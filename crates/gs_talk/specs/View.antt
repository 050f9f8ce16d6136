-- The expressions of the code, as expressions by places.
use Rattle.std.specs.Prelude.{List, map}
use Rattle.gs_talk.specs.declared.formula.Formula.{Formula, fold-Formula}
use Rattle.gs_talk.specs.declared.formula.Formula.TheOpen.{Formula-F}
use Rattle.gs_talk.specs.Terms.{Placed, number, text, at, converted, compared, negated, inverted, both}

abbrev pub placed_step : Formula-F Placed → Placed
placed_step (Formula-F.Num v) = number v
placed_step (Formula-F.Lit s) = text s
placed_step (Formula-F.At i) = at i
placed_step (Formula-F.Atoi e) = converted e.value
placed_step (Formula-F.Strcmp a b) = compared a.value b.value
placed_step (Formula-F.Neg e) = negated e.value
placed_step (Formula-F.Not e) = inverted e.value
placed_step (Formula-F.Two op a b) = both op a.value b.value

abbrev pub placed_of : Formula → Placed
placed_of = fold-Formula Placed placed_step

abbrev pub all_placed_of : List Formula → List Placed
all_placed_of formulas = map placed_of formulas
