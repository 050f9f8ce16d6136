use Rattle.std.proofs.Common.{◌≡◌, ◌+◌, drop}
use Rattle.gs_talk.specs.Terms.{place_of}
use Rattle.gs_talk.proofs.formula.place_of.Given as goal

abbrev pub invariant-loop-other : goal.invariant-loop-other
invariant-loop-other l = record {
  count : l.i ≡ l.other-index;
  rest : place_of (drop l.other-index l.names) l.name + l.i ≡ place_of l.names l.name;
}
