use Rattle.std.proofs.Common.{◌≡◌, take, true}
use Rattle.std.specs.Prelude.{not}
use Rattle.gs_broker.specs.Text.{are_each_known, are_distinct}
use Rattle.gs_broker.specs.Reading.{spelled, marked}
use Rattle.gs_broker.proofs.operations.mark_all.Given as goal

abbrev pub invariant-loop-word : goal.invariant-loop-word
invariant-loop-word l = record {
  takes : l.takes.items ≡ marked l.idl.ops (take l.word-index (spelled l.words));
  known : are_each_known l.idl.ops (take l.word-index (spelled l.words)) ≡ true;
  again : l.again ≡ not (are_distinct (take l.word-index (spelled l.words)));
}
