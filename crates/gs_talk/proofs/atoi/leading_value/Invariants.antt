use Rattle.std.proofs.Common.{◌≡◌, ◌<◌, ◌^◌, drop}
use Rattle.gs_talk.specs.Values.{leading_value}
use Rattle.gs_talk.proofs.Digits.{capped, value_from}
use Rattle.gs_talk.proofs.atoi.leading_value.Given as goal

abbrev pub invariant-loop-b : goal.invariant-loop-b
invariant-loop-b l = record {
  value : capped (value_from l.value (drop l.b-index l.text)) ≡ capped (leading_value l.text);
  small : l.value < 2 ^ 64;
}
