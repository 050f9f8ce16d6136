use Rattle.std.proofs.Common.{◌≡◌, length, take}
use Rattle.gs_list.specs.Lines.{spelled}
use Rattle.gs_plan.specs.Durations.{LinesSay, none_given}
use Rattle.gs_plan.proofs.reader.read_lines.Given as goal

abbrev pub invariant-loop-place : goal.invariant-loop-place
invariant-loop-place l = record {
  each : length l.given.items ≡ length l.idl.ops;
  said : LinesSay l.idl.ops (take l.place (spelled l.lines)) (none_given l.idl.ops) l.given.items;
}
