use Rattle.std.proofs.Common.{◌≡◌, ◌++◌, take}
use Rattle.std.specs.List.{flat_map}
use Rattle.gs_report.specs.Report.{escaped}
use Rattle.gs_report.proofs.values.put_bytes.Given as goal

abbrev pub invariant-loop-b : goal.invariant-loop-b
invariant-loop-b l =
    l.text.items ≡ l.fn.text.items ++ flat_map escaped (take l.b-index l.bytes)
