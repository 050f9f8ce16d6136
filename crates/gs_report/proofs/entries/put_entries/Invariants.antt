use Rattle.std.proofs.Common.{◌≡◌, ◌-◌, ◌++◌, length, take}
use Rattle.std.specs.List.{flat_map}
use Rattle.gs_report.specs.Report.{entry_text}
use Rattle.gs_report.proofs.entries.put_entries.Given as goal

abbrev pub invariant-loop-e : goal.invariant-loop-e
invariant-loop-e l =
    l.text.items ≡ l.fn.text.items ++ flat_map entry_text (take l.i l.store.entries)

abbrev pub decreases-loop-e : goal.decreases-loop-e
decreases-loop-e l = length l.store.entries - l.i
