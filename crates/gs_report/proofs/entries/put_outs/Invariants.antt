use Rattle.std.proofs.Common.{◌≡◌, ◌++◌, take}
use Rattle.std.specs.List.{flat_map}
use Rattle.gs_report.specs.Report.{out_text}
use Rattle.gs_report.proofs.entries.put_outs.Given as goal

abbrev pub invariant-loop-out : goal.invariant-loop-out
invariant-loop-out l =
    l.text.items ≡ l.fn.text.items ++ flat_map out_text (take l.out-index l.outs)
