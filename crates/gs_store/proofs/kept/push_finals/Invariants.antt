use Rattle.std.proofs.Common.{◌≡◌, ◌++◌, drop}
use Rattle.gs_store.specs.Versions.{finals_kept}
use Rattle.gs_store.proofs.kept.push_finals.Given as goal

abbrev pub invariant-loop-last : goal.invariant-loop-last
invariant-loop-last l = l.kept.items ++ finals_kept (drop l.last-index l.finals) ≡ l.fn.kept.items
    ++ finals_kept l.finals
