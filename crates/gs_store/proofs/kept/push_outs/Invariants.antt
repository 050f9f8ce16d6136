use Rattle.std.proofs.Common.{◌≡◌, ◌++◌, drop}
use Rattle.gs_store.specs.Versions.{outs_kept}
use Rattle.gs_store.proofs.kept.push_outs.Given as goal

abbrev pub invariant-loop-out : goal.invariant-loop-out
invariant-loop-out l = l.kept.items ++ outs_kept l.n (drop l.out-index l.outs) ≡ l.fn.kept.items
    ++ outs_kept l.n l.outs
