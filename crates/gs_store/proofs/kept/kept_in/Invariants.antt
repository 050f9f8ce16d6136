use Rattle.std.proofs.Common.{◌≡◌, ◌++◌, drop}
use Rattle.gs_store.specs.Versions.{kept_in}
use Rattle.gs_store.proofs.kept.kept_in.Given as goal

abbrev pub invariant-loop-e : goal.invariant-loop-e
invariant-loop-e l = l.kept.items ++ kept_in (drop l.e-index l.entries) ≡ kept_in l.entries
