use Rattle.std.proofs.Common.{◌≡◌, map}
use Rattle.gs_names.proofs.table.copies_of.Given as goal

abbrev pub invariant-loop-name : goal.invariant-loop-name
invariant-loop-name l = l.copies.items ≡ map (λ e. (e.0.now, e.1.now)) l.yielded
