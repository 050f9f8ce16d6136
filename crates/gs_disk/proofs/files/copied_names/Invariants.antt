use Rattle.std.proofs.Common.{◌≡◌, map}
use Rattle.gs_disk.proofs.files.copied_names.Given as goal

abbrev pub invariant-loop-name : goal.invariant-loop-name
invariant-loop-name l = l.names.items ≡ map (λ r. r.now) l.yielded
