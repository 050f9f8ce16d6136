use Rattle.std.proofs.Common.{◌≡◌, drop}
use Rattle.std.specs.List.{list_any}
use Rattle.std.specs.Str.{bytes_eq}
use Rattle.gs_idl.proofs.keyword.stands_in.Given as goal

abbrev pub invariant-loop-other : goal.invariant-loop-other
invariant-loop-other l = list_any (λ k. bytes_eq l.word k.now) (drop l.other-index l.words) ≡ list_any (λ k. bytes_eq l.word k.now) l.words
