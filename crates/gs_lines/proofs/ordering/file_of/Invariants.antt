use Rattle.std.proofs.Common.{◌≡◌, ℕ, Bor, List, take}
use Rattle.std.specs.Prelude.{map}
use Rattle.gs_lines.specs.Lines.{file_of}
use Rattle.gs_lines.proofs.ordering.file_of.Given as goal

abbrev pub invariant-loop-line : goal.invariant-loop-line
invariant-loop-line l = l.file.items ≡ file_of (map (λ (line : Bor (List ℕ)). line.now) (take
    l.line-index l.all))
