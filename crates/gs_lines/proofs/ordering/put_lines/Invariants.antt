use Rattle.std.proofs.Common.{◌≡◌, ◌++◌, ℕ, Bor, List}
use Rattle.std.specs.Prelude.{map}
use Rattle.gs_lines.specs.Lines.{lines}
use Rattle.gs_lines.proofs.ordering.put_lines.Given as goal

abbrev pub invariant-loop-line : goal.invariant-loop-line
invariant-loop-line l = map (λ (line : Bor (List ℕ)). line.now) l.all.items ++ l.line-iterator ≡ map
    (λ (line : Bor (List ℕ)). line.now) l.initial.all.items ++ lines l.fn.bytes
