use Rattle.std.proofs.Common.{◌≡◌, ◌++◌, ℕ, List}
use Rattle.std.specs.Prelude.{filter, nat_eq}
use Rattle.std.specs.List.{starts_with}
use Rattle.gs_lines.specs.Lines.{lines, file_of}
use Rattle.gs_lines.proofs.passing.lines_beginning.Given as goal

abbrev pub invariant-loop-line : goal.invariant-loop-line
invariant-loop-line l = let begins = λ (line : List ℕ). starts_with nat_eq line l.start in
    l.file.items ++ file_of (filter begins l.line-iterator) ≡ file_of (filter begins (lines
    l.fn.bytes))
