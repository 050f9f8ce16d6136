use Rattle.std.proofs.Common.{◌≡◌, ◌++◌, ◌≤◌, ◌+◌, length}
use Rattle.gs_lines.specs.Lines.{lines, file_of, numbered}
use Rattle.gs_lines.proofs.passing.numbered.Given as goal

abbrev pub invariant-loop-line : goal.invariant-loop-line
invariant-loop-line l = (l.file.items ++ file_of (numbered l.n l.line-iterator) ≡ file_of (numbered
    1 (lines l.fn.bytes))) × (l.n + length l.line-iterator ≤ 1 + length l.fn.bytes)
