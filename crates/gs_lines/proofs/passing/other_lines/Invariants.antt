use Rattle.std.proofs.Common.{◌≡◌, ◌++◌, drop}
use Rattle.gs_lines.specs.Lines.{lines, file_of}
use Rattle.gs_lines.proofs.passing.other_lines.Given as goal

abbrev pub invariant-loop-line : goal.invariant-loop-line
invariant-loop-line l = l.file.items ++ file_of (drop l.left l.line-iterator) ≡ file_of (drop l.fn.n
    (lines l.fn.bytes))
