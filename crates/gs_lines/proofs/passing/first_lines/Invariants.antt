use Rattle.std.proofs.Common.{◌≡◌, ◌++◌, take}
use Rattle.std.specs.Iterator.Adapters.{take_source, take_count}
use Rattle.gs_lines.specs.Lines.{lines, file_of}
use Rattle.gs_lines.proofs.passing.first_lines.Given as goal

abbrev pub invariant-loop-line : goal.invariant-loop-line
invariant-loop-line l = l.file.items ++ file_of (take (take_count l.line-iterator) (take_source
    l.line-iterator)) ≡ file_of (take l.fn.n (lines l.fn.bytes))
