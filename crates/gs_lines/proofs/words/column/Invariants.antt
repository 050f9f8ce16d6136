use Rattle.std.proofs.Common.{◌≡◌, ◌++◌}
use Rattle.std.specs.Prelude.{map}
use Rattle.gs_lines.specs.Lines.{lines, file_of}
use Rattle.gs_lines.specs.Words.{word_at}
use Rattle.gs_lines.proofs.words.column.Given as goal

abbrev pub invariant-loop-line : goal.invariant-loop-line
invariant-loop-line l = l.file.items ++ file_of (map (word_at l.place) l.line-iterator) ≡ file_of
    (map (word_at l.place) (lines l.fn.bytes))
