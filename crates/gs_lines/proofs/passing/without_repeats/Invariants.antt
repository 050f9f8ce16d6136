use Rattle.std.proofs.Common.{◌≡◌, ◌++◌, None}
use Rattle.std.specs.Option.{option_copied}
use Rattle.gs_lines.specs.Lines.{lines, file_of, without_repeats}
use Rattle.gs_lines.proofs.passing.without_repeats.Given as goal

abbrev pub invariant-loop-line : goal.invariant-loop-line
invariant-loop-line l = l.file.items ++ file_of (without_repeats (option_copied l.before)
    l.line-iterator) ≡ file_of (without_repeats None (lines l.fn.bytes))
