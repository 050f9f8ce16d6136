-- The lines of statements.
use Rattle.std.specs.Prelude.{ℕ}
use Rattle.gs_tree.specs.Program.{Code, empty, block, set, choose, while, for, open_file, read_line, close_file, barrier, print, print_file, print_str, call}

-- an assignment stands on the line of its variable, a task call on that of its name
abbrev pub line_of : Code → ℕ
line_of (empty line) = line
line_of (block line body) = line
line_of (set a) = a.to.line
line_of (choose line test then_do else_do) = line
line_of (while line test body) = line
line_of (for line first test step body) = line
line_of (open_file line to path mode) = line
line_of (read_line line got handle to) = line
line_of (close_file line handle) = line
line_of (barrier line) = line
line_of (print line format args) = line
line_of (print_file line handle format args) = line
line_of (print_str line to format args) = line
line_of (call op args) = op.line
