-- Signs on their lines, and how many parentheses may be open.
use Rattle.std.specs.Prelude.{ℕ, ◌≤◌}
use Rattle.gs_tree.specs.Program.{Name}
use Rattle.gs_tree.specs.Sign.{Sign, Mark, ident}
use Rattle.gs_parse.specs.Reading.{Limits, limited, unlimited}

-- a sign on a line
abbrev pub at : (line : ℕ) → Sign → Mark
at line s = record { line = line; sign = s }

-- a name where it stands
abbrev pub called : Name → Mark
called n = at n.line (ident n.text)

-- so many parentheses of grouping may be open at once
abbrev pub MayBeOpen : Limits → ℕ → Type 0
MayBeOpen limited groups = groups ≤ 64
MayBeOpen unlimited groups = Unit {0}
