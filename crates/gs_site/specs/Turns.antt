-- The script of a link in memory.
use Rattle.std.specs.Prelude.{true, List, [], ◌∷◌}
use Rattle.gs_site.specs.declared.turn.Turn.{Turn}

-- the turn that is next, where these are left
abbrev pub turn_now : List Turn → Turn
turn_now [] = record { pick = 0; well = true }
turn_now (turn ∷ turns) = turn
