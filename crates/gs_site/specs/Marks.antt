-- The marks that a site set.
use Rattle.std.specs.Prelude.{ℕ, List, [], ◌∷◌}
use Rattle.gs_site.specs.declared.marks.Marks.{Marks, Start, Then'}

-- the newest first
abbrev pub listed : Marks → List ℕ
listed Start = []
listed (Then' mark m before) = mark.value ∷ listed before
