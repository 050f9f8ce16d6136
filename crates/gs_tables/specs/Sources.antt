-- The tasks whose outputs a task reads.
use Rattle.std.specs.Prelude.{ℕ, zero, suc, ◌||◌, ◌&&◌, ◌==◌, nat_lt, Bool, false, List, [], ◌∷◌, ◌++◌, Option, Some, None, if◌then◌else◌}
use Rattle.gs_types.specs.declared.note.Version.{Version}
use Rattle.gs_types.specs.declared.note.Version.TheVariants.{Original, Out, Main}

-- the task before task n whose output it is
abbrev pub source_of : (n : ℕ) → Option Version → List ℕ
source_of n None = []
source_of n (Some (Original name)) = []
source_of n (Some (Main k)) = []
source_of n (Some (Out m place)) = if nat_lt 0 m && nat_lt m n then m ∷ [] else []

-- the tasks before task n whose outputs these are
abbrev pub sources : (n : ℕ) → List (Option Version) → List ℕ
sources n [] = []
sources n (v ∷ reads) = source_of n v ++ sources n reads

-- whether one of these is an output of task p
abbrev pub feeds : (p : ℕ) → List (Option Version) → Bool
feeds p [] = false
feeds p (None ∷ reads) = feeds p reads
feeds p (Some (Original name) ∷ reads) = feeds p reads
feeds p (Some (Main k) ∷ reads) = feeds p reads
feeds p (Some (Out m place) ∷ reads) = (m == p) || feeds p reads
