-- Things that are numbered from 1.
use Rattle.std.specs.Prelude.{ℕ, zero, suc, List, slice_get, Option, None}

abbrev pub at_number : {A : Type 0} → List A → ℕ → Option A
at_number xs zero = None
at_number xs (suc n) = slice_get xs n
