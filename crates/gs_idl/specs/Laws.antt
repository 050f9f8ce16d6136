-- Laws of interface texts.
use Rattle.std.specs.Prelude.{◌≡◌, ℕ, ◌≤◌, List, length}
use Rattle.gs_idl.specs.Interface.{Interface}
use Rattle.gs_idl.specs.Grammar.{Says}
use Rattle.gs_idl.specs.Printed.{printed}

-- a text says at most one interface
abbrev pub SaysOne : Type 0
SaysOne = (bytes : List ℕ) (i j : Interface) → Says bytes i → Says bytes j → i ≡ j

-- the printed form of what a text says, where it isn't too long, says the same
abbrev pub PrintsBack : Type 0
PrintsBack = (bytes : List ℕ) (i : Interface) → Says bytes i → length (printed i) ≤ 65536
    → Says (printed i) i
