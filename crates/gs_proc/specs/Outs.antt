-- Values that files' bytes are.
use Rattle.std.specs.Prelude.{◌≡◌, ℕ, List}
use Rattle.gs_types.specs.Bytes.{IsText}
use Rattle.gs_types.specs.declared.value.Value.{Value}
use Rattle.gs_types.specs.declared.value.Value.TheVariants.{Int, Str, File}
use Rattle.gs_proc.specs.Number.{IsNumber}

-- the number that these bytes are
abbrev pub IsNumberOf : List ℕ → Value → Type 0
IsNumberOf bytes (Int v) = IsNumber bytes v
IsNumberOf bytes (Str s) = ⊥
IsNumberOf bytes (File b) = ⊥

-- the string of these bytes
abbrev pub IsTextOf : List ℕ → Value → Type 0
IsTextOf line (Int v) = ⊥
IsTextOf line (Str s) = (s ≡ line) × IsText line
IsTextOf line (File b) = ⊥
