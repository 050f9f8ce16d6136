-- What the reader of formats answers.
use Rattle.std.specs.Prelude.{◌≡◌, ℕ, ◌≤◌, List, ◌∷◌, length, drop, None, option_map}
use Rattle.gs_check.specs.declared.format.Conversion.{Conversion}
use Rattle.gs_check.specs.declared.format.Conversion.TheVariants.{Plain, Percent, Value, Bad}
use Rattle.gs_tree.specs.Formats.{format_kinds}

-- that stands first in the rest of a format
abbrev pub IsConversion : List ℕ → Conversion → Type 0
IsConversion rest Plain = format_kinds rest ≡ format_kinds (drop 1 rest)
IsConversion rest Percent = (2 ≤ length rest) × (format_kinds rest ≡ format_kinds (drop 2 rest))
IsConversion rest (Value kind) = (2 ≤ length rest)
    × (format_kinds rest ≡ option_map (λ ks. kind ∷ ks) (format_kinds (drop 2 rest)))
IsConversion rest Bad = format_kinds rest ≡ None
