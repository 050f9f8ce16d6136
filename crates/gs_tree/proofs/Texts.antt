-- Bytes at places of a text.
use Rattle.std.proofs.Common.{◌≡◌, ℕ, zero, suc, ◌<◌, List, [], ◌∷◌, length, slice_index, arith}

-- a byte other than 0 stands within the text
pub within_text : (bytes : List ℕ) (k v : ℕ) → slice_index bytes k ≡ v → 0 < v → k < length bytes
within_text [] k v e h = absurd (omega arith)
within_text (b ∷ bytes) zero v e h = omega arith
within_text (b ∷ bytes) (suc k) v e h = omega (arith, within_text bytes k v e h)
