use Rattle.std.proofs.Common.{◌≡◌, ℕ, List, length, drop}
use Rattle.gs_entries.specs.Gate.{finals_rise, FirstWritings}
use Rattle.gs_entries.proofs.gate.finals_rise.Given as goal

abbrev pub invariant-loop-last : goal.invariant-loop-last
invariant-loop-last l = (written : List ℕ) → length written ≡ l.writings → FirstWritings written (length l.places) l.places
    → finals_rise (length l.places) written l.low (drop l.last-index l.finals) ≡ finals_rise (length l.places) written 0 l.finals
