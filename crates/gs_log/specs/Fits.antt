-- Where the closed gate of a log is.
use Rattle.std.specs.Prelude.{◌≡◌, ℕ, ◌≤◌, List, length}
use Rattle.gs_log.specs.declared.limits.TheConstants.{MAX_RECORDS}
use Rattle.gs_log.specs.Grammar.{records, AreSmall}

-- the closed gate of a log with this list is at this place
pub record Fits (list : List (List ℕ)) (end : ℕ) : Type 0 where
  pub few : length list ≤ MAX_RECORDS
  pub small : AreSmall list
  pub place : end ≡ length (records list)
