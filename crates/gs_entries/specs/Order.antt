-- The order of entries: a header first, then what tasks gave, each task once, then at most one
-- gate, then at most one closed entry.
use Rattle.std.specs.Prelude.{◌≡◌, ℕ, Bool, true, false, not, ◌==◌, List, [], ◌∷◌, ◌++◌, length, Option, Some, None, Result, Ok, Err, if◌then◌else◌}
use Rattle.std.specs.List.{list_any}
use Rattle.gs_fields.specs.Fields.{◌>>=◌}
use Rattle.gs_fields.specs.Format.{whole}
use Rattle.gs_entries.specs.Entries.{entry}
use Rattle.gs_entries.specs.declared.entry.Entry.{Entry}
use Rattle.gs_entries.specs.declared.entry.Entry.TheVariants as made
use Rattle.gs_entries.specs.declared.failure.Failure.{Failure}
use Rattle.gs_entries.specs.declared.failure.Failure.TheVariants.{NoMemory, NotEntry}
use Rattle.gs_entries.specs.declared.entry.Stage.{Stage}
use Rattle.gs_entries.specs.declared.entry.Stage.TheVariants as stages

-- the stage that an entry leads to
abbrev pub stage_by : Entry → Stage
stage_by (made.Header t) = stages.Running
stage_by (made.Done n op os) = stages.Running
stage_by (made.Gate g) = stages.Gated
stage_by made.Closed = stages.Closed

abbrev pub later : Stage → Stage → Stage
later stages.Fresh s = s
later stages.Running stages.Fresh = stages.Running
later stages.Running stages.Running = stages.Running
later stages.Running stages.Gated = stages.Gated
later stages.Running stages.Closed = stages.Closed
later stages.Gated stages.Fresh = stages.Gated
later stages.Gated stages.Running = stages.Gated
later stages.Gated stages.Gated = stages.Gated
later stages.Gated stages.Closed = stages.Closed
later stages.Closed s = stages.Closed

-- the latest of a stage and those of these entries
abbrev pub stage_after : Stage → List Entry → Stage
stage_after s [] = s
stage_after s (e ∷ es) = stage_after (later s (stage_by e)) es

abbrev pub stage_of : List Entry → Stage
stage_of es = stage_after stages.Fresh es

-- the task that is done by an entry
abbrev pub done_by : Entry → List ℕ
done_by (made.Header t) = []
done_by (made.Done n op os) = n ∷ []
done_by (made.Gate g) = []
done_by made.Closed = []

-- the tasks that are done, in order
abbrev pub dones : List Entry → List ℕ
dones [] = []
dones (e ∷ es) = done_by e ++ dones es

abbrev pub has_done : List Entry → ℕ → Bool
has_done es n = list_any (λ m. n == m) (dones es)

-- whether an entry may stand at a stage, behind these entries
abbrev pub may_follow : Stage → List Entry → Entry → Bool
may_follow stages.Fresh es (made.Header t) = true
may_follow stages.Running es (made.Done n op os) = not (has_done es n)
may_follow stages.Running es (made.Gate g) = true
may_follow stages.Gated es made.Closed = true
may_follow _ _ _ = false

abbrev pub follows : List Entry → Entry → Bool
follows es e = may_follow (stage_of es) es e

-- the entry that a payload is, where it stands in order
unfoldable pub accepted : List Entry → List ℕ → Option Entry
accepted es payload = whole entry payload >>= λ e. if follows es e then Some e else None

-- the entries with those that the payloads are, or the number of those before the first payload
-- that is none or stands out of order
abbrev pub records : List Entry → List (List ℕ) → Result (List Entry) ℕ
records es [] = Ok es
records es (p ∷ ps) = elim (accepted es p) [
  | Some e ↦ records (es ++ e ∷ []) ps
  | None ↦ Err
      (length es)
]

-- it took the entry that the payload is, or said that it is none, or that memory ran out, and then
-- nothing changed
abbrev pub Takes : List Entry → List Entry → List ℕ → Result (Unit {0}) Failure → Type 0
Takes old new payload (Ok done) = (e : Entry) × (accepted old payload ≡ Some e)
    × (new ≡ old ++ e ∷ [])
Takes old new payload (Err NotEntry) = (accepted old payload ≡ None) × (new ≡ old)
Takes old new payload (Err NoMemory) = new ≡ old

-- the payload at place i is the first that is no entry or stands out of order: those before it are
-- read as these entries
pub record IsFirst (payloads : List (List ℕ)) (i : ℕ) : Type 0 where
  pub before : List (List ℕ)
  pub bad : List ℕ
  pub behind : List (List ℕ)
  pub read : List Entry
  pub parts : payloads ≡ before ++ bad ∷ behind
  pub place : length before ≡ i
  pub fine : records [] before ≡ Ok read
  pub refused : accepted read bad ≡ None
