-- Reading the actions of a run one after the other.
use Rattle.std.specs.Prelude.{nat_eq, ◌≡◌, ℕ, suc, ◌+◌, ◌-◌, ◌<◌, ◌≤◌, true, List, [], ◌∷◌, ◌++◌, length, Option, Some, option_map, if◌then◌else◌}
use Rattle.std.specs.HashMap.{get}
use Rattle.gs_types.specs.declared.action.Action.{Action}
use Rattle.gs_types.specs.declared.action.Action.TheVariants as act
use Rattle.gs_plan.specs.Actions.{calls_in, writer_of, IsNeeded, FollowsIn, is_among}
use Rattle.gs_plan.specs.Ties.{before_at, after_at, needed_at, HasNeed, Ordered, AreTies}
use Rattle.gs_plan.specs.declared.ties.Ties.{Ties}
use Rattle.gs_plan.specs.declared.scan.Scan.{Scan}

-- behind so many calls: a call has the next number, and what names a task names one that was called
abbrev pub IsNumbered : ℕ → Action → Type 0
IsNumbered calls (act.Call n op reads writes) = n ≡ suc calls
IsNumbered calls (act.Use n place) = (1 ≤ n) × (n ≤ calls)
IsNumbered calls (act.Result n) = (1 ≤ n) × (n ≤ calls)
IsNumbered calls (act.Read name) = Unit {0}
IsNumbered calls (act.Write name) = Unit {0}
IsNumbered calls act.Barrier = Unit {0}
IsNumbered calls act.End = Unit {0}

abbrev pub AreNumbered : List Action → Type 0
AreNumbered [] = Unit {0}
AreNumbered (a ∷ earlier) = IsNumbered (calls_in earlier) a × AreNumbered earlier

-- the lists say what the actions, newest first, say; the map has who wrote a file last
pub record IsScanned (earlier : List Action) (t : Ties) (writers : ℕ → Option ℕ) (barred : ℕ) :
    Type 0 where
  pub ties : AreTies t (calls_in earlier)
  pub writers_are : (name : ℕ) → option_map suc (writers name) ≡ writer_of earlier name
  pub sound : (i j : ℕ) → Ordered t i j → FollowsIn earlier (suc j) (suc i)
  pub full : (i j : ℕ) → FollowsIn earlier (suc j) (suc i) → Ordered t i j
  pub needs_sound : (x : ℕ) → x < length t.needed.items → IsNeeded earlier (suc (needed_at t x))
  pub needs_full : (i : ℕ) → IsNeeded earlier (suc i) → HasNeed t (length t.needed.items) i
  pub needed_in : (x : ℕ) → x < length t.needed.items → needed_at t x < calls_in earlier
  pub barred_in : barred ≤ calls_in earlier
  pub barred_all : (i : ℕ) → i < barred → HasNeed t (length t.needed.items) i

abbrev pub ScannedOf : List Action → Scan → Type 0
ScannedOf earlier s = IsScanned earlier s.ties (λ name. get nat_eq s.writers name) s.barred

-- one pair more
pub record AddsPair (before after : ℕ) (old new : Ties) : Type 0 where
  pub befores : new.befores.items ≡ old.befores.items ++ before ∷ []
  pub afters : new.afters.items ≡ old.afters.items ++ after ∷ []
  pub needed : new.needed ≡ old.needed
  pub waits : new.waits ≡ old.waits

-- a pair more for each of these files that a task wrote last
pub record AddsReads (writers : ℕ → Option ℕ) (reads : List ℕ) (task : ℕ) (old new : Ties) :
    Type 0 where
  pub needed : new.needed ≡ old.needed
  pub waits : new.waits ≡ old.waits
  pub same : length new.befores.items ≡ length new.afters.items
  pub longer : length old.befores.items ≤ length new.befores.items
  pub kept_before : (e : ℕ) → e < length old.befores.items → before_at new e ≡ before_at old e
  pub kept_after : (e : ℕ) → e < length old.befores.items → after_at new e ≡ after_at old e
  pub after : (e : ℕ) → length old.befores.items ≤ e → e < length new.befores.items →
      after_at new e ≡ task
  pub sound : (e : ℕ) → length old.befores.items ≤ e → e < length new.befores.items →
      (name : ℕ) × (is_among name reads ≡ true) × (writers name ≡ Some (before_at new e))
  pub full : (name i : ℕ) → is_among name reads ≡ true → writers name ≡ Some i →
      (e : ℕ) × (length old.befores.items ≤ e) × (e < length new.befores.items)
      × (before_at new e ≡ i)

-- these tasks more are needed
pub record AddsNeeds (from to : ℕ) (old new : Ties) : Type 0 where
  pub befores : new.befores ≡ old.befores
  pub afters : new.afters ≡ old.afters
  pub waits : new.waits ≡ old.waits
  pub longer : length new.needed.items ≡ length old.needed.items + (to - from)
  pub kept : (x : ℕ) → x < length old.needed.items → needed_at new x ≡ needed_at old x
  pub more : (x : ℕ) → x < to - from → needed_at new (length old.needed.items + x) ≡ from + x

-- a task more that reads and writes these files
pub record AddsCall (reads writes : List ℕ) (old new : Scan) : Type 0 where
  pub mid : Ties
  pub reading : AddsReads (λ name. get nat_eq old.writers name) reads
      (length old.ties.waits.items) old.ties mid
  pub befores : new.ties.befores ≡ mid.befores
  pub afters : new.ties.afters ≡ mid.afters
  pub needed : new.ties.needed ≡ mid.needed
  pub waits : new.ties.waits.items ≡ mid.waits.items ++ length mid.needed.items ∷ []
  pub writing : (name : ℕ) → get nat_eq new.writers name ≡ (if is_among name writes
      then Some (length old.ties.waits.items) else get nat_eq old.writers name)
  pub barred : new.barred ≡ old.barred
