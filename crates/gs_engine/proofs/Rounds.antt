-- Rounds, one after the other.
use Rattle.std.proofs.Common.{◌≡◌, ◌≢◌, ℕ, ◌∙◌, ◌++◌, true, Option, Some, None, IsSome, is_some, Result, Ok, Err, refl, sym, subst}
use Rattle.gs_types.specs.Job.{Meaning}
use Rattle.gs_types.specs.History.{History}
use Rattle.gs_disk.specs.Folder.{DiskState}
use Rattle.gs_disk.specs.Going.{always_then}
use Rattle.gs_site.specs.Link.{Flying}
use Rattle.gs_policy.specs.Cost.{Cost}
use Rattle.gs_history.specs.Setup.{Setup}
use Rattle.gs_core.specs.Core.{Stands as CoreStands, IsVerdict}
use Rattle.gs_core.specs.declared.verdict.Verdict.{Verdict}
use Rattle.gs_core.specs.declared.verdict.Verdict.TheVariants as verdict
use Rattle.gs_finish.specs.declared.halt.Halt.{Halt}
use Rattle.gs_life.specs.Stands.{Stands}
use Rattle.gs_engine.specs.Joined.{Moment, Before, Goes}
use Rattle.gs_engine.specs.Running.{HasRound, IsMisfitVerdict}
use Rattle.gs_engine.specs.Starting.{HasCosts, IsStill}
use Rattle.gs_engine.specs.Steps.{always, whatever}
use Rattle.gs_engine.specs.Waiting.{IsStillNow}
use Rattle.gs_engine.proofs.Settling.{done, halt, goes_on, goes_stopped}
use Rattle.gs_engine.proofs.WaitingEnds.{fits_by}

abbrev pub failing_round : Halt → Result Verdict Halt
failing_round e = Err e

-- a job is in flight on the link where one is in the core
pub busy_by : {J : Type 0} (core : ℕ → Option ℕ) (jobs : ℕ → Option J)
    → ((n : ℕ) × (core n ≢ None)) → ((n : ℕ) → is_some (core n) ≡ is_some (jobs n))
    → (n : ℕ) × IsSome (jobs n)
busy_by core jobs busy together =
    let n = busy.0 in (n, sym (together n) ∙ is_there (core n) busy.1)
  where
    is_there : (o : Option ℕ) → o ≢ None → is_some o ≡ true
    is_there None other = absurd (other refl)
    is_there (Some w) other = refl

module _ {D K : Type 0} {state : D → DiskState} {tells : K → History → Type 0} {jobs : K → Flying}
    {law : K → Meaning} where
  -- a round
  pub round_goes : {one two : Moment D K} (three : Moment D K) (cost : Cost) (v : Verdict)
      → Goes state tells jobs law one two always whatever done
      → Goes state tells jobs law two three (HasCosts cost) IsStill done
      → ((s : Setup) (k : ℕ) (h : History) → CoreStands three.core s k h → IsVerdict s k h v)
      → Goes state tells jobs law one three (HasCosts cost) HasRound (Ok v)
  round_goes {one} {two} three cost v first second ends c k h j p =
      let a = first c k h j (tt {0}) in
      let b = second c a.1.questions a.1.history a.1.joined p in (
        always_then (Stands c.origin) (state one.disk) (state two.disk) (state three.disk) a.0 b.0,
        record {
          questions = b.1.questions;
          history = b.1.history;
          joined = b.1.joined;
          holds = (
            ends c.setup b.1.questions (b.1.history ++ c.noted) b.1.joined.stands,
            b.1.holds,
          );
        },
      )

  -- a round that stopped as it started tasks
  pub round_stopped : {one two : Moment D K} (three : Moment D K) (cost : Cost) (e : Halt)
      → Goes state tells jobs law one two always whatever done
      → Goes state tells jobs law two three (HasCosts cost) IsStill (halt e)
      → Goes state tells jobs law one three (HasCosts cost) HasRound (Err e)
  round_stopped {one} {two} three cost e first second c k h j p =
      let a = first c k h j (tt {0}) in
      let b = second c a.1.questions a.1.history a.1.joined p in (
        always_then (Stands c.origin) (state one.disk) (state two.disk) (state three.disk) a.0 b.0,
        b.1,
      )

  -- a round after others
  pub rounds_then : {one two : Moment D K} (three : Moment D K) (cost : Cost)
      (r : Result Verdict Halt)
      → Goes state tells jobs law one two (HasCosts cost) whatever done
      → Goes state tells jobs law two three (HasCosts cost) HasRound r
      → Goes state tells jobs law one three (HasCosts cost) HasRound r
  rounds_then three cost r before round = goes_on whatever (tt {0}) three (HasCosts cost) HasRound r
      before (λ c k h m g p q. p) round

  -- and a wait
  pub waits_then : {A : Type 0} {one two : Moment D K} (three : Moment D K) (four : Moment D K)
      (cost : Cost) (v : Verdict) (R : A → Before) (r : Result A Halt)
      → Goes state tells jobs law one two (HasCosts cost) whatever done
      → Goes state tells jobs law two three (HasCosts cost) HasRound (Ok v)
      → (IsMisfitVerdict v → ⊥) → Goes state tells jobs law three four IsStillNow R r
      → Goes state tells jobs law one four (HasCosts cost) R r
  waits_then three four cost v R r before round fits wait =
      goes_on HasRound v four IsStillNow R r (rounds_then three cost (Ok v) before round)
      (λ c k h m g p q. q.1 (fits_by c.setup m (g ++ c.noted) v other q.0)) wait
    where
      other : (index : ℕ) → v ≡ verdict.Misfit index → ⊥
      other index is = fits (subst IsMisfitVerdict (sym is) (tt {0}))

  -- and a wait that stopped
  pub stopped_wait : {one two : Moment D K} (three : Moment D K) (four : Moment D K) (cost : Cost)
      (v : Verdict) (e : Halt)
      → Goes state tells jobs law one two (HasCosts cost) whatever done
      → Goes state tells jobs law two three (HasCosts cost) HasRound (Ok v)
      → (IsMisfitVerdict v → ⊥) → Goes state tells jobs law three four IsStillNow whatever (halt e)
      → Goes state tells jobs law one four (HasCosts cost) HasRound (failing_round e)
  stopped_wait three four cost v e before round fits wait =
      goes_stopped {A = Unit {0}} four whatever (HasCosts cost) HasRound e (λ c k h p. p)
      (waits_then three four cost v whatever (halt e) before round fits wait)
