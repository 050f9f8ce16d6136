-- How a run ends.
use Rattle.std.proofs.Common.{◌≡◌, ℕ, ◌++◌, Bool, true, false, if◌then◌else◌, Result, Ok, Err, refl, subst}
use Rattle.std.specs.Prelude.{IsErrOf}
use Rattle.gs_types.specs.Counts.{Caused}
use Rattle.gs_types.specs.Job.{Meaning}
use Rattle.gs_types.specs.History.{History}
use Rattle.gs_disk.specs.Folder.{Folder, DiskState}
use Rattle.gs_disk.specs.Going.{same_started}
use Rattle.gs_site.specs.Link.{Flying}
use Rattle.gs_store.specs.State.{StoreState}
use Rattle.gs_history.specs.Setup.{Setup}
use Rattle.gs_core.specs.Core.{IsVerdict}
use Rattle.gs_core.specs.declared.machine.Core.{Core}
use Rattle.gs_core.specs.declared.verdict.Verdict.{Verdict}
use Rattle.gs_core.specs.declared.verdict.Verdict.TheVariants as verdict
use Rattle.gs_finish.specs.Finishing.{IsNotLost}
use Rattle.gs_finish.specs.declared.halt.Halt.{Halt}
use Rattle.gs_finish.specs.declared.halt.Halt.TheVariants.{Disk, NoMemory, Lost}
use Rattle.gs_life.specs.Called.{Closes}
use Rattle.gs_engine.specs.Joined.{Course, Moment, Joined}
use Rattle.gs_engine.specs.Reading.{LacksLength}
use Rattle.gs_engine.specs.Running.{IsCut, IsDiskFault, IsFruitless, IsGivenUp, LacksLengthIn, Shows, Concludes, fault_of_halt}
use Rattle.gs_engine.specs.Sealing.{WhereEnded}
use Rattle.gs_engine.specs.declared.running.RunFault.{RunFault}
use Rattle.gs_engine.specs.declared.running.RunFault.TheVariants as fault
use Rattle.gs_engine.proofs.Keeping.{keeps_plain, keeps_sealed, runs_plain}
use Rattle.gs_engine.proofs.Standing.{same_stands}

abbrev pub failing : {T : Type 0} → RunFault → Result T RunFault
failing e = Err e

-- ---- an early stop

pub halt_shows : (T : Type 0) (s : Setup) (h : History) (e : Halt) → IsNotLost e
    → Shows s h (failing {T = T} (fault_of_halt e))
halt_shows T s h Disk found = tt
halt_shows T s h NoMemory found = tt
halt_shows T s h (Lost v kept n) found = absurd found

pub halt_lacks : (f : Folder) (e : Halt) → LacksLength f e → LacksLengthIn f (fault_of_halt e)
halt_lacks f Disk lacks = tt
halt_lacks f NoMemory lacks = tt
halt_lacks f (Lost v kept n) lacks = lacks

pub halt_cut : (e : Halt) → IsCut (fault_of_halt e)
halt_cut Disk = tt
halt_cut NoMemory = tt
halt_cut (Lost v kept n) = tt

pub halt_fruitless : (T : Type 0) (e : Halt) → IsFruitless (failing {T = T} (fault_of_halt e)) → ⊥
halt_fruitless T Disk is = is
halt_fruitless T NoMemory is = is
halt_fruitless T (Lost v kept n) is = is

pub halt_blames : (T : Type 0) (e : Halt) → IsGivenUp (failing {T = T} (fault_of_halt e)) → ⊥
halt_blames T Disk is = is
halt_blames T NoMemory is = is
halt_blames T (Lost v kept n) is = is

abbrev pub halted : {T : Type 0} → Halt → Result T Halt
halted e = Err e

pub halt_disk : (T S : Type 0) (e : Halt) (a b : ℕ) → Caused (IsErrOf (halted {T = T} e) Disk) a b
    → Caused (IsDiskFault (failing {T = S} (fault_of_halt e))) a b
halt_disk T S Disk a b caused = record { rise = caused.rise; cause = λ is. caused.cause refl }
halt_disk T S NoMemory a b caused = record { rise = caused.rise; cause = λ is. absurd is }
halt_disk T S (Lost v kept n) a b caused = record { rise = caused.rise; cause = λ is. absurd is }

pub halt_sound : (T : Type 0) (e : Halt) (index : ℕ)
    → failing {T = T} (fault_of_halt e) ≡ failing {T = T} (fault.BadRecord index) → ⊥
halt_sound T Disk index is = absurd cc
halt_sound T NoMemory index is = absurd cc
halt_sound T (Lost v kept n) index is = absurd cc

-- ---- something given up

pub given_shows : (T : Type 0) (s : Setup) (h : History) (failed : Bool) (e : RunFault)
    → Shows s h (failing {T = T} e)
    → Shows s h (failing {T = T} (if failed then e else fault.NoMemory))
given_shows T s h true e shows = shows
given_shows T s h false e shows = tt

pub given_blames : (T : Type 0) (failed : Bool) (e : RunFault)
    → IsGivenUp (failing {T = T} (if failed then e else fault.NoMemory)) → failed ≡ true
given_blames T true e is = refl
given_blames T false e is = absurd is

module _ {D K : Type 0} {state : D → DiskState} {tells : K → History → Type 0} {jobs : K → Flying}
    {law : K → Meaning} where
  -- nothing more was done
  pub plain_concludes : (T : Type 0) (core : Core) (store : StoreState) (d : D) (link : K)
      (v : Verdict) (e : RunFault)
      → ((c : Course) (k : ℕ) (h : History) → IsVerdict c.setup k (h ++ c.noted) v
      → Shows c.setup (h ++ c.noted) (failing {T = T} e)) → (c : Course) (k : ℕ) (h : History)
      → Joined state tells jobs law c
      (record { core = core; store = store; disk = d; link = link }) k h
      → IsVerdict c.setup k (h ++ c.noted) v
      → Concludes c h (state d) (state d) (failing {T = T} e)
  plain_concludes T core store d link v e shows c k h j is =
      let at : Moment D K = record { core = core; store = store; disk = d; link = link } in record {
        always = same_stands j d (same_started (state d));
        shows = shows c k h is;
        kept = λ whole. keeps_plain c at k h j;
        running = λ fruitless. runs_plain c at k h j;
        closed = tt;
      }

  -- the results were brought back
  pub sealed_concludes : (T : Type 0) (at : Moment D K) (d_new : D) (x : T) (v : Verdict)
      → v ≡ verdict.Ended
      → WhereEnded state tells jobs law at
      (λ o. Closes {T = T} {E = Halt} o (state at.disk) (state d_new) (Ok x)) → (c : Course) (k : ℕ)
      (h : History) → Joined state tells jobs law c at k h
      → IsVerdict c.setup k (h ++ c.noted) v
      → Concludes {T = T} c h (state at.disk) (state d_new) (Ok x)
  sealed_concludes T at d_new x v is closes c k h j ends =
      let ended : IsVerdict c.setup k (h ++ c.noted) verdict.Ended =
      subst (IsVerdict c.setup k (h ++ c.noted)) is ends in
      let closed = closes c k h j ended in
      record {
        always = closed.always;
        shows = (k, ended);
        kept = λ whole. keeps_sealed T at d_new x closes c k h j ended;
        running = λ fruitless. absurd fruitless;
        closed = closed.closed;
      }

  -- they were not
  pub unsealed_concludes : (T S : Type 0) (at : Moment D K) (d_new : D) (e : Halt) (v : Verdict)
      → v ≡ verdict.Ended
      → WhereEnded state tells jobs law at
      (λ o. Closes o (state at.disk) (state d_new) (halted {T = T} e))
      → WhereEnded state tells jobs law at (λ o. IsNotLost e) → (c : Course) (k : ℕ)
      (h : History) → Joined state tells jobs law c at k h
      → IsVerdict c.setup k (h ++ c.noted) v
      → Concludes c h (state at.disk) (state d_new) (failing {T = S} (fault_of_halt e))
  unsealed_concludes T S at d_new e v is closes found c k h j ends =
      let ended : IsVerdict c.setup k (h ++ c.noted) verdict.Ended =
      subst (IsVerdict c.setup k (h ++ c.noted)) is ends in
      record {
        always = (closes c k h j ended).always;
        shows = halt_shows S c.setup (h ++ c.noted) e (found c k h j ended);
        kept = λ whole. absurd (whole (halt_cut e));
        running = λ fruitless. absurd (halt_fruitless S e fruitless);
        closed = tt;
      }
