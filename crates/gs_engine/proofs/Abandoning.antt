-- What is left in flight is given up.
use Rattle.std.proofs.Common.{◌≡◌, ℕ, ◌≤◌, ◌++◌, ◌∷◌, true, IsSome, is_some, Option, None, Result, Ok, Err, refl, sym, ap, subst, ◌∙◌, inl, inr, ⊎_elim}
use Rattle.gs_types.specs.Counts.{Caused}
use Rattle.gs_types.specs.History.{History, abandoned}
use Rattle.gs_disk.specs.Folder.{DiskState}
use Rattle.gs_site.specs.Link.{Flying, IsIdle, IsBusy, Abandons}
use Rattle.gs_history.specs.Setup.{Setup}
use Rattle.gs_engine.specs.Beginning.{Call}
use Rattle.gs_engine.specs.Running.{IsCut, IsCutShort, IsDiskFault, RunCaused, Shows, Went, Ran}
use Rattle.gs_engine.specs.declared.running.RunFault.{RunFault}
use Rattle.gs_engine.specs.declared.running.RunFault.TheVariants as fault
use Rattle.gs_engine.proofs.Concluding.{failing}
use Rattle.gs_engine.proofs.Counting.{rises_on}

-- jobs are in flight only where the run was cut short
cut_by : (e : RunFault) (X : Type 0) → ((IsCut e → ⊥) → X) → (X → ⊥) → IsCut e
cut_by (fault.Program line kind) X idle busy = busy (idle (λ is. is))
cut_by fault.FuelOut X idle busy = busy (idle (λ is. is))
cut_by (fault.TaskLost n) X idle busy = busy (idle (λ is. is))
cut_by (fault.WorkersLost n) X idle busy = busy (idle (λ is. is))
cut_by (fault.BadRecord index) X idle busy = tt
cut_by (fault.Lost v kept found) X idle busy = tt
cut_by fault.Disk X idle busy = tt
cut_by fault.NoMemory X idle busy = tt

-- what such an answer says, it says of no history
shows_cut : (T : Type 0) (s : Setup) (h g : History) (e : RunFault) → IsCut e
    → ((index : ℕ) → failing {T = T} e ≡ failing {T = T} (fault.BadRecord index) → ⊥)
    → Shows s h (failing {T = T} e) → Shows s g (failing {T = T} e)
shows_cut T s h g (fault.Program line kind) cut sound shows = absurd cut
shows_cut T s h g fault.FuelOut cut sound shows = absurd cut
shows_cut T s h g (fault.TaskLost n) cut sound shows = absurd cut
shows_cut T s h g (fault.WorkersLost n) cut sound shows = absurd cut
shows_cut T s h g (fault.BadRecord index) cut sound shows = absurd (sound index refl)
shows_cut T s h g (fault.Lost v kept found) cut sound shows = shows
shows_cut T s h g fault.Disk cut sound shows = tt
shows_cut T s h g fault.NoMemory cut sound shows = tt

busy_idle : {K : Type 0} (jobs : K → Flying) (link : K) → IsBusy (jobs link) → IsIdle (jobs link)
    → ⊥
busy_idle jobs link busy idle = other (jobs link busy.0) (idle.none busy.0) busy.1
  where
    other : {J : Type 0} (o : Option J) → o ≡ None → IsSome o → ⊥
    other o none some = absurd cc

module _ {K : Type 0} {tells : K → History → Type 0} where
  -- a call that came to its end
  pub whole_ran : (T : Type 0) (call : Call) (old new : DiskState) (link : K) (before : History)
      (r : Result T RunFault) → Went tells call old new link before r
      → Ran tells call old new link before r
  whole_ran T call old new link before r went = record {
    always = went.always;
    history = went.history;
    told = went.told;
    are = went.are;
    good = went.good;
    whole = λ cut. went.goes_on;
    recorded = went.recorded;
    shows = went.shows;
    kept = went.kept;
    running = went.running;
    sound = went.sound;
    closed = went.closed;
  }

  -- one that didn't, and whose jobs in flight were given up
  pub given_up : (T : Type 0) (jobs : K → Flying) (faults : K → ℕ) (call : Call) (old new : DiskState)
      (link link_new : K) (before : History) (e : RunFault)
      → ((IsCutShort (failing {T = T} e) → ⊥) → IsIdle (jobs link))
      → Abandons tells jobs faults link link_new
      → Went tells call old new link before (failing {T = T} e)
      → Ran tells call old new link_new before (failing {T = T} e)
  given_up T jobs faults call old new link link_new before e idle (inl gone) went =
      let cut = cut_by e (IsIdle (jobs link)) idle (busy_idle jobs link gone.0) in
      record {
        always = went.always;
        history = abandoned ∷ went.history;
        told = gone.1 (went.history ++ call.past) went.told;
        are = went.are;
        good = (went.good, went.goes_on);
        whole = λ other. absurd (other cut);
        recorded = went.recorded;
        shows = shows_cut T call.setup (went.history ++ before)
            (abandoned ∷ went.history ++ before) e cut went.sound went.shows;
        kept = λ other. absurd (other cut);
        running = went.running;
        sound = went.sound;
        closed = went.closed;
      }
  given_up T jobs faults call old new link link_new before e idle (inr none) went = record {
    always = went.always;
    history = went.history;
    told = none.1 (went.history ++ call.past) went.told;
    are = went.are;
    good = went.good;
    whole = λ cut. went.goes_on;
    recorded = went.recorded;
    shows = went.shows;
    kept = went.kept;
    running = went.running;
    sound = went.sound;
    closed = went.closed;
  }

-- the counts after that
pub given_caused : (T : Type 0) (disk disk_mid disk_new link link_mid link_new : ℕ)
    (r : Result T RunFault) → disk_new ≡ disk_mid → link_mid ≤ link_new
    → RunCaused disk disk_mid link link_mid r → RunCaused disk disk_new link link_new r
given_caused T disk disk_mid disk_new link link_mid link_new r same more caused = record {
  of_disk = subst (λ (n : ℕ). Caused (IsDiskFault r) disk n) (sym same) caused.of_disk;
  of_link = record {
    rise = let a = caused.of_link.rise in
        omega (Rattle.std.proofs.Common.arith, a, more);
    cause = λ is. rises_on link link_mid link_new (caused.of_link.cause is) more;
  };
}
