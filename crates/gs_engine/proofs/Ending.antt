-- The answer of a call that was stopped, or came to its end.
use Rattle.std.proofs.Common.{◌≡◌, ℕ, ◌≤◌, true, false, Bool, is_some, Option, Some, None, Result, refl, sym, ap, subst, ◌∙◌, arith, inl, inr, ⊎_elim}
use Rattle.std.specs.Prelude.{◌⊎◌, IsErrOf}
use Rattle.gs_types.specs.Counts.{Rises, Caused}
use Rattle.gs_disk.specs.Folder.{Folder}
use Rattle.gs_core.specs.declared.verdict.Verdict.{Verdict}
use Rattle.gs_finish.specs.declared.halt.Halt.{Halt}
use Rattle.gs_finish.specs.declared.halt.Halt.TheVariants.{Disk}
use Rattle.gs_engine.specs.Reading.{LacksLength}
use Rattle.gs_engine.specs.Running.{IsCut, IsCutShort, IsDiskFault, IsGivenUp, IsMisfitVerdict, LacksLengthIn, RunCaused, fault_of_halt}
use Rattle.gs_engine.specs.declared.running.RunFault.{RunFault}
use Rattle.gs_engine.proofs.Concluding.{failing, halted, halt_lacks, halt_cut, halt_blames, halt_disk}
use Rattle.gs_engine.proofs.Counting.{caused_from}

-- ---- it was stopped

pub cut_halt : (T X : Type 0) (f : RunFault) (e : Halt) → f ≡ fault_of_halt e
    → (IsCutShort (failing {T = T} f) → ⊥) → X
cut_halt T X f e same whole = absurd (whole (subst IsCut (sym same) (halt_cut e)))

pub lacks_halt : (folder : Folder) (f : RunFault) (e : Halt) → f ≡ fault_of_halt e
    → LacksLength folder e → LacksLengthIn folder f
lacks_halt folder f e same lacks =
    subst (LacksLengthIn folder) (sym same) (halt_lacks folder e lacks)

pub caused_halt : (T S : Type 0) (f : RunFault) (e : Halt) (a b link link_new : ℕ)
    → f ≡ fault_of_halt e → Caused (IsErrOf (halted {T = T} e) Disk) a b → link ≤ link_new
    → RunCaused a b link link_new (failing {T = S} f)
caused_halt T S f e a b link link_new same caused le =
    subst (λ (x : RunFault). RunCaused a b link link_new (failing {T = S} x)) (sym same) (record {
      of_disk = halt_disk T S e a b caused;
      of_link = record { rise = le; cause = λ is. absurd (halt_blames S e is) };
    })

-- ---- it came to its end

none_there : {J : Type 0} (core : Option ℕ) (job : Option J) → core ≡ None
    → is_some core ≡ is_some job → job ≡ None
none_there core None none same = refl
none_there core (Some j) none same = absurd (other (sym same ∙ ap is_some none))
  where
    other : true ≡ false → ⊥
    other is = absurd cc

-- nothing is in flight where the run was not cut short
pub idle_end : {J T : Type 0} (core : ℕ → Option ℕ) (jobs jobs_new : ℕ → Option J) (v : Verdict)
    (r : Result T RunFault) → ((n : ℕ) → is_some (core n) ≡ is_some (jobs n)) → jobs_new ≡ jobs
    → ((n : ℕ) → core n ≡ None) ⊎ IsMisfitVerdict v
    → ((IsCutShort r → ⊥) → IsMisfitVerdict v → ⊥) → (IsCutShort r → ⊥) → (n : ℕ)
    → jobs_new n ≡ None
idle_end core jobs jobs_new v r together same over cut whole n =
    ap (λ (f : _). f n) same ∙ by_case over
  where
    by_case : ((m : ℕ) → core m ≡ None) ⊎ IsMisfitVerdict v → jobs n ≡ None
    by_case (inl none) = none_there (core n) (jobs n) (none n) (together n)
    by_case (inr misfit) = absurd (cut whole misfit)

pub caused_end : {T : Type 0} (r : Result T RunFault) (a b c link link_mid link_new : ℕ)
    (was failed : Bool) → was ≡ false → a ≤ b → Caused (IsDiskFault r) b c → link ≤ link_mid
    → link_new ≡ link_mid → (IsGivenUp r → failed ≡ true)
    → (failed ≡ true → (was ≡ true) ⊎ Rises link link_mid) → RunCaused a c link link_new r
caused_end r a b c link link_mid link_new was failed false_is le disk more same blamed since =
    record {
      of_disk = caused_from (IsDiskFault r) a b c le disk;
      of_link = record {
        rise = omega (arith, more, same);
        cause = λ is. subst (Rises link) (sym same)
            (⊎_elim (λ yes. absurd (other false_is yes)) (λ rises. rises) (since (blamed is)));
      };
    }
  where
    other : was ≡ false → was ≡ true → ⊥
    other x y = absurd cc
