-- Laws of histories.
use Rattle.std.proofs.Common.{◌≡◌, ℕ, ◌-◌, Bool, refl, sym, ap, ◌∙◌, ◌∷◌, ◌++◌, length, length-append, take, arith, Some, None, eq-eqb, inl, inr, if◌then◌else◌}
use Rattle.std.specs.Prelude.{◌==◌}
use Rattle.std.proofs.Math.Seq.{take-append_seam}
use Rattle.std.proofs.lemmas.Bool.Decides.{eqb_tells}
use Rattle.gs_types.specs.declared.job.Job.{Job}
use Rattle.gs_types.specs.History.{History, started, refused, failed, since, worker_in, at_worker, CountAlike}

-- what came after a mark is the part of the history since it
abbrev pub SinceIsWhatCameAfter : Type 0
SinceIsWhatCameAfter = (h past : History) (mark : ℕ) → length past ≡ mark → since mark (h ++ past)
    ≡ h

-- of a task that isn't in flight a refused start counts as a start and then a failure
abbrev pub RefusedIsStartedAndFailed : Type 0
RefusedIsStartedAndFailed = (h : History) (n worker : ℕ) (job : Job) → worker_in h n ≡ None
    → CountAlike (refused n worker ∷ h) (failed n ∷ started n worker job ∷ h)

pub since_after : SinceIsWhatCameAfter
since_after h past mark at =
    let front : length (h ++ past) - mark ≡ length h = omega (arith, length-append h past) in
    ap (λ (k : ℕ). take k (h ++ past)) front ∙ take-append_seam h past

same_worker : (h : History) (n worker m : ℕ) → worker_in h n ≡ None
    → worker_in h m ≡ (if n == m then None else (if n == m then Some worker else worker_in h m))
same_worker h n worker m free = elim (eqb_tells n m) [
  | inl here ↦ ap (worker_in h) (sym here.1) ∙ free
      ∙ sym (ap (λ (b : Bool). if b then None else (if b then Some worker else worker_in h m))
      here.0)
  | inr there ↦ sym (ap (λ (b : Bool). if b then None
      else (if b then Some worker else worker_in h m)) there.0)
]

-- the worker of a task that was just started
started_at : (h : History) (n worker w : ℕ)
    → at_worker (if n == n then Some worker else worker_in h n) w ≡ at_worker (Some worker) w
started_at h n worker w = ap (λ (b : Bool). at_worker (if b then Some worker else worker_in h n) w)
    (eq-eqb n n refl)

pub refused_alike : RefusedIsStartedAndFailed
refused_alike h n worker job free = record {
  outs = λ m. refl;
  workers = λ m. same_worker h n worker m free;
  loads = λ w. let one = started_at h n worker w in omega (arith, one);
  by_task = λ m. refl;
  by_worker = λ w. let one = started_at h n worker w in omega (arith, one);
}
