-- The jobs of a link in memory at its calls.
use Rattle.std.proofs.Common.{◌≡◌, ◌⊎◌, ◌<◌, ℕ, Bool, refl, ap, inl, inr, is_some, List, [], ◌∷◌, length, arith, Option, Some, None, IsSome, eq-eqb, if◌then◌else◌}
use Rattle.std.specs.Prelude.{◌%◌}
use Rattle.gs_types.specs.History.{History, abandoned}
use Rattle.gs_types.specs.declared.job.Job.{Job}
use Rattle.gs_site.specs.Desk.{after_abandon}
use Rattle.gs_site.specs.JobFacts.{job_here}
use Rattle.gs_site.specs.Jobs.{job_at, picked}
use Rattle.gs_site.specs.Link.{IsIdle, IsBusy}

pub job_picked : (js : List Job) (pick : ℕ) → 0 < length js → IsSome (job_at js (picked js pick))
job_picked js pick some = let lt : pick % length js < length js = omega arith in job_here js (pick % length js) lt

-- a job is in flight, and abandoning tells it; or none is, and it tells nothing
abbrev pub Left : List Job → History → History → Type 0
Left js old new = (IsBusy (λ n. job_at js n) × (new ≡ abandoned ∷ old)) ⊎ (IsIdle (λ n. job_at js n) × (new ≡ old))

pub left : (js : List Job) (old new : History) → new ≡ after_abandon js old → Left js old new
left [] old new is = inr (record { none = λ n. refl }, is)
left (x ∷ js) old new is =
    let here = ap (λ (b : Bool). if b then Some x else job_at js x.n) (eq-eqb x.n x.n refl) in
    inl ((x.n, ap is_some here), is)

job_of : Job → Option Job → Job
job_of other None = other
job_of other (Some job) = job

pub some_is : (a b : Job) → Some a ≡ Some b → a ≡ b
unfolding job_of
some_is a b e = ap (job_of a) e
