-- Facts of jobs in flight: one put behind, one taken out.
use Rattle.std.proofs.Common.{◌≡◌, ◌⊎◌, ◌<◌, ℕ, zero, suc, Bool, true, false, refl, sym, ap, subst, ◌∙◌, List, [], ◌∷◌, ◌++◌, length, arith, Option, Some, None, IsSome, is_some, eq-eqb, inl, inr, if◌then◌else◌}
use Rattle.std.specs.Prelude.{◌==◌, not, cond, slice_get}
use Rattle.std.proofs.lemmas.Bool.{ne_eqb}
use Rattle.std.proofs.lemmas.Bool.Decides.{eqb_tells}
use Rattle.gs_types.specs.declared.job.Job.{Job}
use Rattle.gs_site.specs.Jobs.{job_at, without, number_of}
use Rattle.gs_site.specs.Link.{IsBusy, IsIdle}

-- a job put behind, whose task wasn't in flight
pub job_push : (js : List Job) (j : Job) (m : ℕ) → job_at js j.n ≡ None → job_at (js ++ j ∷ []) m
    ≡ (if j.n == m then Some j else job_at js m)
job_push [] j m free = refl
job_push (x ∷ js) j m free = elim (eqb_tells x.n j.n) [
  | inl same ↦ let no : Some x
      ≡ None = sym (ap (λ (b : Bool). if b then Some x else job_at js j.n) same.0)
      ∙ free in absurd (cc)
  | inr other ↦
      let rest = job_push js j m
      (sym (ap (λ (b : Bool). if b then Some x else job_at js j.n) other.0) ∙ free) in
      elim (eqb_tells x.n m) [
        | inl here ↦
            let apart : (j.n == m) ≡ false = ne_eqb j.n m (λ e. other.1 (here.1 ∙ sym e)) in
            ap (λ (b : Bool). if b then Some x else job_at (js ++ j ∷ []) m) here.0
            ∙ sym (ap (λ (b : Bool). if b then Some j
            else (if x.n == m then Some x else job_at js m)) apart
            ∙ ap (λ (b : Bool). if b then Some x else job_at js m) here.0)
        | inr there ↦
            ap (λ (b : Bool). if b then Some x else job_at (js ++ j ∷ []) m) there.0 ∙ rest
            ∙ sym (ap (λ (b : Bool). if j.n == m then Some j
            else (if b then Some x else job_at js m)) there.0)
      ]
]

none_if : (b : Bool) (o : Option Job) → o ≡ None → o ≡ (if b then None else o)
none_if true o none = none
none_if false o none = refl

-- jobs but those of one task
pub job_without : (n : ℕ) (js : List Job) (m : ℕ) → job_at (without n js) m
    ≡ (if n == m then None else job_at js m)
job_without n [] m = none_if (n == m) None refl
job_without n (x ∷ js) m = elim (eqb_tells x.n n) [
  | inl same ↦
      ap (λ (b : Bool). job_at (cond (not b) (x ∷ without n js) (without n js)) m) same.0
      ∙ job_without n js m
      ∙ elim (eqb_tells n m) [
        | inl here ↦ ap (λ (b : Bool). if b then None else job_at js m) here.0
            ∙ sym (ap (λ (b : Bool). if b then None else (if x.n == m then Some x else job_at js m))
            here.0)
        | inr there ↦
            let apart : (x.n == m) ≡ false = ne_eqb x.n m (λ e. there.1 (sym same.1 ∙ e)) in
            ap (λ (b : Bool). if n == m then None else (if b then Some x else job_at js m))
            (sym apart)
      ]
  | inr other ↦
      ap (λ (b : Bool). job_at (cond (not b) (x ∷ without n js) (without n js)) m) other.0
      ∙ elim (eqb_tells x.n m) [
        | inl here ↦
            let apart : (n == m) ≡ false = ne_eqb n m (λ e. other.1 (here.1 ∙ sym e)) in
            ap (λ (b : Bool). if b then Some x else job_at (without n js) m) here.0
            ∙ sym (ap (λ (b : Bool). if b then None
            else (if x.n == m then Some x else job_at js m)) apart
            ∙ ap (λ (b : Bool). if b then Some x else job_at js m) here.0)
        | inr there ↦
            ap (λ (b : Bool). if b then Some x else job_at (without n js) m) there.0
            ∙ job_without n js m ∙ sym
            (ap (λ (b : Bool). if n == m then None else (if b then Some x else job_at js m))
            there.0)
      ]
]

some_or : (b : Bool) (x : Job) (o : Option Job) → IsSome o → IsSome (if b then Some x else o)
some_or true x o some = refl
some_or false x o some = some

-- the task of a job in flight is in flight
pub job_here : (js : List Job) (i : ℕ) → i < length js
    → IsSome (job_at js (number_of (slice_get js i)))
job_here [] i lt = absurd (omega arith)
job_here (x ∷ js) zero lt = let here = ap (λ (b : Bool). if b then Some x else job_at js x.n)
    (eq-eqb x.n x.n refl) in let some : IsSome (Some x) = refl in subst IsSome (sym here) some
job_here (x ∷ js) (suc i) lt = some_or (x.n == number_of (slice_get js i)) x
    (job_at js (number_of (slice_get js i))) (job_here js i (omega arith))

-- where a task is in flight there is a job
pub busy_some : (js : List Job) (n : ℕ) → IsSome (job_at js n) → 0 < length js
busy_some [] n busy = absurd (cc)
busy_some (x ∷ js) n busy = omega arith

-- a job is in flight, or none is
pub busy_or_idle : (js : List Job) → IsBusy (λ n. job_at js n) ⊎ IsIdle (λ n. job_at js n)
busy_or_idle [] = inr (record { none = λ n. refl })
busy_or_idle (x ∷ js) = let here = ap (λ (b : Bool). if b then Some x else job_at js x.n)
    (eq-eqb x.n x.n refl) in inl (x.n, ap is_some here)
