-- Tasks and the jobs that they do.
use Rattle.std.proofs.Common.{◌≡◌, ℕ, ◌<◌, zero, suc, Bool, true, false, refl, ap, sym, subst, ◌∙◌, List, [], ◌∷◌, ◌++◌, length, get_or, arith, Option, Some, None, eq-eqb, inl, inr, if◌then◌else◌}
use Rattle.std.specs.Prelude.{◌==◌, not, cond, option_map, slice_get, slice_set}
use Rattle.std.specs.List.{remove}
use Rattle.std.proofs.lemmas.Bool.{ne_eqb}
use Rattle.std.proofs.lemmas.Option.{slice_get-map, slice_get_read}
use Rattle.std.proofs.lemmas.Bool.Decides.{eqb_tells}
use Rattle.gs_types.specs.declared.job.Job.{Job}
use Rattle.gs_site.specs.Jobs.{job_at, without}
use Rattle.gs_site.specs.JobFacts.{job_push, job_without}
use Rattle.gs_proc.specs.declared.task.Task.{Task}
use Rattle.gs_proc.specs.Tasks.{calls, AreApart}

pub calls_set : {C : Type 0} (ts : List (Task C)) (i : ℕ) (t d : Task C) → t.call ≡ (get_or ts i d).call → calls (slice_set ts i t) ≡ calls ts
calls_set [] i t d e = refl
calls_set (x ∷ ts) zero t d e = ap (λ (j : Job). j ∷ calls ts) e
calls_set (x ∷ ts) (suc i) t d e = ap (λ (js : List Job). x.call ∷ js) (calls_set ts i t d e)

pub get_set : {C : Type 0} (ts : List (Task C)) (i : ℕ) (t : Task C) → i < length ts → slice_get (slice_set ts i t) i ≡ Some t
get_set [] i t lt = absurd (omega arith)
get_set (x ∷ ts) zero t lt = refl
get_set (x ∷ ts) (suc i) t lt = get_set ts i t (omega arith)

pub calls_remove : {C : Type 0} (ts : List (Task C)) (i : ℕ) → calls (remove ts i) ≡ remove (calls ts) i
calls_remove [] zero = refl
calls_remove [] (suc i) = refl
calls_remove (x ∷ ts) zero = refl
calls_remove (x ∷ ts) (suc i) = ap (λ (js : List Job). x.call ∷ js) (calls_remove ts i)

job_of : Job → Option Job → Job
job_of other None = other
job_of other (Some job) = job

some_is : (a b : Job) → Some a ≡ Some b → a ≡ b
unfolding job_of
some_is a b e = ap (job_of a) e

pub apart_push : (js : List Job) (j : Job) → AreApart js → job_at js j.n ≡ None → AreApart (js ++ j ∷ [])
apart_push [] j apart free = (refl, tt)
apart_push (x ∷ js) j apart free = elim (eqb_tells x.n j.n) [
  | inl same ↦ let no : Some x ≡ None = sym (ap (λ (b : Bool). if b then Some x else job_at js j.n) same.0) ∙ free in absurd (cc)
  | inr other ↦
      let rest : job_at js j.n ≡ None = sym (ap (λ (b : Bool). if b then Some x else job_at js j.n) other.0) ∙ free in
      let differs : (j.n == x.n) ≡ false = ne_eqb j.n x.n (λ e. other.1 (sym e)) in
      (job_push js j x.n rest ∙ ap (λ (b : Bool). if b then Some j else job_at js x.n) differs ∙ apart.0, apart_push js j apart.1 rest)
]

-- a job is that of its task
pub job_there : (js : List Job) (i : ℕ) (j : Job) → AreApart js → slice_get js i ≡ Some j → job_at js j.n ≡ Some j
job_there [] i j apart here = absurd (cc)
job_there (x ∷ js) zero j apart here =
    let same : x ≡ j = some_is x j here in
    ap (λ (m : ℕ). job_at (x ∷ js) m) (ap (λ (k : Job). k.n) (sym same)) ∙ ap (λ (b : Bool). if b then Some x else job_at js x.n) (eq-eqb x.n x.n refl) ∙ ap (λ (k : Job). Some k) same
job_there (x ∷ js) (suc i) j apart here =
    let rest = job_there js i j apart.1 here in
    elim (eqb_tells x.n j.n) [
      | inl same ↦ let no : Some j ≡ None = sym rest ∙ ap (job_at js) (sym same.1) ∙ apart.0 in absurd (cc)
      | inr other ↦ ap (λ (b : Bool). if b then Some x else job_at js j.n) other.0 ∙ rest
    ]

without_none : (js : List Job) (n : ℕ) → job_at js n ≡ None → without n js ≡ js
without_none [] n free = refl
without_none (x ∷ js) n free = elim (eqb_tells x.n n) [
  | inl same ↦ let no : Some x ≡ None = sym (ap (λ (b : Bool). if b then Some x else job_at js n) same.0) ∙ free in absurd (cc)
  | inr other ↦
      let rest = without_none js n (sym (ap (λ (b : Bool). if b then Some x else job_at js n) other.0) ∙ free) in
      ap (λ (b : Bool). cond (not b) (x ∷ without n js) (without n js)) other.0 ∙ ap (λ (ks : List Job). x ∷ ks) rest
]

-- without the job at a place there is none of its task
pub remove_without : (js : List Job) (i : ℕ) (j : Job) → AreApart js → slice_get js i ≡ Some j → remove js i ≡ without j.n js
remove_without [] i j apart here = absurd (cc)
remove_without (x ∷ js) zero j apart here =
    let same : x ≡ j = some_is x j here in
    subst (λ (k : Job). js ≡ without k.n (x ∷ js)) same (sym (ap (λ (b : Bool). cond (not b) (x ∷ without x.n js) (without x.n js)) (eq-eqb x.n x.n refl) ∙ without_none js x.n apart.0))
remove_without (x ∷ js) (suc i) j apart here =
    let rest = remove_without js i j apart.1 here in
    let there = job_there js i j apart.1 here in
    elim (eqb_tells x.n j.n) [
      | inl same ↦ let no : Some j ≡ None = sym there ∙ ap (job_at js) (sym same.1) ∙ apart.0 in absurd (cc)
      | inr other ↦ ap (λ (ks : List Job). x ∷ ks) rest ∙ sym (ap (λ (b : Bool). cond (not b) (x ∷ without j.n js) (without j.n js)) other.0)
    ]

none_if : (b : Bool) (o : Option Job) → o ≡ None → (if b then None else o) ≡ None
none_if true o none = refl
none_if false o none = none

put_if : (b : Bool) (x : Job) (js : List Job) → AreApart js → job_at js x.n ≡ None → AreApart (cond b (x ∷ js) js)
put_if true x js apart free = (free, apart)
put_if false x js apart free = apart

pub apart_without : (n : ℕ) (js : List Job) → AreApart js → AreApart (without n js)
apart_without n [] apart = tt
apart_without n (x ∷ js) apart = put_if (not (x.n == n)) x (without n js) (apart_without n js apart.1) (job_without n js x.n ∙ none_if (n == x.n) (job_at js x.n) apart.0)

-- the job of the task at a place
pub call_there : {C : Type 0} (ts : List (Task C)) (i : ℕ) (t : Task C) → slice_get ts i ≡ Some t → slice_get (calls ts) i ≡ Some t.call
call_there ts i t here = slice_get-map (λ t. t.call) ts i ∙ ap (option_map (λ t. t.call)) here

calls_push : {C : Type 0} (ts : List (Task C)) (t : Task C) → calls (ts ++ t ∷ []) ≡ calls ts ++ t.call ∷ []
calls_push [] t = refl
calls_push (x ∷ ts) t = ap (λ (js : List Job). x.call ∷ js) (calls_push ts t)

-- what holds of tasks that are apart, seen as a list that is equal to theirs
pub apart_behind : {C : Type 0} (ts now new : List (Task C)) (t : Task C) → ts ≡ now → AreApart (calls ts) → job_at (calls now) t.call.n ≡ None → new ≡ ts ++ t ∷ [] → AreApart (calls new)
apart_behind ts now new t seen apart free is =
    let here : job_at (calls ts) t.call.n ≡ None = ap (λ us. job_at (calls us) t.call.n) seen ∙ free in
    subst AreApart (sym (ap calls is ∙ calls_push ts t)) (apart_push (calls ts) t.call apart here)

pub only_there : {C : Type 0} (ts now : List (Task C)) (i : ℕ) (t : Task C) → ts ≡ now → AreApart (calls ts) → slice_get now i ≡ Some t → job_at (calls now) t.call.n ≡ Some t.call
only_there ts now i t seen apart here = job_there (calls now) i t.call (subst (λ us. AreApart (calls us)) seen apart) (call_there now i t here)

pub taken : {C : Type 0} (ts now new : List (Task C)) (i : ℕ) (t : Task C) → ts ≡ now → AreApart (calls ts) → slice_get now i ≡ Some t → new ≡ remove ts i → calls new ≡ without t.call.n (calls now)
taken ts now new i t seen apart here is =
    ap calls is ∙ ap (λ us. calls (remove us i)) seen ∙ calls_remove now i ∙ remove_without (calls now) i t.call (subst (λ us. AreApart (calls us)) seen apart) (call_there now i t here)

pub apart_taken : {C : Type 0} (ts now new : List (Task C)) (i : ℕ) (t : Task C) → ts ≡ now → AreApart (calls ts) → slice_get now i ≡ Some t → new ≡ remove ts i → AreApart (calls new)
apart_taken ts now new i t seen apart here is = subst AreApart (sym (taken ts now new i t seen apart here is)) (apart_without t.call.n (calls now) (subst (λ us. AreApart (calls us)) seen apart))

-- an item of a list, seen so
pub item_seen : {C : Type 0} (ts now : List (Task C)) (i : ℕ) (t : Task C) → ts ≡ now → i < length now → t ≡ get_or ts i t → slice_get now i ≡ Some t
item_seen ts now i t seen lt is = slice_get_read now (length now) i t refl lt (is ∙ ap (λ us. get_or us i t) seen)

task_of : {C : Type 0} → Task C → Option (Task C) → Task C
task_of other None = other
task_of other (Some t) = t

pub task_is : {C : Type 0} (a b : Task C) → Some a ≡ Some b → a ≡ b
unfolding task_of
task_is a b e = ap (task_of a) e
