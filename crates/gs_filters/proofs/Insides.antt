-- What a link over built-in operations does, from what the link in memory under it does.
use Rattle.std.proofs.Common.{◌≡◌, ◌⊎◌, ℕ, ◌<◌, Bool, true, refl, ap, sym, ◌∙◌, subst, List, [], ◌∷◌, ◌++◌, length, Option, Some, None, Result, Ok, Err, IfOk, OnOk, OnErr, eq-eqb, inl, inr, arith, if◌then◌else◌}
use Rattle.std.specs.Prelude.{◌%◌, ◌==◌, slice_get, drop}
use Rattle.std.proofs.lemmas.Grind.{merely}
use Rattle.std.proofs.Math.Logic.{∥∥₁_map}
use Rattle.gs_types.specs.Counts.{up}
use Rattle.gs_types.specs.History.{History, started, abandoned}
use Rattle.gs_types.specs.declared.job.Job.{Job}
use Rattle.gs_types.specs.declared.memory.NoMemory.{NoMemory}
use Rattle.gs_site.specs.Desk.{after_abandon}
use Rattle.gs_site.specs.JobFacts.{busy_some, job_push, job_without}
use Rattle.gs_site.specs.Jobs.{job_at, number_of, picked}
use Rattle.gs_site.specs.Link.{IsBusy, IsIdle, TellsStart, TellsEnd, Abandons, task_of, after_wait}
use Rattle.gs_site.specs.Memory.{script_of, started_jobs, TakesTurn, EndsBy, counted}
use Rattle.gs_site.specs.Memory as mem
use Rattle.gs_site.specs.Past.{event_told}
use Rattle.gs_site.specs.Turns.{turn_now}
use Rattle.gs_site.specs.declared.turn.Turn.{Turn}
use Rattle.gs_site.specs.declared.link.Event.{Event}
use Rattle.gs_site.specs.declared.link.Event.TheVariants.{Finished, Failed}
use Rattle.gs_site.specs.declared.link.StartErr.{StartErr}
use Rattle.gs_site.specs.declared.memory.MemLink.{MemLink}
use Rattle.gs_filters.specs.Filters.{filters}
use Rattle.gs_filters.specs.Lawful.{job_in, IsLawful, failures_in, IsTogether}
use Rattle.gs_filters.specs.Inside.{Ends}
use Rattle.gs_filters.specs.declared.filters.FilterLaw.{FilterLaw}

abbrev pub Under : Type 0
Under = MemLink FilterLaw

-- ---- a start

-- what a start told of the link in memory
pub started_told : (old new : Under) (job : Job) → TellsStart mem.IsTold old new job (Ok tt) →
    new.desk.told ≡ started job.n job.worker job ∷ old.desk.told
started_told old new job told = sym (told old.desk.told refl)

push_together : (old new : Under) (job : Job) → job_at (started_jobs old) job.n ≡ None →
    started_jobs new ≡ started_jobs old ++ job ∷ [] → mem.faults_of new ≡ mem.faults_of old
    → new.desk.told ≡ started job.n job.worker job ∷
    old.desk.told → IsTogether old → IsTogether new
push_together old new job idle jobs same told is = record {
  flying = λ n. ap (λ (js : List Job). job_at js n) jobs ∙ job_push (started_jobs old) job n idle
      ∙ ap (λ (o : Option Job). if job.n == n then Some job else o) (is.flying n)
      ∙ ap (λ (h : History). job_in h n) (sym told);
  lawful = subst IsLawful (sym told) is.lawful;
  count = same ∙ is.count ∙ ap failures_in (sym told);
}

same_together : (old new : Under) → new ≡ old → ∥ IsTogether old ∥₁ → ∥ IsTogether new ∥₁
same_together old new same is = subst (λ (l : Under). ∥ IsTogether l ∥₁) (sym same) is

pub started_together : (old new : Under) (job : Job) (r : Result (Unit {0}) StartErr) → job_at
    (started_jobs old) job.n ≡ None → TellsStart mem.IsTold old new job r → OnOk r (mem.TakesJob old
    new job) → OnErr r (new ≡ old) → ∥ IsTogether old ∥₁ → ∥ IsTogether new ∥₁
started_together old new job (Ok done) idle told takes same is = ∥∥₁_map is (push_together old new
    job idle takes.jobs takes.count (sym (told old.desk.told refl)))
started_together old new job (Err e) idle told takes same is = same_together old new same is

pub started_script : (old new : Under) (job : Job) (r : Result (Unit {0}) StartErr) → OnOk r
    (mem.TakesJob old new job) → OnErr r (new ≡ old) → length (script_of old) ≡ 0 → length
    (script_of new) ≡ 0
started_script old new job (Ok done) takes same none = ap length takes.script ∙ none
started_script old new job (Err e) takes same none = ap (λ (l : Under). length (script_of l)) same ∙
    none

-- ---- an end

pub no_turns : (turns : List Turn) → length turns ≡ 0 → turns ≡ []
no_turns [] none = refl
no_turns (turn ∷ turns) none = absurd (omega arith)

pub after : (e : Event) (h : History) → after_wait (Ok e) h ≡ event_told e ∷ h
after (Finished n outs) h = refl
after (Failed n) h = refl

ends : (job : Job) (well : Bool) (e : Event) → well ≡ true → EndsBy filters well job e → Ends job e
ends job well (Finished n outs) is by = by.1
ends job well (Failed n) is by = λ outs gives. by outs is gives

-- the turn of a link without a script
well_turn : (old : Under) → length (script_of old) ≡ 0 → turn_now (script_of old) ≡ record {
  pick =
      0;
  well = true;
}
well_turn old none = ap turn_now (no_turns (script_of old) none)

-- the first job in flight is found by its number
first_there : (js : List Job) (job : Job) → slice_get js 0 ≡ Some job → job_at js (number_of
    (slice_get js 0)) ≡ Some job
first_there [] job is = absurd cc
first_there (x ∷ js) job is = ap (λ (b : Bool). if b then Some x else job_at js x.n) (eq-eqb x.n x.n
    refl) ∙ is

first_picked : (js : List Job) (pick : ℕ) → 0 < length js → pick ≡ 0 → picked js pick ≡ number_of
    (slice_get js 0)
first_picked js pick some is = let e : pick % length js ≡ 0 = omega arith in ap (λ (k : ℕ).
    number_of (slice_get js k)) e

pub picks_first : (old new : Under) (e : Event) → length (script_of old) ≡ 0 → IsBusy (mem.jobs_of
    old) → TakesTurn filters old new e → task_of e ≡ number_of (slice_get (started_jobs old) 0)
picks_first old new e none busy takes =
    takes.picks ∙ first_picked (started_jobs old) (turn_now (script_of old)).pick (busy_some
    (started_jobs old) busy.0 busy.1)
    (ap (λ (t : Turn). t.pick) (well_turn old none))

pub ends_first : (old new : Under) (e : Event) → length (script_of old) ≡ 0 → IsBusy (mem.jobs_of
    old) → TakesTurn filters old new e → (job : Job) → slice_get (started_jobs old) 0 ≡ Some job →
    Ends job e
ends_first old new e none busy takes job is =
    ends job (turn_now (script_of old)).well e (ap (λ (t : Turn). t.well) (well_turn old none))
    (takes.ends job (ap (job_at (started_jobs old)) (picks_first old new e none busy takes) ∙
    first_there (started_jobs old) job is))

lawful_end : (law : IsLawful []) (old : Under) (e : Event) → IsTogether old → ((job : Job) →
    mem.jobs_of old (task_of e) ≡ Some job → Ends job e) → IsLawful (event_told e ∷ old.desk.told)
lawful_end law old (Finished n outs) is by = is.lawful
lawful_end law old (Failed n) is by = (λ job there. by job (is.flying n ∙ there), is.lawful)

ended_in : (e : Event) (h : History) (n : ℕ) → job_in (event_told e ∷ h) n ≡ (if task_of e == n then
    None else job_in h n)
ended_in (Finished m outs) h n = refl
ended_in (Failed m) h n = refl

ended_count : (e : Event) (h : History) (n : ℕ) → n ≡ failures_in h
    → counted n e ≡ failures_in (event_told e ∷ h)
ended_count (Finished m outs) h n is = is
ended_count (Failed m) h n is = ap up is

end_together : (old new : Under) (e : Event) → length (script_of old) ≡ 0 → TakesTurn filters old
    new e → new.desk.told ≡ event_told e ∷ old.desk.told → IsTogether old → IsTogether new
end_together old new e none takes told is = record {
  flying = λ n. ap (λ (js : List Job). job_at js n) takes.jobs ∙ job_without (task_of e)
      (started_jobs old) n
      ∙ ap (λ (o : Option Job). if task_of e == n then None else o) (is.flying n)
      ∙ sym (ended_in e old.desk.told n)
      ∙ ap (λ (h : History). job_in h n) (sym told);
  lawful = subst IsLawful (sym told) (lawful_end tt old e is
      (λ job there. ends job (turn_now (script_of old)).well e (ap (λ (t : Turn). t.well) (well_turn
      old none)) (takes.ends job there)));
  count = takes.count ∙ ended_count e old.desk.told (mem.faults_of old) is.count
      ∙ ap failures_in (sym told);
}

pub ended_together : (old new : Under) (r : Result Event NoMemory) → length (script_of old) ≡ 0 →
    TellsEnd mem.IsTold old new r → IfOk r (TakesTurn filters old new) → OnErr r (new ≡ old) → ∥
    IsTogether old ∥₁ → ∥ IsTogether new ∥₁
ended_together old new (Ok e) none told takes same is =
    ∥∥₁_map is (end_together old new e none takes (sym (told old.desk.told refl) ∙ after e
    old.desk.told))
ended_together old new (Err e) none told takes same is = same_together old new same is

drop_none : (turns : List Turn) → length turns ≡ 0 → length (drop 1 turns) ≡ 0
drop_none [] none = refl
drop_none (turn ∷ turns) none = absurd (omega arith)

pub ended_script : (old new : Under) (r : Result Event NoMemory) → IfOk r (TakesTurn filters old
    new) → OnErr r (new ≡ old) → length (script_of old) ≡ 0 → length (script_of new) ≡ 0
ended_script old new (Ok e) takes same none = ap length takes.script ∙ drop_none (script_of old)
    none
ended_script old new (Err e) takes same none = ap (λ (l : Under). length (script_of l)) same ∙ none

-- ---- all jobs let go

-- what is told of that
abbrev pub LeftTold : List Job → History → History → Type 0
LeftTold js before now = (IsBusy (λ n. job_at js n) × (now ≡ abandoned ∷ before)) ⊎ (IsIdle (λ n.
    job_at js n) × (now ≡ before))

told_left : (js : List Job) (before now : History) → LeftTold js before now → now ≡ after_abandon js
    before
told_left [] before now (inl busy) = let some = busy_some [] busy.0.0 busy.0.1 in absurd (omega
    arith)
told_left [] before now (inr idle) = idle.1
told_left (x ∷ js) before now (inl busy) = busy.1
told_left (x ∷ js) before now (inr idle) =
    let none : job_at (x ∷ js) x.n ≡ None = idle.0.none x.n in
    let there : job_at (x ∷ js) x.n ≡ Some x = first_there (x ∷ js) x refl in
    absurd cc

pub left_told : (old new : Under) → Abandons mem.IsTold mem.jobs_of mem.faults_of old new →
    new.desk.told ≡ after_abandon (started_jobs old) old.desk.told
left_told old new either =
    let before = old.desk.told in
    let told : LeftTold (started_jobs old) before new.desk.told = elim either [
      | inl busy ↦ inl (busy.0, sym (busy.1 before refl))
      | inr idle ↦ inr (idle.0, sym (idle.1 before refl))
    ] in
    told_left (started_jobs old) before new.desk.told told

idle_after : (js : List Job) (h : History) (n : ℕ) → ((m : ℕ) → job_at js m ≡ job_in h m) → job_in
    (after_abandon js h) n ≡ None
idle_after [] h n flying = sym (flying n)
idle_after (x ∷ js) h n flying = refl

lawful_after : (js : List Job) (h : History) → IsLawful h → IsLawful (after_abandon js h)
lawful_after [] h is = is
lawful_after (x ∷ js) h is = is

count_after : (js : List Job) (h : History) → failures_in h ≡ failures_in (after_abandon js h)
count_after [] h = refl
count_after (x ∷ js) h = refl

let_go : (old new : Under) → started_jobs new ≡ [] → mem.faults_of new ≡ mem.faults_of old
    → new.desk.told ≡ after_abandon (started_jobs
    old) old.desk.told → IsTogether old → IsTogether new
let_go old new none same told is = record {
  flying = λ n. ap (λ (js : List Job). job_at js n) none
      ∙ sym (idle_after (started_jobs old) old.desk.told n is.flying)
      ∙ ap (λ (h : History). job_in h n) (sym told);
  lawful = subst IsLawful (sym told) (lawful_after (started_jobs old) old.desk.told is.lawful);
  count = same ∙ is.count ∙ count_after (started_jobs old) old.desk.told
      ∙ ap failures_in (sym told);
}

pub left_together : (old new : Under) → Abandons mem.IsTold mem.jobs_of mem.faults_of old new →
    started_jobs new ≡ [] → mem.faults_of new ≡ mem.faults_of old → ∥ IsTogether old ∥₁
    → ∥ IsTogether new ∥₁
left_together old new either none same is =
    ∥∥₁_map is (let_go old new none same (left_told old new either))

-- ---- a new link

pub new_together : (l : Under) → started_jobs l ≡ [] → mem.IsTold l [] → mem.faults_of l ≡ 0
    → ∥ IsTogether l ∥₁
new_together l none told zero = merely (record {
  flying = λ n. ap (λ (js : List Job). job_at js n) none ∙ ap (λ (h : History). job_in h n) told;
  lawful = subst IsLawful told tt;
  count = zero ∙ ap failures_in told;
})
