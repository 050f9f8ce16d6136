-- Where the sequential run ends, built-in operations fail no task of it.
use Rattle.std.proofs.Common.{◌≡◌, ◌≤◌, ◌+◌, ℕ, zero, suc, Bool, true, false, ◌||◌, refl, ap, sym, subst, ◌∙◌, List, [], ◌∷◌, ◌++◌, length, Option, Some, None, inl, inr, arith, eq-eqb, if◌then◌else◌}
use Rattle.std.specs.Prelude.{IsSome, ◌==◌, nat_le, is_none}
use Rattle.std.specs.List.{list_any, list_all}
use Rattle.std.proofs.lemmas.Bool.{and_parts, leb-true, false≢true, cases_Bool}
use Rattle.std.proofs.lemmas.Bool.Decides.{eqb_tells}
use Rattle.std.proofs.lemmas.List.Folds.{list_any-append}
use Rattle.std.proofs.lemmas.List.Sums.{AllPass-from_list_all}
use Rattle.gs_idl.specs.Interface.{name_at}
use Rattle.gs_types.specs.Bytes.{is_text_byte}
use Rattle.gs_types.specs.History.{History, noted, started, refused, finished, failed, abandoned, worker_in}
use Rattle.gs_types.specs.Job.{Meaning, Fit, IsFile, IsInt, IsStr, inputs}
use Rattle.gs_types.specs.declared.limits.TheConstants.{FILE_LIMIT, STRING_LIMIT}
use Rattle.gs_types.specs.declared.value.Value.{Value}
use Rattle.gs_types.specs.declared.value.Value.TheVariants as value
use Rattle.gs_types.specs.declared.job.Job.{Job}
use Rattle.gs_types.specs.declared.job.Arg.{Arg}
use Rattle.gs_types.specs.declared.job.Arg.TheVariants.{Given, Both, OutFile, OutInt, OutStr}
use Rattle.gs_talk.specs.declared.question.Question.{Question}
use Rattle.gs_talk.specs.Talk.{Dialogue, Done, Ask, Stop}
use Rattle.gs_talk.specs.Seq.{Run, Task, seq, task_at, any_lost, is_lost, last_by, gives, fitting, fit, is_file, is_int, is_string, EndsIn}
use Rattle.gs_talk_laws.proofs.Ends.{ends_stay}
use Rattle.gs_talk_laws.proofs.Stays.{tasks_read_versions}
use Rattle.gs_talk_laws.proofs.Staying.{seq_grown}
use Rattle.gs_history.specs.Setup.{Noting, Setup, world_at}
use Rattle.gs_history.specs.Notes.{AreNoted}
use Rattle.gs_history.specs.Good.{Good}
use Rattle.gs_history.specs.Ready.{IsJob}
use Rattle.gs_filters.specs.Filters.{filters}
use Rattle.gs_filters.specs.Lawful.{GivesNone, IsLawful, job_in, failures_in}

-- ---- outputs that pass the test fit

file_from : (v : Value) → is_file v ≡ true → IsFile v
file_from (value.File bytes) is = leb-true (length bytes) FILE_LIMIT is
file_from (value.Int n) is = absurd (false≢true is)
file_from (value.Str s) is = absurd (false≢true is)

int_from : (v : Value) → is_int v ≡ true → IsInt v
int_from (value.Int n) is = tt
int_from (value.File bytes) is = absurd (false≢true is)
int_from (value.Str s) is = absurd (false≢true is)

string_from : (v : Value) → is_string v ≡ true → IsStr v
string_from (value.Str s) is =
    let parts = and_parts (nat_le (length s) STRING_LIMIT) (list_all is_text_byte s) is in
    let each = AllPass-from_list_all is_text_byte s parts.1 in
    record { short = leb-true (length s) STRING_LIMIT parts.0; each = λ k lt. each k 0 lt }
string_from (value.File bytes) is = absurd (false≢true is)
string_from (value.Int n) is = absurd (false≢true is)

fit_from : (args : List Arg) (outs : List Value) → fit args outs ≡ true → Fit args outs
fit_from [] [] is = tt
fit_from [] (v ∷ outs) is = absurd (false≢true is)
fit_from (Given v ∷ args) outs is = fit_from args outs is
fit_from (Both bytes ∷ args) [] is = absurd (false≢true is)
fit_from (Both bytes ∷ args) (v ∷ outs) is =
    let parts = and_parts (is_file v) (fit args outs) is in
    (file_from v parts.0, fit_from args outs parts.1)
fit_from (OutFile ∷ args) [] is = absurd (false≢true is)
fit_from (OutFile ∷ args) (v ∷ outs) is =
    let parts = and_parts (is_file v) (fit args outs) is in
    (file_from v parts.0, fit_from args outs parts.1)
fit_from (OutInt ∷ args) [] is = absurd (false≢true is)
fit_from (OutInt ∷ args) (v ∷ outs) is =
    let parts = and_parts (is_int v) (fit args outs) is in
    (int_from v parts.0, fit_from args outs parts.1)
fit_from (OutStr ∷ args) [] is = absurd (false≢true is)
fit_from (OutStr ∷ args) (v ∷ outs) is =
    let parts = and_parts (is_string v) (fit args outs) is in
    (string_from v parts.0, fit_from args outs parts.1)

none_fits : (args : List Arg) (o : Option (List Value))
    → ((outs : List Value) → o ≡ Some outs → Fit args outs → ⊥) → fitting args o ≡ None
none_fits args None never = refl
none_fits args (Some outs) never = elim (cases_Bool (fit args outs)) [
  | inl is ↦ absurd (never outs refl (fit_from args outs is))
  | inr isnt ↦ ap (λ (b : Bool). if b then Some outs else None) isnt
]

-- ---- a task that is lost stays lost

true_or : (a b : Bool) → a ≡ true → (a || b) ≡ true
true_or a b is = ap (λ (c : Bool). c || b) is

or_true : (a : Bool) → (a || true) ≡ true
or_true true = refl
or_true false = refl

any_at : (ts : List Task) (n : ℕ) (t : Task) → task_at ts n ≡ Some t → is_lost t ≡ true
    → list_any is_lost ts ≡ true
any_at ts zero t at lost = absurd cc
any_at [] (suc n) t at lost = absurd cc
any_at (x ∷ ts) (suc zero) t at lost =
    let same : x ≡ t = cc in
    true_or (is_lost x) (list_any is_lost ts) (ap is_lost same ∙ lost)
any_at (x ∷ ts) (suc (suc n)) t at lost =
    ap (λ (b : Bool). is_lost x || b) (any_at ts (suc n) t at lost)
    ∙ or_true (is_lost x)

still_lost : (r : Run) (k more : ℕ) → k ≤ more → any_lost (seq r k).world ≡ true
    → any_lost (seq r more).world ≡ true
still_lost r k more le lost =
    let grown = (seq_grown r k more le).tasks in
    sym (ap (list_any is_lost) grown.1)
    ∙ list_any-append is_lost (seq r k).world.tasks grown.0
    ∙ true_or (list_any is_lost (seq r k).world.tasks) (list_any is_lost grown.0) lost

none_last : (d : Dialogue) (z : Question) → last_by true d ≡ Some z → ⊥
none_last (Ask x s next) z e = absurd cc
none_last (Stop x s) z e = absurd cc
none_last (Done n s) z e = absurd cc

ends_unlost : (lost : Bool) (d : Dialogue) (z : Question) → last_by lost d ≡ Some z → lost ≡ true
    → ⊥
ends_unlost lost d z ends is = none_last d z (ap (λ (b : Bool). last_by b d) (sym is) ∙ ends)

le_left : (k m : ℕ) → k ≤ m + k
le_left k m = omega arith

le_right : (k m : ℕ) → m ≤ m + k
le_right k m = omega arith

-- a run that ends has lost no task
ends_whole : (r : Run) (m k : ℕ) (z : Question) → any_lost (seq r m).world ≡ true → EndsIn r k z
    → ⊥
ends_whole r m k z lost ends =
    let late = m + k in
    let same : seq r late ≡ seq r k = ends_stay r k late (le_left k m) (inl (z, ends)) in
    ends_unlost (any_lost (seq r k).world) (seq r k).rest z ends.last
    (ap (λ at. any_lost at.world) (sym same) ∙ still_lost r m late (le_right k m) lost)

-- ---- the job of a task in flight

-- its job is its task's, and was started
record HasJob (s : Setup) (told : History) (n : ℕ) : Type 0 where
  job : Job
  worker : ℕ
  task : Task
  moment : ℕ
  called : task_at (world_at s moment).tasks n ≡ Some task
  is : IsJob s n worker task job
  there : job_in told n ≡ Some job

none_some : (o : Option ℕ) → o ≡ None → IsSome o → ⊥
none_some (Some x) is some = absurd cc
none_some None is some = absurd cc

same_if : (m n : ℕ) → (m == n) ≡ true → m ≡ n
same_if m n e = elim (eqb_tells m n) [
  | inl same ↦ same.1
  | inr other ↦ let no_one : false ≡ true = sym other.0 ∙ e in absurd cc
]

-- what is noted alone flies nowhere, and fails nowhere
noted_idle : (s : Setup) (xs : List Noting) (h : History) (n : ℕ) → AreNoted s xs h
    → worker_in h n ≡ None
noted_idle s xs [] n are = refl
noted_idle s [] (e ∷ h) n are = absurd are
noted_idle s (x ∷ xs) (noted m outs ∷ h) n are = noted_idle s xs h n are.1
noted_idle s (x ∷ xs) (started m w job ∷ h) n are = absurd are
noted_idle s (x ∷ xs) (refused m w ∷ h) n are = absurd are
noted_idle s (x ∷ xs) (finished m outs ∷ h) n are = absurd are
noted_idle s (x ∷ xs) (failed m ∷ h) n are = absurd are
noted_idle s (x ∷ xs) (abandoned ∷ h) n are = absurd are

job_after : (s : Setup) (h g : History) (n : ℕ) → job_in g n ≡ job_in h n → HasJob s h n
    → HasJob s g n
job_after s h g n same has = record {
  job = has.job;
  worker = has.worker;
  task = has.task;
  moment = has.moment;
  called = has.called;
  is = has.is;
  there = same ∙ has.there;
}

flies : (s : Setup) (h noting past : History) (n : ℕ) → AreNoted s s.notes noting
    → Good s (h ++ noting) → IsSome (worker_in (h ++ noting) n) → HasJob s (h ++ past) n
flies s [] noting past n are good some =
    absurd (none_some (worker_in noting n) (noted_idle s s.notes noting n are) some)
flies s (noted m outs ∷ h) noting past n are good some =
    absurd (none_some (worker_in (h ++ noting) n)
    (noted_idle s s.notes (noted m outs ∷ (h ++ noting)) n good) some)
flies s (started m w job ∷ h) noting past n are good some =
    by_test (m == n) refl some (λ other. flies s h noting past n are good.0 other)
  where
    by_test : (b : Bool) → (m == n) ≡ b
        → IsSome (if b then Some w else worker_in (h ++ noting) n)
        → (IsSome (worker_in (h ++ noting) n) → HasJob s (h ++ past) n)
        → HasJob s (started m w job ∷ (h ++ past)) n
    by_test true e here rest =
        let same : m ≡ n = same_if m n e in
        subst (HasJob s (started m w job ∷ (h ++ past))) same (record {
          job = job;
          worker = w;
          task = good.1.task;
          moment = good.1.due.ready.opened.moment;
          called = good.1.due.ready.opened.called;
          is = good.1.job_of;
          there = ap (λ (b : Bool). if b then Some job else job_in (h ++ past) m) (eq-eqb m m refl);
        })
    by_test false e other rest = job_after s (h ++ past) (started m w job ∷ (h ++ past)) n
        (ap (λ (b : Bool). if b then Some job else job_in (h ++ past) n) e) (rest other)
flies s (refused m w ∷ h) noting past n are good some =
    job_after s (h ++ past) (refused m w ∷ (h ++ past)) n refl
    (flies s h noting past n are good.0 some)
flies s (finished m outs ∷ h) noting past n are good some =
    by_test (m == n) refl some (λ other. flies s h noting past n are good.0 other)
  where
    by_test : (b : Bool) → (m == n) ≡ b
        → IsSome (if b then None else worker_in (h ++ noting) n)
        → (IsSome (worker_in (h ++ noting) n) → HasJob s (h ++ past) n)
        → HasJob s (finished m outs ∷ (h ++ past)) n
    by_test true e here rest = absurd (none_some None refl here)
    by_test false e other rest = job_after s (h ++ past) (finished m outs ∷ (h ++ past)) n
        (ap (λ (b : Bool). if b then None else job_in (h ++ past) n) e) (rest other)
flies s (failed m ∷ h) noting past n are good some =
    by_test (m == n) refl some (λ other. flies s h noting past n are good.0 other)
  where
    by_test : (b : Bool) → (m == n) ≡ b
        → IsSome (if b then None else worker_in (h ++ noting) n)
        → (IsSome (worker_in (h ++ noting) n) → HasJob s (h ++ past) n)
        → HasJob s (failed m ∷ (h ++ past)) n
    by_test true e here rest = absurd (none_some None refl here)
    by_test false e other rest = job_after s (h ++ past) (failed m ∷ (h ++ past)) n
        (ap (λ (b : Bool). if b then None else job_in (h ++ past) n) e) (rest other)
flies s (abandoned ∷ h) noting past n are good some = absurd (none_some None refl some)

-- ---- a history without a failure

-- no start was refused, and no task failed
abbrev pub IsUnfailed : History → Type 0
IsUnfailed [] = Unit {0}
IsUnfailed (noted n outs ∷ h) = IsUnfailed h
IsUnfailed (started n w job ∷ h) = IsUnfailed h
IsUnfailed (refused n w ∷ h) = ⊥
IsUnfailed (finished n outs ∷ h) = IsUnfailed h
IsUnfailed (failed n ∷ h) = ⊥
IsUnfailed (abandoned ∷ h) = IsUnfailed h

noted_unfailed : (s : Setup) (xs : List Noting) (h rest : History) → AreNoted s xs (h ++ rest)
    → IsUnfailed h
noted_unfailed s xs [] rest are = tt
noted_unfailed s [] (e ∷ h) rest are = absurd are
noted_unfailed s (x ∷ xs) (noted m outs ∷ h) rest are = noted_unfailed s xs h rest are.1
noted_unfailed s (x ∷ xs) (started m w job ∷ h) rest are = absurd are
noted_unfailed s (x ∷ xs) (refused m w ∷ h) rest are = absurd are
noted_unfailed s (x ∷ xs) (finished m outs ∷ h) rest are = absurd are
noted_unfailed s (x ∷ xs) (failed m ∷ h) rest are = absurd are
noted_unfailed s (x ∷ xs) (abandoned ∷ h) rest are = absurd are

-- a task to which the law gives none is lost in the sequential run
lost_task : (s : Setup) (told : History) (n : ℕ) → s.run.law ≡ filters → (has : HasJob s told n)
    → GivesNone has.job → is_lost has.task ≡ true
lost_task s told n law has never =
    let known = tasks_read_versions s.run has.moment n has.task has.called in
    let job = has.job in
    let name = name_at s.run.texts.ops has.task.op in
    let none : fitting job.args (s.run.law job.op (inputs job.args)) ≡ None =
    none_fits job.args (s.run.law job.op (inputs job.args)) (λ outs is fits. never outs
    (record {
      said = ap (λ (m : Meaning). m job.op (inputs job.args)) (sym law) ∙ is;
      fit = fits;
    })) in
    ap is_none (known.2.outs
    ∙ ap (gives s.run.law name) has.is.args
    ∙ ap (λ (x : List ℕ). fitting job.args (s.run.law x (inputs job.args))) (sym has.is.op)
    ∙ none)

pub unfailed : (s : Setup) (h noting past : History) (k : ℕ) (z : Question) → s.run.law ≡ filters
    → AreNoted s s.notes noting → Good s (h ++ noting) → IsLawful (h ++ past) → EndsIn s.run k z
    → IsUnfailed h
unfailed s [] noting past k z law are good lawful ends = tt
unfailed s (noted m outs ∷ h) noting past k z law are good lawful ends =
    noted_unfailed s s.notes (noted m outs ∷ h) noting good
unfailed s (started m w job ∷ h) noting past k z law are good lawful ends =
    unfailed s h noting past k z law are good.0 lawful ends
unfailed s (refused m w ∷ h) noting past k z law are good lawful ends = absurd lawful
unfailed s (finished m outs ∷ h) noting past k z law are good lawful ends =
    unfailed s h noting past k z law are good.0 lawful ends
unfailed s (failed m ∷ h) noting past k z law are good lawful ends =
    let has = flies s h noting past m are good.0 good.1.flies in
    ends_whole s.run has.moment k z
    (any_at (world_at s has.moment).tasks m has.task has.called
    (lost_task s (h ++ past) m law has (lawful.0 has.job has.there))) ends
unfailed s (abandoned ∷ h) noting past k z law are good lawful ends =
    unfailed s h noting past k z law are good.0 lawful ends

-- and nothing more is counted
pub same_count : (h past : History) → IsUnfailed h → failures_in (h ++ past) ≡ failures_in past
same_count [] past un = refl
same_count (noted n outs ∷ h) past un = same_count h past un
same_count (started n w job ∷ h) past un = same_count h past un
same_count (refused n w ∷ h) past un = absurd un
same_count (finished n outs ∷ h) past un = same_count h past un
same_count (failed n ∷ h) past un = absurd un
same_count (abandoned ∷ h) past un = same_count h past un
