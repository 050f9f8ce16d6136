-- Over built-in operations a run that ends counts no fault of the link.
use Rattle.std.proofs.Common.{◌≡◌, ◌<◌, ◌-◌, ◌^◌, ℕ, sym, subst, List, ◌++◌, Option, Result, inl, inr, arith}
use Rattle.std.proofs.Math.Logic.{∥∥₁_elim}
use mathlib.Core.HLevel.{⊥_prop}
use Rattle.gs_types.specs.Counts.{Rises}
use Rattle.gs_types.specs.History.{History}
use Rattle.gs_types.specs.declared.settings.Settings.{Settings}
use Rattle.gs_entries.specs.declared.entry.Entry.{Entry}
use Rattle.gs_talk.specs.declared.question.Question.{Question}
use Rattle.gs_talk.specs.Seq.{EndsIn}
use Rattle.gs_filters.specs.Filters.{filters}
use Rattle.gs_filters.specs.Inside.{IsTold, faults_of}
use Rattle.gs_filters.specs.Lawful.{failures_in}
use Rattle.gs_filters.specs.declared.inside.InsideLink.{InsideLink}
use Rattle.gs_filters.proofs.Calls.{told_counted, told_lawful}
use Rattle.gs_life.specs.Origin.{Origin, run_of}
use Rattle.gs_run.specs.Course.{Takes, setup_for}
use Rattle.gs_run.specs.declared.stop.Stop.{Stop}
use Rattle.gsin.proofs.Failures.{IsUnfailed, unfailed, same_count}

-- the count rises only where the history tells a failure
no_rise : (a b c d : ℕ) → a ≡ c → b ≡ d → d ≡ c → a < 2 ^ 64 - 1 → Rises a b → ⊥
no_rise a b c d one two same below rises = omega arith

calm_by : (old new : InsideLink) (history past : History) → IsTold old past
    → IsTold new (history ++ past) → IsUnfailed history → faults_of old < 2 ^ 64 - 1
    → Rises (faults_of old) (faults_of new) → ⊥
calm_by old new history past before after un below rises =
    ∥∥₁_elim (told_counted old past before) ⊥_prop (λ one.
    ∥∥₁_elim (told_counted new (history ++ past) after) ⊥_prop (λ two.
    no_rise (faults_of old) (faults_of new)
    (failures_in past)
    (failures_in (history ++ past)) one two
    (same_count history past un) below rises))

pub calm : (old new : InsideLink) (history past : History) (o : Origin) (settings : Settings)
    (es : List Entry) (results : Type 0) (file : Option (List ℕ)) (answer : Result Unit Stop)
    (k : ℕ) (z : Question) → filters ≡ o.law → IsTold old past → IsTold new (history ++ past)
    → Takes o settings es results file answer history → EndsIn (run_of o settings.fuel) k z
    → faults_of old < 2 ^ 64 - 1 → Rises (faults_of old) (faults_of new) → ⊥
calm old new history past o settings es results file answer k z law before after takes ends below
    rises = elim takes [
      | inl nothing ↦ calm_by old new history past before after
          (subst IsUnfailed (sym nothing.0) tt) below rises
      | inr course ↦ ∥∥₁_elim (told_lawful new (history ++ past) after) ⊥_prop (λ lawful.
          calm_by old new history past before after
          (unfailed (setup_for o settings course.1.0 es) history course.1.2.noted past k z (sym law)
          course.1.2.are course.1.2.good lawful ends) below rises)
    ]
