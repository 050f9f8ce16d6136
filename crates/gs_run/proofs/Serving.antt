-- Commands that can be served end with status 0 or 12, where no count rises.
use Rattle.std.proofs.Common.{◌≡◌, ◌⊎◌, inl, inr, ap, ◌∙◌, ⊎_elim, ℕ, List, Result, Ok, Err}
use Rattle.gs_types.specs.Counts.{Rises}
use Rattle.gs_disk.specs.Folder.{DiskState}
use Rattle.gs_verbs.specs.Reporting.{HasStore}
use Rattle.gs_verbs.specs.Cleaning.{HasGated}
use Rattle.gs_verbs.specs.Planning.{HasPlan}
use Rattle.gs_words.specs.Usage.{IsReading}
use Rattle.gs_words.proofs.Limits.{tries_within}
use Rattle.gs_words.specs.declared.command.Command.TheVariants.{Run, Check, Report, Clean, SelfRun, Plan}
use Rattle.gs_verbs.proofs.Through.{report_through, clean_through, plan_through}
use Rattle.gs_run.specs.Asked.{Wish, HasSlots}
use Rattle.gs_run.specs.Stop.{status_of}
use Rattle.gs_run.specs.Verbs.{report_answer, clean_answer, plan_answer, Reported, Cleaned, PlannedFor}
use Rattle.gs_run.specs.declared.stop.Stop.{Stop}

pub report_so : (told wrote : Type 0) (d e : DiskState) (o p : ℕ) (v w : List ℕ)
    (answer : Result Unit Stop) → Reported told wrote d e o p v w answer → told
    → HasStore d.folder → (Rises d.faults e.faults → ⊥) → (Rises o p → ⊥)
    → (status_of answer ≡ 0) ⊎ (status_of answer ≡ 12)
report_so told wrote d e o p v w answer r t has disk out =
    ⊎_elim (λ ok. inl (ap status_of (r.is ∙ ap report_answer ok)))
    (λ want. inr (ap status_of (r.is ∙ ap report_answer want)))
    (report_through told wrote d e o p v w r.result r.ran t has disk out)

pub clean_so : (told wrote : Type 0) (d e : DiskState) (v w : List ℕ) (answer : Result Unit Stop)
    → Cleaned told wrote d e v w answer → told → (HasGated d.folder → ⊥)
    → (Rises d.faults e.faults → ⊥) → (status_of answer ≡ 0) ⊎ (status_of answer ≡ 12)
clean_so told wrote d e v w answer r t free disk =
    ⊎_elim (λ ok. inl (ap status_of (r.is ∙ ap clean_answer ok)))
    (λ want. inr (ap status_of (r.is ∙ ap clean_answer want)))
    (clean_through told d e r.result r.ran t free disk)

pub plan_so : (told wrote : Type 0) (d e : DiskState) (o p : ℕ) (v w : List ℕ) (slots : ℕ)
    (durations : List ℕ) (answer : Result Unit Stop)
    → PlannedFor told wrote d e o p v w slots durations answer → told
    → HasPlan slots d.folder durations → (Rises d.faults e.faults → ⊥) → (Rises o p → ⊥)
    → (status_of answer ≡ 0) ⊎ (status_of answer ≡ 12)
plan_so told wrote d e o p v w slots durations answer r t has disk out =
    ⊎_elim (λ ok. inl (ap status_of (r.is ∙ ap (plan_answer durations) ok)))
    (λ want. inr (ap status_of (r.is ∙ ap (plan_answer durations) want)))
    (plan_through told wrote d e o p v w slots durations r.result r.ran t has disk out)

-- ---- what words ask for

pub has_slots : (ws : List (List ℕ)) (wish : Wish) → IsReading ws wish → HasSlots wish
has_slots ws (Ok (Run idl program workers settings)) is =
    tries_within ws idl program workers settings is
has_slots ws (Ok (Check idl program)) is = tt
has_slots ws (Ok Report) is = tt
has_slots ws (Ok Clean) is = tt
has_slots ws (Ok (SelfRun seed n)) is = tt
has_slots ws (Ok (Plan slots durations)) is = (is.slots_say.some, is.slots_say.within)
has_slots ws (Err usage) is = tt
