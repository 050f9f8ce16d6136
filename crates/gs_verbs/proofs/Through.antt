-- A command that can be served is, unless a count rises or memory is wanting.
use Rattle.std.proofs.Common.{◌≡◌, ◌⊎◌, inl, inr, refl, sym, ◌∙◌, subst, arith, ℕ, List, length, Option, Some, None, Result, Ok, Err}
use Rattle.std.specs.Prelude.{IsSome}
use Rattle.gs_types.specs.Counts.{Rises}
use Rattle.gs_disk.specs.Folder.{Folder, DiskState}
use Rattle.gs_entries.specs.declared.entry.Entry.{Entry}
use Rattle.gs_entries.specs.declared.entry.GateNote.{GateNote}
use Rattle.gs_entries.specs.declared.entry.Texts.{Texts}
use Rattle.gs_idl.specs.Interface.{Interface}
use Rattle.gs_idl.specs.Grammar as idl
use Rattle.gs_idl.specs.declared.token.IdlKind.{IdlKind}
use Rattle.gs_idl.proofs.Saying.{says_one}
use Rattle.gs_plan.specs.Durations as durations
use Rattle.gs_plan.specs.Fits.{Fit}
use Rattle.gs_store.proofs.Gating.{has_ended}
use Rattle.gs_verbs.specs.Finding.{IsBad}
use Rattle.gs_verbs.specs.Reporting.{HasStore, RanReport}
use Rattle.gs_verbs.specs.Cleaning.{HasGated, RanClean}
use Rattle.gs_verbs.specs.Planning.{HasInterface, IsUnusable, IsWanting, IsPlanOf, IsNoPlan, IsPlanIn, IsNoPlanIn, HasPlan, RanPlan}
use Rattle.gs_verbs.specs.declared.stops.BadStore.{BadStore}
use Rattle.gs_verbs.specs.declared.stops.BadStore.TheVariants.{Log, Record, Lost}
use Rattle.gs_verbs.specs.declared.stops.ReportStop.{ReportStop}
use Rattle.gs_verbs.specs.declared.stops.ReportStop.TheVariants as reports
use Rattle.gs_verbs.specs.declared.stops.CleanStop.{CleanStop}
use Rattle.gs_verbs.specs.declared.stops.CleanStop.TheVariants as cleans
use Rattle.gs_verbs.specs.declared.stops.PlanStop.{PlanStop}
use Rattle.gs_verbs.specs.declared.stops.PlanStop.TheVariants as plans
use Rattle.gs_verbs.proofs.Stores.{has_one, has_no_bad}

pub report_through : (told wrote : Type 0) (d e : DiskState) (o p : ℕ) (v w : List ℕ)
    (r : Result Unit ReportStop) → RanReport told wrote d e o p v w r → told
    → HasStore d.folder → (Rises d.faults e.faults → ⊥) → (Rises o p → ⊥)
    → (r ≡ Ok tt) ⊎ (r ≡ Err reports.Memory)
report_through told wrote d e o p v w (Ok done) ran t has disk out = inl refl
report_through told wrote d e o p v w (Err (reports.Store bad)) ran t has disk out =
    absurd (has_no_bad d.folder has.0 bad has.1 (ran.judged t))
report_through told wrote d e o p v w (Err reports.Disk) ran t has disk out =
    absurd (disk ran.cause)
report_through told wrote d e o p v w (Err reports.Sink) ran t has disk out = absurd (out ran.cause)
report_through told wrote d e o p v w (Err reports.Memory) ran t has disk out = inr refl

pub clean_through : (told : Type 0) (d e : DiskState) (r : Result Unit CleanStop)
    → RanClean told d e r → told → (HasGated d.folder → ⊥) → (Rises d.faults e.faults → ⊥)
    → (r ≡ Ok tt) ⊎ (r ≡ Err cleans.Memory)
clean_through told d e (Ok done) ran t free disk = inl refl
clean_through told d e (Err cleans.Gated) ran t free disk = absurd (free (ran.judged t).0)
clean_through told d e (Err cleans.Disk) ran t free disk = absurd (disk ran.cause)
clean_through told d e (Err cleans.Memory) ran t free disk = inr refl

-- ---- plans

some_none : {A : Type 0} (o : Option A) (x : A) → o ≡ Some x → o ≡ None → ⊥
some_none o x s n = let e : Some x ≡ None = sym s ∙ n in absurd cc

some_one : {A : Type 0} (o : Option A) (x y : A) → o ≡ Some x → o ≡ Some y → x ≡ y
some_one o x y s t = let e : Some x ≡ Some y = sym s ∙ t in cc

one_interface : (es : List Entry) (i j : Interface) → HasInterface es i → HasInterface es j → i ≡ j
one_interface es i j a b =
    let same = some_one _ b.texts a.texts b.header a.header in
    says_one a.texts.idl i j a.says (subst (λ (t : Texts). idl.Says t.idl j) same b.says)

right_or_wrong : (text : List ℕ) (i : Interface) (line : ℕ) (k : IdlKind) → idl.Says text i
    → idl.IsFault text line k → ⊥
right_or_wrong text i line k says (idl.too_long bytes long) = let short = says.short in omega arith
right_or_wrong text i line k says (idl.wrong bytes marks at mark kind short reads there fault
    none) = none i says

usable : (slots : ℕ) (es : List Entry) (file bytes : List ℕ) (bad : BadStore)
    → IsPlanOf slots es file bytes → IsUnusable es bad → ⊥
usable slots es file bytes (Log at) plan why = why
usable slots es file bytes (Record index) plan (inl why) =
    let b = why.1 in
    let own = plan.run.interface in
    let same = some_one _ own.texts b.texts own.header b.header in
    right_or_wrong b.texts.idl plan.i b.line b.kind
    (subst (λ (t : Texts). idl.Says t.idl plan.i) same own.says) b.fault
usable slots es file bytes (Record index) plan (inr why) =
    let same_i = one_interface es plan.i why.i plan.run.interface why.interface in
    let same_g = some_one _ plan.g why.g plan.run.gate why.gate in
    why.unfit (subst (λ (x : Interface). Fit (length x.ops) why.g.actions) same_i
    (subst (λ (x : GateNote). Fit (length plan.i.ops) x.actions) same_g plan.run.fit))
usable slots es file bytes (Lost v kept found) plan why = why

planned_so : (slots : ℕ) (es : List Entry) (file bytes : List ℕ) (stop : PlanStop)
    → IsPlanOf slots es file bytes → IsNoPlan es file stop → (IsWanting stop → ⊥) → ⊥
planned_so slots es file bytes plans.NoText plan why ample = why
planned_so slots es file bytes (plans.BadText line kind) plan why ample =
    let same = one_interface es plan.i why.i plan.run.interface why.run.interface in
    why.refused.nothing plan.longs
    (subst (λ (x : Interface). durations.Says x.ops file plan.longs) same plan.said)
planned_so slots es file bytes (plans.Store bad) plan why ample =
    usable slots es file bytes bad plan why
planned_so slots es file bytes plans.NoRun plan why ample =
    why (has_ended es plan.g plan.run.gate)
planned_so slots es file bytes plans.Disk plan why ample = why
planned_so slots es file bytes plans.Sink plan why ample = why
planned_so slots es file bytes plans.Memory plan why ample = ample tt

planned_in : (slots : ℕ) (folder : Folder) (name bytes : List ℕ) (stop : PlanStop)
    → IsPlanIn slots folder name bytes → IsNoPlanIn folder name stop → (IsWanting stop → ⊥) → ⊥
planned_in slots folder name bytes stop plan non ample =
    let a = plan.finds in
    let b = non.finds in
    let file = some_one (folder name) non.file plan.file b.there a.there in
    let entries : non.es ≡ plan.es = b.entries ∙ has_one folder b.store a.store b.found a.found
    ∙ sym a.entries in
    planned_so slots plan.es plan.file bytes stop plan.plan
    (subst (λ (es : List Entry). IsNoPlan es plan.file stop) entries
    (subst (λ (f : List ℕ). IsNoPlan non.es f stop) file non.why)) ample

pub plan_through : (told wrote : Type 0) (d e : DiskState) (o p : ℕ) (v w : List ℕ) (slots : ℕ)
    (name : List ℕ) (r : Result Unit PlanStop) → RanPlan told wrote d e o p v w slots name r → told
    → HasPlan slots d.folder name → (Rises d.faults e.faults → ⊥) → (Rises o p → ⊥)
    → (r ≡ Ok tt) ⊎ (r ≡ Err plans.Memory)
plan_through told wrote d e o p v w slots name (Ok done) ran t has disk out = inl refl
plan_through told wrote d e o p v w slots name (Err plans.NoText) ran t has disk out =
    absurd (some_none (d.folder name) has.1.file has.1.finds.there (ran.judged t))
plan_through told wrote d e o p v w slots name (Err (plans.BadText line k)) ran t has disk out =
    absurd (planned_in slots d.folder name has.0 (plans.BadText line k) has.1 (ran.judged t)
    (λ wanting. wanting))
plan_through told wrote d e o p v w slots name (Err (plans.Store bad)) ran t has disk out =
    absurd (store_so (ran.judged t))
  where
    store_so : (IsSome (d.folder name) × IsBad d.folder bad) ⊎ IsNoPlanIn d.folder name (plans.Store bad) → ⊥
    store_so (inl why) = has_no_bad d.folder has.1.finds.store bad has.1.finds.found why.1
    store_so (inr why) = planned_in slots d.folder name has.0 (plans.Store bad) has.1 why
        (λ wanting. wanting)
plan_through told wrote d e o p v w slots name (Err plans.NoRun) ran t has disk out =
    absurd (planned_in slots d.folder name has.0 plans.NoRun has.1 (ran.judged t)
    (λ wanting. wanting))
plan_through told wrote d e o p v w slots name (Err plans.Disk) ran t has disk out =
    absurd (disk ran.cause)
plan_through told wrote d e o p v w slots name (Err plans.Sink) ran t has disk out =
    absurd (out ran.cause)
plan_through told wrote d e o p v w slots name (Err plans.Memory) ran t has disk out = inr refl
