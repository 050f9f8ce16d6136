-- What judging the texts of a run finds.
use Rattle.std.proofs.Common.{◌≡◌, ℕ, List, Option, Some, Result, Ok, Err, sym, subst}
use Rattle.std.specs.Prelude.{MatchResult, IfOk}
use Rattle.gs_broker.specs.Listed.{entries_in}
use Rattle.gs_broker.specs.declared.workers.Workers.{Workers}
use Rattle.gs_check.specs.Passing.{program_in, interface_in}
use Rattle.gs_check.specs.declared.checked.Checked.{Checked}
use Rattle.gs_entries.specs.declared.entry.Texts.{Texts}
use Rattle.gs_run.specs.Judging.{IsTextOf, BothOf, ListFault, ListOf, IsPlanFor, LacksWorker, SaysPlan, PlanOf, JudgedOnly, JudgeTold}
use Rattle.gs_run.specs.Served.{HasList, SayBoth, Served, Refused, wrong, bad_list, no_worker}
use Rattle.gs_run.specs.Sources.{SourcesEnd}
use Rattle.gs_run.specs.declared.judge.Plan.{Plan}
use Rattle.gs_run.specs.declared.kinds.TextKind.{TextKind}
use Rattle.gs_run.specs.declared.kinds.TextKind.TheVariants as kind
use Rattle.gs_run.specs.declared.refusal.Refusal.{Refusal}
use Rattle.gs_run.specs.declared.refusal.Refusal.TheVariants.{NoText, BadText, Disk, Memory}
use Rattle.gs_run.specs.declared.texts.Text.{Text}
use Rattle.gs_run.specs.declared.texts.Text.TheVariants.{Long, Read}

-- ---- the texts are refused

pub wrong_plan : (t : Texts) (file : Option (List ℕ)) (i p w : List ℕ) (r : Refusal)
    → BothOf (Some t.idl) (Some t.program) i p (Err r) → PlanOf t file i p w (Err r)
wrong_plan t file i p w (NoText n) says = absurd says
wrong_plan t file i p w (BadText n line k) says = wrong n line k says
wrong_plan t file i p w Disk says = absurd says
wrong_plan t file i p w Memory says = tt

list_fault : (t : Texts) (file : Option (List ℕ)) (i p w : List ℕ) (c : Checked) (line : ℕ)
    (k : TextKind) → SayBoth t (interface_in c) (program_in c)
    → ListFault (interface_in c).ops file line k → Refused t file i p w w line k
list_fault t file i p w c line (kind.Idl k) say h = absurd h
list_fault t file i p w c line (kind.Program k) say h = absurd h
list_fault t file i p w c line (kind.Check k) say h = absurd h
list_fault t file i p w c line (kind.Durations k) say h = absurd h
list_fault t file i p w c line (kind.Workers k) say h =
    bad_list (interface_in c) (program_in c) h.0 line k say h.1 h.2
list_fault t file i p w c line kind.NoWorker say h = absurd h

pub bad_plan : (t : Texts) (file : Option (List ℕ)) (i p w : List ℕ) (c : Checked) (r : Refusal)
    → SayBoth t (interface_in c) (program_in c) → ListOf (interface_in c).ops file w (Err r)
    → PlanOf t file i p w (Err r)
bad_plan t file i p w c (NoText n) say h = absurd h
bad_plan t file i p w c (BadText n line k) say h =
    subst (λ (x : List ℕ). Refused t file i p w x line k) (sym h.0)
    (list_fault t file i p w c line k say h.1)
bad_plan t file i p w c Disk say h = absurd h
bad_plan t file i p w c Memory say h = tt

-- ---- each operation that is called has a worker, or one hasn't

pub plan_so : (t : Texts) (file : Option (List ℕ)) (i p w : List ℕ) (c : Checked) (ws : Workers)
    (r : Result Plan Refusal) → SayBoth t (interface_in c) (program_in c)
    → HasList (interface_in c).ops file (entries_in ws)
    → MatchResult r (IsPlanFor c ws) (LacksWorker p c ws) → PlanOf t file i p w r
plan_so t file i p w c ws (Ok plan) say list is =
    subst (λ (x : Workers). Served t file (interface_in plan.checked) (program_in plan.checked)
    (entries_in x)) (sym is.workers_are)
    (subst (λ (x : Checked). Served t file (interface_in x) (program_in x) (entries_in ws))
    (sym is.checked_is) (record { both = say; list = list; all = is.all }))
plan_so t file i p w c ws (Err r) say list lacks =
    subst (λ (x : Refusal). PlanOf t file i p w (Err x)) (sym lacks.2)
    (no_worker (interface_in c) (program_in c) (entries_in ws) lacks.0 say list lacks.1)

pub plan_both : (t : Texts) (p : List ℕ) (c : Checked) (ws : Workers) (r : Result Plan Refusal)
    → SayBoth t (interface_in c) (program_in c)
    → MatchResult r (IsPlanFor c ws) (LacksWorker p c ws) → IfOk r (SaysPlan t)
plan_both t p c ws (Ok plan) say is =
    subst (λ (x : Checked). SayBoth t (interface_in x) (program_in x)) (sym is.checked_is) say
plan_both t p c ws (Err r) say lacks = tt

pub plan_only : (p : List ℕ) (c : Checked) (ws : Workers) (r : Result Plan Refusal)
    → MatchResult r (IsPlanFor c ws) (LacksWorker p c ws) → JudgedOnly r
plan_only p c ws (Ok plan) is = tt
plan_only p c ws (Err r) lacks =
    subst (λ (x : Refusal). JudgedOnly {T = Plan} (Err x)) (sym lacks.2) tt

-- what is said of these bytes is said of the texts that they are
pub both_as : (a b c d i p : List ℕ) (r : Result Checked Refusal) → a ≡ c → b ≡ d
    → BothOf (Some a) (Some b) i p r → BothOf (Some c) (Some d) i p r
both_as a b c d i p r idl program says =
    subst (λ (x : List ℕ). BothOf (Some x) (Some d) i p r) idl
    (subst (λ (x : List ℕ). BothOf (Some a) (Some x) i p r) program says)

-- ---- the worker list's file

text_there : (file : Option (List ℕ)) (t : Text) → IsTextOf file t
    → (text : List ℕ) × (file ≡ Some text)
text_there file Long is = (is.0, is.1)
text_there file (Read bytes) is = (bytes, is.0)

pub plan_told : (t : Texts) (file : Option (List ℕ)) (list : Text) (i p w : List ℕ)
    (r : Result Plan Refusal) → IsTextOf file list → PlanOf t file i p w r
    → JudgeTold t file i p w r
plan_told t file list i p w (Ok plan) is says = says
plan_told t file list i p w (Err (NoText n)) is says = absurd says
plan_told t file list i p w (Err (BadText n line k)) is says = (text_there file list is, says)
plan_told t file list i p w (Err Disk) is says = tt
plan_told t file list i p w (Err Memory) is says = tt

pub plan_ends : (old new : ℕ) (r : Result Plan Refusal) → JudgedOnly r → SourcesEnd old new r
plan_ends old new (Ok plan) only = tt
plan_ends old new (Err (NoText n)) only = tt
plan_ends old new (Err (BadText n line k)) only = tt
plan_ends old new (Err Disk) only = absurd only
plan_ends old new (Err Memory) only = tt
