-- What a plan did, by where it stopped.
use Rattle.std.proofs.Common.{◌≡◌, inr, sym, subst, refl, arith, ℕ, ◌<◌, ◌≤◌, List, length, Some, Result, Ok, Err}
use Rattle.std.specs.Prelude.{MatchResult}
use Rattle.gs_disk.specs.Folder.{Folder}
use Rattle.gs_entries.specs.declared.entry.Entry.{Entry}
use Rattle.gs_store.specs.State.{StoreState}
use Rattle.gs_store.specs.Loading.{IsStoreOf}
use Rattle.gs_entries.specs.declared.entry.GateNote.{GateNote}
use Rattle.gs_idl.specs.Interface.{Interface, Signature}
use Rattle.gs_plan.specs.Fits.{Fit}
use Rattle.gs_store.specs.Ordered.{gate_in}
use Rattle.gs_types.specs.declared.action.Action.{Action}
use Rattle.gs_plan.specs.Durations as durations
use Rattle.gs_plan.specs.declared.kind.DurKind.TheVariants as kinds
use Rattle.gs_types.specs.declared.limits.TheConstants.{TEXT_LIMIT}
use Rattle.gs_verbs.specs.Planning.{IsTextOf, ReadTold, IsCaused, ReadEnds, FailsAlone, IsUnread, IsWanting, HasInterface, HasRun, IsPlanned, IsPlanOf, IsNoPlan, IsPlanIn, IsUnplanned}
use Rattle.gs_verbs.specs.declared.durations.Text.{Text}
use Rattle.gs_verbs.specs.declared.stops.PlanStop.{PlanStop}
use Rattle.gs_verbs.specs.declared.stops.PlanStop.TheVariants.{NoText, BadText, Store, NoRun, Disk, Sink, Memory}

le_through : (a b c : ℕ) → a ≤ b → b ≤ c → a ≤ c
le_through a b c x y = omega arith

-- ---- counts

-- what no disk was asked for isn't its fault
pub plan_ends : {T : Type 0} (old mid new : ℕ) (r : Result T PlanStop) → FailsAlone r → old ≤ mid
    → mid ≤ new → ReadEnds old new r
plan_ends {T} old mid new r alone le more =
    record { rise = le_through old mid new le more; cause = plain r alone }
  where
    plain : (x : Result T PlanStop) → FailsAlone x → IsCaused old new x
    plain (Ok y) w = tt
    plain (Err NoText) w = absurd w
    plain (Err (BadText line kind)) w = tt
    plain (Err (Store bad)) w = tt
    plain (Err NoRun) w = tt
    plain (Err Disk) w = absurd w
    plain (Err Sink) w = absurd w
    plain (Err Memory) w = tt

-- ---- the folder

-- no plan is made of the store
pub no_plan : (folder mid : Folder) (name : List ℕ) (text : Text) (store : StoreState) (s : PlanStop)
    → mid ≡ folder → (told : ReadTold (folder name) (Ok text)) → IsStoreOf store mid
    → IsNoPlan store.entries told.0 s → IsUnplanned folder name s
no_plan folder mid name text store s same told found why =
    plain s why
  where
    here : IsStoreOf store folder
    here = subst (IsStoreOf store) same found

    plain : (x : PlanStop) → IsNoPlan store.entries told.0 x → IsUnplanned folder name x
    plain NoText w = absurd w
    plain (BadText line kind) w = record {
      file = told.0;
      es = store.entries;
      finds = record { there = told.1; store = store; found = here; entries = refl };
      why = w;
    }
    plain (Store bad) w = inr (record {
      file = told.0;
      es = store.entries;
      finds = record { there = told.1; store = store; found = here; entries = refl };
      why = w;
    })
    plain NoRun w = record {
      file = told.0;
      es = store.entries;
      finds = record { there = told.1; store = store; found = here; entries = refl };
      why = w;
    }
    plain Disk w = absurd w
    plain Sink w = absurd w
    plain Memory w = tt

pub plan_there : (slots : ℕ) (folder mid : Folder) (name : List ℕ) (text : Text)
    (store : StoreState) (bytes : List ℕ) → mid ≡ folder
    → (told : ReadTold (folder name) (Ok text)) → IsStoreOf store mid
    → IsPlanOf slots store.entries told.0 bytes → IsPlanIn slots folder name bytes
plan_there slots folder mid name text store bytes same told found plan = record {
  file = told.0;
  es = store.entries;
  finds = record {
    there = told.1;
    store = store;
    found = subst (IsStoreOf store) same found;
    entries = refl;
  };
  plan = plan;
}

pub plan_told : (slots : ℕ) (folder mid : Folder) (name : List ℕ) (text : Text)
    (store : StoreState) (r : Result (List ℕ) PlanStop) → mid ≡ folder
    → ReadTold (folder name) (Ok text) → IsStoreOf store mid
    → ((file : List ℕ) → IsTextOf file text
    → MatchResult r (IsPlanOf slots store.entries file) (IsNoPlan store.entries file))
    → MatchResult r (IsPlanIn slots folder name) (IsUnplanned folder name)
plan_told slots folder mid name text store (Ok bytes) same told found plan =
    plan_there slots folder mid name text store bytes same told found (plan told.0 told.2)
plan_told slots folder mid name text store (Err s) same told found plan =
    no_plan folder mid name text store s same told found (plan told.0 told.2)

-- ---- the plan of a record's run

pub unread_plan : (es : List Entry) (file : List ℕ) (s : PlanStop) (i : Interface) (g : GateNote)
    → HasRun es i g → IsUnread i.ops file s → IsNoPlan es file s
unread_plan es file NoText i g run why = absurd why
unread_plan es file (BadText line kind) i g run why =
    record { i = i; g = g; run = run; refused = why }
unread_plan es file (Store bad) i g run why = absurd why
unread_plan es file NoRun i g run why = absurd why
unread_plan es file Disk i g run why = absurd why
unread_plan es file Sink i g run why = absurd why
unread_plan es file Memory i g run why = tt

pub plan_made : (slots : ℕ) (es : List Entry) (file : List ℕ) (r : Result (List ℕ) PlanStop)
    (i : Interface) (g : GateNote) (longs list : List ℕ) (actions : List Action) → HasRun es i g
    → durations.Says i.ops file longs → list ≡ longs → actions ≡ g.actions
    → MatchResult r (IsPlanned slots list actions) IsWanting
    → MatchResult r (IsPlanOf slots es file) (IsNoPlan es file)
plan_made slots es file (Ok bytes) i g longs list actions run said same own planned = record {
  i = i;
  g = g;
  run = run;
  longs = longs;
  said = said;
  planned = subst (λ (l : List ℕ). IsPlanned slots l g.actions bytes) same
      (subst (λ (l : List Action). IsPlanned slots list l bytes) own planned);
}
plan_made slots es file (Err NoText) i g longs list actions run said same own why = absurd why
plan_made slots es file (Err (BadText line kind)) i g longs list actions run said same own why =
    absurd why
plan_made slots es file (Err (Store bad)) i g longs list actions run said same own why = absurd why
plan_made slots es file (Err NoRun) i g longs list actions run said same own why = absurd why
plan_made slots es file (Err Disk) i g longs list actions run said same own why = absurd why
plan_made slots es file (Err Sink) i g longs list actions run said same own why = absurd why
plan_made slots es file (Err Memory) i g longs list actions run said same own why = tt

-- a record of a run whose actions fit
pub has_run : (es : List Entry) (i : Interface) (g : GateNote) (ops : ℕ) (actions : List Action)
    → HasInterface es i → Some g ≡ gate_in es → ops ≡ length i.ops → actions ≡ g.actions
    → Fit ops actions → HasRun es i g
has_run es i g ops actions interface gate count own fit = record {
  interface = interface;
  gate = sym gate;
  fit = subst (λ (n : ℕ). Fit n g.actions) count (subst (λ (l : List Action). Fit ops l) own fit);
}

-- ---- the file of durations

-- a file beyond the limit of texts
pub too_long : (ops : List Signature) (file : List ℕ) → TEXT_LIMIT < length file
    → durations.IsRefused ops file 0 kinds.TooLong
too_long ops file long = record {
  fault = durations.too_long long;
  nothing = λ list says. let short = says.short in absurd (omega arith);
}
