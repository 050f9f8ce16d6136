-- Where a core rests.
use Rattle.std.proofs.Common.{◌≡◌, ℕ, refl, sym, ap, ◌∙◌, subst, List, Option, Some, None, IsSome}
use Rattle.gs_types.specs.declared.note.Version.{Version}
use Rattle.gs_types.specs.History.{History}
use Rattle.gs_talk.specs.declared.question.Question.{Question}
use Rattle.gs_talk.specs.declared.question.Question.TheVariants as q
use Rattle.gs_talk.specs.Talk.{Dialogue, Done, Ask, Stop}
use Rattle.gs_talk.specs.Seq.{Content}
use Rattle.gs_talk_laws.specs.Versions.{version_value}
use Rattle.gs_talk_laws.proofs.Stays.{files_are_versions}
use Rattle.gs_looks.specs.declared.look.Look.{Look}
use Rattle.gs_looks.specs.declared.look.Seen.{Seen}
use Rattle.gs_history.specs.Setup.{Setup, world_at, rest_at}
use Rattle.gs_works.specs.Losing.{Before}
use Rattle.gs_works.specs.Works.{Works, Lists}
use Rattle.gs_works.proofs.Losing.{no_loss_is_before, settled_loss}
use Rattle.gs_queue.specs.Queue.{IsNoWorker}
use Rattle.gs_queue.specs.declared.queue.Queue.{Queue}
use Rattle.gs_history.specs.Notes.{NoMisfit}
use Rattle.gs_history.specs.Frontier.{IsFrontier}
use Rattle.gs_core.specs.GivenUp.{workers_lost}
use Rattle.gs_core.specs.Stages.{IsLooking, IsSaving, IsLoaded, LoadedOf, LoadedBy, LoadBy, ByAsked, AnswersLook, with_seen, with_saved}
use Rattle.gs_core.specs.Core.{RestsAt, AtRest, IsStill, NotClosing, looks_with}
use Rattle.gs_core.specs.declared.losing.Lost.{Lost}
use Rattle.gs_core.specs.declared.stage.Loaded.{Loaded}
use Rattle.gs_core.specs.declared.stage.Stage.{Stage}
use Rattle.gs_core.specs.declared.stage.Stage.TheVariants as stage

-- ---- a step is answered

pub rest_looked : (lost : Option Lost) (g : Stage) (asked : Option Question) (s : Setup) (k : ℕ) (h : History) (seen : Seen) → IsLooking g → AtRest lost g asked s k h → AnswersLook s seen g → AtRest lost (with_seen seen g) asked s k h
rest_looked (Some l) (stage.Looking name) asked s k h seen is rest answers = absurd rest.0
rest_looked None (stage.Looking name) asked s k h seen is rest answers = (rest.0, rest.1, answers)
rest_looked lost stage.Open asked s k h seen is rest answers = absurd is
rest_looked lost (stage.Looked name other) asked s k h seen is rest answers = absurd is
rest_looked lost stage.Loading asked s k h seen is rest answers = absurd is
rest_looked lost (stage.Loaded l) asked s k h seen is rest answers = absurd is
rest_looked lost (stage.Saving len) asked s k h seen is rest answers = absurd is
rest_looked lost (stage.Saved len) asked s k h seen is rest answers = absurd is
rest_looked lost stage.Settled asked s k h seen is rest answers = absurd is

pub rest_saved : (lost : Option Lost) (g : Stage) (asked : Option Question) (s : Setup) (k : ℕ) (h : History) → IsSaving g → AtRest lost g asked s k h → AtRest lost (with_saved g) asked s k h
rest_saved (Some l) (stage.Saving len) asked s k h is rest = absurd rest.0
rest_saved None (stage.Saving len) asked s k h is rest = rest
rest_saved lost stage.Open asked s k h is rest = absurd is
rest_saved lost (stage.Looking name) asked s k h is rest = absurd is
rest_saved lost (stage.Looked name other) asked s k h is rest = absurd is
rest_saved lost stage.Loading asked s k h is rest = absurd is
rest_saved lost (stage.Loaded l) asked s k h is rest = absurd is
rest_saved lost (stage.Saved len) asked s k h is rest = absurd is
rest_saved lost stage.Settled asked s k h is rest = absurd is

-- what was read of the version that was asked for is the file's content
loaded_by : (s : Setup) (k : ℕ) (v : Version) (kept : Option ℕ) (l : Loaded) (x : Question) → LoadBy s k v kept x → IsLoaded (version_value s.run.files (world_at s k) v) l → LoadedBy (world_at s k).files l x
loaded_by s k v kept l (q.OpenFile name mode line) for is =
    subst (λ (c : Option Content). IsLoaded c l) (ap (version_value s.run.files (world_at s k)) for.0 ∙ sym (files_are_versions s.run k name)) is
loaded_by s k v kept l (q.Call op line args) for is = absurd for
loaded_by s k v kept l (q.Use n place) for is = absurd for
loaded_by s k v kept l (q.CloseFile name bytes) for is = absurd for
loaded_by s k v kept l q.Barrier for is = absurd for
loaded_by s k v kept l q.End for is = absurd for
loaded_by s k v kept l (q.Fault line kind) for is = absurd for
loaded_by s k v kept l q.FuelOut for is = absurd for

loaded_of : (s : Setup) (k : ℕ) (v : Version) (kept : Option ℕ) (l : Loaded) (d : Dialogue) → ByAsked (LoadBy s k v kept) d → IsLoaded (version_value s.run.files (world_at s k) v) l → LoadedOf (world_at s k).files l d
loaded_of s k v kept l (Done n st) for is = absurd for
loaded_of s k v kept l (Ask x st next) for is = loaded_by s k v kept l x for is
loaded_of s k v kept l (Stop x st) for is = absurd for

pub rest_loaded : (lost : Option Lost) (g : Stage) (asked : Option Question) (s : Setup) (k : ℕ) (h : History) (v : Version) (kept : Option ℕ) (l : Loaded) → g ≡ stage.Loading → AtRest lost g asked s k h → ByAsked (LoadBy s k v kept) (rest_at s k) → IsLoaded (version_value s.run.files (world_at s k) v) l → AtRest lost (stage.Loaded l) asked s k h
rest_loaded (Some m) g asked s k h v kept l is rest for holds = absurd (subst IsStill is rest.0)
rest_loaded None g asked s k h v kept l is rest for holds =
    let before = subst (λ (i : Stage). RestsAt i asked s k h) is rest in
    (before.0, before.1, before.2, loaded_of s k v kept l (rest_at s k) for holds)

-- ---- what is known

pub rest_none : (lost : Option Lost) (g : Stage) (asked : Option Question) (s : Setup) (k : ℕ) (h : History) → lost ≡ None → AtRest lost g asked s k h → RestsAt g asked s k h
rest_none (Some l) g asked s k h e rest = absurd cc
rest_none None g asked s k h e rest = rest

pub none_rest : (lost : Option Lost) (g : Stage) (asked : Option Question) (s : Setup) (k : ℕ) (h : History) → lost ≡ None → RestsAt g asked s k h → AtRest lost g asked s k h
none_rest (Some l) g asked s k h e rest = absurd cc
none_rest None g asked s k h e rest = rest

pub before_at : (g : Stage) (asked : Option Question) (s : Setup) (k : ℕ) (h : History) → RestsAt g asked s k h → Before s h
before_at stage.Open asked s k h rest = rest.0
before_at (stage.Looking name) asked s k h rest = rest.0
before_at (stage.Looked name seen) asked s k h rest = rest.0
before_at stage.Loading asked s k h rest = rest.0
before_at (stage.Loaded l) asked s k h rest = rest.0
before_at (stage.Saving len) asked s k h rest = rest.0
before_at (stage.Saved len) asked s k h rest = rest.0
before_at stage.Settled asked s k h rest = no_loss_is_before s h rest.0

-- a loss stays, and the core has settled
pub rest_lost : (lost : Option Lost) (g : Stage) (asked : Option Question) (s : Setup) (k : ℕ) (h : History) → IsSome lost → AtRest lost g asked s k h → AtRest lost stage.Settled asked s k h
rest_lost (Some l) g asked s k h is rest = (tt, rest.1)
rest_lost None g asked s k h is rest = absurd cc

still_looks : (g : Stage) (looks : List Look) → IsStill g → looks ≡ looks_with g looks
still_looks stage.Open looks is = refl
still_looks (stage.Looking name) looks is = absurd is
still_looks (stage.Looked name seen) looks is = absurd is
still_looks stage.Loading looks is = absurd is
still_looks (stage.Loaded l) looks is = absurd is
still_looks (stage.Saving len) looks is = absurd is
still_looks (stage.Saved len) looks is = absurd is
still_looks stage.Settled looks is = refl

pub lost_looks : (lost : Option Lost) (g : Stage) (asked : Option Question) (s : Setup) (k : ℕ) (h : History) (looks : List Look) → IsSome lost → AtRest lost g asked s k h → looks ≡ looks_with g looks
lost_looks (Some l) g asked s k h looks is rest = still_looks g looks rest.0
lost_looks None g asked s k h looks is rest = absurd cc

-- ---- the program can't go on

pub rest_settled : (q : Queue) (asked : Option Question) (s : Setup) (k : ℕ) (h : History) (stranded : Option ℕ) → IsSome asked → NotClosing asked → NoMisfit s k → Before s h → Works q s h → Lists q s k h → IsFrontier s h k → IsNoWorker q stranded → AtRest (workers_lost stranded) stage.Settled asked s k h
rest_settled q asked s k h None some kept fit before works lists frontier none = (settled_loss s k h q None before works lists frontier none, kept, some, frontier)
rest_settled q asked s k h (Some n) some kept fit before works lists frontier least = (tt, (settled_loss s k h q (Some n) before works lists frontier least, fit))
