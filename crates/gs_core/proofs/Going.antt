-- How far the program goes.
use Rattle.std.proofs.Common.{◌≡◌, ◌∙◌, ℕ, refl, inl, inr}
use Rattle.gs_tables.specs.Table.{looked_in}
use Rattle.gs_core.specs.Stages.{IsAnswered, ahead}
use Rattle.gs_core.specs.Core.{IsLoadOnce, IsSaveOnce, IsOnce, KeptLooks}
use Rattle.gs_core.specs.Turns.{taken_in}
use Rattle.gs_core.specs.declared.machine.Core.{Core}
use Rattle.gs_core.specs.declared.stage.Stage.{Stage}
use Rattle.gs_core.specs.declared.stage.Stage.TheVariants as stage
use Rattle.gs_core.specs.declared.stage.Step.{Step}
use Rattle.gs_core.specs.declared.stage.Step.TheVariants as step

pub taken_answered : (g : Stage) → IsAnswered g → IsAnswered (taken_in g)
taken_answered stage.Open is = is
taken_answered (stage.Looking name) is = is
taken_answered (stage.Looked name seen) is = tt
taken_answered stage.Loading is = is
taken_answered (stage.Loaded l) is = is
taken_answered (stage.Saving len) is = is
taken_answered (stage.Saved len) is = is
taken_answered stage.Settled is = is

pub taken_ahead : (g : Stage) → ahead (taken_in g) ≡ ahead g
taken_ahead stage.Open = refl
taken_ahead (stage.Looking name) = refl
taken_ahead (stage.Looked name seen) = refl
taken_ahead stage.Loading = refl
taken_ahead (stage.Loaded l) = refl
taken_ahead (stage.Saving len) = refl
taken_ahead (stage.Saved len) = refl
taken_ahead stage.Settled = refl

load_taken : (g : Stage) → IsLoadOnce (taken_in g) → IsLoadOnce g
load_taken stage.Open is = is
load_taken (stage.Looking name) is = is
load_taken (stage.Looked name seen) is = tt
load_taken stage.Loading is = is
load_taken (stage.Loaded l) is = is
load_taken (stage.Saving len) is = is
load_taken (stage.Saved len) is = is
load_taken stage.Settled is = is

save_taken : (g : Stage) → IsSaveOnce (taken_in g) → IsSaveOnce g
save_taken stage.Open is = is
save_taken (stage.Looking name) is = is
save_taken (stage.Looked name seen) is = tt
save_taken stage.Loading is = is
save_taken (stage.Loaded l) is = is
save_taken (stage.Saving len) is = is
save_taken (stage.Saved len) is = is
save_taken stage.Settled is = is

pub once_taken : (x : Step) (g : Stage) → IsOnce x (taken_in g) → IsOnce x g
once_taken (step.Look name) g is = is
once_taken (step.Load v kept) g is = load_taken g is
once_taken (step.Save n bytes) g is = save_taken g is
once_taken step.Settled g is = is

pub kept_same : (old mid new : Core) (k m : ℕ) → KeptLooks old mid k m → looked_in new.tables ≡ looked_in mid.tables → KeptLooks old new k m
kept_same old mid new k m (inl a) e = inl (a.0, e ∙ a.1)
kept_same old mid new k m (inr a) e = inr (a.0, e ∙ a.1)
