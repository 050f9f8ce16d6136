-- The state in which a program has ended.
use Rattle.std.proofs.Common.{◌≡◌, ℕ, refl, sym, ◌∙◌, Option, Some, None, IsSome}
use Rattle.gs_types.specs.History.{History}
use Rattle.gs_talk.specs.declared.question.Question.{Question}
use Rattle.gs_talk.specs.declared.question.Question.TheVariants.{End}
use Rattle.gs_talk.specs.Talk.{State, Dialogue, Stop}
use Rattle.gs_main.specs.Talking.{Talking, Next, Goes, Awaits, Failed, Asked}
use Rattle.gs_history.specs.Setup.{Setup, rest_at}
use Rattle.gs_history.specs.Notes.{NoMisfit}
use Rattle.gs_history.specs.Losses.{NoLoss}
use Rattle.gs_core.specs.Talker.{TalksAs}
use Rattle.gs_core.specs.Core.{AtRest}
use Rattle.gs_core.specs.declared.losing.Lost.{Lost}
use Rattle.gs_core.specs.declared.stage.Stage.{Stage}
use Rattle.gs_core.specs.declared.stage.Stage.TheVariants as stage
use Rattle.gs_core.proofs.Settled.{some_lost, settled_rest}

same_state : (q x : Question) (st now : State) → Stop q st ≡ Stop x now → st ≡ now
same_state q x st now e = cc

asked_state : (d : Dialogue) (q x : Question) (st now : State) (next : Next) → Asked d q now next → d ≡ Stop x st → st ≡ now
asked_state d q x st now (Goes rest) asked stops = same_state x q st now (sym stops ∙ asked.0)
asked_state d q x st now (Awaits w next) asked stops = absurd (let asks = asked.0 in cc)
asked_state d q x st now Failed asked stops = absurd asked

talking_state : (o : Option Question) (m : Talking) (d : Dialogue) (x : Question) (st : State) → IsSome o → TalksAs o m d → d ≡ Stop x st → st ≡ m.state
talking_state None m d x st some talks stops = absurd cc
talking_state (Some y) m d x st some talks stops = asked_state d talks.0 x st m.state m.next talks.2 stops

nothing_lost : (l : Option Lost) (g : Stage) (asked : Option Question) (s : Setup) (k : ℕ) (h : History) → NoLoss s h → NoMisfit s k → AtRest l g asked s k h → l ≡ None
nothing_lost None g asked s k h losses fit rest = refl
nothing_lost (Some l) g asked s k h losses fit rest = absurd (some_lost (Some l) g asked s k h refl losses fit rest)

-- a program that has ended is in the state of its last question
pub ended_state : (l : Option Lost) (g : Stage) (asked : Option Question) (m : Talking) (s : Setup) (k : ℕ) (h : History) (st : State) → NoLoss s h → NoMisfit s k → g ≡ stage.Settled → AtRest l g asked s k h
    → TalksAs asked m (rest_at s k) → rest_at s k ≡ Stop End st → st ≡ m.state
ended_state l g asked m s k h st losses fit settled rest talks stops =
    let known = settled_rest l g asked s k h (nothing_lost l g asked s k h losses fit rest) settled rest in
    talking_state asked m (rest_at s k) End st known.2 talks stops
