-- What a question's handler leaves.
use Rattle.std.proofs.Common.{◌≡◌, ◌≤◌, ◌+◌, ℕ, sym, ap, ◌∙◌, subst, List, Option, length}
use Rattle.gs_types.specs.History.{History}
use Rattle.gs_talk.specs.declared.question.Question.{Question}
use Rattle.gs_talk.specs.declared.question.Answer.{Answer}
use Rattle.gs_talk.specs.Talk.{Dialogue, Ask, Stop, State}
use Rattle.gs_main.specs.Shown.{talking}
use Rattle.gs_history.specs.Setup.{Setup, rest_at}
use Rattle.gs_history.specs.Frontier.{MayAnswer, MayGoOn, IsFrontier}
use Rattle.gs_tables.specs.Asked.{HasGone}
use Rattle.gs_tables.specs.Holds.{Holds}
use Rattle.gs_tables.specs.Table.{mains_in, looked_in}
use Rattle.gs_tables.specs.declared.tables.Tables.{Tables}
use Rattle.gs_core.specs.Stages.{ByAsked, ahead}
use Rattle.gs_core.specs.Turns.{Turning, Answering, IsTurn, looks_after}
use Rattle.gs_core.specs.declared.machine.Core.{Core}
use Rattle.gs_core.specs.declared.stage.Stage.{Stage}
use Rattle.gs_core.specs.declared.stage.Step.{Step}
use Rattle.gs_core.proofs.Talkative.{Awaiting}

abbrev pub with_tables : Core → Tables → Core
with_tables core t = record core { tables = t }

pub turning_with : (core : Core) (t : Tables) (s : Setup) (k : ℕ) (h : History) → Turning core s k h → Holds t s k h → Turning (with_tables core t) s k h
turning_with core t s k h now holds =
    let b = now.bears in
    record { bears = record { tables = holds; works = b.works; lists = b.lists; tasks = b.tasks; flown = b.flown }; made = now.made; before = now.before; calm = now.calm }

pub answering : (core : Core) (t : Tables) (s : Setup) (k : ℕ) (h : History) (x : Question) (st : State) (a : Answer) (now : Turning core s k h) (aw : Awaiting (rest_at s k) x st (talking core.main).next) → HasGone t s k h aw.goes a → Answering (with_tables core t) s k h aw.goes a
answering core t s k h x st a now aw gone =
    let b = now.bears in
    record { gone = gone; works = b.works; lists = b.lists; tasks = b.tasks; flown = b.flown; made = now.made; before = now.before; calm = now.calm; wanted = aw.kind; awaits = aw.is }

-- what comes after the tables have changed is what comes of the whole
pub turn_with : (g : Stage) (old new : Core) (t : Tables) (x : Option Step) → mains_in t ≡ mains_in old.tables → looked_in t ≡ looked_in old.tables → IsTurn g (with_tables old t) new x → IsTurn g old new x
turn_with g old new t x mains looks is = record {
  jobs = is.jobs;
  mains = subst (λ (l : List ℕ). length (mains_in new.tables) + ahead new.stage ≤ length l + ahead g) mains is.mains;
  looks = is.looks ∙ ap (looks_after x) looks;
  stage = is.stage;
  asked = is.asked;
  awake = is.awake;
  once = is.once;
  calm = is.calm;
}

-- ---- what is asked next

pub frontier_of : (s : Setup) (k : ℕ) (h : History) (x : Question) (st : State) (goes : Answer → Dialogue) → rest_at s k ≡ Ask x st goes → (MayAnswer s h k x → ⊥) → IsFrontier s h k
frontier_of s k h x st goes rest waits may = waits (subst (MayGoOn s h k) rest may)

pub goes_on : (s : Setup) (k : ℕ) (h : History) (x : Question) (st : State) (goes : Answer → Dialogue) → rest_at s k ≡ Ask x st goes → MayAnswer s h k x → MayGoOn s h k (rest_at s k)
goes_on s k h x st goes rest may = subst (MayGoOn s h k) (sym rest) may

pub by_asked : (P : Question → Type 0) (d : Dialogue) (x : Question) (st : State) (goes : Answer → Dialogue) → d ≡ Ask x st goes → P x → ByAsked P d
by_asked P d x st goes rest is = subst (ByAsked P) (sym rest) is

pub ended : (s : Setup) (k : ℕ) (h : History) (x : Question) (st : State) → rest_at s k ≡ Stop x st → IsFrontier s h k
ended s k h x st rest may = subst (MayGoOn s h k) rest may
