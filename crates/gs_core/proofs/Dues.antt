-- The question that is due.
use Rattle.std.proofs.Common.{◌≡◌, ◌≤◌, ◌+◌, ℕ, sym, ap, ◌∙◌, subst, Option, Some, None, length}
use Rattle.gs_types.specs.History.{History}
use Rattle.gs_queue.specs.declared.queue.Queue.{Queue}
use Rattle.gs_talk.specs.declared.question.Question.{Question}
use Rattle.gs_talk.specs.declared.question.Question.TheVariants as q
use Rattle.gs_talk.specs.Talk.{Dialogue, State}
use Rattle.gs_idl.specs.Interface.{Interface}
use Rattle.gs_main.specs.Talking.{Next, Asked, Talking, KeepsGiven}
use Rattle.gs_main.specs.Shown.{talking}
use Rattle.gs_history.specs.Setup.{Setup, rest_at, world_at}
use Rattle.gs_history.specs.Frontier.{MayGoOn}
use Rattle.gs_tables.specs.Table.{mains_in, looked_in}
use Rattle.gs_tables.specs.declared.tables.Tables.{Tables}
use Rattle.gs_core.specs.Talker.{IsLike}
use Rattle.gs_core.specs.Stages.{IsAnswered, LoadedOf, LengthOf, ahead}
use Rattle.gs_core.specs.Core.{Stands, Bears, IsMadeFor, RestsAt, NotClosing}
use Rattle.gs_core.specs.Turns.{IsDueQuestion, IsTurn, Turning, loaded_in, saved_in, looks_after}
use Rattle.gs_core.specs.declared.machine.Core.{Core}
use Rattle.gs_core.specs.declared.stage.Loaded.{Loaded}
use Rattle.gs_core.specs.declared.stage.Stage.{Stage}
use Rattle.gs_core.specs.declared.stage.Stage.TheVariants as stage
use Rattle.gs_core.specs.declared.stage.Step.{Step}
use Rattle.gs_core.proofs.Resting.{rest_none, before_at}

-- ---- the core without its question

-- the parts that taking the question leaves
pub record Takes (old mid : Core) : Type 0 where
  pub tables : mid.tables ≡ old.tables
  pub queue : mid.queue ≡ old.queue
  pub lost : mid.lost ≡ old.lost

pub turning_due : (old mid : Core) (s : Setup) (k : ℕ) (h : History) → Takes old mid → KeepsGiven (talking old.main) (talking mid.main) → old.lost ≡ None → Stands old s k h → Turning mid s k h
turning_due old mid s k h takes kept calm stands =
    let made = stands.made in
    record {
      bears = subst (λ (i : Tables). Bears i mid.queue s k h) (sym takes.tables) (subst (λ (i : Queue). Bears old.tables i s k h) (sym takes.queue) stands.bears);
      made = subst (λ (i : Queue). IsMadeFor (talking mid.main) i s) (sym takes.queue) (record {
        texts = kept.given ∙ made.texts;
        operations = ap (λ (i : Interface). i.ops) kept.interface ∙ made.operations;
        programs = made.programs;
        small = made.small;
      });
      before = before_at old.stage old.asked s k h (rest_none old.lost old.stage old.asked s k h calm stands.rest);
      calm = takes.lost ∙ calm;
    }

pub turn_due : (old mid new : Core) (g : Stage) (x : Option Step) → Takes old mid → IsTurn g mid new x → IsTurn g old new x
turn_due old mid new g x takes is = record {
  jobs = λ n. is.jobs n ∙ ap (λ (i : Queue). Rattle.gs_queue.specs.Queue.job_of i n) takes.queue;
  mains = subst (λ (t : Tables). length (mains_in new.tables) + ahead new.stage ≤ length (mains_in t) + ahead g) takes.tables is.mains;
  looks = is.looks ∙ ap (λ (t : Tables). looks_after x (looked_in t)) takes.tables;
  stage = is.stage;
  asked = is.asked;
  awake = is.awake;
  once = is.once;
  calm = λ e. is.calm e ∙ takes.lost;
}

-- ---- the question

-- what is no end of a write has its content
pub exact : (x asked : Question) (d : Dialogue) (st : State) (next : Next) → NotClosing (Some x) → IsLike x asked → Asked d asked st next → Asked d x st next
exact (q.CloseFile name bytes) asked d st next kept like asks = absurd kept
exact (q.Call op line args) asked d st next kept like asks = subst (λ (i : Question). Asked d i st next) (sym like) asks
exact (q.Use n place) asked d st next kept like asks = subst (λ (i : Question). Asked d i st next) (sym like) asks
exact (q.OpenFile name mode line) asked d st next kept like asks = subst (λ (i : Question). Asked d i st next) (sym like) asks
exact q.Barrier asked d st next kept like asks = subst (λ (i : Question). Asked d i st next) (sym like) asks
exact q.End asked d st next kept like asks = subst (λ (i : Question). Asked d i st next) (sym like) asks
exact (q.Fault line kind) asked d st next kept like asks = subst (λ (i : Question). Asked d i st next) (sym like) asks
exact q.FuelOut asked d st next kept like asks = subst (λ (i : Question). Asked d i st next) (sym like) asks

pub asks_it : (before : Option Question) (x y : Question) (m : Talking) (d : Dialogue) → IsDueQuestion before x m d → x ≡ y → NotClosing (Some y) → Asked d y m.state m.next
asks_it before x y m d due is kept =
    let it = subst (λ (i : Question). IsDueQuestion before i m d) is due in
    exact y it.asked d m.state m.next kept it.like it.asks

-- ---- what is known by the stage

pub kept_at : (g : Stage) (asked : Option Question) (s : Setup) (k : ℕ) (h : History) → IsAnswered g → saved_in g ≡ None → RestsAt g asked s k h → NotClosing asked
kept_at stage.Open asked s k h is none rest = rest.1
kept_at (stage.Looking name) asked s k h is none rest = absurd is
kept_at (stage.Looked name seen) asked s k h is none rest = rest.1
kept_at stage.Loading asked s k h is none rest = absurd is
kept_at (stage.Loaded l) asked s k h is none rest = rest.1
kept_at (stage.Saving len) asked s k h is none rest = absurd is
kept_at (stage.Saved len) asked s k h is none rest = absurd cc
kept_at stage.Settled asked s k h is none rest = rest.1

pub loaded_at : (g : Stage) (asked : Option Question) (s : Setup) (k : ℕ) (h : History) (l : Loaded) → loaded_in g ≡ Some l → RestsAt g asked s k h → MayGoOn s h k (rest_at s k) × LoadedOf (world_at s k).files l (rest_at s k)
loaded_at stage.Open asked s k h l is rest = absurd cc
loaded_at (stage.Looking name) asked s k h l is rest = absurd cc
loaded_at (stage.Looked name seen) asked s k h l is rest = absurd cc
loaded_at stage.Loading asked s k h l is rest = absurd cc
loaded_at (stage.Loaded m) asked s k h l is rest =
    let same : m ≡ l = cc in (rest.2, subst (λ (i : Loaded). LoadedOf (world_at s k).files i (rest_at s k)) same rest.3)
loaded_at (stage.Saving len) asked s k h l is rest = absurd cc
loaded_at (stage.Saved len) asked s k h l is rest = absurd cc
loaded_at stage.Settled asked s k h l is rest = absurd cc

pub saved_at : (g : Stage) (asked : Option Question) (s : Setup) (k : ℕ) (h : History) (len : ℕ) → saved_in g ≡ Some len → RestsAt g asked s k h → LengthOf len (rest_at s k)
saved_at stage.Open asked s k h len is rest = absurd cc
saved_at (stage.Looking name) asked s k h len is rest = absurd cc
saved_at (stage.Looked name seen) asked s k h len is rest = absurd cc
saved_at stage.Loading asked s k h len is rest = absurd cc
saved_at (stage.Loaded l) asked s k h len is rest = absurd cc
saved_at (stage.Saving other) asked s k h len is rest = absurd cc
saved_at (stage.Saved other) asked s k h len is rest =
    let same : other ≡ len = cc in subst (λ (i : ℕ). LengthOf i (rest_at s k)) same rest.1
saved_at stage.Settled asked s k h len is rest = absurd cc
