-- The end of a write.
use Rattle.std.proofs.Common.{◌≡◌, ◌+◌, ◌∷◌, [], ◌++◌, ℕ, refl, sym, ap, ◌∙◌, subst, List, Option, Some, None, length, arith, Result, Ok, Err, IfOk}
use Rattle.std.proofs.lemmas.List.{length-append, length-map}
use Rattle.gs_types.specs.History.{History}
use Rattle.gs_talk.specs.declared.question.Question.{Question}
use Rattle.gs_talk.specs.declared.question.Question.TheVariants as q
use Rattle.gs_talk.specs.declared.question.Answer.{Answer}
use Rattle.gs_talk.specs.Talk.{Dialogue, State, Ask}
use Rattle.gs_main.specs.Talking.{Next, Asked, a_word}
use Rattle.gs_history.specs.Setup.{Setup, world_at}
use Rattle.gs_tables.specs.Holds.{Holds}
use Rattle.gs_tables.specs.Table.{mains_in, looked_in}
use Rattle.gs_tables.specs.declared.tables.Tables.{Tables}
use Rattle.gs_core.specs.Talker.{IsLike}
use Rattle.gs_core.specs.Stages.{LengthOf, ahead}
use Rattle.gs_core.specs.Turns.{IsTurn, IsOnceStep, looks_after, saved_in}
use Rattle.gs_core.specs.declared.machine.Core.{Core}
use Rattle.gs_core.specs.declared.stage.Stage.{Stage}
use Rattle.gs_core.specs.declared.stage.Stage.TheVariants as stage
use Rattle.gs_core.specs.declared.stage.Step.{Step}
use Rattle.gs_core.proofs.Talkative.{awaiting}
use Rattle.gs_core.proofs.Handled.{with_tables}

pub both_ok : {X Y : Type 0} (r : Result X Y) (P Q : X → Type 0) → IfOk r P → IfOk r Q → IfOk r (λ x. P x × Q x)
both_ok (Ok x) P Q p q = (p, q)
both_ok (Err e) P Q p q = tt

-- ---- the content is asked for

pub length_of : (len : ℕ) (d : Dialogue) (name bytes : List ℕ) (st : State) (goes : Answer → Dialogue) → d ≡ Ask (q.CloseFile name bytes) st goes → len ≡ length bytes → LengthOf len d
length_of len d name bytes st goes rest is = subst (LengthOf len) (sym rest) is

pub save_by : (t : Tables) (s : Setup) (k : ℕ) (h : History) (n : ℕ) → Holds t s k h → n ≡ length (mains_in t) + 1 → n ≡ length (world_at s k).closed + 1
unfolding mains_in
save_by t s k h n holds is = is ∙ ap (λ (i : ℕ). i + 1) (ap length holds.mains ∙ length-map (world_at s k).closed length)

-- ---- the content is kept

-- the question is the end of a write of this file, and the content is so long
pub record Closes (name : List ℕ) (d : Dialogue) (st : State) (next : Next) (len : ℕ) : Type 0 where
  pub content : List ℕ
  pub asks : Asked d (q.CloseFile name content) st next
  pub long : len ≡ length content

closed_so : (name content : List ℕ) (d : Dialogue) (st : State) (next : Next) (len : ℕ) → Asked d (q.CloseFile name content) st next → LengthOf len d → Closes name d st next len
closed_so name content d st next len asks long =
    let aw = awaiting d (q.CloseFile name content) st next a_word refl asks in
    record { content = content; asks = asks; long = subst (LengthOf len) aw.rest long }

pub closes : (name : List ℕ) (x : Question) → IsLike (q.CloseFile name []) x → (d : Dialogue) (st : State) (next : Next) → Asked d x st next → (len : ℕ) → LengthOf len d → Closes name d st next len
closes name (q.CloseFile other content) like d st next asks len long = closed_so name content d st next len (subst (λ (i : List ℕ). Asked d (q.CloseFile i content) st next) (sym like) asks) long
closes name (q.Call op line args) like d st next asks len long = absurd like
closes name (q.Use n place) like d st next asks len long = absurd like
closes name (q.OpenFile other mode line) like d st next asks len long = absurd like
closes name q.Barrier like d st next asks len long = absurd like
closes name q.End like d st next asks len long = absurd like
closes name (q.Fault line kind) like d st next asks len long = absurd like
closes name q.FuelOut like d st next asks len long = absurd like

saved_ahead : (g : Stage) (len : ℕ) → saved_in g ≡ Some len → ahead g ≡ 1
saved_ahead stage.Open len e = absurd cc
saved_ahead (stage.Looking name) len e = absurd cc
saved_ahead (stage.Looked name seen) len e = absurd cc
saved_ahead stage.Loading len e = absurd cc
saved_ahead (stage.Loaded l) len e = absurd cc
saved_ahead (stage.Saving other) len e = absurd cc
saved_ahead (stage.Saved other) len e = refl
saved_ahead stage.Settled len e = absurd cc

once_none : (g : Stage) (x : Option Step) → x ≡ None → IsOnceStep x g
once_none g None e = tt
once_none g (Some x) e = absurd cc

-- one content more is closed, as one was kept ahead
pub turn_closed : (g : Stage) (old new : Core) (t : Tables) (len : ℕ) (x : Option Step) → saved_in g ≡ Some len → mains_in t ≡ mains_in old.tables ++ len ∷ [] → looked_in t ≡ looked_in old.tables → IsTurn stage.Open (with_tables old t) new x → x ≡ None → IsTurn g old new x
turn_closed g old new t len x saved mains looks is none =
    let one = saved_ahead g len saved in
    let long : length (mains_in t) ≡ length (mains_in old.tables) + 1 = ap length mains ∙ length-append (mains_in old.tables) (len ∷ []) in
    let le = is.mains in
    record {
      jobs = is.jobs;
      mains = omega arith;
      looks = is.looks ∙ ap (looks_after x) looks;
      stage = is.stage;
      asked = is.asked;
      awake = is.awake;
      once = once_none g x none;
      calm = is.calm;
    }
