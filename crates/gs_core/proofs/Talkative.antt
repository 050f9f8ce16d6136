-- A program and its question.
use Rattle.std.proofs.Common.{◌≡◌, refl, Some, None}
use Rattle.gs_talk.specs.declared.question.Question.{Question}
use Rattle.gs_talk.specs.declared.question.Question.TheVariants as q
use Rattle.gs_talk.specs.declared.question.Answer.{Answer}
use Rattle.gs_talk.specs.Talk.{State, Dialogue, Ask, Stop}
use Rattle.gs_main.specs.Talking.{Next, Goes, Awaits, Failed, Wanted, wanted, Asked}
use Rattle.gs_core.specs.Talker.{IsLike}

-- each question is like itself
pub like_same : (x : Question) → IsLike x x
like_same (q.Call op line args) = refl
like_same (q.Use n place) = refl
like_same (q.OpenFile name mode line) = refl
like_same (q.CloseFile name bytes) = refl
like_same q.Barrier = refl
like_same q.End = refl
like_same (q.Fault line kind) = refl
like_same q.FuelOut = refl

-- the question is unanswered, and the program goes on so by its answer
pub record Awaiting (d : Dialogue) (x : Question) (st : State) (next : Next) : Type 0 where
  pub kind : Wanted
  pub goes : Answer → Dialogue
  pub rest : d ≡ Ask x st goes
  pub is : next ≡ Awaits kind goes

pub awaiting : (d : Dialogue) (x : Question) (st : State) (next : Next) (w : Wanted) → wanted x ≡ Some w → Asked d x st next → Awaiting d x st next
awaiting d x st (Goes rest) w some asked = let none = asked.2 in absurd cc
awaiting d x st (Awaits kind goes) w some asked = record { kind = kind; goes = goes; rest = asked.0; is = refl }
awaiting d x st Failed w some asked = absurd asked

-- after a last question the program has stopped
pub stopped_at : (d : Dialogue) (x : Question) (st : State) (next : Next) → wanted x ≡ None → Asked d x st next → d ≡ Stop x st
stopped_at d x st (Goes rest) none asked = asked.0
stopped_at d x st (Awaits kind goes) none asked = let some = asked.1 in absurd cc
stopped_at d x st Failed none asked = absurd asked
