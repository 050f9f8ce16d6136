-- One question more is answered.
use Rattle.std.proofs.Common.{◌≡◌, ℕ, suc, refl, ap, ◌∙◌, List, [], ◌∷◌, ◌++◌, Option, Some, None}
use Rattle.gs_idl.specs.Interface.{Signature}
use Rattle.gs_types.specs.declared.note.Version.{Version}
use Rattle.gs_talk.specs.declared.question.Question.{Question}
use Rattle.gs_talk.specs.declared.question.Answer.{Answer}
use Rattle.gs_talk.specs.Talk.{State, Dialogue, Ask}
use Rattle.gs_talk.specs.Seq.{Standing, seq, step_by, answered, reply, world_after}
use Rattle.gs_talk.specs.Actions.{acts, acts_by, act_of}
use Rattle.gs_talk_laws.specs.Versions.{writings, written_in, written_next, readings, read_in, read_next}
use Rattle.gs_talk_laws.proofs.Staying.{next_seq}
use Rattle.gs_talk_laws.proofs.Renaming.{next_writings, next_readings}
use Rattle.gs_talk_laws.proofs.Writers.{next_acts}
use Rattle.gs_history.specs.Setup.{Setup, world_at, rest_at}

-- the run after the answer
pub record Moved (s : Setup) (k : ℕ) (q : Question) (next : Answer → Dialogue) (a : Answer) : Type 0
  where
    pub rest : rest_at s (suc k) ≡ next a
    pub world : world_at s (suc k) ≡ world_after s.run.law s.run.texts.ops (world_at s k) q
    pub writes : writings s.run (suc k) ≡ writings s.run k ++ written_in s.run.texts.ops (world_at s k) q
    pub reads : readings s.run (suc k) ≡ readings s.run k ++ read_in s.run.texts.ops (world_at s k) (writings s.run k) q
    pub acts_are : acts s.run (suc k) ≡ acts s.run k ++ act_of s.run (world_at s k) q

pub moved : (s : Setup) (k : ℕ) (q : Question) (st : State) (next : Answer → Dialogue) (a : Answer) → rest_at s k ≡ Ask q st next → reply s.run.texts.ops (world_at s k) q ≡ Some a → Moved s k q next a
moved s k q st next a e says =
    let at = seq s.run k in
    let to : seq s.run (suc k) ≡ answered s.run at q next (Some a) = next_seq s.run k ∙ ap (step_by s.run at) e ∙ ap (answered s.run at q next) says in
    record {
      rest = ap (λ (x : Standing). x.rest) to;
      world = ap (λ (x : Standing). x.world) to;
      writes = next_writings s.run k ∙ ap (λ (d : Dialogue). writings s.run k ++ written_next s.run at.world d) e;
      reads = next_readings s.run k ∙ ap (λ (d : Dialogue). readings s.run k ++ read_next s.run at.world (writings s.run k) d) e;
      acts_are = next_acts s.run k ∙ ap (λ (d : Dialogue). acts s.run k ++ acts_by s.run at.world d) e;
    }
