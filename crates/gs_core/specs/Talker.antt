-- The main program and its question.
use Rattle.std.specs.Prelude.{◌≡◌, Option, Some, None}
use Rattle.gs_talk.specs.declared.question.Question.{Question}
use Rattle.gs_talk.specs.declared.question.Question.TheVariants as q
use Rattle.gs_talk.specs.Talk.{Dialogue}
use Rattle.gs_main.specs.Talking.{Talking, Next, Goes, IsFree, AwaitsAnswerTo, IsFreeAfter, Asked}

-- the first is the second, whatever the content is that is closed
abbrev pub IsLike : Question → Question → Type 0
IsLike (q.CloseFile name bytes) (q.CloseFile other content) = name ≡ other
IsLike (q.CloseFile name bytes) x = ⊥
IsLike (q.Call op line args) x = q.Call op line args ≡ x
IsLike (q.Use n place) x = q.Use n place ≡ x
IsLike (q.OpenFile name mode line) x = q.OpenFile name mode line ≡ x
IsLike q.Barrier x = q.Barrier ≡ x
IsLike q.End x = q.End ≡ x
IsLike (q.Fault line kind) x = q.Fault line kind ≡ x
IsLike q.FuelOut x = q.FuelOut ≡ x

-- nothing is asked and the program goes on so, or this is its question
abbrev pub TalksAs : Option Question → Talking → Dialogue → Type 0
TalksAs None m d = m.next ≡ Goes d
TalksAs (Some x) m d = (asked : Question) × IsLike x asked × Asked d asked m.state m.next

-- the program may be asked, or answered
abbrev pub IsAwake : Option Question → Next → Type 0
IsAwake None next = IsFree next
IsAwake (Some x) next = AwaitsAnswerTo x next × IsFreeAfter x next
