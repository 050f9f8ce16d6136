-- How a run has ended, by the question.
use Rattle.std.specs.Prelude.{Bool, true, false, Option, Some, None}
use Rattle.gs_talk.specs.declared.question.Question.{Question}
use Rattle.gs_talk.specs.declared.question.Question.TheVariants as q
use Rattle.gs_core.specs.declared.verdict.Verdict.{Verdict}
use Rattle.gs_core.specs.declared.verdict.Verdict.TheVariants as verdict

abbrev pub last_verdict : Question → Verdict
last_verdict (q.Call op line args) = verdict.More
last_verdict (q.Use n place) = verdict.More
last_verdict (q.OpenFile name mode line) = verdict.More
last_verdict (q.CloseFile name bytes) = verdict.More
last_verdict q.Barrier = verdict.More
last_verdict q.End = verdict.Ended
last_verdict (q.Fault line kind) = verdict.Fault line kind
last_verdict q.FuelOut = verdict.FuelOut

abbrev pub stopped : Option Question → (is_done : Bool) → Verdict
stopped None is_done = verdict.More
stopped (Some x) true = last_verdict x
stopped (Some x) false = verdict.More
