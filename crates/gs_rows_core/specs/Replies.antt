-- Answers of the plain world.
use Rattle.std.specs.Prelude.{◌≡◌, Option, Some, None}
use Rattle.gs_talk.specs.declared.question.Question.{Question}
use Rattle.gs_talk.specs.declared.question.Answer.{Answer}
use Rattle.gs_main.specs.Talking.{FitsWanted, wanted}

-- an answer to the question; none, where it is a last one
abbrev pub IsReply : Question → Option Answer → Type 0
IsReply question None = wanted question ≡ None
IsReply question (Some a) = FitsWanted (wanted question) a
