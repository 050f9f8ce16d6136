-- The last question of a program.
use Rattle.gs_talk.specs.declared.question.Question.{Question}
use Rattle.gs_talk.specs.declared.question.Question.TheVariants as q
use Rattle.gs_main.specs.declared.waits.Last.{Last}
use Rattle.gs_main.specs.declared.waits.Last.TheVariants as l

abbrev pub last_question : Last → Question
last_question l.End = q.End
last_question (l.Fault line kind) = q.Fault line kind
last_question l.FuelOut = q.FuelOut
