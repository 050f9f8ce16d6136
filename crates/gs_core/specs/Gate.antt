-- What is recorded where the program has ended.
use Rattle.std.specs.Prelude.{◌≡◌, ℕ}
use Rattle.gs_entries.specs.declared.entry.GateNote.{GateNote}
use Rattle.gs_talk.specs.declared.question.Question.TheVariants.{End}
use Rattle.gs_talk.specs.Talk.{State, Stop}
use Rattle.gs_pieces.specs.Notes.{notes_of}
use Rattle.gs_history.specs.Setup.{Setup, rest_at}
use Rattle.gs_tables.specs.Gate.{IsGated}

-- what the first k questions did and left, and the text and the variables of the state in which the
-- program ends behind them
pub record IsGate (s : Setup) (k : ℕ) (note : GateNote) : Type 0 where
  pub gated : IsGated s k note.names note.finals note.actions
  pub state : State
  pub ends : rest_at s k ≡ Stop End state
  pub text : note.text ≡ state.text
  pub vars : note.vars ≡ notes_of s.run.texts.program.vars state.vars
