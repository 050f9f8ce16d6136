-- Where words go wrong.
use Rattle.std.specs.Prelude.{ℕ, ◌+◌, ◌<◌, ◌≤◌, List, ◌++◌, length, take, Result, Ok, Err}
use Rattle.gs_words.specs.declared.command.Command.{Command}
use Rattle.gs_words.specs.declared.command.Usage.{Usage}
use Rattle.gs_words.specs.Words.{Says}

-- the words say some command
abbrev pub IsCommand : List (List ℕ) → Type 0
IsCommand words = (c : Command) × Says words c

-- words with which a command begins
abbrev pub IsBeginning : List (List ℕ) → Type 0
IsBeginning words = (more : List (List ℕ)) × IsCommand (words ++ more)

-- the place, from 0, of the first word with which no command goes on, or the number of words where
-- they are too few
pub record IsUsage (words : List (List ℕ)) (at : ℕ) : Type 0 where
  pub within : at ≤ length words
  pub before : IsBeginning (take at words)
  pub here : at < length words → ¬ IsBeginning (take (at + 1) words)
  pub whole : ¬ IsCommand words

-- the command that the words say; or the place where they go wrong
abbrev pub IsReading : List (List ℕ) → Result Command Usage → Type 0
IsReading words (Ok c) = Says words c
IsReading words (Err u) = IsUsage words u.word
