-- Words say one command.
use Rattle.std.specs.Prelude.{◌≡◌, ℕ, List}
use Rattle.gs_words.specs.declared.command.Command.{Command}
use Rattle.gs_words.specs.Words.{Says}
use Rattle.gs_words.specs.Usage.{IsUsage}

-- words say at most one command
abbrev pub SaysOne : Type 0
SaysOne = (words : List (List ℕ)) (c d : Command) → Says words c → Says words d → c ≡ d

-- words that say a command go wrong nowhere
abbrev pub SaysOrFails : Type 0
SaysOrFails = (words : List (List ℕ)) (c : Command) (at : ℕ) → Says words c → IsUsage words at → ⊥

-- words go wrong at one place at most
abbrev pub FailsOnce : Type 0
FailsOnce = (words : List (List ℕ)) (a b : ℕ) → IsUsage words a → IsUsage words b → a ≡ b
