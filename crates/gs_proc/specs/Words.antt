-- The words that a child program is called with.
use Rattle.std.specs.Prelude.{◌≡◌, ℕ, ◌+◌, false, List, [], ◌∷◌, ◌++◌, None, codes}
use Rattle.std.specs.Process.{command_dir, clears_env, command_var}
use Rattle.std.specs.declared.process.Command.{Command}
use Rattle.std.specs.Fmt.{decimal, signed_decimal}
use Rattle.gs_types.specs.declared.value.Value.TheVariants.{Int, Str, File}
use Rattle.gs_types.specs.declared.job.Arg.{Arg}
use Rattle.gs_types.specs.declared.job.Arg.TheVariants.{Given, Both, OutFile, OutInt, OutStr}

-- the name of the file at a place of a task
abbrev pub stage_path : ℕ → ℕ → List ℕ
stage_path n place = codes ".gs.stage/" ++ (decimal n ++ (46 ∷ decimal place))

-- a number in decimal, a string itself, and else the name of the place's file
abbrev pub word_at : ℕ → ℕ → Arg → List ℕ
word_at n place (Given (Int v)) = signed_decimal v
word_at n place (Given (Str s)) = s
word_at n place (Given (File bytes)) = stage_path n place
word_at n place (Both bytes) = stage_path n place
word_at n place OutFile = stage_path n place
word_at n place OutInt = stage_path n place
word_at n place OutStr = stage_path n place

-- the words of places from this one on
abbrev pub words_from : ℕ → ℕ → List Arg → List (List ℕ)
words_from n place [] = []
words_from n place (arg ∷ args) = word_at n place arg ∷ words_from n (place + 1) args

-- a command says nothing of folder and environment, so these are the caller's
pub record IsPlain {A : Type 0} (c : Command A) : Type 0 where
  pub folder : command_dir c ≡ None
  pub inherits : clears_env c ≡ false
  pub variables : (name : List ℕ) → command_var c name ≡ None
