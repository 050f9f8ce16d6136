-- The words of a command, and what they say.
use Rattle.std.specs.Prelude.{◌≡◌, ◌⊎◌, ℕ, ◌-◌, ◌^◌, ◌≤◌, List, [], ◌∷◌, length, Option, Some, None, codes}
use Rattle.std.specs.Bool.{⊤}
use Rattle.std.specs.Option.{unwrap_or}
use Rattle.std.specs.Str.Parse.{IsNumeral, digits_value}
use Rattle.gs_types.specs.Name.{IsName}
use Rattle.gs_types.specs.declared.settings.Settings.{Settings}
use Rattle.gs_types.specs.declared.limits.TheConstants.{FUEL_LIMIT, FUEL_DEFAULT, WINDOW_LIMIT, WINDOW_DEFAULT, TRIES_LIMIT, TRIES_DEFAULT}
use Rattle.gs_words.specs.declared.command.TheConstants.{SELF_LIMIT, PLAN_LIMIT}
use Rattle.gs_words.specs.declared.command.Command.{Command}
use Rattle.gs_words.specs.declared.command.Command.TheVariants.{Run, Check, Report, Clean, SelfRun, Plan}
use Rattle.gs_words.specs.declared.given.Flag.{Flag}
use Rattle.gs_words.specs.declared.given.Flag.TheVariants.{Fuel, Window, Tries}

-- the word is 1 to 20 digits, and they say a number from the least to the most
pub record IsNumber (least most : ℕ) (word : List ℕ) (n : ℕ) : Type 0 where
  pub digits : IsNumeral 10 word
  pub short : length word ≤ 20
  pub says : n ≡ digits_value 10 word
  pub some : least ≤ n
  pub within : n ≤ most

-- ---- the options of a run

abbrev pub spelled : Flag → List ℕ
spelled Fuel = codes "--fuel"
spelled Window = codes "--window"
spelled Tries = codes "--tries"

abbrev pub limit_of : Flag → ℕ
limit_of Fuel = FUEL_LIMIT
limit_of Window = WINDOW_LIMIT
limit_of Tries = TRIES_LIMIT

-- an option with its number
abbrev pub Choice : Type 0
Choice = Flag × ℕ

-- the words are these options, each with its number behind it
abbrev pub AreOptions : List (List ℕ) → List Choice → Type 0
AreOptions [] [] = ⊤
AreOptions [] (o ∷ os) = ⊥
AreOptions (w ∷ []) os = ⊥
AreOptions (w ∷ v ∷ ws) [] = ⊥
AreOptions (w ∷ v ∷ ws) (o ∷ os) =
    (w ≡ spelled o.0) × IsNumber 1 (limit_of o.0) v o.1 × AreOptions ws os

abbrev pub IsGiven : Flag → List Choice → Type 0
IsGiven f [] = ⊥
IsGiven f (o ∷ os) = (o.0 ≡ f) ⊎ IsGiven f os

-- none is given twice
abbrev pub AreDistinct : List Choice → Type 0
AreDistinct [] = ⊤
AreDistinct (o ∷ os) = ¬ IsGiven o.0 os × AreDistinct os

-- the number that is given with an option
abbrev pub or_else : Option ℕ → Option ℕ → Option ℕ
or_else (Some n) other = Some n
or_else None other = other

abbrev pub number_by : Flag → Choice → Option ℕ
number_by Fuel (Fuel, n) = Some n
number_by Fuel (Window, n) = None
number_by Fuel (Tries, n) = None
number_by Window (Fuel, n) = None
number_by Window (Window, n) = Some n
number_by Window (Tries, n) = None
number_by Tries (Fuel, n) = None
number_by Tries (Window, n) = None
number_by Tries (Tries, n) = Some n

abbrev pub number_of : Flag → List Choice → Option ℕ
number_of f [] = None
number_of f (o ∷ os) = or_else (number_by f o) (number_of f os)

-- what is given, and else the default
abbrev pub settings_of : List Choice → Settings
settings_of os = record {
  fuel = unwrap_or (number_of Fuel os) FUEL_DEFAULT;
  window = unwrap_or (number_of Window os) WINDOW_DEFAULT;
  tries = unwrap_or (number_of Tries os) TRIES_DEFAULT;
}

-- ---- the commands

-- `run`, three names, and options in any order
pub record IsRun (words : List (List ℕ)) (idl program workers : List ℕ) (settings : Settings) :
    Type 0 where
  pub more : List (List ℕ)
  pub words_are : words ≡ codes "run" ∷ idl ∷ program ∷ workers ∷ more
  pub idl_name : IsName idl
  pub program_name : IsName program
  pub workers_name : IsName workers
  pub choices : List Choice
  pub options : AreOptions more choices
  pub once : AreDistinct choices
  pub settings_are : settings ≡ settings_of choices

-- `check` and two names
pub record IsCheck (words : List (List ℕ)) (idl program : List ℕ) : Type 0 where
  pub words_are : words ≡ codes "check" ∷ idl ∷ program ∷ []
  pub idl_name : IsName idl
  pub program_name : IsName program

-- `self`, a seed, and how many tasks
pub record IsSelf (words : List (List ℕ)) (seed n : ℕ) : Type 0 where
  pub seed_word : List ℕ
  pub count_word : List ℕ
  pub words_are : words ≡ codes "self" ∷ seed_word ∷ count_word ∷ []
  pub seed_says : IsNumber 0 (2 ^ 64 - 1) seed_word seed
  pub count_says : IsNumber 1 SELF_LIMIT count_word n

-- `plan`, how many slots, and the name of a file of durations
pub record IsPlan (words : List (List ℕ)) (slots : ℕ) (durations : List ℕ) : Type 0 where
  pub slots_word : List ℕ
  pub words_are : words ≡ codes "plan" ∷ slots_word ∷ durations ∷ []
  pub slots_say : IsNumber 1 PLAN_LIMIT slots_word slots
  pub durations_name : IsName durations

-- the words say the command
abbrev pub Says : List (List ℕ) → Command → Type 0
Says words (Run idl program workers settings) = IsRun words idl program workers settings
Says words (Check idl program) = IsCheck words idl program
Says words Report = words ≡ codes "report" ∷ []
Says words Clean = words ≡ codes "clean" ∷ []
Says words (SelfRun seed n) = IsSelf words seed n
Says words (Plan slots durations) = IsPlan words slots durations
