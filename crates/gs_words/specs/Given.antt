-- What the reader knows of the options so far.
use Rattle.std.specs.Prelude.{◌≡◌, ◌⊎◌, ℕ, ◌+◌, ◌*◌, ◌<◌, List, length, take, drop, Option, Some, None, IsSome, Result, Ok, Err}
use Rattle.std.specs.List.{slice_get}
use Rattle.std.specs.Option.{unwrap_or}
use Rattle.gs_types.specs.Name.{IsName}
use Rattle.gs_types.specs.declared.settings.Settings.{Settings}
use Rattle.gs_types.specs.declared.limits.TheConstants.{FUEL_DEFAULT, WINDOW_DEFAULT, TRIES_DEFAULT}
use Rattle.gs_words.specs.declared.command.Usage.{Usage}
use Rattle.gs_words.specs.declared.given.Flag.{Flag}
use Rattle.gs_words.specs.declared.given.Flag.TheVariants.{Fuel, Window, Tries}
use Rattle.gs_words.specs.declared.given.Given.{Given}
use Rattle.gs_words.specs.Words.{IsNumber, spelled, limit_of, Choice, AreOptions, AreDistinct, number_of, settings_of}

abbrev pub given_by : Given → Flag → Option ℕ
given_by g Fuel = g.fuel
given_by g Window = g.window
given_by g Tries = g.tries

abbrev pub with_given : Flag → ℕ → Given → Given
with_given Fuel n g = record g { fuel = Some n }
with_given Window n g = record g { window = Some n }
with_given Tries n g = record g { tries = Some n }

abbrev pub settings_by : Given → Settings
settings_by g = record {
  fuel = unwrap_or g.fuel FUEL_DEFAULT;
  window = unwrap_or g.window WINDOW_DEFAULT;
  tries = unwrap_or g.tries TRIES_DEFAULT;
}

-- these words are options, and this was given with them
pub record HaveGiven (words : List (List ℕ)) (g : Given) : Type 0 where
  pub choices : List Choice
  pub options : AreOptions words choices
  pub once : AreDistinct choices
  pub numbers : (f : Flag) → given_by g f ≡ number_of f choices

-- how many options were not given
abbrev pub one_unless : Option ℕ → ℕ
one_unless None = 1
one_unless (Some n) = 0

abbrev pub free : Given → ℕ
free g = one_unless g.fuel + one_unless g.window + one_unless g.tries

-- ---- what stands at a place of the words

-- the word at this place is this name
pub record IsNameAt (words : List (List ℕ)) (at : ℕ) (name : List ℕ) : Type 0 where
  pub there : slice_get words at ≡ Some name
  pub is : IsName name

-- no word at this place is a name
abbrev pub NoNameAt : List (List ℕ) → ℕ → Type 0
NoNameAt words at = (word : List ℕ) → slice_get words at ≡ Some word → ¬ IsName word

-- the word at this place says the number
pub record IsNumberAt (words : List (List ℕ)) (at least most n : ℕ) : Type 0 where
  pub word : List ℕ
  pub there : slice_get words at ≡ Some word
  pub is : IsNumber least most word n

-- no word at this place says a number that may stand
abbrev pub NoNumberAt : List (List ℕ) → (at least most : ℕ) → Type 0
NoNumberAt words at least most = (word : List ℕ) (n : ℕ) → slice_get words at ≡ Some word
    → ¬ IsNumber least most word n

-- the option that the word at this place is
abbrev pub IsFlagWord : List (List ℕ) → (at : ℕ) → Option Flag → Type 0
IsFlagWord words at (Some f) = slice_get words at ≡ Some (spelled f)
IsFlagWord words at None = (f : Flag) → slice_get words at ≡ Some (spelled f) → ⊥

-- the word at this place is an option that isn't given yet
pub record IsFlagAt (words : List (List ℕ)) (at : ℕ) (g : Given) (f : Flag) : Type 0 where
  pub there : slice_get words at ≡ Some (spelled f)
  pub new : given_by g f ≡ None

-- the word at this place is no option, or one that is given
abbrev pub NoFlagAt : List (List ℕ) → (at : ℕ) → Given → Type 0
NoFlagAt words at g = (f : Flag) → slice_get words at ≡ Some (spelled f) → IsSome (given_by g f)

-- ---- the options of a run, behind four words

-- all words there are options
pub record SayOptions (words : List (List ℕ)) (settings : Settings) : Type 0 where
  pub choices : List Choice
  pub options : AreOptions (drop 4 words) choices
  pub once : AreDistinct choices
  pub settings_are : settings ≡ settings_of choices

-- behind some options stands a word that is none, or that was given
pub record IsNoOption (words : List (List ℕ)) (at : ℕ) : Type 0 where
  pub count : ℕ
  pub place : at ≡ 4 + 2 * count
  pub there : at < length words
  pub given : Given
  pub before : HaveGiven (take (2 * count) (drop 4 words)) given
  pub wrong : NoFlagAt words at given

-- or an option without its number
pub record IsNoNumber (words : List (List ℕ)) (at : ℕ) : Type 0 where
  pub count : ℕ
  pub place : at ≡ 5 + 2 * count
  pub given : Given
  pub before : HaveGiven (take (2 * count) (drop 4 words)) given
  pub flag : Flag
  pub flag_there : IsFlagAt words (4 + 2 * count) given flag
  pub wrong : NoNumberAt words at 1 (limit_of flag)

-- the settings that the options say; or where they go wrong
abbrev pub AreRead : List (List ℕ) → Result Settings Usage → Type 0
AreRead words (Ok settings) = SayOptions words settings
AreRead words (Err u) = IsNoOption words u.word ⊎ IsNoNumber words u.word
