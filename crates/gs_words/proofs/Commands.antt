-- The commands by their forms.
use Rattle.std.proofs.Common.{◌≡◌, refl, sym, ap, ◌∙◌, subst, ℕ, ◌-◌, ◌^◌, List, [], ◌∷◌, ◌++◌, Some}
use Rattle.std.specs.Prelude.{codes}
use Rattle.std.specs.List.{slice_get}
use Rattle.gs_words.specs.declared.command.Command.{Command}
use Rattle.gs_words.specs.declared.command.Command.TheVariants.{Run, Check, Report, Clean, SelfRun, Plan}
use Rattle.gs_words.specs.declared.command.TheConstants.{SELF_LIMIT, PLAN_LIMIT}
use Rattle.gs_words.specs.Words.{Choice, AreOptions, AreDistinct, settings_of, Says}
use Rattle.gs_words.specs.Usage.{IsCommand}
use Rattle.gs_words.proofs.Forms.{Place, Word, AName, ANumber, Stands, Fits, Verb, runs, checks, reports, cleans, makes, plans, word_of, more_of, form_of, verb_is}

-- options, each at most once
pub record AreChoices (words : List (List ℕ)) : Type 0 where
  pub choices : List Choice
  pub options : AreOptions words choices
  pub once : AreDistinct choices

-- what may stand behind the form
abbrev pub Tail : Verb → List (List ℕ) → Type 0
Tail runs rest = AreChoices rest
Tail checks rest = rest ≡ []
Tail reports rest = rest ≡ []
Tail cleans rest = rest ≡ []
Tail makes rest = rest ≡ []
Tail plans rest = rest ≡ []

pub record HasForm (words : List (List ℕ)) : Type 0 where
  pub verb : Verb
  pub front : List (List ℕ)
  pub rest : List (List ℕ)
  pub parts : words ≡ front ++ rest
  pub fits : Fits (form_of verb) front
  pub tail : Tail verb rest

pub to_form : (words : List (List ℕ)) (c : Command) → Says words c → HasForm words
to_form words (Run idl program workers settings) is = record {
  verb = runs;
  front = codes "run" ∷ idl ∷ program ∷ workers ∷ [];
  rest = is.more;
  parts = is.words_are;
  fits = (refl, (is.idl_name, (is.program_name, (is.workers_name, tt))));
  tail = record { choices = is.choices; options = is.options; once = is.once };
}
to_form words (Check idl program) is = record { verb = checks; front = codes "check" ∷ idl ∷ program ∷ []; rest = []; parts = is.words_are; fits = (refl, (is.idl_name, (is.program_name, tt))); tail = refl }
to_form words Report is = record { verb = reports; front = codes "report" ∷ []; rest = []; parts = is; fits = (refl, tt); tail = refl }
to_form words Clean is = record { verb = cleans; front = codes "clean" ∷ []; rest = []; parts = is; fits = (refl, tt); tail = refl }
to_form words (SelfRun seed n) is = record {
  verb = makes;
  front = codes "self" ∷ is.seed_word ∷ is.count_word ∷ [];
  rest = [];
  parts = is.words_are;
  fits = (refl, ((seed, is.seed_says), ((n, is.count_says), tt)));
  tail = refl;
}
to_form words (Plan slots durations) is = record {
  verb = plans;
  front = codes "plan" ∷ is.slots_word ∷ durations ∷ [];
  rest = [];
  parts = is.words_are;
  fits = (refl, ((slots, is.slots_say), (is.durations_name, tt)));
  tail = refl;
}

-- the command's verb
abbrev pub verb_of : Command → Verb
verb_of (Run idl program workers settings) = runs
verb_of (Check idl program) = checks
verb_of Report = reports
verb_of Clean = cleans
verb_of (SelfRun seed n) = makes
verb_of (Plan slots durations) = plans

pub form_verb : (words : List (List ℕ)) (c : Command) (is : Says words c) → (to_form words c is).verb ≡ verb_of c
unfolding to_form
form_verb words (Run idl program workers settings) is = refl
form_verb words (Check idl program) is = refl
form_verb words Report is = refl
form_verb words Clean is = refl
form_verb words (SelfRun seed n) is = refl
form_verb words (Plan slots durations) is = refl

-- the words of a form
pub record Parted (p : Place) (ps : List Place) (ws : List (List ℕ)) : Type 0 where
  pub word : List ℕ
  pub more : List (List ℕ)
  pub parts : ws ≡ word ∷ more
  pub stands : Stands p word
  pub fits : Fits ps more

pub parted : (p : Place) (ps : List Place) (ws : List (List ℕ)) → Fits (p ∷ ps) ws → Parted p ps ws
parted p ps [] fits = absurd fits
parted p ps (w ∷ ws) fits = record { word = w; more = ws; parts = refl; stands = fits.0; fits = fits.1 }

pub nothing_left : (ws : List (List ℕ)) → Fits [] ws → ws ≡ []
nothing_left [] fits = refl
nothing_left (w ∷ ws) fits = absurd fits

pub run_command : (front rest : List (List ℕ)) → Fits (form_of runs) front → AreChoices rest → IsCommand (front ++ rest)
run_command front rest fits are =
    let a = parted (Word (codes "run")) (AName ∷ AName ∷ AName ∷ []) front fits in
    let b = parted AName (AName ∷ AName ∷ []) a.more a.fits in
    let c = parted AName (AName ∷ []) b.more b.fits in
    let d = parted AName [] c.more c.fits in
    let none = nothing_left d.more d.fits in
    let whole : front ≡ codes "run" ∷ b.word ∷ c.word ∷ d.word ∷ [] =
    a.parts ∙ ap (λ (w : List ℕ). w ∷ a.more) a.stands ∙ ap (λ (ws : List (List ℕ)). codes "run" ∷ ws) (b.parts ∙ ap (λ (ws : List (List ℕ)). b.word ∷ ws) (c.parts ∙ ap (λ (ws : List (List ℕ)). c.word ∷ ws) (d.parts ∙ ap (λ (ws : List (List ℕ)). d.word ∷ ws) none))) in (
      Run b.word c.word d.word (settings_of are.choices),
      record {
        more = rest;
        words_are = ap (λ (ws : List (List ℕ)). ws ++ rest) whole;
        idl_name = b.stands;
        program_name = c.stands;
        workers_name = d.stands;
        choices = are.choices;
        options = are.options;
        once = are.once;
        settings_are = refl;
      },
    )

check_command : (front : List (List ℕ)) → Fits (form_of checks) front → IsCommand (front ++ [])
check_command front fits =
    let a = parted (Word (codes "check")) (AName ∷ AName ∷ []) front fits in
    let b = parted AName (AName ∷ []) a.more a.fits in
    let c = parted AName [] b.more b.fits in
    let none = nothing_left c.more c.fits in
    let whole : front ≡ codes "check" ∷ b.word ∷ c.word ∷ [] =
    a.parts ∙ ap (λ (w : List ℕ). w ∷ a.more) a.stands ∙ ap (λ (ws : List (List ℕ)). codes "check" ∷ ws) (b.parts ∙ ap (λ (ws : List (List ℕ)). b.word ∷ ws) (c.parts ∙ ap (λ (ws : List (List ℕ)). c.word ∷ ws) none)) in
    (Check b.word c.word, record { words_are = ap (λ (ws : List (List ℕ)). ws ++ []) whole; idl_name = b.stands; program_name = c.stands })

self_command : (front : List (List ℕ)) → Fits (form_of makes) front → IsCommand (front ++ [])
self_command front fits =
    let a = parted (Word (codes "self")) (more_of makes) front fits in
    let b = parted (ANumber 0 (2 ^ 64 - 1)) (ANumber 1 SELF_LIMIT ∷ []) a.more a.fits in
    let c = parted (ANumber 1 SELF_LIMIT) [] b.more b.fits in
    let none = nothing_left c.more c.fits in
    let whole : front ≡ codes "self" ∷ b.word ∷ c.word ∷ [] =
    a.parts ∙ ap (λ (w : List ℕ). w ∷ a.more) a.stands ∙ ap (λ (ws : List (List ℕ)). codes "self" ∷ ws) (b.parts ∙ ap (λ (ws : List (List ℕ)). b.word ∷ ws) (c.parts ∙ ap (λ (ws : List (List ℕ)). c.word ∷ ws) none)) in
    (SelfRun b.stands.0 c.stands.0, record { seed_word = b.word; count_word = c.word; words_are = ap (λ (ws : List (List ℕ)). ws ++ []) whole; seed_says = b.stands.1; count_says = c.stands.1 })

plan_command : (front : List (List ℕ)) → Fits (form_of plans) front → IsCommand (front ++ [])
plan_command front fits =
    let a = parted (Word (codes "plan")) (more_of plans) front fits in
    let b = parted (ANumber 1 PLAN_LIMIT) (AName ∷ []) a.more a.fits in
    let c = parted AName [] b.more b.fits in
    let none = nothing_left c.more c.fits in
    let whole : front ≡ codes "plan" ∷ b.word ∷ c.word ∷ [] =
    a.parts ∙ ap (λ (w : List ℕ). w ∷ a.more) a.stands ∙ ap (λ (ws : List (List ℕ)). codes "plan" ∷ ws) (b.parts ∙ ap (λ (ws : List (List ℕ)). b.word ∷ ws) (c.parts ∙ ap (λ (ws : List (List ℕ)). c.word ∷ ws) none)) in
    (Plan b.stands.0 c.word, record { slots_word = b.word; words_are = ap (λ (ws : List (List ℕ)). ws ++ []) whole; slots_say = b.stands.1; durations_name = c.stands })

word_alone : (v : Verb) (front : List (List ℕ)) → Fits (Word (word_of v) ∷ []) front → front ≡ word_of v ∷ []
word_alone v front fits =
    let a = parted (Word (word_of v)) [] front fits in
    a.parts ∙ ap (λ (w : List ℕ). w ∷ a.more) a.stands ∙ ap (λ (ws : List (List ℕ)). word_of v ∷ ws) (nothing_left a.more a.fits)

-- a form whose words end makes a command
pub front_command : (v : Verb) (front : List (List ℕ)) → Fits (form_of v) front → IsCommand (front ++ [])
front_command runs front fits = run_command front [] fits (record { choices = []; options = tt; once = tt })
front_command checks front fits = check_command front fits
front_command reports front fits = (Report, ap (λ (ws : List (List ℕ)). ws ++ []) (word_alone reports front fits))
front_command cleans front fits = (Clean, ap (λ (ws : List (List ℕ)). ws ++ []) (word_alone cleans front fits))
front_command makes front fits = self_command front fits
front_command plans front fits = plan_command front fits

-- ---- the verb of words

first_of : (p : Place) (ps : List Place) (front rest : List (List ℕ)) → Fits (p ∷ ps) front → (w : List ℕ) × (slice_get (front ++ rest) 0 ≡ Some w) × Stands p w
first_of p ps [] rest fits = absurd fits
first_of p ps (w ∷ front) rest fits = (w, refl, fits.0)

pub verb_known : (words : List (List ℕ)) (v : Verb) (f : HasForm words) → slice_get words 0 ≡ Some (word_of v) → f.verb ≡ v
verb_known words v f e =
    let first = first_of (Word (word_of f.verb)) (more_of f.verb) f.front f.rest f.fits in
    let same : Some first.0 ≡ Some (word_of v) = sym first.1 ∙ ap (λ (ws : List (List ℕ)). slice_get ws 0) (sym f.parts) ∙ e in
    let word : first.0 ≡ word_of v = cc in
    verb_is f.verb v (sym first.2 ∙ word)

-- the form by the verb that is known
pub record HasFormOf (v : Verb) (words : List (List ℕ)) : Type 0 where
  pub front : List (List ℕ)
  pub rest : List (List ℕ)
  pub parts : words ≡ front ++ rest
  pub fits : Fits (form_of v) front
  pub tail : Tail v rest

pub form_known : (words : List (List ℕ)) (v : Verb) → IsCommand words → slice_get words 0 ≡ Some (word_of v) → HasFormOf v words
form_known words v c e =
    let f = to_form words c.0 c.1 in
    let same = verb_known words v f e in
    record { front = f.front; rest = f.rest; parts = f.parts; fits = subst (λ (u : Verb). Fits (form_of u) f.front) same f.fits; tail = subst (λ (u : Verb). Tail u f.rest) same f.tail }
