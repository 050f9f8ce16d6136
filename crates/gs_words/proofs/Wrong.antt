-- Where words go wrong in a form, or behind it.
use Rattle.std.proofs.Common.{◌≡◌, inl, inr, refl, sym, ap, ◌∙◌, subst, arith, ℕ, ◌+◌, ◌<◌, ◌≤◌, List, [], ◌++◌, length, take, drop, Some, append-nil, length-append}
use Rattle.std.specs.List.{slice_get}
use Rattle.std.proofs.lemmas.Bool.{cases_lt}
use Rattle.std.proofs.lemmas.List.{take-append-drop, length-take-le}
use Rattle.gs_words.specs.Usage.{IsCommand, IsBeginning, IsUsage}
use Rattle.gs_words.proofs.Forms.{Place, Word, Stands, FitsTo, Wrong, fits_length, fits_at, fits_mixed, get_past, get_there, get_front, get_take, none_yet, Verb, runs, checks, reports, cleans, makes, plans, word_of, form_of, example_of, example_fits}
use Rattle.gs_words.proofs.Commands.{Tail, to_form, HasFormOf, form_known, front_command}

-- a command begins with each front of its words
pub front_begins : (words : List (List ℕ)) (n : ℕ) → IsCommand words → IsBeginning (take n words)
front_begins words n c = (drop n words, subst IsCommand (sym (take-append-drop n words)) c)

-- at a word with which no command goes on
pub stops : (words : List (List ℕ)) (at : ℕ) → at < length words → IsBeginning (take at words) → ¬ IsBeginning (take (at + 1) words) → IsUsage words at
stops words at lt begins never = record { within = omega arith; before = begins; here = λ l. never; whole = λ c. never (front_begins words (at + 1) c) }

-- at the end of too few words
pub short : (words : List (List ℕ)) (at : ℕ) → at ≡ length words → IsBeginning (take at words) → ¬ IsCommand words → IsUsage words at
short words at is begins never = record { within = omega arith; before = begins; here = λ l. absurd (omega arith); whole = never }

-- words that fit so far begin a command
pub fitting_begins : (v : Verb) (words : List (List ℕ)) (at : ℕ) → at ≤ length words → FitsTo (form_of v) words at → at ≤ length (form_of v) → IsBeginning (take at words)
fitting_begins v words at le to few =
    let fits = fits_mixed (form_of v) words (example_of v) at le to (example_fits v) few in
    let whole = front_command v (take at words ++ drop at (example_of v)) fits in
    (drop at (example_of v), subst IsCommand (append-nil (take at words ++ drop at (example_of v))) whole)

-- what a command's words have at a place of its form
in_form : (v : Verb) (words : List (List ℕ)) (at : ℕ) (p : Place) → HasFormOf v words → slice_get (form_of v) at ≡ Some p → (w : List ℕ) × (slice_get words at ≡ Some w) × Stands p w
in_form v words at p form e =
    let there = fits_at (form_of v) form.front at p form.fits e in
    let below = get_past form.front at there.0 there.1 in
    (there.0, ap (λ (ws : List (List ℕ)). slice_get ws at) form.parts ∙ get_front form.front form.rest at below ∙ there.1, there.2)

-- no command's words go on so
never_fits : (v : Verb) (words : List (List ℕ)) (at : ℕ) → Wrong (form_of v) words at → at < length (form_of v) → slice_get words 0 ≡ Some (word_of v) → IsCommand words → ⊥
never_fits v words at wrong few verb c =
    let p = get_there (form_of v) at few in
    let there = in_form v words at p.0 (form_known words v c verb) p.1 in
    wrong p.0 there.0 p.1 there.1 there.2

taken_first : (words more : List (List ℕ)) (n : ℕ) (w : List ℕ) → 0 < n → n ≤ length words → slice_get words 0 ≡ Some w → slice_get (take n words ++ more) 0 ≡ Some w
taken_first words more n w some le e = get_take words more n 0 some le ∙ e

-- at a place of the form
pub wrong_in_form : (v : Verb) (words : List (List ℕ)) (at : ℕ) → slice_get words 0 ≡ Some (word_of v) → FitsTo (form_of v) words at → Wrong (form_of v) words at → at ≤ length words → at < length (form_of v) → IsUsage words at
wrong_in_form v words at verb to wrong le few = elim (cases_lt at (length words)) [
  | inl lt ↦ stops words at lt (fitting_begins v words at le to (omega arith)) (λ b.
      let first = taken_first words b.0 (at + 1) (word_of v) (omega arith) (omega arith) verb in
      never_fits v (take (at + 1) words ++ b.0) at (λ p w e f. wrong p w e (sym (get_take words b.0 (at + 1) at (omega arith) (omega arith)) ∙ f)) few first b.1)
  | inr past ↦ short words at (omega arith) (fitting_begins v words at le to (omega arith)) (λ c. never_fits v words at wrong few verb c)
]

-- ---- behind a form without options

-- the verb has no options
abbrev pub IsClosed : Verb → Type 0
IsClosed v = (rest : List (List ℕ)) → Tail v rest → rest ≡ []

closed_length : (v : Verb) (words : List (List ℕ)) → IsClosed v → HasFormOf v words → length words ≡ length (form_of v)
closed_length v words closed form =
    let none = closed form.rest form.tail in
    ap length form.parts ∙ length-append form.front form.rest ∙ ap (λ (ws : List (List ℕ)). length form.front + length ws) none ∙ (let e = fits_length (form_of v) form.front form.fits in omega arith)

pub wrong_behind : (v : Verb) (words : List (List ℕ)) (at : ℕ) → IsClosed v → slice_get words 0 ≡ Some (word_of v) → FitsTo (form_of v) words at → at ≡ length (form_of v) → at < length words → IsUsage words at
wrong_behind v words at closed verb to is lt = stops words at lt (fitting_begins v words at (omega arith) to (omega arith)) (λ b.
    let first = taken_first words b.0 (at + 1) (word_of v) (omega arith) (omega arith) verb in
    let long = closed_length v (take (at + 1) words ++ b.0) closed (form_known (take (at + 1) words ++ b.0) v b.1 first) in
    let count = length-append (take (at + 1) words) b.0 in
    let taken = length-take-le (at + 1) words (omega arith) in
    absurd (omega arith))

-- ---- no verb

pub no_verb : (words : List (List ℕ)) → ((v : Verb) → slice_get words 0 ≡ Some (word_of v) → ⊥) → IsUsage words 0
no_verb words none = elim (cases_lt 0 (length words)) [
  | inl lt ↦ stops words 0 lt begins (λ b. other (take 1 words ++ b.0) (λ w. get_take words b.0 1 0 (omega arith) (omega arith)) b.1)
  | inr past ↦ short words 0 (omega arith) begins (λ c. other words (λ w. refl) c)
]
  where
    begins : IsBeginning (take 0 words)
    begins = fitting_begins runs words 0 (omega arith) (none_yet (form_of runs) words) (omega arith)

    other : (ws : List (List ℕ)) → ((w : List ℕ) → slice_get ws 0 ≡ slice_get words 0) → IsCommand ws → ⊥
    other ws same c =
        let f = to_form ws c.0 c.1 in
        let there = fits_at (form_of f.verb) f.front 0 (Word (word_of f.verb)) f.fits refl in
        let below = get_past f.front 0 there.0 there.1 in
        none f.verb (sym (same []) ∙ ap (λ (us : List (List ℕ)). slice_get us 0) f.parts ∙ get_front f.front f.rest 0 below ∙ there.1 ∙ ap Some there.2)

pub no_verb_of : (words : List (List ℕ)) → ¬ (slice_get words 0 ≡ Some (word_of runs)) → ¬ (slice_get words 0 ≡ Some (word_of checks)) → ¬ (slice_get words 0 ≡ Some (word_of reports)) → ¬ (slice_get words 0 ≡ Some (word_of cleans)) → ¬ (slice_get words 0 ≡ Some (word_of makes)) → ¬ (slice_get words 0 ≡ Some (word_of plans)) → IsUsage words 0
no_verb_of words no_run no_check no_report no_clean no_self no_plan = no_verb words of_verb
  where
    of_verb : (v : Verb) → slice_get words 0 ≡ Some (word_of v) → ⊥
    of_verb runs e = no_run e
    of_verb checks e = no_check e
    of_verb reports e = no_report e
    of_verb cleans e = no_clean e
    of_verb makes e = no_self e
    of_verb plans e = no_plan e
