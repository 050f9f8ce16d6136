-- Where the words of a run go wrong behind its names.
use Rattle.std.proofs.Common.{◌≡◌, ◌⊎◌, inl, inr, refl, sym, ap, ◌∙◌, subst, arith, ℕ, zero, suc, ◌+◌, ◌*◌, ◌<◌, ◌≤◌, List, [], ◌∷◌, ◌++◌, length, take, drop, Some, None, IsSome, append_assoc, append-nil, length-append}
use Rattle.std.specs.Prelude.{codes}
use Rattle.std.specs.List.{slice_get}
use Rattle.std.proofs.lemmas.List.{take-append-drop, length-take-le, length-drop}
use Rattle.gs_types.specs.declared.settings.Settings.{Settings}
use Rattle.gs_words.specs.declared.given.Flag.{Flag}
use Rattle.gs_words.specs.declared.given.Flag.TheVariants.{Fuel, Window, Tries}
use Rattle.gs_words.specs.declared.given.Given.{Given}
use Rattle.gs_words.specs.Words.{IsNumber, spelled, limit_of, AreDistinct, IsRun}
use Rattle.gs_words.specs.Usage.{IsCommand, IsBeginning, IsUsage}
use Rattle.gs_words.specs.Given.{given_by, HaveGiven, IsNameAt, NoNumberAt, SayOptions, IsNoOption, IsNoNumber}
use Rattle.gs_words.proofs.Forms.{Fits, fits_length, fits_all, get_past, get_there, runs, word_of, form_of, is_one}
use Rattle.gs_words.proofs.Commands.{AreChoices, form_known, run_command}
use Rattle.gs_words.proofs.Wrong.{stops, short}
use Rattle.gs_words.proofs.Places.{next_word, word_fits, name_fits}
use Rattle.gs_words.proofs.Choices.{flag_is, have_more, distinct_apart, given_number, Behind, behind}

-- the first four words are a run's
pub record IsHead (words : List (List ℕ)) : Type 0 where
  pub long : 4 ≤ length words
  pub verb : slice_get words 0 ≡ Some (word_of runs)
  pub fits : Fits (form_of runs) (take 4 words)

pub head_of : (words : List (List ℕ)) (i p w : List ℕ) → slice_get words 0 ≡ Some (word_of runs) → IsNameAt words 1 i → IsNameAt words 2 p → IsNameAt words 3 w → 4 ≤ length words → IsHead words
head_of words i p w verb ni np nw le =
    let to = name_fits runs words 3 w (name_fits runs words 2 p (name_fits runs words 1 i (word_fits runs words verb) refl ni) refl np) refl nw in
    record {
      long = le;
      verb = verb;
      fits = fits_all (form_of runs) (take 4 words) (λ j q v lt e f. to j q v lt e (sym (get_front_of words 4 j lt) ∙ f)) (length-take-le 4 words le);
    }
  where
    get_front_of : (xs : List (List ℕ)) (n j : ℕ) → j < n → slice_get (take n xs) j ≡ slice_get xs j
    get_front_of xs zero j lt = absurd (omega arith)
    get_front_of [] (suc n) j lt = refl
    get_front_of (x ∷ xs) (suc n) zero lt = refl
    get_front_of (x ∷ xs) (suc n) (suc j) lt = get_front_of xs n j (omega arith)

-- what stands behind the names of a command with this head
tail_of : (front rest : List (List ℕ)) → Fits (form_of runs) front → slice_get front 0 ≡ Some (word_of runs) → IsCommand (front ++ rest) → AreChoices rest
tail_of front rest fits verb c =
    let first : slice_get (front ++ rest) 0 ≡ Some (word_of runs) = first_same front rest (word_of runs) verb in
    let form = form_known (front ++ rest) runs c first in
    let same = same_tails front form.front rest form.rest (fits_length (form_of runs) front fits ∙ sym (fits_length (form_of runs) form.front form.fits)) form.parts in
    subst AreChoices (sym same) form.tail
  where
    first_same : (xs ys : List (List ℕ)) (w : List ℕ) → slice_get xs 0 ≡ Some w → slice_get (xs ++ ys) 0 ≡ Some w
    first_same [] ys w e = absurd cc
    first_same (x ∷ xs) ys w e = e

    same_tails : (xs ys us vs : List (List ℕ)) → length xs ≡ length ys → xs ++ us ≡ ys ++ vs → us ≡ vs
    same_tails [] [] us vs n e = e
    same_tails [] (y ∷ ys) us vs n e = absurd (omega arith)
    same_tails (x ∷ xs) [] us vs n e = absurd (omega arith)
    same_tails (x ∷ xs) (y ∷ ys) us vs n e = same_tails xs ys us vs (omega arith) (cc)

-- ---- lists in two parts

take_behind : (xs ys : List (List ℕ)) (k : ℕ) → take (length xs + k) (xs ++ ys) ≡ xs ++ take k ys
take_behind [] ys k = ap (λ (n : ℕ). take n ys) (let e : 0 + k ≡ k = omega arith in e)
take_behind (x ∷ xs) ys k = ap (λ (n : ℕ). take n (x ∷ xs ++ ys)) (let e : suc (length xs) + k ≡ suc (length xs + k) = omega arith in e) ∙ ap (λ (zs : List (List ℕ)). x ∷ zs) (take_behind xs ys k)

get_behind : (xs ys : List (List ℕ)) (k : ℕ) → slice_get (xs ++ ys) (length xs + k) ≡ slice_get ys k
get_behind [] ys k = ap (λ (n : ℕ). slice_get ys n) (let e : 0 + k ≡ k = omega arith in e)
get_behind (x ∷ xs) ys k = ap (λ (n : ℕ). slice_get (x ∷ xs ++ ys) n) (let e : suc (length xs) + k ≡ suc (length xs + k) = omega arith in e) ∙ get_behind xs ys k

-- ---- behind a head and some options

pub record Start (front options : List (List ℕ)) (g : Given) : Type 0 where
  pub fits : Fits (form_of runs) front
  pub verb : slice_get front 0 ≡ Some (word_of runs)
  pub have : HaveGiven options g

-- what a command has behind them
next_choice : (front options : List (List ℕ)) (g : Given) (w : List ℕ) (more : List (List ℕ)) → (start : Start front options g) → IsCommand ((front ++ options) ++ w ∷ more) → (are : AreChoices (options ++ w ∷ more)) × Behind options start.have.choices w more are.choices
next_choice front options g w more start c =
    let are = tail_of front (options ++ w ∷ more) start.fits start.verb (subst IsCommand (append_assoc front options (w ∷ more)) c) in
    (are, behind options start.have.choices w more are.choices start.have.options are.options)

-- the choice is a new one
new_choice : (front options : List (List ℕ)) (g : Given) (w : List ℕ) (more : List (List ℕ)) (start : Start front options g) (are : AreChoices (options ++ w ∷ more)) → (b : Behind options start.have.choices w more are.choices) → IsSome (given_by g b.choice.0) → ⊥
new_choice front options g w more start are b is =
    let given = given_number b.choice.0 start.have.choices (subst IsSome (start.have.numbers b.choice.0) is) in
    distinct_apart start.have.choices b.later b.choice (subst AreDistinct b.parts are.once) given

start_begins : (front options rest : List (List ℕ)) (g : Given) → Start front options g → IsBeginning (take (length (front ++ options)) ((front ++ options) ++ rest))
start_begins front options rest g start =
    let whole = take_behind (front ++ options) rest 0 in
    let count : length (front ++ options) + 0 ≡ length (front ++ options) = omega arith in
    let taken : take (length (front ++ options)) ((front ++ options) ++ rest) ≡ front ++ options = ap (λ (n : ℕ). take n ((front ++ options) ++ rest)) (sym count) ∙ whole ∙ append-nil (front ++ options) in
    let command = run_command front options start.fits (record { choices = start.have.choices; options = start.have.options; once = start.have.once }) in
    ([], subst IsCommand (sym (append-nil _)) (subst IsCommand (sym taken) command))

no_option_behind : (front options : List (List ℕ)) (g : Given) (w : List ℕ) (more : List (List ℕ)) → Start front options g → ((f : Flag) → w ≡ spelled f → IsSome (given_by g f)) → IsUsage ((front ++ options) ++ w ∷ more) (length (front ++ options))
no_option_behind front options g w more start wrong =
    let at = length (front ++ options) in
    let count = length-append (front ++ options) (w ∷ more) in
    stops ((front ++ options) ++ w ∷ more) at (omega arith) (start_begins front options (w ∷ more) g start) (λ b.
    let taken = take_behind (front ++ options) (w ∷ more) 1 in
    let words : take (at + 1) ((front ++ options) ++ w ∷ more) ++ b.0 ≡ (front ++ options) ++ w ∷ b.0 = ap (λ (ws : List (List ℕ)). ws ++ b.0) taken ∙ append_assoc (front ++ options) (w ∷ []) b.0 in
    let next = next_choice front options g w b.0 start (subst IsCommand words b.1) in
    new_choice front options g w b.0 start next.0 next.1 (wrong next.1.choice.0 next.1.flag))

number_wrong : (front options : List (List ℕ)) (g : Given) (w : List ℕ) (more : List (List ℕ)) (f : Flag) → Start front options g → w ≡ spelled f → ((v : List ℕ) (rest : List (List ℕ)) (n : ℕ) → more ≡ v ∷ rest → IsNumber 1 (limit_of f) v n → ⊥) → IsCommand ((front ++ options) ++ w ∷ more) → ⊥
number_wrong front options g w more f start flag wrong c =
    let next = next_choice front options g w more start c in
    let b = next.1 in
    let same = flag_is b.choice.0 f (sym b.flag ∙ flag) in
    wrong b.number.0 b.number.1 b.choice.1 b.number.2 (subst (λ (h : Flag). IsNumber 1 (limit_of h) b.number.0 b.choice.1) same b.number.3)

flag_limit : (f : Flag) → 1 ≤ limit_of f
flag_limit Fuel = omega arith
flag_limit Window = omega arith
flag_limit Tries = omega arith

flag_begins : (front options : List (List ℕ)) (g : Given) (w : List ℕ) (more : List (List ℕ)) (f : Flag) → Start front options g → w ≡ spelled f → given_by g f ≡ None → IsBeginning (take (length (front ++ options) + 1) ((front ++ options) ++ w ∷ more))
flag_begins front options g w more f start flag new =
    let have = have_more options g w (codes "1") f 1 start.have flag new (is_one 1 (limit_of f) (omega arith) (flag_limit f)) in
    let command = run_command front (options ++ w ∷ codes "1" ∷ []) start.fits (record { choices = have.choices; options = have.options; once = have.once }) in
    let taken = take_behind (front ++ options) (w ∷ more) 1 in
    let words : take (length (front ++ options) + 1) ((front ++ options) ++ w ∷ more) ++ codes "1" ∷ [] ≡ front ++ (options ++ w ∷ codes "1" ∷ []) =
    ap (λ (ws : List (List ℕ)). ws ++ codes "1" ∷ []) taken ∙ append_assoc (front ++ options) (w ∷ []) (codes "1" ∷ []) ∙ append_assoc front options (w ∷ codes "1" ∷ []) in
    (codes "1" ∷ [], subst IsCommand (sym words) command)

no_number_behind : (front options : List (List ℕ)) (g : Given) (w : List ℕ) (more : List (List ℕ)) (f : Flag) → Start front options g → w ≡ spelled f → given_by g f ≡ None → NoNumberAt ((front ++ options) ++ w ∷ more) (length (front ++ options) + 1) 1 (limit_of f) → IsUsage ((front ++ options) ++ w ∷ more) (length (front ++ options) + 1)
no_number_behind front options g w [] f start flag new wrong =
    let count = length-append (front ++ options) (w ∷ []) in
    short ((front ++ options) ++ w ∷ []) (length (front ++ options) + 1) (omega arith) (flag_begins front options g w [] f start flag new) (number_wrong front options g w [] f start flag (λ v rest n e number. absurd cc))
no_number_behind front options g w (v ∷ more) f start flag new wrong =
    let at = length (front ++ options) in
    let count = length-append (front ++ options) (w ∷ v ∷ more) in
    stops ((front ++ options) ++ w ∷ v ∷ more) (at + 1) (omega arith) (flag_begins front options g w (v ∷ more) f start flag new) (λ b.
    let place : at + 1 + 1 ≡ at + 2 = omega arith in
    let taken = ap (λ (n : ℕ). take n ((front ++ options) ++ w ∷ v ∷ more)) place ∙ take_behind (front ++ options) (w ∷ v ∷ more) 2 in
    let words : take (at + 1 + 1) ((front ++ options) ++ w ∷ v ∷ more) ++ b.0 ≡ (front ++ options) ++ w ∷ v ∷ b.0 = ap (λ (ws : List (List ℕ)). ws ++ b.0) taken ∙ append_assoc (front ++ options) (w ∷ v ∷ []) b.0 in
    number_wrong front options g w (v ∷ b.0) f start flag (λ u rest n e number.
    let same : v ≡ u = cc in
    wrong u n (get_behind (front ++ options) (w ∷ v ∷ more) 1 ∙ ap Some same) number) (subst IsCommand words b.1))

-- ---- the same by places

four_get : (words : List (List ℕ)) → 4 ≤ length words → slice_get (take 4 words) 0 ≡ slice_get words 0
four_get [] le = refl
four_get (w ∷ words) le = refl

-- the words in three parts
pub record Parted (words : List (List ℕ)) (count : ℕ) (g : Given) : Type 0 where
  pub front : List (List ℕ)
  pub options : List (List ℕ)
  pub rest : List (List ℕ)
  pub parts : words ≡ (front ++ options) ++ rest
  pub start : Start front options g
  pub place : length (front ++ options) ≡ 4 + 2 * count

parted_at : (words : List (List ℕ)) (count : ℕ) (g : Given) → IsHead words → 4 + 2 * count ≤ length words → HaveGiven (take (2 * count) (drop 4 words)) g → Parted words count g
parted_at words count g head le have =
    let behind_four = length-drop 4 words in
    record {
      front = take 4 words;
      options = take (2 * count) (drop 4 words);
      rest = drop (2 * count) (drop 4 words);
      parts = sym (take-append-drop 4 words) ∙ ap (λ (ws : List (List ℕ)). take 4 words ++ ws) (sym (take-append-drop (2 * count) (drop 4 words))) ∙ sym (append_assoc (take 4 words) (take (2 * count) (drop 4 words)) (drop (2 * count) (drop 4 words)));
      start = record { fits = head.fits; verb = four_get words head.long ∙ head.verb; have = have };
      place = length-append (take 4 words) (take (2 * count) (drop 4 words)) ∙ (let a = length-take-le 4 words head.long in let b = length-take-le (2 * count) (drop 4 words) (omega arith) in omega arith);
    }

rest_of : (xs rest : List (List ℕ)) (at : ℕ) (w : List ℕ) → length xs ≡ at → slice_get (xs ++ rest) at ≡ Some w → (more : List (List ℕ)) × (rest ≡ w ∷ more)
rest_of xs rest at w is e =
    let count : at ≡ length xs + 0 = omega arith in
    first rest (sym (get_behind xs rest 0) ∙ ap (λ (n : ℕ). slice_get (xs ++ rest) n) (sym count) ∙ e)
  where
    first : (ys : List (List ℕ)) → slice_get ys 0 ≡ Some w → (more : List (List ℕ)) × (ys ≡ w ∷ more)
    first [] f = absurd cc
    first (y ∷ ys) f = let same : y ≡ w = cc in (ys, ap (λ (v : List ℕ). v ∷ ys) same)

pub wrong_option : (words : List (List ℕ)) (at : ℕ) → IsHead words → IsNoOption words at → IsUsage words at
wrong_option words at head bad =
    let there = bad.there in
    let place = bad.place in
    let p = parted_at words bad.count bad.given head (omega arith) bad.before in
    let w = get_there words at there in
    let is : length (p.front ++ p.options) ≡ at = p.place ∙ sym bad.place in
    let rest = rest_of (p.front ++ p.options) p.rest at w.0 is (ap (λ (ws : List (List ℕ)). slice_get ws at) (sym p.parts) ∙ w.1) in
    let usage = no_option_behind p.front p.options bad.given w.0 rest.0 p.start (λ f e. bad.wrong f (w.1 ∙ ap Some e)) in
    subst (λ (ws : List (List ℕ)). IsUsage ws at) (sym (p.parts ∙ ap (λ (ws : List (List ℕ)). (p.front ++ p.options) ++ ws) rest.1)) (subst (λ (n : ℕ). IsUsage ((p.front ++ p.options) ++ w.0 ∷ rest.0) n) is usage)

pub wrong_number : (words : List (List ℕ)) (at : ℕ) → IsHead words → IsNoNumber words at → IsUsage words at
wrong_number words at head bad =
    let flag = bad.flag_there in
    let within = get_past words (4 + 2 * bad.count) (spelled bad.flag) flag.there in
    let p = parted_at words bad.count bad.given head (omega arith) bad.before in
    let rest = rest_of (p.front ++ p.options) p.rest (4 + 2 * bad.count) (spelled bad.flag) p.place (ap (λ (ws : List (List ℕ)). slice_get ws (4 + 2 * bad.count)) (sym p.parts) ∙ flag.there) in
    let whole : words ≡ (p.front ++ p.options) ++ spelled bad.flag ∷ rest.0 = p.parts ∙ ap (λ (ws : List (List ℕ)). (p.front ++ p.options) ++ ws) rest.1 in
    let next : at ≡ length (p.front ++ p.options) + 1 = (let a = p.place in let b = bad.place in omega arith) in
    let wrong : NoNumberAt ((p.front ++ p.options) ++ spelled bad.flag ∷ rest.0) (length (p.front ++ p.options) + 1) 1 (limit_of bad.flag) = subst (λ (n : ℕ). NoNumberAt ((p.front ++ p.options) ++ spelled bad.flag ∷ rest.0) n 1 (limit_of bad.flag)) next (subst (λ (ws : List (List ℕ)). NoNumberAt ws at 1 (limit_of bad.flag)) whole bad.wrong) in
    let usage = no_number_behind p.front p.options bad.given (spelled bad.flag) rest.0 bad.flag p.start refl flag.new wrong in
    subst (λ (ws : List (List ℕ)). IsUsage ws at) (sym whole) (subst (λ (n : ℕ). IsUsage ((p.front ++ p.options) ++ spelled bad.flag ∷ rest.0) n) (sym next) usage)

pub is_run : (words : List (List ℕ)) (i p w : List ℕ) (settings : Settings) → slice_get words 0 ≡ Some (codes "run") → IsNameAt words 1 i → IsNameAt words 2 p → IsNameAt words 3 w → SayOptions words settings → IsRun words i p w settings
is_run words i p w settings verb ni np nw says = record {
  more = drop 4 words;
  words_are = next_word words 0 (codes "run") verb ∙ ap (λ (ws : List (List ℕ)). codes "run" ∷ ws) (next_word words 1 i ni.there ∙ ap (λ (ws : List (List ℕ)). i ∷ ws) (next_word words 2 p np.there ∙ ap (λ (ws : List (List ℕ)). p ∷ ws) (next_word words 3 w nw.there)));
  idl_name = ni.is;
  program_name = np.is;
  workers_name = nw.is;
  choices = says.choices;
  options = says.options;
  once = says.once;
  settings_are = says.settings_are;
}

pub wrong_either : (words : List (List ℕ)) (at : ℕ) → IsHead words → IsNoOption words at ⊎ IsNoNumber words at → IsUsage words at
wrong_either words at head (inl bad) = wrong_option words at head bad
wrong_either words at head (inr bad) = wrong_number words at head bad
