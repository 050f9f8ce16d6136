-- Forms: what may stand at each place of the words of a command, options apart.
use Rattle.std.proofs.Common.{◌≡◌, inl, inr, refl, sym, ap, ◌∙◌, subst, arith, ℕ, zero, suc, ◌+◌, ◌-◌, ◌^◌, ◌<◌, ◌≤◌, true, List, [], ◌∷◌, ◌++◌, length, take, drop, Some}
use Rattle.std.specs.Prelude.{codes, slice_index, get_or, ◌*◌}
use Rattle.std.proofs.lemmas.Bool.{cases_lt}
use Rattle.std.specs.Bool.{⊤}
use Rattle.std.specs.List.{slice_get}
use Rattle.gs_types.specs.Name.{IsName, may_stand}
use Rattle.gs_words.specs.declared.command.TheConstants.{SELF_LIMIT, PLAN_LIMIT}
use Rattle.gs_words.specs.Words.{IsNumber}

-- one word, a name, or a number within limits
pub data Place : Type 0 where
  Word : List ℕ → Place
  AName : Place
  ANumber : (least most : ℕ) → Place

abbrev pub Stands : Place → List ℕ → Type 0
Stands (Word v) w = w ≡ v
Stands AName w = IsName w
Stands (ANumber least most) w = (n : ℕ) × IsNumber least most w n

abbrev pub Fits : List Place → List (List ℕ) → Type 0
Fits [] [] = ⊤
Fits [] (w ∷ ws) = ⊥
Fits (p ∷ ps) [] = ⊥
Fits (p ∷ ps) (w ∷ ws) = Stands p w × Fits ps ws

-- the first words fit
abbrev pub FitsTo : List Place → List (List ℕ) → ℕ → Type 0
FitsTo ps ws n = (i : ℕ) (p : Place) (w : List ℕ) → i < n → slice_get ps i ≡ Some p → slice_get ws i ≡ Some w → Stands p w

-- what stands at a place doesn't
abbrev pub Wrong : List Place → List (List ℕ) → ℕ → Type 0
Wrong ps ws at = (p : Place) (w : List ℕ) → slice_get ps at ≡ Some p → slice_get ws at ≡ Some w → ¬ Stands p w

pub fits_length : (ps : List Place) (ws : List (List ℕ)) → Fits ps ws → length ws ≡ length ps
fits_length [] [] fits = refl
fits_length [] (w ∷ ws) fits = absurd fits
fits_length (p ∷ ps) [] fits = absurd fits
fits_length (p ∷ ps) (w ∷ ws) fits = ap suc (fits_length ps ws fits.1)

pub fits_at : (ps : List Place) (ws : List (List ℕ)) (i : ℕ) (p : Place) → Fits ps ws → slice_get ps i ≡ Some p → (w : List ℕ) × (slice_get ws i ≡ Some w) × Stands p w
fits_at [] ws i p fits e = absurd cc
fits_at (q ∷ ps) [] i p fits e = absurd fits
fits_at (q ∷ ps) (w ∷ ws) zero p fits e = let same : q ≡ p = cc in (w, refl, subst (λ (x : Place). Stands x w) same fits.0)
fits_at (q ∷ ps) (w ∷ ws) (suc i) p fits e = fits_at ps ws i p fits.1 e

-- words that fit so far, and then an example's
pub fits_mixed : (ps : List Place) (ws ex : List (List ℕ)) (n : ℕ) → n ≤ length ws → FitsTo ps ws n → Fits ps ex → n ≤ length ps → Fits ps (take n ws ++ drop n ex)
fits_mixed ps ws ex zero le to fits few = fits
fits_mixed [] ws ex (suc n) le to fits few = absurd (omega arith)
fits_mixed (p ∷ ps) [] ex (suc n) le to fits few = absurd (omega arith)
fits_mixed (p ∷ ps) (w ∷ ws) [] (suc n) le to fits few = absurd fits
fits_mixed (p ∷ ps) (w ∷ ws) (x ∷ ex) (suc n) le to fits few =
    (to 0 p w (omega arith) refl refl, fits_mixed ps ws ex n (omega arith) (λ i q v lt e f. to (suc i) q v (omega arith) e f) fits.1 (omega arith))

pub get_past : {A : Type 0} (xs : List A) (i : ℕ) (x : A) → slice_get xs i ≡ Some x → i < length xs
get_past [] i x e = absurd cc
get_past (y ∷ xs) zero x e = omega arith
get_past (y ∷ xs) (suc i) x e = let lt = get_past xs i x e in omega arith

pub get_there : {A : Type 0} (xs : List A) (i : ℕ) → i < length xs → (x : A) × (slice_get xs i ≡ Some x)
get_there [] i lt = absurd (omega arith)
get_there (x ∷ xs) zero lt = (x, refl)
get_there (x ∷ xs) (suc i) lt = get_there xs i (omega arith)

pub get_front : {A : Type 0} (xs ys : List A) (i : ℕ) → i < length xs → slice_get (xs ++ ys) i ≡ slice_get xs i
get_front [] ys i lt = absurd (omega arith)
get_front (x ∷ xs) ys zero lt = refl
get_front (x ∷ xs) ys (suc i) lt = get_front xs ys i (omega arith)

pub get_take : {A : Type 0} (xs ys : List A) (n i : ℕ) → i < n → n ≤ length xs → slice_get (take n xs ++ ys) i ≡ slice_get xs i
get_take xs ys zero i lt le = absurd (omega arith)
get_take [] ys (suc n) i lt le = absurd (omega arith)
get_take (x ∷ xs) ys (suc n) zero lt le = refl
get_take (x ∷ xs) ys (suc n) (suc i) lt le = get_take xs ys n i (omega arith) (omega arith)

-- all places
pub fits_all : (ps : List Place) (ws : List (List ℕ)) → FitsTo ps ws (length ps) → length ws ≡ length ps → Fits ps ws
fits_all [] [] to e = tt
fits_all [] (w ∷ ws) to e = absurd (omega arith)
fits_all (p ∷ ps) [] to e = absurd (omega arith)
fits_all (p ∷ ps) (w ∷ ws) to e = (to 0 p w (omega arith) refl refl, fits_all ps ws (λ i q v lt f g. to (suc i) q v (omega arith) f g) (omega arith))

-- one place more
pub one_more : (ps : List Place) (ws : List (List ℕ)) (n : ℕ) (p : Place) (w : List ℕ) → FitsTo ps ws n → slice_get ps n ≡ Some p → slice_get ws n ≡ Some w → Stands p w → FitsTo ps ws (suc n)
one_more ps ws n p w to is there stands i q v lt e f = elim (cases_lt i n) [
  | inl below ↦ to i q v below e f
  | inr top ↦
      let same : i ≡ n = omega arith in
      let place : Some q ≡ Some p = sym e ∙ ap (slice_get ps) same ∙ is in
      let word : Some v ≡ Some w = sym f ∙ ap (slice_get ws) same ∙ there in
      let q_is : p ≡ q = cc in
      let v_is : w ≡ v = cc in
      subst (λ (x : Place). Stands x v) q_is (subst (λ (x : List ℕ). Stands p x) v_is stands)
]

pub none_yet : (ps : List Place) (ws : List (List ℕ)) → FitsTo ps ws 0
none_yet ps ws i p w lt e f = absurd (omega arith)

-- ---- the verbs

pub data Verb : Type 0 where
  runs : Verb
  checks : Verb
  reports : Verb
  cleans : Verb
  makes : Verb
  plans : Verb

abbrev pub word_of : Verb → List ℕ
word_of runs = codes "run"
word_of checks = codes "check"
word_of reports = codes "report"
word_of cleans = codes "clean"
word_of makes = codes "self"
word_of plans = codes "plan"

abbrev pub more_of : Verb → List Place
more_of runs = AName ∷ AName ∷ AName ∷ []
more_of checks = AName ∷ AName ∷ []
more_of reports = []
more_of cleans = []
more_of makes = ANumber 0 (2 ^ 64 - 1) ∷ ANumber 1 SELF_LIMIT ∷ []
more_of plans = ANumber 1 PLAN_LIMIT ∷ AName ∷ []

abbrev pub form_of : Verb → List Place
form_of v = Word (word_of v) ∷ more_of v

abbrev a_name : List ℕ
a_name = 65 ∷ []

-- words that fit
abbrev pub example_of : Verb → List (List ℕ)
example_of runs = codes "run" ∷ a_name ∷ a_name ∷ a_name ∷ []
example_of checks = codes "check" ∷ a_name ∷ a_name ∷ []
example_of reports = codes "report" ∷ []
example_of cleans = codes "clean" ∷ []
example_of makes = codes "self" ∷ codes "1" ∷ codes "1" ∷ []
example_of plans = codes "plan" ∷ codes "1" ∷ a_name ∷ []

may_be_first : (k : ℕ) → k < 1 → may_stand k (slice_index a_name k) ≡ true
may_be_first zero lt = refl
may_be_first (suc k) lt = absurd (omega arith)

is_a_name : IsName a_name
is_a_name = record { some = omega arith; short = omega arith; allowed = may_be_first }

pub is_one : (least most : ℕ) → least ≤ 1 → 1 ≤ most → IsNumber least most (codes "1") 1
is_one least most some within = record { digits = (omega arith, (omega arith, tt)); short = omega arith; says = refl; some = some; within = within }

pub example_fits : (v : Verb) → Fits (form_of v) (example_of v)
example_fits runs = (refl, (is_a_name, (is_a_name, (is_a_name, tt))))
example_fits checks = (refl, (is_a_name, (is_a_name, tt)))
example_fits reports = (refl, tt)
example_fits cleans = (refl, tt)
example_fits makes = (refl, ((1, is_one 0 (2 ^ 64 - 1) (omega arith) (omega arith)), ((1, is_one 1 SELF_LIMIT (omega arith) (omega arith)), tt)))
example_fits plans = (refl, ((1, is_one 1 PLAN_LIMIT (omega arith) (omega arith)), (is_a_name, tt)))

-- a number that tells the verbs apart
abbrev key : List ℕ → ℕ
key w = get_or w 0 0 * 256 + get_or w 1 0

keys_differ : (v w : List ℕ) → v ≡ w → key v ≡ key w
keys_differ v w e = ap key e

pub verb_is : (u v : Verb) → word_of u ≡ word_of v → u ≡ v
verb_is runs runs e = refl
verb_is runs checks e = let k : ◌≡◌ {A = ℕ} 29301 25448 = keys_differ (codes "run") (codes "check") e in absurd (omega arith)
verb_is runs reports e = let k : ◌≡◌ {A = ℕ} 29301 29285 = keys_differ (codes "run") (codes "report") e in absurd (omega arith)
verb_is runs cleans e = let k : ◌≡◌ {A = ℕ} 29301 25452 = keys_differ (codes "run") (codes "clean") e in absurd (omega arith)
verb_is runs makes e = let k : ◌≡◌ {A = ℕ} 29301 29541 = keys_differ (codes "run") (codes "self") e in absurd (omega arith)
verb_is runs plans e = let k : ◌≡◌ {A = ℕ} 29301 28780 = keys_differ (codes "run") (codes "plan") e in absurd (omega arith)
verb_is checks runs e = let k : ◌≡◌ {A = ℕ} 25448 29301 = keys_differ (codes "check") (codes "run") e in absurd (omega arith)
verb_is checks checks e = refl
verb_is checks reports e = let k : ◌≡◌ {A = ℕ} 25448 29285 = keys_differ (codes "check") (codes "report") e in absurd (omega arith)
verb_is checks cleans e = let k : ◌≡◌ {A = ℕ} 25448 25452 = keys_differ (codes "check") (codes "clean") e in absurd (omega arith)
verb_is checks makes e = let k : ◌≡◌ {A = ℕ} 25448 29541 = keys_differ (codes "check") (codes "self") e in absurd (omega arith)
verb_is checks plans e = let k : ◌≡◌ {A = ℕ} 25448 28780 = keys_differ (codes "check") (codes "plan") e in absurd (omega arith)
verb_is reports runs e = let k : ◌≡◌ {A = ℕ} 29285 29301 = keys_differ (codes "report") (codes "run") e in absurd (omega arith)
verb_is reports checks e = let k : ◌≡◌ {A = ℕ} 29285 25448 = keys_differ (codes "report") (codes "check") e in absurd (omega arith)
verb_is reports reports e = refl
verb_is reports cleans e = let k : ◌≡◌ {A = ℕ} 29285 25452 = keys_differ (codes "report") (codes "clean") e in absurd (omega arith)
verb_is reports makes e = let k : ◌≡◌ {A = ℕ} 29285 29541 = keys_differ (codes "report") (codes "self") e in absurd (omega arith)
verb_is reports plans e = let k : ◌≡◌ {A = ℕ} 29285 28780 = keys_differ (codes "report") (codes "plan") e in absurd (omega arith)
verb_is cleans runs e = let k : ◌≡◌ {A = ℕ} 25452 29301 = keys_differ (codes "clean") (codes "run") e in absurd (omega arith)
verb_is cleans checks e = let k : ◌≡◌ {A = ℕ} 25452 25448 = keys_differ (codes "clean") (codes "check") e in absurd (omega arith)
verb_is cleans reports e = let k : ◌≡◌ {A = ℕ} 25452 29285 = keys_differ (codes "clean") (codes "report") e in absurd (omega arith)
verb_is cleans cleans e = refl
verb_is cleans makes e = let k : ◌≡◌ {A = ℕ} 25452 29541 = keys_differ (codes "clean") (codes "self") e in absurd (omega arith)
verb_is cleans plans e = let k : ◌≡◌ {A = ℕ} 25452 28780 = keys_differ (codes "clean") (codes "plan") e in absurd (omega arith)
verb_is makes runs e = let k : ◌≡◌ {A = ℕ} 29541 29301 = keys_differ (codes "self") (codes "run") e in absurd (omega arith)
verb_is makes checks e = let k : ◌≡◌ {A = ℕ} 29541 25448 = keys_differ (codes "self") (codes "check") e in absurd (omega arith)
verb_is makes reports e = let k : ◌≡◌ {A = ℕ} 29541 29285 = keys_differ (codes "self") (codes "report") e in absurd (omega arith)
verb_is makes cleans e = let k : ◌≡◌ {A = ℕ} 29541 25452 = keys_differ (codes "self") (codes "clean") e in absurd (omega arith)
verb_is makes makes e = refl
verb_is makes plans e = let k : ◌≡◌ {A = ℕ} 29541 28780 = keys_differ (codes "self") (codes "plan") e in absurd (omega arith)
verb_is plans runs e = let k : ◌≡◌ {A = ℕ} 28780 29301 = keys_differ (codes "plan") (codes "run") e in absurd (omega arith)
verb_is plans checks e = let k : ◌≡◌ {A = ℕ} 28780 25448 = keys_differ (codes "plan") (codes "check") e in absurd (omega arith)
verb_is plans reports e = let k : ◌≡◌ {A = ℕ} 28780 29285 = keys_differ (codes "plan") (codes "report") e in absurd (omega arith)
verb_is plans cleans e = let k : ◌≡◌ {A = ℕ} 28780 25452 = keys_differ (codes "plan") (codes "clean") e in absurd (omega arith)
verb_is plans makes e = let k : ◌≡◌ {A = ℕ} 28780 29541 = keys_differ (codes "plan") (codes "self") e in absurd (omega arith)
verb_is plans plans e = refl
