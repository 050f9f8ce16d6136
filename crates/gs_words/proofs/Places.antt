-- What was read of the words, place by place.
use Rattle.std.proofs.Common.{◌≡◌, refl, sym, ap, ◌∙◌, subst, arith, ℕ, zero, suc, ◌<◌, ◌≤◌, List, [], ◌∷◌, length, drop, Some}
use Rattle.std.specs.Prelude.{◌-◌, ◌^◌, codes}
use Rattle.std.specs.List.{slice_get}
use Rattle.std.proofs.lemmas.List.{drop_all}
use Rattle.gs_words.specs.declared.command.TheConstants.{SELF_LIMIT, PLAN_LIMIT}
use Rattle.gs_words.specs.Words.{IsCheck, IsSelf, IsPlan}
use Rattle.gs_words.specs.Usage.{IsUsage}
use Rattle.gs_words.specs.Given.{IsNameAt, NoNameAt, IsNumberAt, NoNumberAt}
use Rattle.gs_words.proofs.Forms.{Place, Word, AName, ANumber, Stands, FitsTo, one_more, none_yet, Verb, checks, reports, cleans, makes, plans, word_of, form_of}
use Rattle.gs_words.proofs.Wrong.{IsClosed, wrong_in_form, wrong_behind}

pub closed_checks : IsClosed checks
closed_checks rest e = e

pub closed_reports : IsClosed reports
closed_reports rest e = e

pub closed_cleans : IsClosed cleans
closed_cleans rest e = e

pub closed_makes : IsClosed makes
closed_makes rest e = e

pub closed_plans : IsClosed plans
closed_plans rest e = e

-- one word alone
pub word_alone_at : (words : List (List ℕ)) (v : Verb) → slice_get words 0 ≡ Some (word_of v) → length words ≤ 1 → words ≡ word_of v ∷ []
word_alone_at [] v e le = absurd cc
word_alone_at (w ∷ []) v e le = let same : w ≡ word_of v = cc in ap (λ (x : List ℕ). x ∷ []) same
word_alone_at (w ∷ x ∷ words) v e le = absurd (omega arith)

-- the verb fits
pub word_fits : (v : Verb) (words : List (List ℕ)) → slice_get words 0 ≡ Some (word_of v) → FitsTo (form_of v) words 1
word_fits v words e = one_more (form_of v) words 0 (Word (word_of v)) (word_of v) (none_yet (form_of v) words) refl e refl

pub name_fits : (v : Verb) (words : List (List ℕ)) (n : ℕ) (name : List ℕ) → FitsTo (form_of v) words n → slice_get (form_of v) n ≡ Some AName → IsNameAt words n name → FitsTo (form_of v) words (suc n)
name_fits v words n name to place is = one_more (form_of v) words n AName name to place is.there is.is

pub number_fits : (v : Verb) (words : List (List ℕ)) (n least most i : ℕ) → FitsTo (form_of v) words n → slice_get (form_of v) n ≡ Some (ANumber least most) → IsNumberAt words n least most i → FitsTo (form_of v) words (suc n)
number_fits v words n least most i to place is = one_more (form_of v) words n (ANumber least most) is.word to place is.there (i, is.is)

-- there are so many words
pub words_before : (words : List (List ℕ)) (n : ℕ) (w : List ℕ) → slice_get words n ≡ Some w → suc n ≤ length words
words_before [] n w e = absurd cc
words_before (x ∷ words) zero w e = omega arith
words_before (x ∷ words) (suc n) w e = let le = words_before words n w e in omega arith

-- no name at a place of a name
pub no_name : (v : Verb) (words : List (List ℕ)) (at place : ℕ) → slice_get words 0 ≡ Some (word_of v) → FitsTo (form_of v) words place → slice_get (form_of v) place ≡ Some AName → place ≤ length words → (at ≡ place) × NoNameAt words place → IsUsage words at
no_name v words at place verb to is le e =
    let few = place_before (form_of v) place AName is in
    subst (λ (n : ℕ). IsUsage words n) (sym e.0) (wrong_in_form v words place verb to (λ p w f g stands. let same : p ≡ AName = same_place p AName (sym f ∙ is) in e.1 w g (subst (λ (q : Place). Stands q w) same stands)) le few)
  where
    same_place : (p q : Place) → Some p ≡ Some q → p ≡ q
    same_place p q e = cc

    place_before : (ps : List Place) (i : ℕ) (p : Place) → slice_get ps i ≡ Some p → i < length ps
    place_before [] i p e = absurd cc
    place_before (q ∷ ps) zero p e = omega arith
    place_before (q ∷ ps) (suc i) p e = let lt = place_before ps i p e in omega arith

pub no_number : (v : Verb) (words : List (List ℕ)) (at place least most : ℕ) → slice_get words 0 ≡ Some (word_of v) → FitsTo (form_of v) words place → slice_get (form_of v) place ≡ Some (ANumber least most) → place ≤ length words → (at ≡ place) × NoNumberAt words place least most → IsUsage words at
no_number v words at place least most verb to is le e =
    let few = place_before (form_of v) place (ANumber least most) is in
    subst (λ (n : ℕ). IsUsage words n) (sym e.0) (wrong_in_form v words place verb to (λ p w f g stands. let same : p ≡ ANumber least most = same_place p (ANumber least most) (sym f ∙ is) in let number = subst (λ (q : Place). Stands q w) same stands in e.1 w number.0 g number.1) le few)
  where
    same_place : (p q : Place) → Some p ≡ Some q → p ≡ q
    same_place p q e = cc

    place_before : (ps : List Place) (i : ℕ) (p : Place) → slice_get ps i ≡ Some p → i < length ps
    place_before [] i p e = absurd cc
    place_before (q ∷ ps) zero p e = omega arith
    place_before (q ∷ ps) (suc i) p e = let lt = place_before ps i p e in omega arith

-- more words than the form has
pub too_many : (v : Verb) (words : List (List ℕ)) (at place : ℕ) → IsClosed v → slice_get words 0 ≡ Some (word_of v) → FitsTo (form_of v) words place → place ≡ length (form_of v) → at ≡ place → place < length words → IsUsage words at
too_many v words at place closed verb to is e lt = subst (λ (n : ℕ). IsUsage words n) (sym e) (wrong_behind v words place closed verb to is lt)

-- ---- the words are known

-- what is left of a list from a place at which there is a word
pub next_word : (words : List (List ℕ)) (k : ℕ) (a : List ℕ) → slice_get words k ≡ Some a → drop k words ≡ a ∷ drop (suc k) words
next_word [] k a e = absurd cc
next_word (w ∷ words) zero a e = let same : w ≡ a = cc in ap (λ (v : List ℕ). v ∷ words) same
next_word (w ∷ words) (suc k) a e = next_word words k a e

pub three_known : (words : List (List ℕ)) (a b c : List ℕ) → slice_get words 0 ≡ Some a → slice_get words 1 ≡ Some b → slice_get words 2 ≡ Some c → words ≡ a ∷ b ∷ c ∷ drop 3 words
three_known words a b c e f g = next_word words 0 a e ∙ ap (λ (ws : List (List ℕ)). a ∷ ws) (next_word words 1 b f ∙ ap (λ (ws : List (List ℕ)). b ∷ ws) (next_word words 2 c g))

three_alone : (words : List (List ℕ)) (a b c : List ℕ) → slice_get words 0 ≡ Some a → slice_get words 1 ≡ Some b → slice_get words 2 ≡ Some c → length words ≤ 3 → words ≡ a ∷ b ∷ c ∷ []
three_alone words a b c e f g le = three_known words a b c e f g ∙ ap (λ (ws : List (List ℕ)). a ∷ b ∷ c ∷ ws) (drop_all 3 words le)

pub is_check : (words : List (List ℕ)) (idl program : List ℕ) → slice_get words 0 ≡ Some (codes "check") → IsNameAt words 1 idl → IsNameAt words 2 program → length words ≤ 3 → IsCheck words idl program
is_check words idl program verb i p le = record { words_are = three_alone words (codes "check") idl program verb i.there p.there le; idl_name = i.is; program_name = p.is }

pub is_self : (words : List (List ℕ)) (seed n : ℕ) → slice_get words 0 ≡ Some (codes "self") → IsNumberAt words 1 0 (2 ^ 64 - 1) seed → IsNumberAt words 2 1 SELF_LIMIT n → length words ≤ 3 → IsSelf words seed n
is_self words seed n verb a b le = record {
  seed_word = a.word;
  count_word = b.word;
  words_are = three_alone words (codes "self") a.word b.word verb a.there b.there le;
  seed_says = a.is;
  count_says = b.is;
}

pub is_plan : (words : List (List ℕ)) (slots : ℕ) (durations : List ℕ) → slice_get words 0 ≡ Some (codes "plan") → IsNumberAt words 1 1 PLAN_LIMIT slots → IsNameAt words 2 durations → length words ≤ 3 → IsPlan words slots durations
is_plan words slots durations verb a b le = record {
  slots_word = a.word;
  words_are = three_alone words (codes "plan") a.word durations verb a.there b.there le;
  slots_say = a.is;
  durations_name = b.is;
}
