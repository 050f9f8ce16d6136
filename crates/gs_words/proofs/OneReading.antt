-- Words say one command, or go wrong at one place.
use Rattle.std.proofs.Common.{◌≡◌, inl, inr, refl, sym, ap, ◌∙◌, subst, arith, ℕ, zero, suc, ◌+◌, ◌<◌, ◌≤◌, List, [], ◌∷◌, ◌++◌, take, drop, Some, append_assoc}
use Rattle.std.specs.Prelude.{codes}
use Rattle.std.proofs.lemmas.Bool.{cases_lt}
use Rattle.std.proofs.lemmas.List.{take-append-drop}
use Rattle.gs_types.specs.declared.settings.Settings.{Settings}
use Rattle.gs_words.specs.declared.command.Command.{Command}
use Rattle.gs_words.specs.declared.command.Command.TheVariants.{Run, Check, Report, Clean, SelfRun, Plan}
use Rattle.std.specs.List.{slice_get}
use Rattle.std.specs.Str.Parse.{digits_value}
use Rattle.gs_words.specs.declared.given.Flag.{Flag}
use Rattle.gs_words.specs.Words.{IsNumber, spelled, limit_of, Choice, AreOptions, settings_of, IsRun, IsCheck, IsSelf, IsPlan, Says}
use Rattle.gs_words.specs.Usage.{IsCommand, IsBeginning, IsUsage}
use Rattle.gs_words.specs.Laws.{SaysOne, FailsOnce}
use Rattle.gs_words.proofs.Forms.{Word, fits_at, get_past, get_front, word_of, form_of}
use Rattle.gs_words.proofs.Commands.{to_form, verb_known, verb_of, form_verb}
use Rattle.gs_words.proofs.Choices.{flag_is}

same_verb : (words : List (List ℕ)) (c d : Command) → Says words c → Says words d → verb_of c ≡ verb_of d
same_verb words c d a b =
    let f = to_form words c a in
    let g = to_form words d b in
    let there = fits_at (form_of f.verb) f.front 0 (Word (word_of f.verb)) f.fits refl in
    let below = get_past f.front 0 there.0 there.1 in
    let known = verb_known words f.verb g (ap (λ (ws : List (List ℕ)). slice_get ws 0) f.parts ∙ get_front f.front f.rest 0 below ∙ there.1 ∙ ap Some there.2) in
    sym (form_verb words c a) ∙ sym known ∙ form_verb words d b

number_one : (least most : ℕ) (word : List ℕ) (n m : ℕ) → IsNumber least most word n → IsNumber least most word m → n ≡ m
number_one least most word n m a b = a.says ∙ sym b.says

choice_one : (w v : List ℕ) (a b : Choice) → w ≡ spelled a.0 → w ≡ spelled b.0 → IsNumber 1 (limit_of a.0) v a.1 → IsNumber 1 (limit_of b.0) v b.1 → a ≡ b
choice_one w v a b e f x y =
    let flag = flag_is a.0 b.0 (sym e ∙ f) in
    let number : a.1 ≡ b.1 = x.says ∙ sym y.says in
    ap (λ (g : Flag). (g, a.1)) flag ∙ ap (λ (n : ℕ). (b.0, n)) number

options_one : (ws : List (List ℕ)) (os ps : List Choice) → AreOptions ws os → AreOptions ws ps → os ≡ ps
options_one [] [] [] a b = refl
options_one [] [] (p ∷ ps) a b = absurd b
options_one [] (o ∷ os) ps a b = absurd a
options_one (w ∷ []) os ps a b = absurd a
options_one (w ∷ v ∷ ws) [] ps a b = absurd a
options_one (w ∷ v ∷ ws) (o ∷ os) [] a b = absurd b
options_one (w ∷ v ∷ ws) (o ∷ os) (p ∷ ps) a b = ap (λ (c : Choice). c ∷ os) (choice_one w v o p a.0 b.0 a.1 b.1) ∙ ap (λ (cs : List Choice). p ∷ cs) (options_one ws os ps a.2 b.2)

run_one : (words : List (List ℕ)) (i p w j q v : List ℕ) (s t : Settings) → IsRun words i p w s → IsRun words j q v t → Run i p w s ≡ Run j q v t
run_one words i p w j q v s t a b =
    let same : codes "run" ∷ i ∷ p ∷ w ∷ a.more ≡ codes "run" ∷ j ∷ q ∷ v ∷ b.more = sym a.words_are ∙ b.words_are in
    let first : i ≡ j = cc in
    let second : p ≡ q = cc in
    let third : w ≡ v = cc in
    let rest : a.more ≡ b.more = cc in
    let choices = options_one b.more a.choices b.choices (subst (λ (ws : List (List ℕ)). AreOptions ws a.choices) rest a.options) b.options in
    let settings : s ≡ t = a.settings_are ∙ ap settings_of choices ∙ sym b.settings_are in
    cc

check_one : (words : List (List ℕ)) (i p j q : List ℕ) → IsCheck words i p → IsCheck words j q → Check i p ≡ Check j q
check_one words i p j q a b =
    let same : codes "check" ∷ i ∷ p ∷ [] ≡ codes "check" ∷ j ∷ q ∷ [] = sym a.words_are ∙ b.words_are in
    let first : i ≡ j = cc in
    let second : p ≡ q = cc in
    cc

self_one : (words : List (List ℕ)) (s n t m : ℕ) → IsSelf words s n → IsSelf words t m → SelfRun s n ≡ SelfRun t m
self_one words s n t m a b =
    let same : codes "self" ∷ a.seed_word ∷ a.count_word ∷ [] ≡ codes "self" ∷ b.seed_word ∷ b.count_word ∷ [] = sym a.words_are ∙ b.words_are in
    let first : a.seed_word ≡ b.seed_word = cc in
    let second : a.count_word ≡ b.count_word = cc in
    let seeds : s ≡ t = a.seed_says.says ∙ ap (digits_value 10) first ∙ sym b.seed_says.says in
    let counts : n ≡ m = a.count_says.says ∙ ap (digits_value 10) second ∙ sym b.count_says.says in
    cc

plan_one : (words : List (List ℕ)) (s t : ℕ) (x y : List ℕ) → IsPlan words s x → IsPlan words t y → Plan s x ≡ Plan t y
plan_one words s t x y a b =
    let same : codes "plan" ∷ a.slots_word ∷ x ∷ [] ≡ codes "plan" ∷ b.slots_word ∷ y ∷ [] = sym a.words_are ∙ b.words_are in
    let first : a.slots_word ≡ b.slots_word = cc in
    let second : x ≡ y = cc in
    let slots : s ≡ t = a.slots_say.says ∙ ap (digits_value 10) first ∙ sym b.slots_say.says in
    cc

pub says_one : SaysOne
says_one words (Run i p w s) (Run j q v t) a b = run_one words i p w j q v s t a b
says_one words (Run i p w s) (Check j q) a b = absurd (let e = same_verb words (Run i p w s) (Check j q) a b in cc)
says_one words (Run i p w s) Report a b = absurd (let e = same_verb words (Run i p w s) Report a b in cc)
says_one words (Run i p w s) Clean a b = absurd (let e = same_verb words (Run i p w s) Clean a b in cc)
says_one words (Run i p w s) (SelfRun t m) a b = absurd (let e = same_verb words (Run i p w s) (SelfRun t m) a b in cc)
says_one words (Run i p w s) (Plan t y) a b = absurd (let e = same_verb words (Run i p w s) (Plan t y) a b in cc)
says_one words (Check i p) (Run j q v t) a b = absurd (let e = same_verb words (Check i p) (Run j q v t) a b in cc)
says_one words (Check i p) (Check j q) a b = check_one words i p j q a b
says_one words (Check i p) Report a b = absurd (let e = same_verb words (Check i p) Report a b in cc)
says_one words (Check i p) Clean a b = absurd (let e = same_verb words (Check i p) Clean a b in cc)
says_one words (Check i p) (SelfRun t m) a b = absurd (let e = same_verb words (Check i p) (SelfRun t m) a b in cc)
says_one words (Check i p) (Plan t y) a b = absurd (let e = same_verb words (Check i p) (Plan t y) a b in cc)
says_one words Report (Run j q v t) a b = absurd (let e = same_verb words Report (Run j q v t) a b in cc)
says_one words Report (Check j q) a b = absurd (let e = same_verb words Report (Check j q) a b in cc)
says_one words Report Report a b = refl
says_one words Report Clean a b = absurd (let e = same_verb words Report Clean a b in cc)
says_one words Report (SelfRun t m) a b = absurd (let e = same_verb words Report (SelfRun t m) a b in cc)
says_one words Report (Plan t y) a b = absurd (let e = same_verb words Report (Plan t y) a b in cc)
says_one words Clean (Run j q v t) a b = absurd (let e = same_verb words Clean (Run j q v t) a b in cc)
says_one words Clean (Check j q) a b = absurd (let e = same_verb words Clean (Check j q) a b in cc)
says_one words Clean Report a b = absurd (let e = same_verb words Clean Report a b in cc)
says_one words Clean Clean a b = refl
says_one words Clean (SelfRun t m) a b = absurd (let e = same_verb words Clean (SelfRun t m) a b in cc)
says_one words Clean (Plan t y) a b = absurd (let e = same_verb words Clean (Plan t y) a b in cc)
says_one words (SelfRun s n) (Run j q v t) a b = absurd (let e = same_verb words (SelfRun s n) (Run j q v t) a b in cc)
says_one words (SelfRun s n) (Check j q) a b = absurd (let e = same_verb words (SelfRun s n) (Check j q) a b in cc)
says_one words (SelfRun s n) Report a b = absurd (let e = same_verb words (SelfRun s n) Report a b in cc)
says_one words (SelfRun s n) Clean a b = absurd (let e = same_verb words (SelfRun s n) Clean a b in cc)
says_one words (SelfRun s n) (SelfRun t m) a b = self_one words s n t m a b
says_one words (SelfRun s n) (Plan t y) a b = absurd (let e = same_verb words (SelfRun s n) (Plan t y) a b in cc)
says_one words (Plan s x) (Run j q v t) a b = absurd (let e = same_verb words (Plan s x) (Run j q v t) a b in cc)
says_one words (Plan s x) (Check j q) a b = absurd (let e = same_verb words (Plan s x) (Check j q) a b in cc)
says_one words (Plan s x) Report a b = absurd (let e = same_verb words (Plan s x) Report a b in cc)
says_one words (Plan s x) Clean a b = absurd (let e = same_verb words (Plan s x) Clean a b in cc)
says_one words (Plan s x) (SelfRun t m) a b = absurd (let e = same_verb words (Plan s x) (SelfRun t m) a b in cc)
says_one words (Plan s x) (Plan t y) a b = plan_one words s t x y a b

take_less : (words : List (List ℕ)) (a b : ℕ) → a ≤ b → take a (take b words) ≡ take a words
take_less words zero b le = refl
take_less [] (suc a) zero le = absurd (omega arith)
take_less [] (suc a) (suc b) le = refl
take_less (w ∷ words) (suc a) zero le = absurd (omega arith)
take_less (w ∷ words) (suc a) (suc b) le = ap (λ (ws : List (List ℕ)). w ∷ ws) (take_less words a b (omega arith))

-- a front of a beginning is a beginning
begins_less : (words : List (List ℕ)) (a b : ℕ) → a ≤ b → IsBeginning (take b words) → IsBeginning (take a words)
begins_less words a b le begins =
    let parts : take a words ++ drop a (take b words) ≡ take b words = ap (λ (ws : List (List ℕ)). ws ++ drop a (take b words)) (sym (take_less words a b le)) ∙ take-append-drop a (take b words) in
    let joined : take a words ++ (drop a (take b words) ++ begins.0) ≡ take b words ++ begins.0 = sym (append_assoc (take a words) (drop a (take b words)) begins.0) ∙ ap (λ (ws : List (List ℕ)). ws ++ begins.0) parts in
    (drop a (take b words) ++ begins.0, subst IsCommand (sym joined) begins.1)

not_before : (words : List (List ℕ)) (a b : ℕ) → IsUsage words a → IsUsage words b → a < b → ⊥
not_before words a b x y lt =
    let within = y.within in
    x.here (omega arith) (begins_less words (a + 1) b (omega arith) y.before)

pub fails_once : FailsOnce
fails_once words a b x y = elim (cases_lt a b) [
  | inl lt ↦ absurd (not_before words a b x y lt)
  | inr le ↦ elim (cases_lt b a) [ inl gt ↦ absurd (not_before words b a y x gt) | inr ge ↦ omega arith ]
]
