-- The signs of printed arguments, assignments and heads are read as they are.
use Rattle.std.proofs.Common.{◌≡◌, ℕ, refl, ap, ◌∙◌, List, [], ◌∷◌, ◌++◌, Bool, true, false, Option, Some, None, map}
use Rattle.std.specs.Prelude.{◌==◌, ◌||◌}
use Rattle.std.specs.Option.{option_map}
use Rattle.gs_tree.specs.Sign.{Sign, gs_fopen, fgetline_, open_paren, close_paren, comma, semicolon, equal, ampersand}
use Rattle.gs_tree.specs.Program.{Name, Term, num, var, Setting, Formatted, Passed}
use Rattle.gs_tree.specs.Unlined.{unlined_name, unlined_term, unlined_setting, unlined_format, unlined_passed}
use Rattle.gs_spelling.specs.Signs.{term_signs, more_signs, passed_signs, more_passed_signs, passeds_signs, maybe_setting_signs, maybe_term_signs, format_signs}
use Rattle.gs_parse.specs.Symbols.{place}
use Rattle.gs_parse.specs.Notation.{a_term, terms, a_passed, all_passed, a_printed, a_setting, maybe_setting, maybe_term, more_terms, arg, more_args, args, condition, printing, assigned, for_first, for_test, for_step}
use Rattle.gs_parse.specs.Grammar.{rule, judged, is_either, assigns}
use Rattle.gs_parse.specs.Reading.{limited, Accepts}
use Rattle.gs_parse.specs.Fits.{TermFits, TermsFit, AddressFits, PassedsFit, MaybeSettingFits, MaybeTermFits}
use Rattle.gs_reprint.proofs.Again.{Reads, mark, gives_it, takes, reads, sign_again, word_again, name_again, format_again, next_is, without_word, with_word}
use Rattle.gs_reprint.proofs.AgainTerms.{Same, next_binding, term_again}

-- ---- what a printed term does not begin with

-- no call of `GS_FOpen`
pub not_open : (t : Term) (gs : List Sign) → next_is gs_fopen (term_signs t gs) ≡ false
not_open (num line v) gs = refl
not_open _ gs = refl

-- no call of `fgetline`
pub not_line : (t : Term) (gs : List Sign) → next_is fgetline_ (term_signs t gs) ≡ false
not_line (num line v) gs = refl
not_line _ gs = refl

-- no `&`
not_address : (t : Term) (gs : List Sign) → next_is ampersand (term_signs t gs) ≡ false
not_address (num line v) gs = refl
not_address _ gs = refl

-- no `;`
not_semicolon : (t : Term) (gs : List Sign) → next_is semicolon (term_signs t gs) ≡ false
not_semicolon (num line v) gs = refl
not_semicolon _ gs = refl

-- no `)`
not_close : (t : Term) (gs : List Sign) → next_is close_paren (term_signs t gs) ≡ false
not_close (num line v) gs = refl
not_close _ gs = refl

-- ---- lists that grow at their ends

-- all is in front of nothing
pub all_front : {A B : Type 0} (f : A → B) (xs : List A) → map f xs ≡ map f (xs ++ [])
all_front f [] = refl
all_front f (x ∷ xs) = ap (λ z. f x ∷ z) (all_front f xs)

-- one more behind is one less ahead
pub one_more : {A B : Type 0} (f : A → B) (xs : List A) (x y : A) (ys : List A) → f x ≡ f y → map f ((xs ++ x ∷ []) ++ ys) ≡ map f (xs ++ y ∷ ys)
one_more f [] x y ys e = ap (λ z. z ∷ map f ys) e
one_more f (w ∷ xs) x y ys e = ap (λ z. f w ∷ z) (one_more f xs x y ys e)

-- ---- terms and arguments

-- what stands is accepted
accepts_true : (b : Bool) → b ≡ true → Accepts limited (judged b true)
accepts_true true e = tt
accepts_true false e = absurd (cc)

-- one of two signs is accepted
pub accepts_either : (s t u : Sign) (line : ℕ) → (place u == place s || place u == place t) ≡ true → Accepts limited (is_either s t (mark line u))
unfolding is_either
accepts_either s t u line e = accepts_true (place u == place s || place u == place t) e

-- what follows a term in a list binds nowhere
more_bind : (ts : List Term) (gs : List Sign) → next_binding (more_signs ts (close_paren ∷ gs)) ≡ 0
more_bind [] gs = refl
more_bind (t ∷ ts) gs = refl

-- further terms, to the parenthesis
pub more_terms_again : (ts so_far : List Term) (gs : List Sign) → TermsFit ts →
    Reads terms (rule (more_terms so_far)) (λ all. map unlined_term all ≡ map unlined_term (so_far ++ ts)) (more_signs ts (close_paren ∷ gs)) gs
more_terms_again [] so_far gs fits = takes (λ l. accepts_either comma close_paren close_paren l refl) (λ l. gives_it (all_front unlined_term so_far))
more_terms_again (t ∷ ts) so_far gs fits =
    takes (λ l. accepts_either comma close_paren comma l refl) (λ l.
    reads (term_again t 0 (more_signs ts (close_paren ∷ gs)) fits.0 (more_bind ts gs)) (λ v e.
    reads (more_terms_again ts (so_far ++ v.term ∷ []) gs fits.1) (λ all f. gives_it (f ∙ one_more unlined_term so_far v.term t ts e))))

-- arguments that differ in their lines alone
passed_same : (b : Bool) (s t : Term) → unlined_term s ≡ unlined_term t →
    (let p : Passed = record { line = 0; by_address = b; value = unlined_term s } in p) ≡ record { line = 0; by_address = b; value = unlined_term t }
passed_same b s t e = cc

-- an argument, by its parts
arg_by : (b : Bool) (t : Term) (gs : List Sign) → AddressFits b t → next_binding gs ≡ 0 →
    Reads a_passed (rule arg) (λ a. unlined_passed a ≡ record { line = 0; by_address = b; value = unlined_term t })
    (passed_signs (record { line = 0; by_address = b; value = t }) gs) gs
arg_by true (var n) gs fits e = with_word (λ l. name_again (λ k. gives_it refl))
arg_by true _ gs fits e = absurd fits
arg_by false t gs fits e = without_word ampersand (not_address t gs) (reads (term_again t 0 gs fits e) (λ v f. gives_it (passed_same false v.term t f)))

-- an argument of a call
arg_again : (p : Passed) (gs : List Sign) → AddressFits p.by_address p.value → next_binding gs ≡ 0 →
    Reads a_passed (rule arg) (λ a. unlined_passed a ≡ unlined_passed p) (passed_signs p gs) gs
arg_again p gs fits e = arg_by p.by_address p.value gs fits e

-- what follows an argument binds nowhere
more_args_bind : (ps : List Passed) (gs : List Sign) → next_binding (more_passed_signs ps (close_paren ∷ gs)) ≡ 0
more_args_bind [] gs = refl
more_args_bind (p ∷ ps) gs = refl

-- further arguments, to the parenthesis
more_args_again : (ps so_far : List Passed) (gs : List Sign) → PassedsFit ps →
    Reads all_passed (rule (more_args so_far)) (λ all. map unlined_passed all ≡ map unlined_passed (so_far ++ ps)) (more_passed_signs ps (close_paren ∷ gs)) gs
more_args_again [] so_far gs fits = takes (λ l. accepts_either comma close_paren close_paren l refl) (λ l. gives_it (all_front unlined_passed so_far))
more_args_again (p ∷ ps) so_far gs fits =
    takes (λ l. accepts_either comma close_paren comma l refl) (λ l.
    reads (arg_again p (more_passed_signs ps (close_paren ∷ gs)) fits.0 (more_args_bind ps gs)) (λ a e.
    reads (more_args_again ps (so_far ++ a ∷ []) gs fits.1) (λ all f. gives_it (f ∙ one_more unlined_passed so_far a p ps e))))

-- the arguments of a call, to the parenthesis
pub args_again : (p : Passed) (ps : List Passed) (gs : List Sign) → PassedsFit (p ∷ ps) →
    Reads all_passed (rule args) (λ all. map unlined_passed all ≡ map unlined_passed (p ∷ ps)) (passeds_signs (p ∷ ps) (close_paren ∷ gs)) gs
args_again p ps gs fits =
    reads (arg_again p (more_passed_signs ps (close_paren ∷ gs)) fits.0 (more_args_bind ps gs)) (λ a e.
    reads (more_args_again ps (a ∷ []) gs fits.1) (λ all f. gives_it (f ∙ one_more unlined_passed [] a p ps e)))

-- an argument does not begin with `)`
passed_open : (b : Bool) (t : Term) (gs : List Sign) → next_is close_paren (passed_signs (record { line = 0; by_address = b; value = t }) gs) ≡ false
passed_open true t gs = refl
passed_open false t gs = not_close t gs

-- an argument stands here
pub some_args : (p : Passed) (ps : List Passed) (gs : List Sign) → next_is close_paren (passeds_signs (p ∷ ps) gs) ≡ false
some_args p ps gs = passed_open p.by_address p.value (more_passed_signs ps gs)

-- a term in parentheses
pub condition_again : (t : Term) (gs : List Sign) → TermFits 0 t → Reads a_term (rule condition) (Same t) (open_paren ∷ term_signs t (close_paren ∷ gs)) gs
condition_again t gs fits = sign_again (λ l. reads (term_again t 0 (close_paren ∷ gs) fits refl) (λ v e. word_again (gives_it e)))

-- a format with its arguments, to the statement's end
pub printing_again : (f : Formatted) (ts : List Term) (gs : List Sign) → TermsFit ts →
    Reads a_printed (rule printing) (λ p. (unlined_format p.format ≡ unlined_format f) × (map unlined_term p.args ≡ map unlined_term ts)) (format_signs f ts gs) gs
printing_again f ts gs fits = format_again (λ l. reads (more_terms_again ts [] (semicolon ∷ gs) fits) (λ all e. word_again (gives_it (refl, e))))

-- ---- assignments and heads

-- `=` assigns
accepts_equal : (line : ℕ) → Accepts limited (assigns (mark line equal))
unfolding assigns
accepts_equal line = tt

-- assignments that differ in their lines alone
setting_same : (n : Name) (s t : Term) → unlined_term s ≡ unlined_term t →
    (let a : Setting = record { to = n; value = unlined_term s } in a) ≡ record { to = n; value = unlined_term t }
setting_same n s t e = cc

-- an assignment after its name
pub assigned_again : (n : Name) (t : Term) (gs : List Sign) → TermFits 0 t → next_binding gs ≡ 0 →
    Reads a_setting (rule (assigned n)) (λ a. unlined_setting a ≡ record { to = unlined_name n; value = unlined_term t }) (equal ∷ term_signs t gs) gs
assigned_again n t gs fits e = takes accepts_equal (λ l. reads (term_again t 0 gs fits e) (λ v f. gives_it (setting_same (unlined_name n) v.term t f)))

-- how a loop begins
pub first_again : (s : Option Setting) (gs : List Sign) → MaybeSettingFits s →
    Reads maybe_setting (rule for_first) (λ o. option_map unlined_setting o ≡ option_map unlined_setting s) (maybe_setting_signs s (semicolon ∷ gs)) gs
first_again None gs fits = with_word (λ l. gives_it refl)
first_again (Some s) gs fits =
    without_word semicolon refl (name_again (λ l.
    reads (assigned_again (record { line = l; text = s.to.text }) s.value (semicolon ∷ gs) fits refl) (λ a e. word_again (gives_it (ap Some e)))))

-- how long a loop goes on
pub test_again : (t : Option Term) (gs : List Sign) → MaybeTermFits t →
    Reads maybe_term (rule for_test) (λ o. option_map unlined_term o ≡ option_map unlined_term t) (maybe_term_signs t (semicolon ∷ gs)) gs
test_again None gs fits = with_word (λ l. gives_it refl)
test_again (Some t) gs fits =
    without_word semicolon (not_semicolon t (semicolon ∷ gs)) (reads (term_again t 0 (semicolon ∷ gs) fits refl) (λ v e. word_again (gives_it (ap Some e))))

-- how a loop steps
pub step_again : (s : Option Setting) (gs : List Sign) → MaybeSettingFits s →
    Reads maybe_setting (rule for_step) (λ o. option_map unlined_setting o ≡ option_map unlined_setting s) (maybe_setting_signs s (close_paren ∷ gs)) gs
step_again None gs fits = with_word (λ l. gives_it refl)
step_again (Some s) gs fits =
    without_word close_paren refl (name_again (λ l.
    reads (assigned_again (record { line = l; text = s.to.text }) s.value (close_paren ∷ gs) fits refl) (λ a e. word_again (gives_it (ap Some e)))))
