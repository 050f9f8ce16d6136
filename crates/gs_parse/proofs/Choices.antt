-- How choices between two signs are read.
use Rattle.std.proofs.Common.{◌≡◌, ℕ, refl, sym, ap, ◌∙◌, subst, List, [], ◌∷◌, ◌++◌, Result, Ok, Err, true, false, Bool, map}
use Rattle.std.specs.Prelude.{◌==◌, ◌||◌}
use Rattle.std.proofs.lemmas.List.{map-append}
use Rattle.gs_tree.specs.Sign.{Sign, Mark, comma, semicolon, close_paren}
use Rattle.gs_parse.specs.declared.stop.Stop.{Stop}
use Rattle.gs_parse.specs.declared.stop.Stop.TheVariants.{NoMemory, Unfit, TooDeep}
use Rattle.gs_parse.specs.Symbols.{place}
use Rattle.gs_parse.specs.Notation.{a_passed, all_passed, arg, more_args, a_term, terms, more_terms, Kind, Value, unfit, fit, Rule, gives, take, read}
use Rattle.gs_parse.specs.Grammar.{expr, after_term, after_arg, rule, judged, is, is_either}
use Rattle.gs_parse.specs.Reading.{next_fit}
use Rattle.gs_parse.specs.Reads.{Reads, Takes, Expects, lined}
use Rattle.gs_parse.specs.Frame.{Onward}
use Rattle.gs_parse.proofs.Chain.{took, stop_unfit, no_memory, then_part, stop_part, last_part, gave}
use Rattle.gs_tree.specs.Program.{Term, Passed}
use Rattle.gs_tree.specs.View.{term_of, passed_of}
use Rattle.gs_tree.specs.declared.tree.Argument.{Argument}
use Rattle.gs_tree.specs.declared.tree.Expr.{Expr}

judged_true : (b : Bool) → judged b true ≡ fit → b ≡ true
judged_true true e = refl
judged_true false e = absurd (cc)

judged_false : (b : Bool) → judged b true ≡ unfit → b ≡ false
judged_false true e = absurd (cc)
judged_false false e = refl

or_left : (a b : Bool) → a ≡ true → judged (a || b) true ≡ fit
or_left true b e = refl
or_left false b e = absurd (cc)

or_right : (a b : Bool) → b ≡ true → judged (a || b) true ≡ fit
or_right true b e = refl
or_right false true e = refl
or_right false false e = absurd (cc)

or_none : (a b : Bool) → a ≡ false → b ≡ false → judged (a || b) true ≡ unfit
or_none true b e h = absurd (cc)
or_none false true e h = absurd (cc)
or_none false false e h = refl

is_comma : (s : Sign) → (place s == 42) ≡ true → s ≡ comma
is_comma comma e = refl
is_comma _ e = absurd (cc)

is_semicolon : (s : Sign) → (place s == 43) ≡ true → s ≡ semicolon
is_semicolon semicolon e = refl
is_semicolon _ e = absurd (cc)

is_close : (s : Sign) → (place s == 39) ≡ true → s ≡ close_paren
is_close close_paren e = refl
is_close _ e = absurd (cc)

pub comma_is : (x : Mark) → is comma x ≡ fit → x.sign ≡ comma
unfolding is
comma_is x e = is_comma x.sign (judged_true _ e)

pub semicolon_is : (x : Mark) → is semicolon x ≡ fit → x.sign ≡ semicolon
unfolding is
semicolon_is x e = is_semicolon x.sign (judged_true _ e)

pub close_is : (x : Mark) → is close_paren x ≡ fit → x.sign ≡ close_paren
unfolding is
close_is x e = is_close x.sign (judged_true _ e)

pub first_fits : (s t : Sign) (x : Mark) → is s x ≡ fit → is_either s t x ≡ fit
unfolding is is_either
first_fits s t x e = or_left (place x.sign == place s) (place x.sign == place t) (judged_true _ e)

pub second_fits : (s t : Sign) (x : Mark) → is t x ≡ fit → is_either s t x ≡ fit
unfolding is is_either
second_fits s t x e = or_right (place x.sign == place s) (place x.sign == place t) (judged_true _ e)

pub neither_fits : (s t : Sign) (ts : List Mark) → next_fit (is s) ts ≡ unfit → next_fit (is t) ts ≡ unfit → next_fit (is_either s t) ts ≡ unfit
unfolding is is_either
neither_fits s t [] e h = refl
neither_fits s t (x ∷ xs) e h = or_none (place x.sign == place s) (place x.sign == place t) (judged_false _ e) (judged_false _ h)

pub either_first : {A : Type 0} (k : Kind) (s t : Sign) (f : Mark → Rule k) (view : A → Value k) (old mid : List Mark) (result : Result A Stop) (new : List Mark) → Takes s old true mid → ((x : Mark) → is s x ≡ fit → Reads k (f x) view mid result new) → Reads k (take (is_either s t) f) view old result new
unfolding Takes
either_first k s t f view old mid result new h g = took k (is_either s t) f view old h.0 mid result new h.1 (first_fits s t h.0 h.2) (g h.0 h.2)

pub either_second : {A B : Type 0} (k : Kind) (s t : Sign) (P : B → Mark → Type 0) (u : B) (f : Mark → Rule k) (view : A → Value k) (old mid next : List Mark) (result : Result A Stop) (new : List Mark) → Takes s old false mid → Expects t P mid (Ok u) next → ((x : Mark) → is t x ≡ fit → Reads k (f x) view next result new) → Reads k (take (is_either s t) f) view old result new
unfolding Takes Expects
either_second k s t P u f view old mid next result new h e g = took k (is_either s t) f view old e.0 next result new (sym h.1 ∙ e.1) (second_fits s t e.0 e.2) (g e.0 e.2)

pub either_stop : {A B : Type 0} (k : Kind) (s t : Sign) (P : B → Mark → Type 0) (f : Mark → Rule k) (view : A → Value k) (old mid : List Mark) (stop : Stop) (new : List Mark) → Takes s old false mid → Expects t P mid (Err stop) new → Reads k (take (is_either s t) f) view old (Err stop) new
unfolding Takes Expects
either_stop k s t P f view old mid Unfit new h e =
    let here : new ≡ old = e.1 ∙ h.1 in
    subst (λ (z : List Mark). Reads k (take (is_either s t) f) view old (Err Unfit) z) (sym here) (stop_unfit k (is_either s t) f view old (neither_fits s t old h.0 (subst (λ (z : List Mark). next_fit (is t) z ≡ unfit) h.1 e.0)))
either_stop k s t P f view old mid TooDeep new h e = absurd e
either_stop k s t P f view old mid NoMemory new h e = no_memory k _ view old new

-- one more behind
pub map_push : {A B : Type 0} (f : A → B) (v w : List A) (a : A) → w ≡ v ++ a ∷ [] → map f w ≡ map f v ++ f a ∷ []
map_push f v w a e = ap (map f) e ∙ map-append f v (a ∷ [])

-- ---- the arguments of a print

pub terms_comma : {A : Type 0} (so_far : List Term) (view : A → List Term) (old mid next : List Mark) (e : Expr) (all : List Term) → Takes comma old true mid → Reads a_term (rule (expr 0 0)) (lined mid) mid (Ok e) next → all ≡ so_far ++ term_of e ∷ [] → Onward terms (rule (more_terms so_far)) (rule (more_terms all)) view old next
terms_comma so_far view old mid next e all h r is result new g =
    either_first terms comma close_paren (λ x. after_term so_far x.sign) view old mid result new h (λ x c.
    subst (λ (s : Sign). Reads terms (after_term so_far s) view mid result new) (sym (comma_is x c))
    (then_part terms (expr 0 0) _ (lined mid) view mid next e result new r
    (last_part terms (more_terms (so_far ++ term_of e ∷ [])) view next result new (subst (λ (z : List Term). Reads terms (rule (more_terms z)) view next result new) is g))))

pub terms_comma_stop : {A : Type 0} (so_far : List Term) (view : A → List Term) (old mid : List Mark) (stop : Stop) (new : List Mark) → Takes comma old true mid → Reads {A = Expr} a_term (rule (expr 0 0)) (lined mid) mid (Err stop) new → Reads terms (rule (more_terms so_far)) view old (Err stop) new
terms_comma_stop so_far view old mid stop new h r =
    either_first terms comma close_paren (λ x. after_term so_far x.sign) view old mid (Err stop) new h (λ x c.
    subst (λ (s : Sign). Reads terms (after_term so_far s) view mid (Err stop) new) (sym (comma_is x c)) (stop_part terms (expr 0 0) _ (lined mid) view mid stop new r))

pub terms_close : {A B : Type 0} (P : B → Mark → Type 0) (u : B) (so_far : List Term) (view : A → List Term) (old mid new : List Mark) (a : A) → Takes comma old false mid → Expects close_paren P mid (Ok u) new → view a ≡ so_far → Reads terms (rule (more_terms so_far)) view old (Ok a) new
terms_close P u so_far view old mid new a h e is =
    either_second terms comma close_paren P u (λ x. after_term so_far x.sign) view old mid new (Ok a) new h e (λ x c.
    subst (λ (s : Sign). Reads terms (after_term so_far s) view new (Ok a) new) (sym (close_is x c)) (gave terms so_far view new a is))

-- ---- the arguments of a call

pub args_first : {A : Type 0} (view : A → List Passed) (old next : List Mark) (e : Argument) (all : List Passed) → Reads a_passed (rule arg) passed_of old (Ok e) next → all ≡ passed_of e ∷ [] → Onward all_passed (read arg (λ a. read (more_args (a ∷ [])) (λ all. gives all))) (rule (more_args all)) view old next
args_first view old next e all r is result new g =
    then_part all_passed arg _ passed_of view old next e result new r (last_part all_passed (more_args (passed_of e ∷ [])) view next result new (subst (λ (z : List Passed). Reads all_passed (rule (more_args z)) view next result new) is g))

pub args_comma : {A : Type 0} (so_far : List Passed) (view : A → List Passed) (old mid next : List Mark) (e : Argument) (all : List Passed) → Takes comma old true mid → Reads a_passed (rule arg) passed_of mid (Ok e) next → all ≡ so_far ++ passed_of e ∷ [] → Onward all_passed (rule (more_args so_far)) (rule (more_args all)) view old next
args_comma so_far view old mid next e all h r is result new g =
    either_first all_passed comma close_paren (λ x. after_arg so_far x.sign) view old mid result new h (λ x c.
    subst (λ (s : Sign). Reads all_passed (after_arg so_far s) view mid result new) (sym (comma_is x c))
    (then_part all_passed arg _ passed_of view mid next e result new r
    (last_part all_passed (more_args (so_far ++ passed_of e ∷ [])) view next result new (subst (λ (z : List Passed). Reads all_passed (rule (more_args z)) view next result new) is g))))

pub args_comma_stop : {A : Type 0} (so_far : List Passed) (view : A → List Passed) (old mid : List Mark) (stop : Stop) (new : List Mark) → Takes comma old true mid → Reads {A = Argument} a_passed (rule arg) passed_of mid (Err stop) new → Reads all_passed (rule (more_args so_far)) view old (Err stop) new
args_comma_stop so_far view old mid stop new h r =
    either_first all_passed comma close_paren (λ x. after_arg so_far x.sign) view old mid (Err stop) new h (λ x c.
    subst (λ (s : Sign). Reads all_passed (after_arg so_far s) view mid (Err stop) new) (sym (comma_is x c)) (stop_part all_passed arg _ passed_of view mid stop new r))

pub args_close : {A B : Type 0} (P : B → Mark → Type 0) (u : B) (so_far : List Passed) (view : A → List Passed) (old mid new : List Mark) (a : A) → Takes comma old false mid → Expects close_paren P mid (Ok u) new → view a ≡ so_far → Reads all_passed (rule (more_args so_far)) view old (Ok a) new
args_close P u so_far view old mid new a h e is =
    either_second all_passed comma close_paren P u (λ x. after_arg so_far x.sign) view old mid new (Ok a) new h e (λ x c.
    subst (λ (s : Sign). Reads all_passed (after_arg so_far s) view new (Ok a) new) (sym (close_is x c)) (gave all_passed so_far view new a is))

pub passed_same : (a b : ℕ) (by_ : Bool) (s t : Term) → a ≡ b → s ≡ t → (let p : Passed = record { line = a; by_address = by_; value = s } in p) ≡ record { line = b; by_address = by_; value = t }
passed_same a b by_ s t e h = cc

pub takes_stays : (s : Sign) (old mid : List Mark) → Takes s old false mid → mid ≡ old
unfolding Takes
takes_stays s old mid h = h.1

pub map_first : {A B : Type 0} (f : A → B) (v w : List A) (a : A) → v ≡ [] → w ≡ v ++ a ∷ [] → map f w ≡ f a ∷ []
map_first f v w a n e = ap (map f) (e ∙ ap (λ z. z ++ a ∷ []) n)
