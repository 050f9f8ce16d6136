-- How declarations are read.
use Rattle.std.proofs.Common.{◌≡◌, refl, sym, ap, ◌∙◌, subst, List, [], ◌∷◌, Some, None, Result, Ok, Err, true, false, Bool, map}
use Rattle.std.specs.Prelude.{◌==◌, MatchResult}
use Rattle.gs_tree.specs.Sign.{Sign, Mark, int_, char_, file_, comma, semicolon, equal, star, ident}
use Rattle.gs_tree.specs.View.{name_of, term_of, setting_of}
use Rattle.gs_tree.specs.declared.tree.Assign.{Assign}
use Rattle.gs_tree.specs.declared.tree.Expr.{Expr}
use Rattle.gs_tree.specs.declared.tree.Ident.{Ident}
use Rattle.gs_tree.specs.declared.tree.Var.{Var}
use Rattle.gs_tree.specs.declared.tree.VarKind.{VarKind}
use Rattle.gs_tree.specs.declared.tree.VarKind.TheVariants as var_kind
use Rattle.gs_parse.specs.declared.stop.Stop.{Stop}
use Rattle.gs_parse.specs.declared.stop.Stop.TheVariants.{NoMemory}
use Rattle.gs_parse.specs.declared.vars.Declarations.{Declarations}
use Rattle.gs_parse.specs.Symbols.{place}
use Rattle.gs_parse.specs.Notation.{a_term, declared, Declared, names, decls, Kind, Value, unfit, fit, Rule, gives, take, may, read}
use Rattle.gs_parse.specs.Grammar.{expr, rule, judged, is, begins_declaration, type_fit, kind_named, declare, var_rule, next_var, next_after}
use Rattle.gs_parse.specs.Reading.{next_fit}
use Rattle.gs_parse.specs.Reads.{Reads, Takes, Expects, IsNamed, lined}
use Rattle.gs_parse.specs.Frame.{Onward, Begins, TakesType, declared_of, var_of}
use Rattle.gs_parse.proofs.Chain.{chose, passing, then_word, then_name, then_choice, else_choice, then_part, stop_part, last_part, gave, memory_err}
use Rattle.gs_parse.proofs.Choices.{either_first, either_second, either_stop, comma_is, semicolon_is}

-- ---- first parts

pub begins_stop : {A : Type 0} (B : Type 0) (k : Kind) (whole rest : Rule k) (view : A → Value k) (old : List Mark) (stop : Stop) (new : List Mark) → Reads k whole view old (Err stop) new → Begins {B = B} k whole rest view old (Err stop) new
unfolding Begins
begins_stop B k whole rest view old stop new h = h

pub begins_word : {A B C : Type 0} (k : Kind) (s : Sign) (P : C → Mark → Type 0) (whole rest : Rule k) (view : A → Value k) (old mid : List Mark) (u : C) (result : Result B Stop) (new : List Mark) → Expects s P old (Ok u) mid → Begins k whole rest view mid result new → Begins k (take (is s) (λ x. whole)) rest view old result new
unfolding Begins
begins_word k s P whole rest view old mid u (Ok b) new h g = λ result end c. then_word k s P whole view old mid u result end h (g result end c)
begins_word k s P whole rest view old mid u (Err stop) new h g = then_word k s P whole view old mid u (Err stop) new h g

pub onward_begins : {A B : Type 0} (k : Kind) (a b c : Rule k) (view : A → Value k) (old mid : List Mark) (result : Result B Stop) (new : List Mark) → Onward k a b view old mid → Begins k b c view mid result new → Begins k a c view old result new
unfolding Begins
onward_begins k a b c view old mid (Ok u) new h g = λ result end r. h result end (g result end r)
onward_begins k a b c view old mid (Err stop) new h g = h (Err stop) new g

pub begins_onward : {A B : Type 0} (k : Kind) (whole rest : Rule k) (view : A → Value k) (old : List Mark) (b : B) (new : List Mark) → Begins k whole rest view old (Ok b) new → Onward k whole rest view old new
unfolding Begins
begins_onward k whole rest view old b new h = h

pub begins_err : {A : Type 0} (B : Type 0) (k : Kind) (whole rest : Rule k) (view : A → Value k) (old : List Mark) (stop : Stop) (new : List Mark) → Begins {B = B} k whole rest view old (Err stop) new → Reads k whole view old (Err stop) new
unfolding Begins
begins_err B k whole rest view old stop new h = h

-- what was declared is what the rest goes on with
pub declares : {B : Type 0} (r : Rule declared) (next : Declared → Rule declared) (d want : Declared) (old new : List Mark) (result : Result B Stop) → Onward declared r (next want) declared_of old new → MatchResult result (λ _. d ≡ want) (λ stop. stop ≡ NoMemory) → Begins declared r (next d) declared_of old result new
unfolding Begins
declares r next d want old new (Ok b) on m = λ result end g. on result end (subst (λ (z : Declared). Reads declared (next z) declared_of new result end) m g)
declares r next d want old new (Err stop) on m = memory_err declared r declared_of old stop new m

-- ---- one variable

pub valued : (kind : VarKind) (d : Declared) (old mid mid2 new : List Mark) (id : Ident) (e : Expr) → Expects (ident []) IsNamed old (Ok id) mid → Takes equal mid true mid2 → Reads a_term (rule (expr 0 0)) (lined mid2) mid2 (Ok e) new → Onward declared (var_rule kind d) (next_var kind (declare (name_of id) kind (Some (term_of e)) d)) declared_of old new
valued kind d old mid mid2 new id e h t r result end g =
    then_name declared (λ n. may (is equal) (λ x. read (expr 0 0) (λ v. next_var kind (declare n kind (Some v.term) d))) (next_var kind (declare n kind None d))) declared_of old mid id result end h
    (then_choice declared equal _ _ declared_of mid mid2 result end t (then_part declared (expr 0 0) _ (lined mid2) declared_of mid2 new e result end r g))

pub valued_stop : (kind : VarKind) (d : Declared) (old mid mid2 : List Mark) (id : Ident) (stop : Stop) (new : List Mark) → Expects (ident []) IsNamed old (Ok id) mid → Takes equal mid true mid2 → Reads {A = Expr} a_term (rule (expr 0 0)) (lined mid2) mid2 (Err stop) new → Reads declared (var_rule kind d) declared_of old (Err stop) new
valued_stop kind d old mid mid2 id stop new h t r =
    then_name declared (λ n. may (is equal) (λ x. read (expr 0 0) (λ v. next_var kind (declare n kind (Some v.term) d))) (next_var kind (declare n kind None d))) declared_of old mid id (Err stop) new h
    (then_choice declared equal _ _ declared_of mid mid2 (Err stop) new t (stop_part declared (expr 0 0) _ (lined mid2) declared_of mid2 stop new r))

pub plain : (kind : VarKind) (d : Declared) (old mid new : List Mark) (id : Ident) → Expects (ident []) IsNamed old (Ok id) mid → Takes equal mid false new → Onward declared (var_rule kind d) (next_var kind (declare (name_of id) kind None d)) declared_of old new
plain kind d old mid new id h t result end g =
    then_name declared (λ n. may (is equal) (λ x. read (expr 0 0) (λ v. next_var kind (declare n kind (Some v.term) d))) (next_var kind (declare n kind None d))) declared_of old mid id result end h
    (else_choice declared equal _ _ declared_of mid new result end t g)

pub handle : {C : Type 0} (P : C → Mark → Type 0) (u : C) (d : Declared) (old mid new : List Mark) (id : Ident) → Expects star P old (Ok u) mid → Expects (ident []) IsNamed mid (Ok id) new → Onward declared (rule (names var_kind.Handle d)) (next_var var_kind.Handle (declare (name_of id) var_kind.Handle None d)) declared_of old new
handle P u d old mid new id s h result end g =
    then_word declared star P _ declared_of old mid u result end s
    (then_name declared (λ n. next_var var_kind.Handle (declare n var_kind.Handle None d)) declared_of mid new id result end h g)

-- ---- the names of a declaration

pub names_comma : (kind : VarKind) (d : Declared) (old new : List Mark) → Takes comma old true new → Onward declared (next_var kind d) (rule (names kind d)) declared_of old new
names_comma kind d old new h result end g =
    either_first declared comma semicolon (λ x. next_after kind d x.sign) declared_of old new result end h (λ x c.
    subst (λ (s : Sign). Reads declared (next_after kind d s) declared_of new result end) (sym (comma_is x c)) (last_part declared (names kind d) declared_of new result end g))

pub names_end : {B : Type 0} (P : B → Mark → Type 0) (kind : VarKind) (d : Declared) (old mid : List Mark) (result : Result B Stop) (new : List Mark) → Takes comma old false mid → Expects semicolon P mid result new → Begins declared (next_var kind d) (rule (decls d)) declared_of old result new
unfolding Begins
names_end P kind d old mid (Ok u) new h e = λ result end g.
    either_second declared comma semicolon P u (λ x. next_after kind d x.sign) declared_of old mid new result end h e (λ x c.
    subst (λ (s : Sign). Reads declared (next_after kind d s) declared_of new result end) (sym (semicolon_is x c)) (last_part declared (decls d) declared_of new result end g))
names_end P kind d old mid (Err stop) new h e = either_stop declared comma semicolon P (λ x. next_after kind d x.sign) declared_of old mid stop new h e

-- ---- types

judged_true : (b : Bool) → judged b true ≡ fit → b ≡ true
judged_true true e = refl
judged_true false e = absurd (cc)

by_int : (s : Sign) → (place s == 2) ≡ true → s ≡ int_
by_int int_ e = refl
by_int _ e = absurd (cc)

by_char : (s : Sign) → (place s == 3) ≡ true → s ≡ char_
by_char char_ e = refl
by_char _ e = absurd (cc)

by_file : (s : Sign) → (place s == 4) ≡ true → s ≡ file_
by_file file_ e = refl
by_file _ e = absurd (cc)

pub took_int : (o n : List Mark) → Takes int_ o true n → TakesType o (Some var_kind.Int) n
unfolding Takes TakesType is begins_declaration
took_int o n h = let e = by_int h.0.sign (judged_true _ h.2) in (h.0, h.1, ap type_fit e, ap kind_named e)

pub took_char : (o k n : List Mark) → Takes int_ o false k → Takes char_ k true n → TakesType o (Some var_kind.Str) n
unfolding Takes TakesType is begins_declaration
took_char o k n a h = let e = by_char h.0.sign (judged_true _ h.2) in (h.0, sym a.1 ∙ h.1, ap type_fit e, ap kind_named e)

pub took_file : (o k m n : List Mark) → Takes int_ o false k → Takes char_ k false m → Takes file_ m true n → TakesType o (Some var_kind.Handle) n
unfolding Takes TakesType is begins_declaration
took_file o k m n a b h = let e = by_file h.0.sign (judged_true _ h.2) in (h.0, sym a.1 ∙ sym b.1 ∙ h.1, ap type_fit e, ap kind_named e)

none_of : (s : Sign) → judged (place s == 2) true ≡ unfit → judged (place s == 3) true ≡ unfit → judged (place s == 4) true ≡ unfit → type_fit s ≡ unfit
none_of int_ a b c = absurd (cc)
none_of char_ a b c = absurd (cc)
none_of file_ a b c = absurd (cc)
none_of _ a b c = refl

none_next : (ts : List Mark) → next_fit (is int_) ts ≡ unfit → next_fit (is char_) ts ≡ unfit → next_fit (is file_) ts ≡ unfit → next_fit begins_declaration ts ≡ unfit
unfolding is begins_declaration
none_next [] a b c = refl
none_next (x ∷ xs) a b c = none_of x.sign a b c

pub took_no_type : (o k m n : List Mark) → Takes int_ o false k → Takes char_ k false m → Takes file_ m false n → TakesType o None n
unfolding Takes TakesType
took_no_type o k m n a b c =
    let mo : m ≡ o = b.1 ∙ a.1 in
    (none_next o a.0 (subst (λ (z : List Mark). next_fit (is char_) z ≡ unfit) a.1 b.0) (subst (λ (z : List Mark). next_fit (is file_) z ≡ unfit) mo c.0), c.1 ∙ mo)

-- ---- declarations

pub decls_type : (d : Declared) (old : List Mark) (kind : VarKind) (new : List Mark) → TakesType old (Some kind) new → Onward declared (rule (decls d)) (rule (names kind d)) declared_of old new
unfolding TakesType
decls_type d old kind new h result end g =
    chose declared begins_declaration (λ x. read (names (kind_named x.sign) d) (λ all. gives all)) (gives d) declared_of old h.0 new result end h.1 h.2
    (subst (λ (z : VarKind). Reads declared (read (names z d) (λ all. gives all)) declared_of new result end) (sym h.3) (last_part declared (names kind d) declared_of new result end g))

pub decls_end : (all : Declarations) (old new : List Mark) → TakesType old None new → Reads declared (rule (decls (declared_of all))) declared_of old (Ok all) new
unfolding TakesType
decls_end all old new h =
    passing declared begins_declaration (λ x. read (names (kind_named x.sign) (declared_of all)) (λ v. gives v)) (gives (declared_of all)) declared_of old (Ok all) new h.0
    (subst (λ (z : List Mark). Reads declared (gives (declared_of all)) declared_of z (Ok all) new) h.1 (gave declared (declared_of all) declared_of new all refl))

pub onward_then : {A : Type 0} (k : Kind) (a b c : Rule k) (view : A → Value k) (old mid new : List Mark) → Onward k a b view old mid → Onward k b c view mid new → Onward k a c view old new
onward_then k a b c view old mid new h g result end r = h result end (g result end r)

pub no_vars : (vars : List Var) (first : List Assign) (result : Result Declarations Stop) (old new : List Mark) → vars ≡ [] → first ≡ [] → Reads declared (rule (decls (record { vars = map var_of vars; first = map setting_of first }))) declared_of old result new → Reads declared (rule (decls (record { vars = []; first = [] }))) declared_of old result new
no_vars vars first result old new v f r = subst (λ (z : List Assign). Reads declared (rule (decls (record { vars = []; first = map setting_of z }))) declared_of old result new) f (subst (λ (z : List Var). Reads declared (rule (decls (record { vars = map var_of z; first = map setting_of first }))) declared_of old result new) v r)
