-- How the frame of a program is read.
use Rattle.std.proofs.Common.{◌≡◌, refl, sym, ap, ◌∙◌, subst, List, [], ◌∷◌, ◌++◌, Result, Ok, Err, true, false}
use Rattle.gs_tree.specs.Sign.{Mark, int_, void_, equal, semicolon, ident}
use Rattle.gs_tree.specs.Program.{Name, Setting, Program}
use Rattle.gs_tree.specs.View.{name_of, term_of}
use Rattle.gs_tree.specs.declared.tree.Assign.{Assign}
use Rattle.gs_tree.specs.declared.tree.Expr.{Expr}
use Rattle.gs_tree.specs.declared.tree.Ident.{Ident}
use Rattle.gs_parse.specs.declared.stop.Stop.{Stop}
use Rattle.gs_parse.specs.declared.stop.Stop.TheVariants.{NoMemory, Unfit, TooDeep}
use Rattle.gs_parse.specs.Symbols.{name_at}
use Rattle.gs_parse.specs.Notation.{a_term, a_program, settings, starts, Kind, Value, unfit, Rule, gives, take, read}
use Rattle.gs_parse.specs.Grammar.{expr, rule, is, is_either, is_zero, program_rule}
use Rattle.gs_parse.specs.Reading.{next_fit}
use Rattle.gs_parse.specs.Reads.{Reads, Takes, Expects, IsNamed, lined}
use Rattle.gs_parse.specs.Frame.{Onward, IsZero, TakesZero, settings_in, main_rule}
use Rattle.gs_parse.proofs.Chain.{took, chose, passing, stop_unfit, then_word, then_part, last_part, gave}
use Rattle.gs_parse.proofs.Choices.{first_fits, second_fits, neither_fits}
use Rattle.std.specs.declared.vec.Vec.{Vec}
use Rattle.std.specs.declared.alloc.Global.{Global}

-- ---- `0`

pub zero_end : (A : Type 0) (old : List Mark) → old ≡ [] → TakesZero {A = A} old (Err Unfit) old
unfolding TakesZero
zero_end A old e = (ap (next_fit is_zero) e, refl)

pub zero_here : {A : Type 0} (u : A) (x : Mark) (old new : List Mark) → old ≡ x ∷ new → IsZero true x.sign → TakesZero old (Ok u) new
unfolding TakesZero is_zero
zero_here u x old new e z = (x, e, z)

pub zero_other : (A : Type 0) (x : Mark) (old next : List Mark) → old ≡ x ∷ next → IsZero false x.sign → TakesZero {A = A} old (Err Unfit) old
unfolding TakesZero is_zero
zero_other A x old next e z = (ap (next_fit is_zero) e ∙ z, refl)

pub then_zero : {A B : Type 0} (k : Kind) (r : Rule k) (view : A → Value k) (old mid : List Mark) (u : B) (result : Result A Stop) (new : List Mark) → TakesZero old (Ok u) mid → Reads k r view mid result new → Reads k (take is_zero (λ x. r)) view old result new
unfolding TakesZero
then_zero k r view old mid u result new h g = took k is_zero (λ x. r) view old h.0 mid result new h.1 h.2 g

pub stop_zero : {A : Type 0} (B : Type 0) (k : Kind) (n : Mark → Rule k) (view : A → Value k) (old : List Mark) (stop : Stop) (new : List Mark) → TakesZero {A = B} old (Err stop) new → Reads k (take is_zero n) view old (Err stop) new
unfolding TakesZero
stop_zero B k n view old Unfit new h = subst (λ (z : List Mark). Reads k (take is_zero n) view old (Err Unfit) z) (sym h.1) (stop_unfit k is_zero n view old h.0)
stop_zero B k n view old TooDeep new h = absurd h
stop_zero B k n view old NoMemory new h = absurd h

-- ---- the initial assignments

abbrev start_next : List Setting → Name → Rule settings
start_next so_far n = take (is equal) (λ x. read (expr 0 0) (λ e. take (is semicolon) (λ x. read (starts (so_far ++ record { to = n; value = e.term } ∷ [])) (λ all. gives all))))

-- a name that begins an assignment
pub start_name : {A : Type 0} (so_far : List Setting) (view : A → List Setting) (old mid : List Mark) (id : Ident) (result : Result A Stop) (new : List Mark) → Expects (ident []) IsNamed old (Ok id) mid → Reads settings (start_next so_far (name_of id)) view mid result new → Reads settings (rule (starts so_far)) view old result new
unfolding Expects
start_name so_far view old mid id result new h g =
    chose settings (is (ident [])) (λ x. start_next so_far (name_at x)) (gives so_far) view old h.0 mid result new h.1 h.2 (subst (λ (z : Name). Reads settings (start_next so_far z) view mid result new) (sym h.3) g)

starts_end_unfit : (all : Vec Assign Global) (old new : List Mark) → Expects {A = Ident} (ident []) IsNamed old (Err Unfit) new → Reads settings (rule (starts (settings_in all))) settings_in old (Ok all) new
unfolding Expects
starts_end_unfit all old new h =
    passing settings (is (ident [])) (λ x. start_next (settings_in all) (name_at x)) (gives (settings_in all)) settings_in old (Ok all) new h.0
    (subst (λ (z : List Mark). Reads settings (gives (settings_in all)) settings_in z (Ok all) new) h.1 (gave settings (settings_in all) settings_in new all refl))

pub starts_end : (all : Vec Assign Global) (old new : List Mark) (stop : Stop) → stop ≡ Unfit → Expects {A = Ident} (ident []) IsNamed old (Err stop) new → Reads settings (rule (starts (settings_in all))) settings_in old (Ok all) new
starts_end all old new stop is h = starts_end_unfit all old new (subst (λ (z : Stop). Expects {A = Ident} (ident []) IsNamed old (Err z) new) is h)

pub starts_more : {C D : Type 0} (P : C → Mark → Type 0) (Q : D → Mark → Type 0) (u : C) (w : D) (so_far all : List Setting) (old mid mid2 mid3 new : List Mark) (id : Ident) (e : Expr) → Expects (ident []) IsNamed old (Ok id) mid → Expects equal P mid (Ok u) mid2 → Reads a_term (rule (expr 0 0)) (lined mid2) mid2 (Ok e) mid3 → Expects semicolon Q mid3 (Ok w) new → all ≡ so_far ++ record { to = name_of id; value = term_of e } ∷ [] → Onward settings (rule (starts so_far)) (rule (starts all)) settings_in old new
starts_more P Q u w so_far all old mid mid2 mid3 new id e h q r s is result end g =
    start_name so_far settings_in old mid id result end h
    (then_word settings equal P _ settings_in mid mid2 u result end q
    (then_part settings (expr 0 0) _ (lined mid2) settings_in mid2 mid3 e result end r
    (then_word settings semicolon Q _ settings_in mid3 new w result end s
    (last_part settings (starts (so_far ++ record { to = name_of id; value = term_of e } ∷ [])) settings_in new result end (subst (λ (z : List Setting). Reads settings (rule (starts z)) settings_in new result end) is g)))))

-- ---- the type of `main`

pub typed_int : {A : Type 0} (view : A → Program) (old mid : List Mark) (result : Result A Stop) (new : List Mark) → Takes int_ old true mid → Reads a_program main_rule view mid result new → Reads a_program program_rule view old result new
unfolding Takes
typed_int view old mid result new h g = chose a_program (is_either int_ void_) (λ x. main_rule) main_rule view old h.0 mid result new h.1 (first_fits int_ void_ h.0 h.2) g

pub typed_void : {A : Type 0} (view : A → Program) (old mid next : List Mark) (result : Result A Stop) (new : List Mark) → Takes int_ old false mid → Takes void_ mid true next → Reads a_program main_rule view next result new → Reads a_program program_rule view old result new
unfolding Takes
typed_void view old mid next result new h t g = chose a_program (is_either int_ void_) (λ x. main_rule) main_rule view old t.0 next result new (sym h.1 ∙ t.1) (second_fits int_ void_ t.0 t.2) g

pub untyped : {A : Type 0} (view : A → Program) (old mid next : List Mark) (result : Result A Stop) (new : List Mark) → Takes int_ old false mid → Takes void_ mid false next → Reads a_program main_rule view next result new → Reads a_program program_rule view old result new
unfolding Takes
untyped view old mid next result new h t g =
    passing a_program (is_either int_ void_) (λ x. main_rule) main_rule view old result new (neither_fits int_ void_ old h.0 (subst (λ (z : List Mark). next_fit (is void_) z ≡ unfit) h.1 t.0))
    (subst (λ (z : List Mark). Reads a_program main_rule view z result new) (t.1 ∙ h.1) g)
