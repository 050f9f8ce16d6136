-- A lexical fault stands in no text of the grammar, be its limits kept or not.
use Rattle.std.proofs.Common.{◌≡◌, ◌+◌, ℕ, zero, suc, refl, sym, ap, ◌∙◌, subst, List, [], ◌∷◌, ◌++◌, Bool, true, false, arith, take, nat_lt, if◌then◌else◌, append-nil, append_assoc}
use Rattle.std.specs.Prelude.{◌==◌, ◌||◌}
use Rattle.std.proofs.lemmas.Bool.{eqb-true}
use Rattle.gs_tree.specs.Program.{Name, Term, Setting, Passed, Code, Program}
use Rattle.gs_tree.specs.Sign.{Sign, Mark, main_, int_, void_, if_, else_, while_, for_, return_, gs_on, gs_barrier, gs_fopen, gs_fclose, printf_, fprintf_, sprintf_, fgetline_, atoi_, strcmp_, ident, string, plus_plus, minus_minus, plus_equal, minus_equal, open_paren, close_paren, open_brace, close_brace, comma, semicolon, equal, minus, star, bang, ampersand, bad}
use Rattle.gs_tree.specs.declared.tree.VarKind.{VarKind}
use Rattle.gs_tree.specs.declared.tree.VarKind.TheVariants as var_kind
use Rattle.gs_parse.specs.Symbols.{place, binding, name_at}
use Rattle.gs_parse.specs.Notation.{a_term, terms, all_passed, a_setting, settings, a_code, a_body, closed, declared, Declared, a_program, Kind, Value, Part, kind_of, level, tail, more_terms, arg, more_args, args, condition, printing, assigned, for_first, for_test, for_step, rest_of, body, stmts, names, decls, starts, program, Fit, fit, Rule, gives, take as takes, may, read}
use Rattle.gs_parse.specs.Grammar.{rule, judged, is, is_either, is_zero, zero_fit, begins_operand, operand_fit, operand, goes_on, after_term, after_arg, assigns, assigning_fit, assignment, is_mode, mode_fit, begins_statement, begins_body, body_fit, body_after, closes_or_begins, stmts_after, statement, named_rule, open_rule, line_rule, call_rule, set_rule, next_var, next_after, var_rule, names_rule, begins_declaration, type_fit, after_off, after_on, after_head, after_main, program_end}
use Rattle.gs_parse.specs.Reading.{unlimited, Accepts, Says, given, taken, chosen, passed, part, SaysProgram}
use Rattle.gs_parse.specs.Faulty.{deep, unfit as no_reading, kind_from}
use Rattle.gs_parse.specs.Laws.{LexicalFault}
use Rattle.gs_parse.proofs.Faults.{one_more}

abbrev is_bad : Sign → Bool
is_bad (bad kind) = true
is_bad _ = false

abbrev Spotless : List Mark → Type 0
Spotless [] = Unit {0}
Spotless (x ∷ xs) = (is_bad x.sign ≡ false) × Spotless xs

abbrev Fine : (Mark → Fit) → Type 0
Fine f = (x : Mark) → Accepts unlimited (f x) → is_bad x.sign ≡ false

abbrev CleanPart : Part → Type 0
CleanPart (stmts d c so_far) = (54 == place c) ≡ false
CleanPart _ = Unit {0}

abbrev Clean : (k : Kind) → Rule k → Type 0
Clean k (gives v) = Unit {0}
Clean k (takes f n) = Fine f × ((x : Mark) → Clean k (n x))
Clean k (may f n o) = Fine f × ((x : Mark) → Clean k (n x)) × Clean k o
Clean k (read n next) = CleanPart n × ((v : Value (kind_of n)) → Clean k (next v))

-- ---- signs

judged_true : (b c : Bool) → Accepts unlimited (judged b c) → b ≡ true
judged_true true c a = refl
judged_true false c a = absurd a

by_place : (s x : Sign) → (54 == place s) ≡ false → (place x == place s) ≡ true → is_bad x ≡ false
by_place s (bad kind) n e = absurd (let h : false ≡ true = sym n ∙ e in cc)
by_place s _ n e = refl

w : (s : Sign) → (54 == place s) ≡ false → Fine (is s)
unfolding is
w s n x a = by_place s x.sign n (judged_true _ true a)

by_either : (s t x : Sign) → (54 == place s) ≡ false → (54 == place t) ≡ false → (place x == place s || place x == place t) ≡ true → is_bad x ≡ false
by_either s t (bad kind) n m e = absurd (let h : false ≡ true = sym (ap (λ z. z || (54 == place t)) n ∙ m) ∙ e in cc)
by_either s t _ n m e = refl

either : (s t : Sign) → (54 == place s) ≡ false → (54 == place t) ≡ false → Fine (is_either s t)
unfolding is_either
either s t n m x a = by_either s t x.sign n m (judged_true _ true a)

by_zero : (s : Sign) → Accepts unlimited (zero_fit s) → is_bad s ≡ false
by_zero (bad kind) a = absurd a
by_zero _ a = refl

zero_fine : Fine is_zero
unfolding is_zero
zero_fine x a = by_zero x.sign a

by_operand : (d g : ℕ) (s : Sign) → Accepts unlimited (operand_fit d g s) → is_bad s ≡ false
by_operand d g (bad kind) a = absurd a
by_operand d g _ a = refl

operand_fine : (d g : ℕ) → Fine (begins_operand d g)
unfolding begins_operand
operand_fine d g x a = by_operand d g x.sign a

by_binding : (t : ℕ) (s : Sign) → (binding s == suc t) ≡ true → is_bad s ≡ false
by_binding t (bad kind) e = absurd (let h : 0 ≡ suc t = eqb-true 0 (suc t) e in omega (arith, h))
by_binding t _ e = refl

operator_fine : (t d : ℕ) (a : Term) → Fine (goes_on (suc t) d a)
unfolding goes_on
operator_fine t d a x acc = by_binding t x.sign (judged_true _ _ acc)

by_assigning : (s : Sign) → Accepts unlimited (assigning_fit s) → is_bad s ≡ false
by_assigning (bad kind) a = absurd a
by_assigning _ a = refl

assigns_fine : Fine assigns
unfolding assigns
assigns_fine x a = by_assigning x.sign a

by_mode : (s : Sign) → Accepts unlimited (mode_fit s) → is_bad s ≡ false
by_mode (bad kind) a = absurd a
by_mode _ a = refl

mode_fine : Fine is_mode
unfolding is_mode
mode_fine x a = by_mode x.sign a

by_body : (d : ℕ) (x : Mark) (s : Sign) → x.sign ≡ s → Accepts unlimited (body_fit d x s) → is_bad s ≡ false
by_body d x (bad kind) e a = absurd (let h : begins_statement x.sign ≡ true = judged_true _ _ a in let g : false ≡ true = sym (ap begins_statement e) ∙ h in cc)
by_body d x _ e a = refl

body_fine : (d : ℕ) → Fine (begins_body d)
unfolding begins_body
body_fine d x a = by_body d x x.sign refl a

by_begin : (s : Sign) → begins_statement s ≡ true → is_bad s ≡ false
by_begin (bad kind) e = absurd (cc)
by_begin _ e = refl

by_closer : (s c : Sign) (w2 b : Bool) → (54 == place c) ≡ false → (place s == place c) ≡ b → Accepts unlimited (if b then fit else judged (begins_statement s) w2) → is_bad s ≡ false
by_closer s c w2 true n e a = by_place c s n e
by_closer s c w2 false n e a = by_begin s (judged_true _ w2 a)

closer_fine : (d : ℕ) (c : Sign) → (54 == place c) ≡ false → Fine (closes_or_begins d c)
unfolding closes_or_begins
closer_fine d c n x a = by_closer x.sign c (nat_lt d 64) (place x.sign == place c) n refl a

by_type : (s : Sign) → Accepts unlimited (type_fit s) → is_bad s ≡ false
by_type (bad kind) a = absurd a
by_type _ a = refl

type_fine : Fine begins_declaration
unfolding begins_declaration
type_fine x a = by_type x.sign a

-- ---- rules

c_operand : (d g : ℕ) (x : Mark) (s : Sign) → Clean a_term (operand d g x s)
c_operand d g x minus = (tt, λ v. tt)
c_operand d g x bang = (tt, λ v. tt)
c_operand d g x atoi_ = (w open_paren refl, λ y. (tt, λ v. (w close_paren refl, λ z. tt)))
c_operand d g x strcmp_ = (w open_paren refl, λ y. (tt, λ v. (w comma refl, λ z. (tt, λ u. (w close_paren refl, λ q. tt)))))
c_operand d g x open_paren = (tt, λ v. (w close_paren refl, λ z. tt))
c_operand d g x _ = tt

c_level : (t d g : ℕ) → Clean a_term (rule (level t d g))
c_level zero d g = (operand_fine d g, λ x. c_operand d g x x.sign)
c_level (suc t) d g = (tt, λ a. (tt, λ b. tt))

c_after_term : (so_far : List Term) (s : Sign) → Clean terms (after_term so_far s)
c_after_term so_far comma = (tt, λ v. (tt, λ u. tt))
c_after_term so_far _ = tt

c_after_arg : (so_far : List Passed) (s : Sign) → Clean all_passed (after_arg so_far s)
c_after_arg so_far comma = (tt, λ v. (tt, λ u. tt))
c_after_arg so_far _ = tt

c_assignment : (n : Name) (x : Mark) (s : Sign) → Clean a_setting (assignment n x s)
c_assignment n x plus_plus = tt
c_assignment n x minus_minus = tt
c_assignment n x plus_equal = (tt, λ v. tt)
c_assignment n x minus_equal = (tt, λ v. tt)
c_assignment n x _ = (tt, λ v. tt)

c_open : (n : Name) → Clean a_code (open_rule n)
c_open n = (w open_paren refl, λ x. (tt, λ v. (w comma refl, λ y. (mode_fine, λ m. (w close_paren refl, λ z. (w semicolon refl, λ q. tt))))))

c_line : (n : Name) → Clean a_code (line_rule n)
c_line n = (w open_paren refl, λ x. (w (ident []) refl, λ v. (w comma refl, λ y. (w (ident []) refl, λ m. (w close_paren refl, λ z. (w semicolon refl, λ q. tt))))))

c_call : (n : Name) → Clean a_code (call_rule n)
c_call n = (w close_paren refl, (λ x. (w semicolon refl, λ y. tt)), (tt, λ v. (w semicolon refl, λ y. tt)))

c_set : (n : Name) → Clean a_code (set_rule n)
c_set n = (w gs_fopen refl, (λ x. c_open n), (w fgetline_ refl, (λ x. c_line n), (tt, λ v. (w semicolon refl, λ y. tt))))

c_named : (n : Name) → Clean a_code (named_rule n)
c_named n = (w open_paren refl, (λ x. c_call n), (w equal refl, (λ x. c_set n), (tt, λ v. (w semicolon refl, λ y. tt))))

c_statement : (d : ℕ) (x : Mark) (s : Sign) → Clean a_code (statement d x s)
c_statement d x (ident s) = c_named (name_at x)
c_statement d x open_brace = (refl, λ c. tt)
c_statement d x if_ = (tt, λ v. (tt, λ u. (w else_ refl, (λ z. (tt, λ q. tt)), tt)))
c_statement d x while_ = (tt, λ v. (tt, λ u. tt))
c_statement d x for_ = (w open_paren refl, λ y. (tt, λ f. (tt, λ t. (tt, λ s. (tt, λ b. tt)))))
c_statement d x gs_fclose = (w open_paren refl, λ y. (w (ident []) refl, λ z. (w close_paren refl, λ q. (w semicolon refl, λ r. tt))))
c_statement d x gs_barrier = (w open_paren refl, λ y. (w close_paren refl, λ q. (w semicolon refl, λ r. tt)))
c_statement d x printf_ = (w open_paren refl, λ y. (tt, λ v. tt))
c_statement d x fprintf_ = (w open_paren refl, λ y. (w (ident []) refl, λ z. (w comma refl, λ q. (tt, λ v. tt))))
c_statement d x sprintf_ = (w open_paren refl, λ y. (w (ident []) refl, λ z. (w comma refl, λ q. (tt, λ v. tt))))
c_statement d x _ = tt

c_body : (d : ℕ) (x : Mark) (s : Sign) → Clean a_body (body_after d x s)
c_body d x open_brace = (refl, λ c. tt)
c_body d x _ = (tt, λ c. tt)

c_stmts : (d : ℕ) (c : Sign) (so_far : List Code) (x : Mark) (b : Bool) → (54 == place c) ≡ false → Clean closed (stmts_after d c so_far x b)
c_stmts d c so_far x true n = tt
c_stmts d c so_far x false n = (tt, λ s. (n, λ all. tt))

c_next_after : (k : VarKind) (d : Declared) (s : Sign) → Clean declared (next_after k d s)
c_next_after k d comma = (tt, λ all. tt)
c_next_after k d _ = (tt, λ all. tt)

c_next_var : (k : VarKind) (d : Declared) → Clean declared (next_var k d)
c_next_var k d = (either comma semicolon refl refl, λ x. c_next_after k d x.sign)

c_var : (k : VarKind) (d : Declared) → Clean declared (var_rule k d)
c_var k d = (w (ident []) refl, λ x. (w equal refl, (λ y. (tt, λ v. c_next_var k _)), c_next_var k _))

c_names : (k : VarKind) (d : Declared) → Clean declared (names_rule k d)
c_names var_kind.Int d = c_var var_kind.Int d
c_names var_kind.Str d = (w star refl, λ y. c_var var_kind.Str d)
c_names var_kind.Handle d = (w star refl, λ y. (w (ident []) refl, λ x. c_next_var var_kind.Handle _))

c_starts : (so_far : List Setting) → Clean settings (rule (starts so_far))
c_starts so_far = (w (ident []) refl, (λ x. (w equal refl, λ y. (tt, λ v. (w semicolon refl, λ z. (tt, λ u. tt))))), tt)

c_end : (p : Program) → Clean a_program (program_end p)
c_end p = (w close_brace refl, λ x. tt)

c_off : (p : Program) → Clean a_program (after_off p)
c_off p = (w open_paren refl, λ x. (zero_fine, λ y. (w close_paren refl, λ z. (w semicolon refl, λ q. (w return_ refl, (λ r. (zero_fine, λ s. (w semicolon refl, λ u. c_end p))), c_end p)))))

c_on : (d : Declared) (first : List Setting) → Clean a_program (after_on d first)
c_on d first = (w open_paren refl, λ x. (w close_paren refl, λ y. (w semicolon refl, λ z. (refl, λ c. c_off (record { vars = d.vars; first = first; body = c.body; off = c.line })))))

c_head : Clean a_program after_head
c_head = (w close_paren refl, λ x. (w open_brace refl, λ y. (tt, λ d. (tt, λ first. (w gs_on refl, λ z. c_on d first)))))

c_main : Clean a_program after_main
c_main = (w open_paren refl, λ x. (w void_ refl, (λ y. c_head), c_head))

clean : (n : Part) → CleanPart n → Clean (kind_of n) (rule n)
clean (level t d g) h = c_level t d g
clean (tail t d g a) h = (operator_fine t d a.term, (λ x. (tt, λ b. (tt, λ u. tt))), tt)
clean (more_terms so_far) h = (either comma close_paren refl refl, λ x. c_after_term so_far x.sign)
clean arg h = (w ampersand refl, (λ x. (w (ident []) refl, λ y. tt)), (tt, λ v. tt))
clean (more_args so_far) h = (either comma close_paren refl refl, λ x. c_after_arg so_far x.sign)
clean args h = (tt, λ a. (tt, λ b. tt))
clean condition h = (w open_paren refl, λ x. (tt, λ v. (w close_paren refl, λ y. tt)))
clean printing h = (w (string []) refl, λ x. (tt, λ v. (w semicolon refl, λ y. tt)))
clean (assigned n) h = (assigns_fine, λ x. c_assignment n x x.sign)
clean for_first h = (w semicolon refl, (λ x. tt), (w (ident []) refl, λ y. (tt, λ v. (w semicolon refl, λ z. tt))))
clean for_test h = (w semicolon refl, (λ x. tt), (tt, λ v. (w semicolon refl, λ z. tt)))
clean for_step h = (w close_paren refl, (λ x. tt), (w (ident []) refl, λ y. (tt, λ v. (w close_paren refl, λ z. tt))))
clean (rest_of d x) h = c_statement d x x.sign
clean (body d) h = (body_fine d, λ x. c_body d x x.sign)
clean (stmts d c so_far) h = (closer_fine d c h, λ x. c_stmts d c so_far x (place x.sign == place c) h)
clean (names k d) h = c_names k d
clean (decls d) h = (type_fine, (λ x. (tt, λ all. tt)), tt)
clean (starts so_far) h = c_starts so_far
clean program h = (either int_ void_ refl refl, (λ x. (w main_ refl, λ y. c_main)), (w main_ refl, λ y. c_main))

-- ---- texts

both : (p q : List Mark) → Spotless p → Spotless q → Spotless (p ++ q)
both [] q a b = b
both (x ∷ p) q a b = (a.0, both p q a.1 b)

record Began (ts us : List Mark) : Type 0 where
  pub begun : List Mark
  pub is_all : ts ≡ begun ++ us
  pub spotless : Spotless begun

began : (k : Kind) (r : Rule k) (ts : List Mark) (v : Value k) (us : List Mark) → Clean k r → Says unlimited k r ts v us → Began ts us
began k r ts v us c (given _ _ _ _) = record { begun = []; is_all = refl; spotless = tt }
began k r ts v us c (taken _ _ f n x xs _ _ a s) =
    let b = began k (n x) xs v us (c.1 x) s in
    record { begun = x ∷ b.begun; is_all = ap (λ z. x ∷ z) b.is_all; spotless = (c.0 x a, b.spotless) }
began k r ts v us c (chosen _ _ f n o x xs _ _ a s) =
    let b = began k (n x) xs v us (c.1 x) s in
    record { begun = x ∷ b.begun; is_all = ap (λ z. x ∷ z) b.is_all; spotless = (c.0 x a, b.spotless) }
began k r ts v us c (passed _ _ f n o _ _ _ e s) = began k o ts v us c.2 s
began k r ts v us c (part _ _ n next _ mid u _ _ s t) =
    let a = began (kind_of n) (rule n) ts u mid (clean n c.0) s in
    let b = began k (next u) mid v us (c.1 u) t in
    record { begun = a.begun ++ b.begun; is_all = a.is_all ∙ ap (λ z. a.begun ++ z) b.is_all ∙ sym (append_assoc a.begun b.begun us); spotless = both a.begun b.begun a.spotless b.spotless }

text_spotless : (ts : List Mark) (p : Program) → SaysProgram unlimited ts p → Spotless ts
text_spotless ts p s =
    let b = began a_program (rule program) ts p [] (clean program tt) s in
    subst Spotless (sym (b.is_all ∙ append-nil b.begun)) b.spotless

at_head : (p : List Mark) (x : Mark) (xs : List Mark) → Spotless (p ++ x ∷ xs) → is_bad x.sign ≡ false
at_head [] x xs h = h.0
at_head (y ∷ p) x xs h = at_head p x xs h.1

pub lexical_fault : LexicalFault
lexical_fault signs k line lexical rest kind e (deep lt b) =
    let x : Mark = record { line = line; sign = bad lexical } in
    let text = one_more signs k x rest b.0 e in
    absurd (let h : true ≡ false = at_head (take k signs) x b.0 (subst Spotless text (text_spotless (take (k + 1) signs ++ b.0) b.1 b.2)) in cc)
lexical_fault signs k line lexical rest kind e (no_reading never) = ap kind_from e
