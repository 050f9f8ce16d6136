-- The rules of the grammar are good ones.
use Rattle.std.proofs.Common.{◌≡◌, ◌<◌, ◌≤◌, ◌+◌, ℕ, zero, suc, refl, sym, ap, ◌∙◌, subst, List, [], arith, Bool, true, false, inl, inr, nat_lt, ltb-true, eq-eqb, Some, None, if◌then◌else◌}
use Rattle.std.specs.Prelude.{◌==◌, pos, ◌||◌}
use Rattle.std.proofs.lemmas.Bool.{ne_eqb}
use Rattle.gs_tree.specs.Program.{Name, Term, num, lit, var, atoi, strcmp, neg, not_, two, Setting, Passed, Code, Codes, set, Program}
use Rattle.gs_tree.specs.declared.tree.VarKind.{VarKind}
use Rattle.gs_tree.specs.declared.tree.VarKind.TheVariants as var_kind
use Rattle.gs_tree.specs.Sign.{Sign, Mark, main_, int_, char_, file_, void_, if_, else_, while_, for_, return_, gs_on, gs_off, gs_barrier, gs_fopen, gs_fclose, printf_, fprintf_, sprintf_, fgetline_, atoi_, strcmp_, mode_r, ident, number, string, plus_plus, minus_minus, plus_equal, minus_equal, less_equal, greater_equal, equal_equal, not_equal, and_and, or_or, open_paren, close_paren, open_brace, close_brace, comma, semicolon, equal, plus, minus, star, slash, percent, less, greater, bang, ampersand}
use Rattle.gs_parse.specs.Symbols.{place, binding, name_at}
use Rattle.gs_parse.specs.Notation.{Lined, Declared, Printed, Kind, a_term, terms, a_passed, all_passed, a_printed, a_setting, maybe_setting, maybe_term, settings, a_code, a_body, closed, declared, a_program, Value, Part, kind_of, Fit, unfit, fit, Rule, gives, take, may, read, level, tail, more_terms, arg, more_args, args, condition, printing, assigned, for_first, for_test, for_step, rest_of, body, stmts, names, decls, starts, program}
use Rattle.gs_parse.specs.Grammar.{rule, judged, is, is_either, is_zero, height, begins_operand, operand_fit, operand, goes_on, after_term, after_arg, assigns, assignment, is_mode, begins_statement, begins_body, body_after, closes_or_begins, stmts_after, statement, named_rule, open_rule, line_rule, expr, word, call_rule, next_var, next_after, var_rule, names_rule, begins_declaration, type_fit, declare, after_off, after_on, after_head, after_main, program_end}
use Rattle.gs_parse.specs.Reading.{Limits, limited, unlimited, Accepts}
use Rattle.gs_parse.proofs.Good.{Rejects, Eats, Pick, Room, Fine, Good, Ends, AllGood, eats, shuts, closes}
use Rattle.gs_parse.proofs.Theory.{ends_read, ends_gives, ends_take, ends_choose, ends_pass}

abbrev mark : Sign → Mark
mark s = record { line = 0; sign = s }

accepts_fit : (l : Limits) (w : Fit) → w ≡ fit → Accepts l w
accepts_fit l w e = subst (λ (z : Fit). Accepts l z) (sym e) tt

-- a sign that closes
closer : (l : Limits) (b : Bool) (s : Sign) → (place s == place s) ≡ true → closes s ≡ true → Pick l b (is s)
unfolding is
closer l b s e c = (mark s, λ shut. c, accepts_fit l (judged (place s == place s) true) (ap (λ z. judged z true) e))

-- any sign
plain : (l : Limits) (s : Sign) → (place s == place s) ≡ true → Pick l false (is s)
unfolding is
plain l s e = (mark s, λ shut. absurd (cc), accepts_fit l (judged (place s == place s) true) (ap (λ z. judged z true) e))

rejects_is : (s : Sign) → ((z : Sign) → closes z ≡ true → (place z == place s) ≡ false) → Rejects (is s)
unfolding is
rejects_is s h x c = ap (λ z. judged z true) (h x.sign c)

not_else : (z : Sign) → closes z ≡ true → (place z == 7) ≡ false
not_else else_ c = absurd (cc)
not_else _ c = refl

not_name : (z : Sign) → closes z ≡ true → (place z == 25) ≡ false
not_name (ident s) c = absurd (cc)
not_name _ c = refl

by_type : (z : Sign) → closes z ≡ true → type_fit z ≡ unfit
by_type int_ c = absurd (cc)
by_type char_ c = absurd (cc)
by_type file_ c = absurd (cc)
by_type _ c = refl

rejects_type : Rejects begins_declaration
unfolding begins_declaration
rejects_type x c = by_type x.sign c

no_binding : (z : Sign) → closes z ≡ true → binding z ≡ 0
no_binding less_equal c = absurd (cc)
no_binding greater_equal c = absurd (cc)
no_binding equal_equal c = absurd (cc)
no_binding not_equal c = absurd (cc)
no_binding and_and c = absurd (cc)
no_binding or_or c = absurd (cc)
no_binding plus c = absurd (cc)
no_binding minus c = absurd (cc)
no_binding star c = absurd (cc)
no_binding slash c = absurd (cc)
no_binding percent c = absurd (cc)
no_binding less c = absurd (cc)
no_binding greater c = absurd (cc)
no_binding _ c = refl

rejects_operator : (t d : ℕ) (a : Term) → Rejects (goes_on (suc t) d a)
unfolding goes_on
rejects_operator t d a x c = ap (λ z. judged z (nat_lt (d + height a) 64)) (ne_eqb (binding x.sign) (suc t) (λ e. let h : 0 ≡ suc t = sym (no_binding x.sign c) ∙ e in omega (arith, h)))

height_some : (a : Term) → 1 ≤ height a
height_some (num line v) = omega arith
height_some (lit line s) = omega arith
height_some (var n) = omega arith
height_some (atoi e) = omega arith
height_some (strcmp a b) = omega arith
height_some (neg e) = omega arith
height_some (not_ e) = omega arith
height_some (two op a b) = omega arith

within_judged : (l : Limits) (b c : Bool) → Accepts l (judged b c) → l ≡ limited → c ≡ true
within_judged limited true true a e = refl
within_judged limited true false a e = absurd a
within_judged limited false c a e = absurd a
within_judged unlimited b c a e = absurd (cc)

room : (l : Limits) (d : ℕ) → (l ≡ limited → d < 64) → Room l d
room limited d h = h refl
room unlimited d h = tt

room_after : (l : Limits) (d : ℕ) → Accepts l (judged true (nat_lt (d + 1) 64)) → Room l (d + 1)
room_after l d a = room l (d + 1) (λ e. ltb-true (d + 1) 64 (within_judged l true (nat_lt (d + 1) 64) a e))

none_open : (l : Limits) (d : ℕ) → d < 64 → Room l d
none_open l d h = room l d (λ e. h)

room_right : (l : Limits) (t d : ℕ) (a : Term) (x : Mark) → Accepts l (goes_on (suc t) d a x) → Room l (d + 1)
unfolding goes_on
room_right l t d a x acc = room l (d + 1) (λ e.
    let lt : d + height a < 64 = ltb-true (d + height a) 64 (within_judged l (binding x.sign == suc t) (nat_lt (d + height a) 64) acc e) in
    omega (arith, lt, height_some a))

room_0 : (l : Limits) → Room l 0
room_0 l = none_open l 0 (omega arith)

room_1 : (l : Limits) → Room l 1
room_1 l = none_open l 1 (omega arith)

-- one of two signs, where the second closes
either : (l : Limits) (b : Bool) (s t : Sign) → (place t == place s || place t == place t) ≡ true → closes t ≡ true → Pick l b (is_either s t)
unfolding is_either
either l b s t e c = (mark t, λ shut. c, accepts_fit l (judged (place t == place s || place t == place t) true) (ap (λ z. judged z true) e))

pick_operand : (l : Limits) (b : Bool) (d g : ℕ) → Pick l b (begins_operand d g)
unfolding begins_operand
pick_operand l b d g = (mark (number (pos 0)), λ shut. refl, accepts_fit l fit refl)

pick_zero : (l : Limits) (b : Bool) → Pick l b is_zero
unfolding is_zero
pick_zero l b = (mark (number (pos 0)), λ shut. refl, accepts_fit l fit refl)

pick_mode : (l : Limits) (b : Bool) → Pick l b is_mode
unfolding is_mode
pick_mode l b = (mark mode_r, λ shut. refl, accepts_fit l fit refl)

pick_assigns : (l : Limits) (b : Bool) → Pick l b assigns
unfolding assigns
pick_assigns l b = (mark plus_plus, λ shut. refl, accepts_fit l fit refl)

pick_body : (l : Limits) (b : Bool) (d : ℕ) → Pick l b (begins_body d)
unfolding begins_body
pick_body l b d = (mark open_brace, λ shut. refl, accepts_fit l fit refl)

eq_same : (n : ℕ) → (n == n) ≡ true
eq_same n = eq-eqb n n refl

pick_closer : (l : Limits) (b : Bool) (d : ℕ) (c : Sign) → closes c ≡ true → Pick l b (closes_or_begins d c)
unfolding closes_or_begins
pick_closer l b d c shut = (mark c, λ e. shut, accepts_fit l _ (ap (λ z. if z then fit else judged (begins_statement c) (nat_lt d 64)) (eq_same (place c))))

good_operand : (l : Limits) (d g : ℕ) (x : Mark) (s : Sign) → Room l d → Accepts l (operand_fit d g s) → Good l false a_term (operand d g x s)
good_operand l d g x minus r a = (room_after l d a, λ e. refl, λ v. tt)
good_operand l d g x bang r a = (room_after l d a, λ e. refl, λ v. tt)
good_operand l d g x atoi_ r a =
    (plain l open_paren refl, λ y b. (room_after l d a, λ e. refl, λ v. (closer l true close_paren refl refl, λ z c. tt)))
good_operand l d g x strcmp_ r a = (
  plain l open_paren refl,
  λ y b. (
    room_after l d a,
    λ e. refl,
    λ v. (
      closer l true comma refl refl,
      λ z c.
          (room_after l d a, λ e. refl, λ w. (closer l true close_paren refl refl, λ u f. tt)),
    ),
  ),
)
good_operand l d g x open_paren r a = (r, λ e. refl, λ v. (closer l true close_paren refl refl, λ z c. tt))
good_operand l d g x _ r a = tt

good_level : (l : Limits) (t d g : ℕ) → Room l d → Good l true a_term (rule (level t d g))
unfolding begins_operand
good_level l zero d g r = (pick_operand l true d g, λ x a. good_operand l d g x x.sign r a)
good_level l (suc t) d g r = (r, λ e. refl, λ a. (tt, λ e. refl, λ t. tt))

good_after_term : (l : Limits) (so_far : List Term) (s : Sign) → Good l false terms (after_term so_far s)
good_after_term l so_far comma = (room_0 l, λ e. refl, λ v. (tt, λ e. refl, λ w. tt))
good_after_term l so_far _ = tt

good_after_arg : (l : Limits) (so_far : List Passed) (s : Sign) → Good l false all_passed (after_arg so_far s)
good_after_arg l so_far comma = (tt, λ e. refl, λ v. (tt, λ e. refl, λ w. tt))
good_after_arg l so_far _ = tt

good_condition : (l : Limits) → Good l true a_term (rule condition)
good_condition l = (closer l true open_paren refl refl, λ x a. (room_0 l, λ e. refl, λ v. (closer l true close_paren refl refl, λ y b. tt)))

good_printing : (l : Limits) → Good l false a_printed (rule printing)
good_printing l = (plain l (string []) refl, λ x a. (tt, λ e. refl, λ v. (closer l true semicolon refl refl, λ y b. tt)))

good_arg : (l : Limits) → Good l true a_passed (rule arg)
good_arg l =
    (inr (refl, closer l true ampersand refl refl, (room_0 l, λ e. refl, λ v. tt)), λ x a. (plain l (ident []) refl, λ y b. tt))

good_assignment : (l : Limits) (n : Name) (x : Mark) (s : Sign) → Good l false a_setting (assignment n x s)
good_assignment l n x plus_plus = tt
good_assignment l n x minus_minus = tt
good_assignment l n x plus_equal = (room_1 l, λ e. refl, λ v. tt)
good_assignment l n x minus_equal = (room_1 l, λ e. refl, λ v. tt)
good_assignment l n x _ = (room_0 l, λ e. refl, λ v. tt)

good_end : (l : Limits) (b : Bool) (k : Kind) (v : Value k) → Good l b k (take (is semicolon) (λ x. gives v))
good_end l b k v = (closer l b semicolon refl refl, λ x a. tt)

good_call : (l : Limits) (n : Name) → Good l false a_code (call_rule n)
good_call l n = (
  inr (refl, closer l false close_paren refl refl, (tt, λ e. refl, λ all. (closer l true semicolon refl refl, λ y b. tt))),
  λ x a. (closer l false semicolon refl refl, λ y b. tt),
)

good_line : (l : Limits) (n : Name) → Good l false a_code (line_rule n)
good_line l n = (
  plain l open_paren refl,
  λ z c. (
    plain l (ident []) refl,
    λ z c. (
      plain l comma refl,
      λ z c. (
        plain l (ident []) refl,
        λ z c.
            (plain l close_paren refl, λ z c. (plain l semicolon refl, λ z c. tt)),
      ),
    ),
  ),
)

good_open : (l : Limits) (n : Name) → Good l false a_code (open_rule n)
good_open l n = (
  plain l open_paren refl,
  λ z c. (
    room_0 l,
    λ e. refl,
    λ v. (
      closer l true comma refl refl,
      λ z c. (
        pick_mode l false,
        λ z c.
            (plain l close_paren refl, λ z c. (plain l semicolon refl, λ z c. tt)),
      ),
    ),
  ),
)

good_named : (l : Limits) (n : Name) → Good l true a_code (named_rule n)
good_named l n =
    let value = let r : Good l false a_code (read (expr 0 0) (λ e. word semicolon (gives (set (record { to = n; value = e.term }))))) = (room_0 l, λ e. refl, λ v. (closer l true semicolon refl refl, λ y b. tt)) in r in
    let equals : Good l false a_code (may (is gs_fopen) (λ y. open_rule n) (may (is fgetline_) (λ y. line_rule n) (read (expr 0 0) (λ e. word semicolon (gives (set (record { to = n; value = e.term }))))))) =
    (inr (refl, closer l false gs_fopen refl refl, (inr (refl, closer l false fgetline_ refl refl, value), λ y b. good_line l n)), λ y b. good_open l n) in (
      inr (
        refl,
        closer l true open_paren refl refl,
        (inr (refl, closer l false equal refl refl, (tt, λ e. refl, λ v. (closer l true semicolon refl refl, λ y b. tt))), λ x a. equals),
      ),
      λ x a. good_call l n,
    )

good_first : (l : Limits) → Good l true maybe_setting (rule for_first)
good_first l = (inr (tt, closer l true semicolon refl refl, (plain l (ident []) refl, λ z c. (tt, λ e. refl, λ v. (closer l true semicolon refl refl, λ z c. tt)))), λ x a. tt)

good_test : (l : Limits) → Good l true maybe_term (rule for_test)
good_test l = (inr (refl, closer l true semicolon refl refl, (room_0 l, λ e. refl, λ v. (closer l true semicolon refl refl, λ z c. tt))), λ x a. tt)

good_step : (l : Limits) → Good l true maybe_setting (rule for_step)
good_step l = (inr (tt, closer l true close_paren refl refl, (plain l (ident []) refl, λ z c. (tt, λ e. refl, λ v. (closer l true close_paren refl refl, λ z c. tt)))), λ x a. tt)

good_statement : (l : Limits) (d : ℕ) (x : Mark) (s : Sign) → Good l true a_code (statement d x s)
good_statement l d x (ident s) = good_named l (name_at x)
good_statement l d x open_brace = (refl, λ e. refl, λ c. tt)
good_statement l d x if_ = (tt, λ e. refl, λ v. (tt, λ e. refl, λ w. (inl (rejects_is else_ not_else, tt), λ z c. (tt, λ e. refl, λ u. tt))))
good_statement l d x while_ = (tt, λ e. refl, λ v. (tt, λ e. refl, λ w. tt))
good_statement l d x for_ = (closer l true open_paren refl refl, λ z c. (tt, λ e. refl, λ f. (tt, λ e. refl, λ t. (tt, λ e. refl, λ s. (tt, λ e. refl, λ b. tt)))))
good_statement l d x gs_fclose =
    (closer l true open_paren refl refl, λ z c. (plain l (ident []) refl, λ z c. (plain l close_paren refl, λ z c. (plain l semicolon refl, λ z c. tt))))
good_statement l d x gs_barrier = (closer l true open_paren refl refl, λ z c. (plain l close_paren refl, λ z c. (plain l semicolon refl, λ z c. tt)))
good_statement l d x printf_ = (closer l true open_paren refl refl, λ z c. (tt, λ e. absurd (cc), λ v. tt))
good_statement l d x fprintf_ =
    (closer l true open_paren refl refl, λ z c. (plain l (ident []) refl, λ z c. (plain l comma refl, λ z c. (tt, λ e. absurd (cc), λ v. tt))))
good_statement l d x sprintf_ =
    (closer l true open_paren refl refl, λ z c. (plain l (ident []) refl, λ z c. (plain l comma refl, λ z c. (tt, λ e. absurd (cc), λ v. tt))))
good_statement l d x _ = tt

good_body : (l : Limits) (d : ℕ) (x : Mark) (s : Sign) → Good l false a_body (body_after d x s)
good_body l d x open_brace = (refl, λ e. refl, λ c. tt)
good_body l d x _ = (tt, λ e. refl, λ c. tt)

good_stmts : (l : Limits) (d : ℕ) (c : Sign) (so_far : List Code) (x : Mark) (b : Bool) → closes c ≡ true → Good l false closed (stmts_after d c so_far x b)
good_stmts l d c so_far x true shut = tt
good_stmts l d c so_far x false shut = (tt, λ e. refl, λ s. (shut, λ e. refl, λ cs. tt))

good_next_after : (l : Limits) (k : VarKind) (d : Declared) (s : Sign) → Good l false declared (next_after k d s)
good_next_after l k d comma = (tt, λ e. absurd (cc), λ all. tt)
good_next_after l k d s = (tt, λ e. refl, λ all. tt)

good_next_var : (l : Limits) (b : Bool) (k : VarKind) (d : Declared) → Good l b declared (next_var k d)
good_next_var l b k d = (either l b comma semicolon refl refl, λ x a. good_next_after l k d x.sign)

good_var : (l : Limits) (k : VarKind) (d : Declared) → Good l false declared (var_rule k d)
good_var l k d = (
  plain l (ident []) refl,
  λ x a. (
    inr (tt, closer l false equal refl refl, good_next_var l false k (declare (name_at x) k None d)),
    λ y b. (room_0 l, λ e. refl, λ v. good_next_var l true k (declare (name_at x) k (Some v.term) d)),
  ),
)

good_names : (l : Limits) (k : VarKind) (d : Declared) → Good l false declared (names_rule k d)
good_names l var_kind.Int d = good_var l var_kind.Int d
good_names l var_kind.Str d = (plain l star refl, λ y b. good_var l var_kind.Str d)
good_names l var_kind.Handle d = (plain l star refl, λ y b. (plain l (ident []) refl, λ x a. good_next_var l false var_kind.Handle (declare (name_at x) var_kind.Handle None d)))

good_starts : (l : Limits) (so_far : List Setting) → Good l true settings (rule (starts so_far))
good_starts l so_far = (
  inl (rejects_is (ident []) not_name, tt),
  λ x a. (
    plain l equal refl,
    λ y b. (
      room_0 l,
      λ e. refl,
      λ v. (
        closer l true semicolon refl refl,
        λ y b.
            (tt, λ e. refl, λ w. tt),
      ),
    ),
  ),
)

good_program_end : (l : Limits) (b : Bool) (p : Program) → Good l b a_program (program_end p)
good_program_end l b p = (closer l b close_brace refl refl, λ x a. tt)

good_after_off : (l : Limits) (p : Program) → Good l true a_program (after_off p)
good_after_off l p = (
  closer l true open_paren refl refl,
  λ z c. (
    pick_zero l false,
    λ z c. (
      plain l close_paren refl,
      λ z c. (
        plain l semicolon refl,
        λ z c.
            (inr (tt, closer l false return_ refl refl, good_program_end l false p), λ z c. (pick_zero l false, λ z c. (plain l semicolon refl, λ z c. good_program_end l false p))),
      ),
    ),
  ),
)

good_after_on : (l : Limits) (d : Declared) (first : List Setting) → Good l false a_program (after_on d first)
good_after_on l d first = (
  plain l open_paren refl,
  λ z c. (
    plain l close_paren refl,
    λ z c. (
      plain l semicolon refl,
      λ z c. (
        refl,
        λ e. refl,
        λ s.
            good_after_off l (record { vars = d.vars; first = first; body = s.body; off = s.line }),
      ),
    ),
  ),
)

good_after_head : (l : Limits) → Good l false a_program after_head
good_after_head l = (
  plain l close_paren refl,
  λ z c. (
    plain l open_brace refl,
    λ z c. (
      tt,
      λ e. refl,
      λ d. (
        tt,
        λ e. refl,
        λ first.
            (closer l true gs_on refl refl, λ z c. good_after_on l d first),
      ),
    ),
  ),
)

good_after_main : (l : Limits) → Good l false a_program after_main
good_after_main l = (plain l open_paren refl, λ z c. (inr (tt, closer l false void_ refl refl, good_after_head l), λ z c. good_after_head l))

good_program : (l : Limits) → Good l true a_program (rule program)
good_program l =
    (inr (tt, either l true int_ void_ refl refl, (plain l main_ refl, λ z c. good_after_main l)), λ z c. (plain l main_ refl, λ z c. good_after_main l))

good_rule : (l : Limits) (n : Part) → Fine l n → Good l (shuts n) (kind_of n) (rule n)
good_rule l (level t d g) f = good_level l t d g f
good_rule l (tail t d g a) f = (inl (rejects_operator t d a.term, tt), λ x acc. (room_right l t d a.term x acc, λ e. refl, λ b. (tt, λ e. refl, λ u. tt)))
good_rule l (more_terms so_far) f = (either l true comma close_paren refl refl, λ x a. good_after_term l so_far x.sign)
good_rule l arg f = good_arg l
good_rule l (more_args so_far) f = (either l true comma close_paren refl refl, λ x a. good_after_arg l so_far x.sign)
good_rule l args f = (tt, λ e. refl, λ a. (tt, λ e. refl, λ all. tt))
good_rule l condition f = good_condition l
good_rule l printing f = good_printing l
good_rule l (assigned n) f = (pick_assigns l true, λ x a. good_assignment l n x x.sign)
good_rule l for_first f = good_first l
good_rule l for_test f = good_test l
good_rule l for_step f = good_step l
good_rule l (rest_of d x) f = good_statement l d x x.sign
good_rule l (body d) f = (pick_body l true d, λ x a. good_body l d x x.sign)
good_rule l (stmts d c so_far) f = (pick_closer l true d c f, λ x a. good_stmts l d c so_far x (place x.sign == place c) f)
good_rule l (names k d) f = good_names l k d
good_rule l (decls d) f = (inl (rejects_type, tt), λ x a. (tt, λ e. absurd (cc), λ all. tt))
good_rule l (starts so_far) f = good_starts l so_far
good_rule l program f = good_program l

eats_rule : (n : Part) → eats n ≡ true → Eats (kind_of n) (rule n)
eats_rule (level zero d g) e = tt
eats_rule (level (suc t) d g) e = refl
eats_rule (tail t d g a) e = absurd (cc)
eats_rule (more_terms so_far) e = tt
eats_rule arg e = refl
eats_rule (more_args so_far) e = tt
eats_rule args e = refl
eats_rule condition e = tt
eats_rule printing e = tt
eats_rule (assigned n) e = tt
eats_rule for_first e = tt
eats_rule for_test e = refl
eats_rule for_step e = tt
eats_rule (rest_of d x) e = absurd (cc)
eats_rule (body d) e = tt
eats_rule (stmts d c so_far) e = tt
eats_rule (names var_kind.Int d) e = tt
eats_rule (names var_kind.Str d) e = tt
eats_rule (names var_kind.Handle d) e = tt
eats_rule (decls d) e = absurd (cc)
eats_rule (starts so_far) e = absurd (cc)
eats_rule program e = tt

-- ---- an end of each part

ends_word : (l : Limits) (b : Bool) (k : Kind) (s : Sign) (r : Rule k) → (place s == place s) ≡ true → closes s ≡ true → Ends l false k r → Ends l b k (take (is s) (λ x. r))
ends_word l b k s r e c i = ends_take l b k (is s) (λ x. r) (closer l b s e c) i

ends_any : (l : Limits) (k : Kind) (s : Sign) (next : Mark → Rule k) → (place s == place s) ≡ true → ((x : Mark) → Ends l false k (next x)) → Ends l false k (take (is s) next)
ends_any l k s next e i = ends_take l false k (is s) next (plain l s e) (i (plain l s e).0)

ends_level : (l : Limits) (t d g : ℕ) → Ends l true a_term (rule (level t d g))
unfolding begins_operand
ends_level l zero d g = ends_take l true a_term (begins_operand d g) (λ x. operand d g x x.sign) (mark (number (pos 0)), λ shut. refl, accepts_fit l fit refl) (ends_gives l false a_term _)
ends_level l (suc t) d g =
    ends_read l true a_term (level t d g) (λ a. read (tail t d g a) (λ u. gives u)) (ends_level l t d g) (λ e. refl)
    (ends_read l true a_term (tail t d g _) (λ u. gives u) (ends_pass l true a_term _ _ _ (rejects_operator t d _) (ends_gives l true a_term _)) (λ e. refl) (ends_gives l true a_term _))

ends_expr : (l : Limits) (b : Bool) (k : Kind) (d g : ℕ) (next : Lined → Rule k) → ((e : Lined) → Ends l true k (next e)) → Ends l b k (read (expr d g) next)
ends_expr l b k d g next i = ends_read l b k (expr d g) next (ends_level l 6 d g) (λ e. refl) (i (ends_level l 6 d g).value)

ends_end : (l : Limits) (b : Bool) (k : Kind) (v : Value k) → Ends l b k (take (is semicolon) (λ x. gives v))
ends_end l b k v = ends_word l b k semicolon (gives v) refl refl (ends_gives l false k v)

ends_more_terms : (l : Limits) (so_far : List Term) → Ends l true terms (rule (more_terms so_far))
unfolding is_either
ends_more_terms l so_far = ends_take l true terms (is_either comma close_paren) (λ x. after_term so_far x.sign) (mark close_paren, λ shut. refl, accepts_fit l fit refl) (ends_gives l false terms so_far)

ends_stmts : (l : Limits) (d : ℕ) (c : Sign) (so_far : List Code) → closes c ≡ true → Ends l true closed (rule (stmts d c so_far))
unfolding closes_or_begins
ends_stmts l d c so_far shut =
    ends_take l true closed (closes_or_begins d c) (λ x. stmts_after d c so_far x (place x.sign == place c))
    (mark c, λ e. shut, accepts_fit l _ (ap (λ z. if z then fit else judged (begins_statement c) (nat_lt d 64)) (eq_same (place c))))
    (subst (λ (z : Bool). Ends l false closed (stmts_after d c so_far (mark c) z)) (sym (eq_same (place c))) (ends_gives l false closed _))

ends_body : (l : Limits) (d : ℕ) → Ends l true a_body (rule (body d))
unfolding begins_body
ends_body l d =
    ends_take l true a_body (begins_body d) (λ x. body_after d x x.sign) (mark open_brace, λ shut. refl, accepts_fit l fit refl)
    (ends_read l false a_body (stmts d close_brace []) (λ c. gives c.body) (ends_stmts l d close_brace [] refl) (λ e. refl) (ends_gives l true a_body _))

ends_assigned : (l : Limits) (n : Name) → Ends l true a_setting (rule (assigned n))
unfolding assigns
ends_assigned l n = ends_take l true a_setting assigns (λ x. assignment n x x.sign) (mark plus_plus, λ shut. refl, accepts_fit l fit refl) (ends_gives l false a_setting _)

ends_bodied : (l : Limits) (b : Bool) (k : Kind) (d : ℕ) (next : Codes → Rule k) → ((c : Codes) → Ends l true k (next c)) → Ends l b k (read (body d) next)
ends_bodied l b k d next i = ends_read l b k (body d) next (ends_body l d) (λ e. refl) (i (ends_body l d).value)

ends_condition : (l : Limits) → Ends l true a_term (rule condition)
ends_condition l = ends_take l true a_term (is open_paren) _ (closer l true open_paren refl refl) (ends_expr l false a_term 0 0 _ (λ v. ends_word l true a_term close_paren _ refl refl (ends_gives l false a_term _)))

ends_tested : (l : Limits) (b : Bool) (k : Kind) (next : Lined → Rule k) → ((e : Lined) → Ends l true k (next e)) → Ends l b k (read condition next)
ends_tested l b k next i = ends_read l b k condition next (ends_condition l) (λ e. refl) (i (ends_condition l).value)

ends_printing : (l : Limits) → Ends l false a_printed (rule printing)
ends_printing l = ends_any l a_printed (string []) _ refl (λ x. ends_read l false a_printed (more_terms []) _ (ends_more_terms l []) (λ e. refl) (ends_end l true a_printed _))

ends_printed : (l : Limits) (next : Printed → Rule a_code) → ((p : Printed) → Ends l true a_code (next p)) → Ends l false a_code (read printing next)
ends_printed l next i = ends_read l false a_code printing next (ends_printing l) (λ e. absurd (cc)) (i (ends_printing l).value)

ends_first : (l : Limits) → Ends l true maybe_setting (rule for_first)
ends_first l = ends_choose l true maybe_setting (is semicolon) _ _ (closer l true semicolon refl refl) (ends_gives l false maybe_setting None)

ends_test : (l : Limits) → Ends l true maybe_term (rule for_test)
ends_test l = ends_choose l true maybe_term (is semicolon) _ _ (closer l true semicolon refl refl) (ends_gives l false maybe_term None)

ends_step : (l : Limits) → Ends l true maybe_setting (rule for_step)
ends_step l = ends_choose l true maybe_setting (is close_paren) _ _ (closer l true close_paren refl refl) (ends_gives l false maybe_setting None)

ends_statement : (l : Limits) (d : ℕ) (x : Mark) (s : Sign) → Ends l true a_code (statement d x s)
ends_statement l d x (ident s) =
    ends_choose l true a_code (is open_paren) (λ y. call_rule (name_at x)) _ (closer l true open_paren refl refl)
    (ends_choose l false a_code (is close_paren) _ _ (closer l false close_paren refl refl) (ends_end l false a_code _))
ends_statement l d x open_brace = ends_read l true a_code (stmts (d + 1) close_brace []) _ (ends_stmts l (d + 1) close_brace [] refl) (λ e. refl) (ends_gives l true a_code _)
ends_statement l d x if_ = ends_tested l true a_code _ (λ v. ends_bodied l true a_code (d + 1) _ (λ c. ends_pass l true a_code (is else_) _ _ (rejects_is else_ not_else) (ends_gives l true a_code _)))
ends_statement l d x while_ = ends_tested l true a_code _ (λ v. ends_bodied l true a_code (d + 1) _ (λ c. ends_gives l true a_code _))
ends_statement l d x for_ =
    ends_word l true a_code open_paren _ refl refl (ends_read l false a_code for_first _ (ends_first l) (λ e. refl) (ends_read l true a_code for_test _ (ends_test l) (λ e. refl)
    (ends_read l true a_code for_step _ (ends_step l) (λ e. refl) (ends_bodied l true a_code (d + 1) _ (λ c. ends_gives l true a_code _)))))
ends_statement l d x gs_fclose = ends_word l true a_code open_paren _ refl refl (ends_any l a_code (ident []) _ refl (λ y. ends_word l false a_code close_paren _ refl refl (ends_end l false a_code _)))
ends_statement l d x gs_barrier = ends_word l true a_code open_paren _ refl refl (ends_word l false a_code close_paren _ refl refl (ends_end l false a_code _))
ends_statement l d x printf_ = ends_word l true a_code open_paren _ refl refl (ends_printed l _ (λ p. ends_gives l true a_code _))
ends_statement l d x fprintf_ =
    ends_word l true a_code open_paren _ refl refl (ends_any l a_code (ident []) _ refl (λ y. ends_word l false a_code comma _ refl refl (ends_printed l _ (λ p. ends_gives l true a_code _))))
ends_statement l d x sprintf_ =
    ends_word l true a_code open_paren _ refl refl (ends_any l a_code (ident []) _ refl (λ y. ends_word l false a_code comma _ refl refl (ends_printed l _ (λ p. ends_gives l true a_code _))))
ends_statement l d x _ = ends_gives l true a_code _

ends_decls : (l : Limits) (d : Declared) → Ends l true declared (rule (decls d))
ends_decls l d = ends_pass l true declared begins_declaration _ _ rejects_type (ends_gives l true declared _)

ends_next_var : (l : Limits) (b : Bool) (k : VarKind) (d : Declared) → Ends l b declared (next_var k d)
unfolding is_either
ends_next_var l b k d =
    ends_take l b declared (is_either comma semicolon) (λ x. next_after k d x.sign) (mark semicolon, λ shut. refl, accepts_fit l fit refl)
    (ends_read l false declared (decls d) _ (ends_decls l d) (λ e. refl) (ends_gives l true declared _))

ends_var : (l : Limits) (k : VarKind) (d : Declared) → Ends l false declared (var_rule k d)
ends_var l k d =
    ends_any l declared (ident []) _ refl (λ x. ends_choose l false declared (is equal) _ _ (closer l false equal refl refl)
    (ends_expr l false declared 0 0 _ (λ e. ends_next_var l true k _)))

ends_names : (l : Limits) (k : VarKind) (d : Declared) → Ends l false declared (names_rule k d)
ends_names l var_kind.Int d = ends_var l var_kind.Int d
ends_names l var_kind.Str d = ends_any l declared star _ refl (λ y. ends_var l var_kind.Str d)
ends_names l var_kind.Handle d = ends_any l declared star _ refl (λ y. ends_any l declared (ident []) _ refl (λ x. ends_next_var l false var_kind.Handle _))

ends_starts : (l : Limits) (so_far : List Setting) → Ends l true settings (rule (starts so_far))
ends_starts l so_far = ends_pass l true settings (is (ident [])) _ _ (rejects_is (ident []) not_name) (ends_gives l true settings _)

ends_after_off : (l : Limits) (p : Program) → Ends l true a_program (after_off p)
ends_after_off l p =
    ends_word l true a_program open_paren _ refl refl (ends_take l false a_program is_zero _ (pick_zero l false) (ends_word l false a_program close_paren _ refl refl (ends_word l false a_program semicolon _ refl refl
    (ends_choose l false a_program (is return_) _ _ (closer l false return_ refl refl) (ends_take l false a_program is_zero _ (pick_zero l false) (ends_word l false a_program semicolon _ refl refl (ends_word l false a_program close_brace _ refl refl (ends_gives l false a_program p))))))))

ends_after_head : (l : Limits) → Ends l false a_program after_head
ends_after_head l =
    ends_word l false a_program close_paren _ refl refl (ends_word l false a_program open_brace _ refl refl
    (ends_read l false a_program (decls _) _ (ends_decls l _) (λ e. refl) (ends_read l true a_program (starts _) _ (ends_starts l _) (λ e. refl)
    (ends_word l true a_program gs_on _ refl refl (ends_word l false a_program open_paren _ refl refl (ends_word l false a_program close_paren _ refl refl (ends_word l false a_program semicolon _ refl refl
    (ends_read l false a_program (stmts 0 gs_off []) _ (ends_stmts l 0 gs_off [] refl) (λ e. refl) (ends_after_off l _)))))))))

ends_program : (l : Limits) → Ends l true a_program (rule program)
ends_program l =
    ends_choose l true a_program (is_either int_ void_) _ _ (either l true int_ void_ refl refl) (ends_word l false a_program main_ _ refl refl
    (ends_word l false a_program open_paren _ refl refl (ends_choose l false a_program (is void_) _ _ (closer l false void_ refl refl) (ends_after_head l))))

ends_arg : (l : Limits) → Ends l true a_passed (rule arg)
ends_arg l = ends_choose l true a_passed (is ampersand) _ _ (closer l true ampersand refl refl) (ends_any l a_passed (ident []) _ refl (λ x. ends_gives l false a_passed _))

ends_more_args : (l : Limits) (so_far : List Passed) → Ends l true all_passed (rule (more_args so_far))
unfolding is_either
ends_more_args l so_far = ends_take l true all_passed (is_either comma close_paren) (λ x. after_arg so_far x.sign) (mark close_paren, λ shut. refl, accepts_fit l fit refl) (ends_gives l false all_passed so_far)

ends_args : (l : Limits) → Ends l true all_passed (rule args)
ends_args l = ends_read l true all_passed arg _ (ends_arg l) (λ e. refl) (ends_read l true all_passed (more_args _) _ (ends_more_args l _) (λ e. refl) (ends_gives l true all_passed _))

ends_rule : (l : Limits) (n : Part) → Fine l n → Ends l (shuts n) (kind_of n) (rule n)
unfolding is_either
ends_rule l (level t d g) f = ends_level l t d g
ends_rule l (tail t d g a) f = ends_pass l true a_term _ _ _ (rejects_operator t d a.term) (ends_gives l true a_term a)
ends_rule l (more_terms so_far) f = ends_more_terms l so_far
ends_rule l arg f = ends_choose l true a_passed (is ampersand) _ _ (closer l true ampersand refl refl) (ends_any l a_passed (ident []) _ refl (λ x. ends_gives l false a_passed _))
ends_rule l (more_args so_far) f = ends_take l true all_passed (is_either comma close_paren) (λ x. after_arg so_far x.sign) (mark close_paren, λ shut. refl, accepts_fit l fit refl) (ends_gives l false all_passed so_far)
ends_rule l args f = ends_args l
ends_rule l condition f = ends_condition l
ends_rule l printing f = ends_printing l
ends_rule l (assigned n) f = ends_assigned l n
ends_rule l for_first f = ends_first l
ends_rule l for_test f = ends_test l
ends_rule l for_step f = ends_step l
ends_rule l (rest_of d x) f = ends_statement l d x x.sign
ends_rule l (body d) f = ends_body l d
ends_rule l (stmts d c so_far) f = ends_stmts l d c so_far f
ends_rule l (names k d) f = ends_names l k d
ends_rule l (decls d) f = ends_decls l d
ends_rule l (starts so_far) f = ends_starts l so_far
ends_rule l program f = ends_program l

pub all_good : AllGood
all_good = record { good = good_rule; ends = ends_rule; eating = eats_rule }
