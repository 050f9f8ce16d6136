-- What the productions of arguments and assignments say, the reader's grammar says.
use Rattle.std.proofs.Common.{◌≡◌, ◌≢◌, ◌≤◌, ◌+◌, ℕ, refl, sym, ap, ◌∙◌, subst, List, [], ◌∷◌, ◌++◌, Bool, true, false, arith, append-nil, append_assoc}
use Rattle.std.proofs.lemmas.Bool.{ne_eqb}
use Rattle.std.specs.Prelude.{Option, Some}
use Rattle.gs_tree.specs.Program.{Name, Term, var, two, Setting, Formatted, Passed}
use Rattle.gs_tree.specs.Sign.{Sign, Mark, atoi_, strcmp_, ident, number, string, open_paren, close_paren, semicolon, minus, bang, ampersand, plus_equal, minus_equal}
use Rattle.gs_tree.specs.declared.tree.Op.TheVariants.{Add, Sub}
use Rattle.gs_parse.specs.Fits.{TermFits, TermsFit, AddressFits, PassedsFit, MaybeSettingFits, MaybeTermFits}
use Rattle.gs_parse.specs.Symbols.{place}
use Rattle.gs_parse.specs.Notation.{a_term, terms, a_passed, all_passed, a_printed, a_setting, maybe_setting, maybe_term, level, more_terms, arg, more_args, args, condition, printing, assigned, for_first, for_test, for_step, unfit}
use Rattle.gs_parse.specs.Grammar.{rule, judged, is, is_either, height, assigns}
use Rattle.gs_parse.specs.Reading.{Limits, limited, next_fit, Says, taken}
use Rattle.gs_grammar.specs.Signs.{at, called}
use Rattle.gs_grammar.specs.Expressions.{IsPrim, a_number, a_string, a_name, an_atoi, a_strcmp, a_group, IsUnary, negation, inversion, a_prim, IsProd, a_unary, product, quotient, remainder, IsSum, a_prod, addition, difference, IsRel, a_sum, is_less, is_at_most, is_greater, is_at_least, IsEq, a_rel, is_equal, is_other, IsAnd, an_eq, conjunction, IsExpr, an_and, disjunction}
use Rattle.gs_grammar.specs.Statements.{IsMoreExprs, no_expr, one_expr, IsArg, address, value, IsMoreArgs, no_arg, one_arg, assigned_to, IsAssign, sets, increments, decrements, adds, subtracts, IsMaybeAssign, no_assign, an_assign, IsMaybeExpr, no_test, a_test, formatted}
use Rattle.gs_grammar.proofs.Exact.{is_plain, exact}
use Rattle.gs_grammar.proofs.Saying.{Within, accepts_is, say_word, say_choice, say_other, say_name, say_part, say_given}
use Rattle.gs_grammar.proofs.TermsSaid.{next_binding, expr_said}

-- ---- how an expression begins

abbrev opens_operand : Sign → Bool
opens_operand (number v) = true
opens_operand (string s) = true
opens_operand (ident s) = true
opens_operand atoi_ = true
opens_operand strcmp_ = true
opens_operand open_paren = true
opens_operand minus = true
opens_operand bang = true
opens_operand _ = false

abbrev Opens : List Mark → Type 0
Opens [] = ⊥
Opens (x ∷ xs) = opens_operand x.sign ≡ true

prim_opens : {l : Limits} {g : ℕ} {ts rest : List Mark} {e : Term} → IsPrim l g ts e rest → Opens ts
prim_opens a_number = refl
prim_opens a_string = refl
prim_opens a_name = refl
prim_opens (an_atoi h) = refl
prim_opens (a_strcmp h k) = refl
prim_opens (a_group m h) = refl

unary_opens : {l : Limits} {g : ℕ} {ts rest : List Mark} {e : Term} → IsUnary l g ts e rest → Opens ts
unary_opens (negation h) = refl
unary_opens (inversion h) = refl
unary_opens (a_prim h) = prim_opens h

prod_opens : {l : Limits} {g : ℕ} {ts rest : List Mark} {e : Term} → IsProd l g ts e rest → Opens ts
prod_opens (a_unary h) = unary_opens h
prod_opens (product h k) = prod_opens h
prod_opens (quotient h k) = prod_opens h
prod_opens (remainder h k) = prod_opens h

sum_opens : {l : Limits} {g : ℕ} {ts rest : List Mark} {e : Term} → IsSum l g ts e rest → Opens ts
sum_opens (a_prod h) = prod_opens h
sum_opens (addition h k) = sum_opens h
sum_opens (difference h k) = sum_opens h

rel_opens : {l : Limits} {g : ℕ} {ts rest : List Mark} {e : Term} → IsRel l g ts e rest → Opens ts
rel_opens (a_sum h) = sum_opens h
rel_opens (is_less h k) = rel_opens h
rel_opens (is_at_most h k) = rel_opens h
rel_opens (is_greater h k) = rel_opens h
rel_opens (is_at_least h k) = rel_opens h

eq_opens : {l : Limits} {g : ℕ} {ts rest : List Mark} {e : Term} → IsEq l g ts e rest → Opens ts
eq_opens (a_rel h) = rel_opens h
eq_opens (is_equal h k) = eq_opens h
eq_opens (is_other h k) = eq_opens h

and_opens : {l : Limits} {g : ℕ} {ts rest : List Mark} {e : Term} → IsAnd l g ts e rest → Opens ts
and_opens (an_eq h) = eq_opens h
and_opens (conjunction h k) = and_opens h

expr_opens : {l : Limits} {g : ℕ} {ts rest : List Mark} {e : Term} → IsExpr l g ts e rest → Opens ts
expr_opens (an_and h) = and_opens h
expr_opens (disjunction h k) = expr_opens h

-- another sign than this
pub other_sign : (s : Sign) (x : Mark) (ts : List Mark) → is_plain s ≡ true → x.sign ≢ s → next_fit (is s) (x ∷ ts) ≡ unfit
unfolding is
other_sign s x ts plain ne = ap (λ z. judged z true) (ne_eqb (place x.sign) (place s) (λ e. ne (exact s x.sign plain e)))

-- a sign that opens no operand begins no expression
opens_not : (s : Sign) (ts : List Mark) → is_plain s ≡ true → opens_operand s ≡ false → Opens ts → next_fit (is s) ts ≡ unfit
opens_not s [] plain shut h = absurd h
opens_not s (x ∷ ts) plain shut h =
    other_sign s x ts plain (λ e. let bad : true ≡ false = sym h ∙ ap opens_operand e ∙ shut in absurd (cc))

pub expr_not : (s : Sign) {l : Limits} {g : ℕ} {ts rest : List Mark} {e : Term} → is_plain s ≡ true → opens_operand s ≡ false → IsExpr l g ts e rest →
    next_fit (is s) ts ≡ unfit
expr_not s {l} {g} {ts} {rest} {e} plain shut h = opens_not s ts plain shut (expr_opens h)

-- ---- values and arguments

-- what follows a value in a list binds nowhere
more_ends : {l : Limits} {ts rest : List Mark} {es : List Term} → IsMoreExprs l ts es rest → next_binding rest ≡ 0 → next_binding ts ≡ 0
more_ends no_expr e = e
more_ends (one_expr h k) e = refl

more_onward : {l : Limits} {ts us : List Mark} {es : List Term} → IsMoreExprs l ts es us → next_binding us ≡ 0 → (l ≡ limited → TermsFit es) → (so_far all : List Term) (rest : List Mark) →
    Says l terms (rule (more_terms (so_far ++ es))) us all rest → Says l terms (rule (more_terms so_far)) ts all rest
unfolding is_either
more_onward {l} (no_expr {rest = us}) z f so_far all rest h = subst (λ (y : List Term). Says l terms (rule (more_terms y)) us all rest) (append-nil so_far) h
more_onward {l} (one_expr {a} {ts} {us} {rest = vs} {e} {es} h k) z f so_far all rest t =
    let t2 = subst (λ (y : List Term). Says l terms (rule (more_terms y)) vs all rest) (sym (append_assoc so_far (e ∷ []) es)) t in
    taken l terms _ _ _ _ _ _ tt
    (say_part {n = level 6 0 0} (expr_said h (more_ends k z) 0 (λ q. (f q).0))
    (say_part {n = more_terms (so_far ++ e ∷ [])} (more_onward k z (λ q. (f q).1) (so_far ++ e ∷ []) all rest t2) say_given))

pub more_said : {l : Limits} {a : ℕ} {ts rest : List Mark} {es : List Term} → IsMoreExprs l ts es (at a close_paren ∷ rest) → (l ≡ limited → TermsFit es) →
    Says l terms (rule (more_terms [])) ts es rest
unfolding is_either
more_said {l} {a} {ts} {rest} {es} h f = more_onward h refl f [] es rest (taken l terms _ _ (at a close_paren) rest es rest tt say_given)

-- an argument
arg_said : {l : Limits} {ts rest : List Mark} {p : Passed} → IsArg l ts p rest → next_binding rest ≡ 0 → (l ≡ limited → AddressFits p.by_address p.value) →
    Says l a_passed (rule arg) ts p rest
arg_said (address {a} {n} {rest}) z f = say_choice (say_name say_given)
arg_said (value h) z f = say_other (expr_not ampersand refl refl h) (say_part {n = level 6 0 0} (expr_said h z 0 f) say_given)

more_args_end : {l : Limits} {ts rest : List Mark} {ps : List Passed} → IsMoreArgs l ts ps rest → next_binding rest ≡ 0 → next_binding ts ≡ 0
more_args_end no_arg e = e
more_args_end (one_arg h k) e = refl

more_args_onward : {l : Limits} {ts us : List Mark} {ps : List Passed} → IsMoreArgs l ts ps us → next_binding us ≡ 0 → (l ≡ limited → PassedsFit ps) →
    (so_far all : List Passed) (rest : List Mark) → Says l all_passed (rule (more_args (so_far ++ ps))) us all rest → Says l all_passed (rule (more_args so_far)) ts all rest
unfolding is_either
more_args_onward {l} (no_arg {rest = us}) z f so_far all rest h = subst (λ (y : List Passed). Says l all_passed (rule (more_args y)) us all rest) (append-nil so_far) h
more_args_onward {l} (one_arg {a} {ts} {us} {rest = vs} {p} {ps} h k) z f so_far all rest t =
    let t2 = subst (λ (y : List Passed). Says l all_passed (rule (more_args y)) vs all rest) (sym (append_assoc so_far (p ∷ []) ps)) t in
    taken l all_passed _ _ _ _ _ _ tt
    (say_part {n = arg} (arg_said h (more_args_end k z) (λ q. (f q).0))
    (say_part {n = more_args (so_far ++ p ∷ [])} (more_args_onward k z (λ q. (f q).1) (so_far ++ p ∷ []) all rest t2) say_given))

pub args_said : {l : Limits} {a : ℕ} {ts us rest : List Mark} {p : Passed} {ps : List Passed} → IsArg l ts p us → IsMoreArgs l us ps (at a close_paren ∷ rest) →
    (l ≡ limited → PassedsFit (p ∷ ps)) → Says l all_passed (rule args) ts (p ∷ ps) rest
unfolding is_either
args_said {l} {a} {ts} {us} {rest} {p} {ps} h k f =
    say_part {n = arg} (arg_said h (more_args_end k refl) (λ q. (f q).0))
    (say_part {n = more_args (p ∷ [])} (more_args_onward k refl (λ q. (f q).1) (p ∷ []) (p ∷ ps) rest (taken l all_passed _ _ (at a close_paren) rest (p ∷ ps) rest tt say_given)) say_given)

-- an argument does not begin with `)`
pub arg_not : {l : Limits} {ts rest : List Mark} {p : Passed} → IsArg l ts p rest → next_fit (is close_paren) ts ≡ unfit
unfolding is
arg_not address = refl
arg_not (value h) = expr_not close_paren refl refl h

-- ---- conditions, formats and assignments

pub condition_said : {l : Limits} {a b : ℕ} {ts rest : List Mark} {e : Term} → IsExpr l 0 ts e (at b close_paren ∷ rest) → (l ≡ limited → TermFits 0 e) →
    Says l a_term (rule condition) (at a open_paren ∷ ts) (record { line = a; term = e }) rest
condition_said h f = say_word (say_part {n = level 6 0 0} (expr_said h refl 0 f) (say_word say_given))

pub printing_said : {l : Limits} {a b : ℕ} {f : Formatted} {ts rest : List Mark} {es : List Term} → IsMoreExprs l ts es (at a close_paren ∷ at b semicolon ∷ rest) →
    (l ≡ limited → TermsFit es) → Says l a_printed (rule printing) (formatted f ∷ ts) (record { format = f; args = es }) rest
printing_said {l} {a} {b} {f} {ts} {rest} {es} h g =
    taken l a_printed _ _ (formatted f) ts _ rest (accepts_is l (string []) (string f.text) f.line refl) (say_part {n = more_terms []} (more_said h g) (say_word say_given))

-- an assignment after its name
pub data Assigning (l : Limits) : List Mark → Setting → List Mark → Type 0 where
  assigning : {n : Name} {ts rest : List Mark} {s : Setting} → Says l a_setting (rule (assigned n)) ts s rest → Assigning l (called n ∷ ts) s rest

-- room for the right side of `+=`
right_side : (l : Limits) (n : Name) (e : Term) → (l ≡ limited → 0 + (height (two Add (var n) e)) ≤ 64) → Within l (1 + height e)
right_side l n e f = λ q. omega (arith, f q)

pub adds_said : {l : Limits} {b : ℕ} {n : Name} {ts rest : List Mark} {e : Term} → IsExpr l 0 ts e rest → next_binding rest ≡ 0 → (l ≡ limited → TermFits 0 (two Add (var n) e)) →
    Says l a_setting (rule (assigned n)) (at b plus_equal ∷ ts) (assigned_to n (two Add (var n) e)) rest
unfolding assigns
adds_said {l} {b} {n} {ts} {rest} {e} h z f = taken l a_setting _ _ _ _ _ _ tt (say_part {n = level 6 1 0} (expr_said h z 1 (right_side l n e f)) say_given)

pub subtracts_said : {l : Limits} {b : ℕ} {n : Name} {ts rest : List Mark} {e : Term} → IsExpr l 0 ts e rest → next_binding rest ≡ 0 → (l ≡ limited → TermFits 0 (two Sub (var n) e)) →
    Says l a_setting (rule (assigned n)) (at b minus_equal ∷ ts) (assigned_to n (two Sub (var n) e)) rest
unfolding assigns
subtracts_said {l} {b} {n} {ts} {rest} {e} h z f = taken l a_setting _ _ _ _ _ _ tt (say_part {n = level 6 1 0} (expr_said h z 1 (right_side l n e f)) say_given)

pub assign_said : {l : Limits} {ts rest : List Mark} {s : Setting} → IsAssign l ts s rest → next_binding rest ≡ 0 → (l ≡ limited → TermFits 0 s.value) → Assigning l ts s rest
unfolding assigns
assign_said {l} (sets h) z f = assigning (taken l a_setting _ _ _ _ _ _ tt (say_part {n = level 6 0 0} (expr_said h z 0 f) say_given))
assign_said {l} (increments {a} {n} {rest}) z f = assigning (taken l a_setting _ _ _ _ _ _ tt say_given)
assign_said {l} (decrements {a} {n} {rest}) z f = assigning (taken l a_setting _ _ _ _ _ _ tt say_given)
assign_said {l} (adds {a} {n} {ts} {rest} {e} h) z f = assigning (adds_said h z f)
assign_said {l} (subtracts {a} {n} {ts} {rest} {e} h) z f = assigning (subtracts_said h z f)

-- ---- the head of a `for`

maybe_first : {l : Limits} {c : ℕ} {ts rest : List Mark} {s : Setting} → Assigning l ts s (at c semicolon ∷ rest) → Says l maybe_setting (rule for_first) ts (Some s) rest
unfolding is
maybe_first (assigning {n} h) = say_other refl (say_name (say_part {n = assigned n} h (say_word say_given)))

pub first_said : {l : Limits} {c : ℕ} {ts rest : List Mark} {s : Option Setting} → IsMaybeAssign l ts s (at c semicolon ∷ rest) → (l ≡ limited → MaybeSettingFits s) →
    Says l maybe_setting (rule for_first) ts s rest
first_said no_assign f = say_choice say_given
first_said (an_assign h) f = maybe_first (assign_said h refl f)

maybe_step : {l : Limits} {c : ℕ} {ts rest : List Mark} {s : Setting} → Assigning l ts s (at c close_paren ∷ rest) → Says l maybe_setting (rule for_step) ts (Some s) rest
unfolding is
maybe_step (assigning {n} h) = say_other refl (say_name (say_part {n = assigned n} h (say_word say_given)))

pub step_said : {l : Limits} {c : ℕ} {ts rest : List Mark} {s : Option Setting} → IsMaybeAssign l ts s (at c close_paren ∷ rest) → (l ≡ limited → MaybeSettingFits s) →
    Says l maybe_setting (rule for_step) ts s rest
step_said no_assign f = say_choice say_given
step_said (an_assign h) f = maybe_step (assign_said h refl f)

pub test_said : {l : Limits} {c : ℕ} {ts rest : List Mark} {e : Option Term} → IsMaybeExpr l ts e (at c semicolon ∷ rest) → (l ≡ limited → MaybeTermFits e) →
    Says l maybe_term (rule for_test) ts e rest
test_said no_test f = say_choice say_given
test_said (a_test h) f = say_other (expr_not semicolon refl refl h) (say_part {n = level 6 0 0} (expr_said h refl 0 f) (say_word say_given))
