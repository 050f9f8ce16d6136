-- Terms, arguments and assignments are within the limits, and spelled as their signs are.
use Rattle.std.proofs.Common.{◌≡◌, ◌<◌, ◌≤◌, ◌+◌, ℕ, zero, suc, List, [], ◌∷◌, ◌++◌, true, refl, sym, subst, arith}
use Rattle.std.specs.Prelude.{◌==◌, pos}
use Rattle.gs_tree.specs.Program.{Name, Term, num, lit, var, atoi, strcmp, neg, not_, two, Passed}
use Rattle.gs_tree.specs.Sign.{Sign, Mark, ident, number, string, minus, bang, atoi_, strcmp_, open_paren, comma, plus_plus, minus_minus, plus_equal, minus_equal}
use Rattle.gs_parse.specs.Symbols.{binding, text_of}
use Rattle.gs_parse.specs.Notation.{Lined, a_term, terms, a_passed, all_passed, a_printed, a_setting, maybe_setting, maybe_term, level, tail, more_terms, arg, more_args, args, condition, printing, assigned, for_first, for_test, for_step}
use Rattle.gs_parse.specs.Grammar.{rule, height, operand_fit, begins_operand, operand, goes_on, after_term, after_arg, assignment}
use Rattle.gs_parse.specs.Reading.{limited, Accepts}
use Rattle.gs_spelling.specs.Spelled.{IsName, IsNumber, SignSpelled}
use Rattle.gs_reprint.proofs.Within.{GoodTerm, GoodTerms, GoodPassed, GoodPasseds, GoodSetting, Gives, Keeps, below, name_taken, string_taken}

-- ---- expressions

-- an operand, after its first sign, is good where a leaf has room
keep_operand : (d g : ℕ) (x : Mark) (s : Sign) → d < 64 → text_of x.sign ≡ text_of s → SignSpelled s → Accepts limited (operand_fit d g s) →
    Keeps a_term (operand d g x s) (λ v. GoodTerm d v.term)
keep_operand d g x (number v) lt e s a = (s, omega arith)
keep_operand d g x (string w) lt e s a = (s, omega arith)
keep_operand d g x (ident w) lt e s a = (subst IsName (sym e) s, omega arith)
keep_operand d g x minus lt e s a = (below true (d + 1) a, λ v h. (h.0, omega arith))
keep_operand d g x bang lt e s a = (below true (d + 1) a, λ v h. (h.0, omega arith))
keep_operand d g x atoi_ lt e s a = λ y _ _. (below true (d + 1) a, λ v h. λ z _ _. (h.0, omega arith))
keep_operand d g x strcmp_ lt e s a = λ y _ _. (below true (d + 1) a, λ v h. λ z _ _. (below true (d + 1) a, λ w i. λ u _ _. ((h.0, i.0), omega arith)))
keep_operand d g x open_paren lt e s a = (lt, λ v h. λ z _ _. h)
keep_operand d g x _ lt e s a = absurd a

-- an expression of any level is good where a leaf has room
pub keep_level : (t d g : ℕ) → d < 64 → Keeps a_term (rule (level t d g)) (λ v. GoodTerm d v.term)
unfolding begins_operand
keep_level zero d g lt = λ x s a. keep_operand d g x x.sign lt refl s a
keep_level (suc t) d g lt = (lt, λ v h. ((lt, h), λ w i. i))

-- an operator is taken where the term to its left is within the limit one deeper
right_below : (t d : ℕ) (a : Term) (x : Mark) → Accepts limited (goes_on (suc t) d a x) → d + height a < 64
unfolding goes_on
right_below t d a x acc = below (binding x.sign == suc t) (d + height a) acc

-- no term is without height
height_some : (a : Term) → 1 ≤ height a
height_some (num line v) = omega arith
height_some (lit line s) = omega arith
height_some (var n) = omega arith
height_some (atoi e) = omega arith
height_some (strcmp a b) = omega arith
height_some (neg e) = omega arith
height_some (not_ e) = omega arith
height_some (two op a b) = omega arith

-- what follows a good operand keeps it good
pub keep_tail : (t d g : ℕ) (a : Lined) → d < 64 → GoodTerm d a.term → Keeps a_term (rule (tail t d g a)) (λ v. GoodTerm d v.term)
keep_tail t d g a lt h = (
  λ x s acc.
      let room : d + height a.term < 64 = right_below t d a.term x acc in
      (omega (arith, height_some a.term), λ b i. ((lt, ((h.0, i.0), omega arith)), λ w j. j)),
  h,
)

-- ---- lists of values

-- one more good value
terms_more : (ts : List Term) (t : Term) → GoodTerms ts → GoodTerm 0 t → GoodTerms (ts ++ t ∷ [])
terms_more [] t hs h = ((h.0, tt), (h.1, tt))
terms_more (u ∷ ts) t hs h = let i = terms_more ts t (hs.0.1, hs.1.1) h in ((hs.0.0, i.0), (hs.1.0, i.1))

-- the values after a comma, or no more
keep_after_term : (so_far : List Term) (s : Sign) → GoodTerms so_far → Keeps terms (after_term so_far s) GoodTerms
keep_after_term so_far comma hs = (omega arith, λ v h. (terms_more so_far v.term hs h, λ all i. i))
keep_after_term so_far _ hs = hs

-- further values are good after good ones
pub keep_more_terms : (so_far : List Term) → GoodTerms so_far → Keeps terms (rule (more_terms so_far)) GoodTerms
keep_more_terms so_far hs = λ x s a. keep_after_term so_far x.sign hs

-- an argument is good: after `&` it is a name
pub keep_arg : Keeps a_passed (rule arg) GoodPassed
keep_arg = (λ x s a. λ y t b. (name_taken y t b, tt), (omega arith, λ v h. h))

-- one more good argument
passeds_more : (ps : List Passed) (p : Passed) → GoodPasseds ps → GoodPassed p → GoodPasseds (ps ++ p ∷ [])
passeds_more [] p hs h = ((h.0, tt), (h.1, tt))
passeds_more (q ∷ ps) p hs h = let i = passeds_more ps p (hs.0.1, hs.1.1) h in ((hs.0.0, i.0), (hs.1.0, i.1))

-- the arguments after a comma, or no more
keep_after_arg : (so_far : List Passed) (s : Sign) → GoodPasseds so_far → Keeps all_passed (after_arg so_far s) GoodPasseds
keep_after_arg so_far comma hs = (tt, λ p h. (passeds_more so_far p hs h, λ all i. i))
keep_after_arg so_far _ hs = hs

-- further arguments are good after good ones
pub keep_more_args : (so_far : List Passed) → GoodPasseds so_far → Keeps all_passed (rule (more_args so_far)) GoodPasseds
keep_more_args so_far hs = λ x s a. keep_after_arg so_far x.sign hs

-- the arguments of a call are good
pub keep_args : Keeps all_passed (rule args) GoodPasseds
keep_args = (tt, λ p h. (((h.0, tt), (h.1, tt)), λ all i. i))

-- ---- conditions, formats and assignments

-- a condition is good
pub keep_condition : Keeps a_term (rule condition) (λ v. GoodTerm 0 v.term)
keep_condition = λ x s a. (omega arith, λ v h. λ y t b. h)

-- a format is spelled, and its values are good
pub keep_printing : Keeps a_printed (rule printing) (Gives printing)
keep_printing = λ x s a. ((tt, tt), λ ts h. λ y t b. (string_taken x s a, h))

-- 1 is within 64 bits
one_number : IsNumber (pos 1)
one_number = record { amount = 1; is = refl; within = omega arith }

-- an assignment, after its first sign, is good
keep_assignment : (n : Name) (x : Mark) (s : Sign) → IsName n.text → Keeps a_setting (assignment n x s) GoodSetting
keep_assignment n x plus_plus h = ((h, (h, one_number)), omega arith)
keep_assignment n x minus_minus h = ((h, (h, one_number)), omega arith)
keep_assignment n x plus_equal h = (omega arith, λ v i. ((h, (h, i.0)), omega arith))
keep_assignment n x minus_equal h = (omega arith, λ v i. ((h, (h, i.0)), omega arith))
keep_assignment n x _ h = (omega arith, λ v i. ((h, i.0), i.1))

-- an assignment to a name is good
pub keep_assigned : (n : Name) → IsName n.text → Keeps a_setting (rule (assigned n)) GoodSetting
keep_assigned n h = λ x s a. keep_assignment n x x.sign h

-- ---- the head of a `for`

-- the first assignment, where there is one, is good
pub keep_first : Keeps maybe_setting (rule for_first) (Gives for_first)
keep_first = (λ x s a. (tt, tt), λ y t b. (name_taken y t b, λ e h. λ z u c. h))

-- the test, where there is one, is good
pub keep_test : Keeps maybe_term (rule for_test) (Gives for_test)
keep_test = (λ x s a. (tt, tt), (omega arith, λ e h. λ z u c. h))

-- the step, where there is one, is good
pub keep_step : Keeps maybe_setting (rule for_step) (Gives for_step)
keep_step = (λ x s a. (tt, tt), λ y t b. (name_taken y t b, λ e h. λ z u c. h))
