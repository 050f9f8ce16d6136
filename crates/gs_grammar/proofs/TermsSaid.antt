-- What the productions of expressions say, the reader's grammar says.
use Rattle.std.proofs.Common.{◌≡◌, ◌≢◌, ◌<◌, ◌≤◌, ◌+◌, ℕ, zero, suc, refl, sym, ap, subst, List, [], ◌∷◌, Bool, nat_lt, eq-eqb, arith}
use Rattle.std.specs.Prelude.{max}
use Rattle.std.proofs.lemmas.Bool.{ne_eqb}
use Rattle.gs_tree.specs.Program.{Term, num, lit, var, atoi, strcmp, neg, not_, two}
use Rattle.gs_tree.specs.Sign.{Sign, Mark, less_equal, greater_equal, equal_equal, not_equal, and_and, or_or, close_paren, comma, plus, minus, star, slash, percent, less, greater}
use Rattle.gs_parse.specs.Symbols.{binding, operator}
use Rattle.gs_parse.specs.Notation.{Lined, a_term, level, tail, unfit}
use Rattle.gs_parse.specs.Grammar.{rule, judged, height, begins_operand, goes_on}
use Rattle.gs_parse.specs.Reading.{Limits, Accepts, next_fit, Says, given, taken, chosen, passed}
use Rattle.gs_parse.specs.Reads.{line_of}
use Rattle.gs_grammar.specs.Signs.{at}
use Rattle.gs_grammar.specs.Expressions.{IsPrim, a_number, a_string, a_name, an_atoi, a_strcmp, a_group, IsUnary, negation, inversion, a_prim, IsProd, a_unary, product, quotient, remainder, IsSum, a_prod, addition, difference, IsRel, a_sum, is_less, is_at_most, is_greater, is_at_least, IsEq, a_rel, is_equal, is_other, IsAnd, an_eq, conjunction, IsExpr, an_and, disjunction}
use Rattle.gs_grammar.proofs.Saying.{Within, accepts_less, accepts_open, say_word, say_part, say_given}

-- a term on the line of its first sign
abbrev pub lined : List Mark → Term → Lined
lined ts e = record { line = line_of ts; term = e }

-- a leaf at least
pub height_some : (t : Term) → 1 ≤ height t
height_some (num line v) = omega arith
height_some (lit line s) = omega arith
height_some (var n) = omega arith
height_some (atoi a) = omega arith
height_some (strcmp a b) = omega arith
height_some (neg a) = omega arith
height_some (not_ a) = omega arith
height_some (two op a b) = omega arith

-- how tightly the next sign binds, 0 for the end
abbrev pub next_binding : List Mark → ℕ
next_binding [] = 0
next_binding (x ∷ xs) = binding x.sign

-- the next sign goes on with no term of these levels
abbrev pub Free : (levels : ℕ) → List Mark → Type 0
Free levels ts = (k : ℕ) → 0 < k → k ≤ levels → next_binding ts ≢ k

-- what follows the term at a level was read on from it
abbrev Onward : Limits → (m d g : ℕ) → List Mark → Term → List Mark → Type 0
Onward l m d g ts e rest =
    (v : Lined) (last : List Mark) → Says l a_term (rule (tail m d g (lined ts e))) rest v last → Says l a_term (rule (level (suc m) d g)) ts v last

-- a sign that binds otherwise goes on with no term of this level
no_tail : (m d : ℕ) (left : Term) (ts : List Mark) → next_binding ts ≢ suc m → next_fit (goes_on (suc m) d left) ts ≡ unfit
unfolding goes_on
no_tail m d left [] ne = refl
no_tail m d left (x ∷ ts) ne = ap (λ z. judged z (nat_lt (d + height left) 64)) (ne_eqb (binding x.sign) (suc m) ne)

-- nothing follows at this level
whole : (l : Limits) (m d g : ℕ) (ts : List Mark) (e : Term) (rest : List Mark) → next_binding rest ≢ suc m → Onward l m d g ts e rest →
    Says l a_term (rule (level (suc m) d g)) ts (lined ts e) rest
whole l m d g ts e rest ne on =
    on (lined ts e) rest (passed l a_term _ _ _ rest (lined ts e) rest (no_tail m d e rest ne) (given l a_term (lined ts e) rest))

-- one level up
up : (l : Limits) (m d g : ℕ) (ts : List Mark) (e : Term) (rest : List Mark) → Says l a_term (rule (level m d g)) ts (lined ts e) rest → Onward l m d g ts e rest
up l m d g ts e rest h v last t = say_part {n = level m d g} h (say_part {n = tail m d g (lined ts e)} t say_given)

-- an operator at its level goes on, where there is room below it
goes : (l : Limits) (m d : ℕ) (left : Term) (s : Sign) (line : ℕ) → binding s ≡ suc m → Within l (suc (d + height left)) → Accepts l (goes_on (suc m) d left (at line s))
unfolding goes_on
goes l m d left s line e w =
    subst (λ (z : Bool). Accepts l (judged z (nat_lt (d + height left) 64))) (sym (eq-eqb (binding s) (suc m) e)) (accepts_less l (d + height left) w)

-- an operator and its right side
grow : (l : Limits) (m d g : ℕ) (s : Sign) (line : ℕ) (ts us rest : List Mark) (e f : Term) → binding s ≡ suc m → Within l (d + (max (height e) (height f) + 1)) →
    Onward l m d g ts e (at line s ∷ us) → Says l a_term (rule (level m (d + 1) g)) us (lined us f) rest → Onward l m d g ts (two (operator s) e f) rest
grow l m d g s line ts us rest e f is w on right v last t =
    on v last (chosen l a_term _ _ _ (at line s) us v last (goes l m d e s line is (λ q. omega (arith, w q)))
    (say_part {n = level m (d + 1) g} right (say_part {n = tail m d g (lined ts (two (operator s) e f))} t say_given)))

-- the room on the left and on the right of an operator
left_room : (l : Limits) (d : ℕ) (e f : Term) → Within l (d + (max (height e) (height f) + 1)) → Within l (d + height e)
left_room l d e f w = λ q. omega (arith, w q)

right_room : (l : Limits) (d : ℕ) (e f : Term) → Within l (d + (max (height e) (height f) + 1)) → Within l (d + 1 + height f)
right_room l d e f w = λ q. omega (arith, w q)

-- the room below an operator or a call
room_below : (l : Limits) (d : ℕ) (e : Term) → Within l (d + (height e + 1)) → Within l (d + 1 + height e)
room_below l d e w = λ q. omega (arith, w q)

-- an operator or a call has room for a leaf below it
leaf_below : (l : Limits) (d : ℕ) (e : Term) → Within l (d + 1 + height e) → Within l (suc (d + 1))
leaf_below l d e w = λ q. omega (arith, w q, height_some e)

-- before what binds nowhere, a term ends at each level
ends : (levels : ℕ) (rest : List Mark) → next_binding rest ≡ 0 → Free levels rest
ends levels rest e k lo hi f = omega (arith, e, f)

-- before an operator of the next level too
before : (m : ℕ) (s : Sign) (line : ℕ) (us : List Mark) → binding s ≡ suc m → Free m (at line s ∷ us)
before m s line us is k lo hi f = omega (arith, is, f)

-- a whole term of a level
full : (l : Limits) (m d g : ℕ) (ts : List Mark) (e : Term) (rest : List Mark) → Free (suc m) rest → Onward l m d g ts e rest →
    Says l a_term (rule (level (suc m) d g)) ts (lined ts e) rest
full l m d g ts e rest free on = whole l m d g ts e rest (free (suc m) (omega arith) (omega arith)) on

-- a term of a level, before what goes on at none below
shut : (m n : ℕ) (rest : List Mark) → n ≤ m → Free m rest → Free n rest
shut m n rest le free k lo hi = free k lo (omega arith)

mutual
  unfolding begins_operand

  prim_said : {l : Limits} {g : ℕ} {ts rest : List Mark} {e : Term} → IsPrim l g ts e rest → (d : ℕ) → Within l (d + height e) →
      Says l a_term (rule (level zero d g)) ts (lined ts e) rest
  prim_said {l} (a_number {groups} {line} {v} {rest}) d w = taken l a_term _ _ _ _ _ _ tt say_given
  prim_said {l} (a_string {groups} {line} {s} {rest}) d w = taken l a_term _ _ _ _ _ _ tt say_given
  prim_said {l} (a_name {groups} {n} {rest}) d w = taken l a_term _ _ _ _ _ _ tt say_given
  prim_said {l} (an_atoi {groups} {a} {b} {c} {ts} {rest} {e} h) d w =
      let room = room_below l d e w in
      taken l a_term _ _ _ _ _ _ (accepts_less l (d + 1) (leaf_below l d e room))
      (say_word (say_part {n = level 6 (d + 1) groups} (full l 5 (d + 1) groups ts e (at c close_paren ∷ rest) (ends 6 (at c close_paren ∷ rest) refl) (expr_onward h (ends 5 (at c close_paren ∷ rest) refl) (d + 1) room)) (say_word say_given)))
  prim_said {l} (a_strcmp {groups} {a} {b} {c} {d = q} {ts} {us} {rest} {e} {f} h k) d w =
      let left = room_below l d e (λ q. omega (arith, w q)) in
      let right = right_room l d e f w in
      taken l a_term _ _ _ _ _ _ (accepts_less l (d + 1) (leaf_below l d e left))
      (say_word (say_part {n = level 6 (d + 1) groups} (full l 5 (d + 1) groups ts e (at c comma ∷ us) (ends 6 (at c comma ∷ us) refl) (expr_onward h (ends 5 (at c comma ∷ us) refl) (d + 1) left))
      (say_word (say_part {n = level 6 (d + 1) groups} (full l 5 (d + 1) groups us f (at q close_paren ∷ rest) (ends 6 (at q close_paren ∷ rest) refl) (expr_onward k (ends 5 (at q close_paren ∷ rest) refl) (d + 1) right)) (say_word say_given)))))
  prim_said {l} (a_group {groups} {a} {b} {ts} {rest} {e} m h) d w =
      taken l a_term _ _ _ _ _ _ (accepts_open l groups m)
      (say_part {n = level 6 d (groups + 1)} (full l 5 d (groups + 1) ts e (at b close_paren ∷ rest) (ends 6 (at b close_paren ∷ rest) refl) (expr_onward h (ends 5 (at b close_paren ∷ rest) refl) d w)) (say_word say_given))

  unary_said : {l : Limits} {g : ℕ} {ts rest : List Mark} {e : Term} → IsUnary l g ts e rest → (d : ℕ) → Within l (d + height e) →
      Says l a_term (rule (level zero d g)) ts (lined ts e) rest
  unary_said {l} (negation {groups} {a} {ts} {rest} {e} h) d w =
      let room = room_below l d e w in
      taken l a_term _ _ _ _ _ _ (accepts_less l (d + 1) (leaf_below l d e room)) (say_part {n = level zero (d + 1) groups} (unary_said h (d + 1) room) say_given)
  unary_said {l} (inversion {groups} {a} {ts} {rest} {e} h) d w =
      let room = room_below l d e w in
      taken l a_term _ _ _ _ _ _ (accepts_less l (d + 1) (leaf_below l d e room)) (say_part {n = level zero (d + 1) groups} (unary_said h (d + 1) room) say_given)
  unary_said (a_prim h) d w = prim_said h d w

  prod_onward : {l : Limits} {g : ℕ} {ts rest : List Mark} {e : Term} → IsProd l g ts e rest → Free 0 rest → (d : ℕ) → Within l (d + height e) → Onward l 0 d g ts e rest
  prod_onward {l} {g} (a_unary {groups} {ts} {rest} {e} h) free d w = up l 0 d groups ts e rest (unary_said h d w)
  prod_onward {l} {g} (product {groups} {a} {ts} {us} {rest} {e} {f} h k) free d w =
      grow l 0 d groups star a ts us rest e f refl w (prod_onward h (before 0 star a us refl) d (left_room l d e f w)) (unary_said k (d + 1) (right_room l d e f w))
  prod_onward {l} {g} (quotient {groups} {a} {ts} {us} {rest} {e} {f} h k) free d w =
      grow l 0 d groups slash a ts us rest e f refl w (prod_onward h (before 0 slash a us refl) d (left_room l d e f w)) (unary_said k (d + 1) (right_room l d e f w))
  prod_onward {l} {g} (remainder {groups} {a} {ts} {us} {rest} {e} {f} h k) free d w =
      grow l 0 d groups percent a ts us rest e f refl w (prod_onward h (before 0 percent a us refl) d (left_room l d e f w)) (unary_said k (d + 1) (right_room l d e f w))

  sum_onward : {l : Limits} {g : ℕ} {ts rest : List Mark} {e : Term} → IsSum l g ts e rest → Free 1 rest → (d : ℕ) → Within l (d + height e) → Onward l 1 d g ts e rest
  sum_onward {l} {g} (a_prod {groups} {ts} {rest} {e} h) free d w = up l 1 d groups ts e rest (full l 0 d groups ts e rest free (prod_onward h (shut 1 0 rest (omega arith) free) d w))
  sum_onward {l} {g} (addition {groups} {a} {ts} {us} {rest} {e} {f} h k) free d w =
      grow l 1 d groups plus a ts us rest e f refl w (sum_onward h (before 1 plus a us refl) d (left_room l d e f w)) (full l 0 (d + 1) groups us f rest free (prod_onward k (shut 1 0 rest (omega arith) free) (d + 1) (right_room l d e f w)))
  sum_onward {l} {g} (difference {groups} {a} {ts} {us} {rest} {e} {f} h k) free d w =
      grow l 1 d groups minus a ts us rest e f refl w (sum_onward h (before 1 minus a us refl) d (left_room l d e f w)) (full l 0 (d + 1) groups us f rest free (prod_onward k (shut 1 0 rest (omega arith) free) (d + 1) (right_room l d e f w)))

  rel_onward : {l : Limits} {g : ℕ} {ts rest : List Mark} {e : Term} → IsRel l g ts e rest → Free 2 rest → (d : ℕ) → Within l (d + height e) → Onward l 2 d g ts e rest
  rel_onward {l} {g} (a_sum {groups} {ts} {rest} {e} h) free d w = up l 2 d groups ts e rest (full l 1 d groups ts e rest free (sum_onward h (shut 2 1 rest (omega arith) free) d w))
  rel_onward {l} {g} (is_less {groups} {a} {ts} {us} {rest} {e} {f} h k) free d w =
      grow l 2 d groups less a ts us rest e f refl w (rel_onward h (before 2 less a us refl) d (left_room l d e f w)) (full l 1 (d + 1) groups us f rest free (sum_onward k (shut 2 1 rest (omega arith) free) (d + 1) (right_room l d e f w)))
  rel_onward {l} {g} (is_at_most {groups} {a} {ts} {us} {rest} {e} {f} h k) free d w =
      grow l 2 d groups less_equal a ts us rest e f refl w (rel_onward h (before 2 less_equal a us refl) d (left_room l d e f w)) (full l 1 (d + 1) groups us f rest free (sum_onward k (shut 2 1 rest (omega arith) free) (d + 1) (right_room l d e f w)))
  rel_onward {l} {g} (is_greater {groups} {a} {ts} {us} {rest} {e} {f} h k) free d w =
      grow l 2 d groups greater a ts us rest e f refl w (rel_onward h (before 2 greater a us refl) d (left_room l d e f w)) (full l 1 (d + 1) groups us f rest free (sum_onward k (shut 2 1 rest (omega arith) free) (d + 1) (right_room l d e f w)))
  rel_onward {l} {g} (is_at_least {groups} {a} {ts} {us} {rest} {e} {f} h k) free d w =
      grow l 2 d groups greater_equal a ts us rest e f refl w (rel_onward h (before 2 greater_equal a us refl) d (left_room l d e f w)) (full l 1 (d + 1) groups us f rest free (sum_onward k (shut 2 1 rest (omega arith) free) (d + 1) (right_room l d e f w)))

  eq_onward : {l : Limits} {g : ℕ} {ts rest : List Mark} {e : Term} → IsEq l g ts e rest → Free 3 rest → (d : ℕ) → Within l (d + height e) → Onward l 3 d g ts e rest
  eq_onward {l} {g} (a_rel {groups} {ts} {rest} {e} h) free d w = up l 3 d groups ts e rest (full l 2 d groups ts e rest free (rel_onward h (shut 3 2 rest (omega arith) free) d w))
  eq_onward {l} {g} (is_equal {groups} {a} {ts} {us} {rest} {e} {f} h k) free d w =
      grow l 3 d groups equal_equal a ts us rest e f refl w (eq_onward h (before 3 equal_equal a us refl) d (left_room l d e f w)) (full l 2 (d + 1) groups us f rest free (rel_onward k (shut 3 2 rest (omega arith) free) (d + 1) (right_room l d e f w)))
  eq_onward {l} {g} (is_other {groups} {a} {ts} {us} {rest} {e} {f} h k) free d w =
      grow l 3 d groups not_equal a ts us rest e f refl w (eq_onward h (before 3 not_equal a us refl) d (left_room l d e f w)) (full l 2 (d + 1) groups us f rest free (rel_onward k (shut 3 2 rest (omega arith) free) (d + 1) (right_room l d e f w)))

  and_onward : {l : Limits} {g : ℕ} {ts rest : List Mark} {e : Term} → IsAnd l g ts e rest → Free 4 rest → (d : ℕ) → Within l (d + height e) → Onward l 4 d g ts e rest
  and_onward {l} {g} (an_eq {groups} {ts} {rest} {e} h) free d w = up l 4 d groups ts e rest (full l 3 d groups ts e rest free (eq_onward h (shut 4 3 rest (omega arith) free) d w))
  and_onward {l} {g} (conjunction {groups} {a} {ts} {us} {rest} {e} {f} h k) free d w =
      grow l 4 d groups and_and a ts us rest e f refl w (and_onward h (before 4 and_and a us refl) d (left_room l d e f w)) (full l 3 (d + 1) groups us f rest free (eq_onward k (shut 4 3 rest (omega arith) free) (d + 1) (right_room l d e f w)))

  expr_onward : {l : Limits} {g : ℕ} {ts rest : List Mark} {e : Term} → IsExpr l g ts e rest → Free 5 rest → (d : ℕ) → Within l (d + height e) → Onward l 5 d g ts e rest
  expr_onward {l} {g} (an_and {groups} {ts} {rest} {e} h) free d w = up l 5 d groups ts e rest (full l 4 d groups ts e rest free (and_onward h (shut 5 4 rest (omega arith) free) d w))
  expr_onward {l} {g} (disjunction {groups} {a} {ts} {us} {rest} {e} {f} h k) free d w =
      grow l 5 d groups or_or a ts us rest e f refl w (expr_onward h (before 5 or_or a us refl) d (left_room l d e f w)) (full l 4 (d + 1) groups us f rest free (and_onward k (shut 5 4 rest (omega arith) free) (d + 1) (right_room l d e f w)))

-- an expression, before a sign that binds nowhere
pub expr_said : {l : Limits} {g : ℕ} {ts rest : List Mark} {e : Term} → IsExpr l g ts e rest → next_binding rest ≡ 0 → (d : ℕ) → Within l (d + height e) →
    Says l a_term (rule (level 6 d g)) ts (lined ts e) rest
expr_said {l} {g} {ts} {rest} {e} h is d w = full l 5 d g ts e rest (ends 6 rest is) (expr_onward h (ends 5 rest is) d w)
