-- The signs of a printed term are read as the term.
use Rattle.std.proofs.Common.{◌≡◌, ◌≢◌, ◌≤◌, ◌<◌, ◌+◌, ◌-◌, ℕ, zero, suc, refl, sym, ap, ◌∙◌, subst, List, [], ◌∷◌, Bool, true, false, nat_lt, lt-ltb, eq-eqb, arith}
use Rattle.std.proofs.lemmas.Bool.{ne_eqb}
use Rattle.gs_tree.specs.Sign.{Sign, open_paren, close_paren, comma}
use Rattle.gs_tree.specs.Program.{Term, num, lit, var, atoi, strcmp, neg, not_, two}
use Rattle.gs_tree.specs.Unlined.{unlined_term}
use Rattle.gs_tree.specs.declared.tree.Op.{Op}
use Rattle.gs_tree.specs.declared.tree.Op.TheVariants.{Or, And, Eq, Ne, Lt, Le, Gt, Ge, Add, Sub, Mul, Div, Rem}
use Rattle.gs_spelling.specs.Signs.{op_sign, term_signs}
use Rattle.gs_parse.specs.Symbols.{binding, operator}
use Rattle.gs_parse.specs.Notation.{Lined, a_term, level, tail}
use Rattle.gs_parse.specs.Grammar.{rule, judged, height, begins_operand, goes_on, joined, expr}
use Rattle.gs_parse.specs.Reading.{limited, Accepts}
use Rattle.gs_reprint.proofs.Again.{Reads, mark, Passes, gives_it, takes, chooses, passes, reads, word_again}

-- a term that differs in its lines alone
abbrev pub Same : Term → Lined → Type 0
Same t v = unlined_term v.term ≡ unlined_term t

-- lines don't change the height
height_unlined : (t : Term) → height (unlined_term t) ≡ height t
height_unlined (num line v) = refl
height_unlined (lit line s) = refl
height_unlined (var n) = refl
height_unlined (atoi a) = ap (λ z. z + 1) (height_unlined a)
height_unlined (strcmp a b) = cc (height_unlined a, height_unlined b)
height_unlined (neg a) = ap (λ z. z + 1) (height_unlined a)
height_unlined (not_ a) = ap (λ z. z + 1) (height_unlined a)
height_unlined (two op a b) = cc (height_unlined a, height_unlined b)

-- its height is the same
same_height : (s t : Term) → unlined_term s ≡ unlined_term t → height s ≡ height t
same_height s t e = sym (height_unlined s) ∙ ap height e ∙ height_unlined t

-- a leaf at least
height_some : (t : Term) → 1 ≤ height t
height_some (num line v) = omega arith
height_some (lit line s) = omega arith
height_some (var n) = omega arith
height_some (atoi a) = omega arith
height_some (strcmp a b) = omega arith
height_some (neg a) = omega arith
height_some (not_ a) = omega arith
height_some (two op a b) = omega arith

-- how tightly the next sign binds, 0 for the end
abbrev pub next_binding : List Sign → ℕ
next_binding [] = 0
next_binding (s ∷ gs) = binding s

-- a limit that is kept is accepted
accepts_room : (b : Bool) → b ≡ true → Accepts limited (judged true b)
accepts_room true e = tt
accepts_room false e = absurd (cc)

-- a depth below the limit is accepted
accepts_less : (n : ℕ) → n < 64 → Accepts limited (judged true (nat_lt n 64))
accepts_less n lt = accepts_room (nat_lt n 64) (lt-ltb n 64 lt)

-- ---- tails

-- a sign that binds otherwise goes on with no term at this level
no_tail : (m depth : ℕ) (left : Term) (gs : List Sign) → next_binding gs ≢ suc m → Passes (goes_on (suc m) depth left) gs
unfolding goes_on
no_tail m depth left [] ne = tt
no_tail m depth left (s ∷ gs) ne = λ line. ap (λ z. judged z (nat_lt (depth + height left) 64)) (ne_eqb (binding s) (suc m) ne)

-- nothing follows at this level
tail_none : (m depth groups : ℕ) (t : Term) (a : Lined) (gs : List Sign) → Same t a → next_binding gs ≢ suc m →
    Reads a_term (rule (tail m depth groups a)) (Same t) gs gs
tail_none m depth groups t a gs e ne = passes (no_tail m depth a.term gs ne) (gives_it e)

-- one level up
level_up : (m depth groups : ℕ) (t : Term) (gs left : List Sign) → next_binding left ≢ suc m → Reads a_term (rule (level m depth groups)) (Same t) gs left →
    Reads a_term (rule (level (suc m) depth groups)) (Same t) gs left
level_up m depth groups t gs left ne h = reads h (λ a e. reads (tail_none m depth groups t a left e ne) (λ v f. gives_it f))

-- some levels up
levels_up : (steps low high depth groups : ℕ) (t : Term) (gs left : List Sign) → high ≡ steps + low → ((m : ℕ) → low ≤ m → m < high → next_binding left ≢ suc m) →
    Reads a_term (rule (level low depth groups)) (Same t) gs left → Reads a_term (rule (level high depth groups)) (Same t) gs left
levels_up zero low high depth groups t gs left e free h =
    let is : low ≡ high = omega arith in
    subst (λ (z : ℕ). Reads a_term (rule (level z depth groups)) (Same t) gs left) is h
levels_up (suc steps) low high depth groups t gs left e free h =
    let is : suc (steps + low) ≡ high = omega arith in
    subst (λ (z : ℕ). Reads a_term (rule (level z depth groups)) (Same t) gs left) is
    (level_up (steps + low) depth groups t gs left (free (steps + low) (omega arith) (omega arith))
    (levels_up steps low (steps + low) depth groups t gs left refl (λ m le lt. free m le (omega arith)) h))

-- to the top, before what binds nowhere
whole : (low depth groups : ℕ) (t : Term) (gs left : List Sign) → low ≤ 6 → next_binding left ≡ 0 →
    Reads a_term (rule (level low depth groups)) (Same t) gs left → Reads a_term (rule (expr depth groups)) (Same t) gs left
whole low depth groups t gs left le e h = levels_up (6 - low) low 6 depth groups t gs left (omega arith) (λ m l r. omega (arith, e)) h

-- ---- operators

-- an operator is read from its sign
operator_is : (op : Op) → operator (op_sign op) ≡ op
operator_is Or = refl
operator_is And = refl
operator_is Eq = refl
operator_is Ne = refl
operator_is Lt = refl
operator_is Le = refl
operator_is Gt = refl
operator_is Ge = refl
operator_is Add = refl
operator_is Sub = refl
operator_is Mul = refl
operator_is Div = refl
operator_is Rem = refl

-- an operator's level, less one
abbrev below : Op → ℕ
below Or = 5
below And = 4
below Eq = 3
below Ne = 3
below Lt = 2
below Le = 2
below Gt = 2
below Ge = 2
below Add = 1
below Sub = 1
below Mul = 0
below Div = 0
below Rem = 0

-- an operator's sign binds at its level
binds : (op : Op) → binding (op_sign op) ≡ suc (below op)
binds Or = refl
binds _ = refl

-- there are six levels
below_top : (op : Op) → below op ≤ 5
below_top Or = omega arith
below_top _ = omega arith

-- an operator at its level goes on, where there is room below it
goes : (m depth : ℕ) (left : Term) (s : Sign) (line : ℕ) → binding s ≡ suc m → depth + height left < 64 → Accepts limited (goes_on (suc m) depth left (mark line s))
unfolding goes_on
goes m depth left s line e lt =
    subst (λ (z : Bool). Accepts limited (judged z (nat_lt (depth + height left) 64))) (sym (eq-eqb (binding s) (suc m) e)) (accepts_less (depth + height left) lt)

-- operators on terms that differ in their lines alone
two_same : (op op2 : Op) (a b c d : Term) → op2 ≡ op → unlined_term a ≡ unlined_term c → unlined_term b ≡ unlined_term d →
    unlined_term (two op2 a b) ≡ unlined_term (two op c d)
two_same op op2 a b c d e f g = cc

-- two operands of an operator, at its level
two_level : (m depth groups : ℕ) (op : Op) (a b : Term) (gs mid left : List Sign) → binding (op_sign op) ≡ suc m → depth + height a < 64 → next_binding left ≡ 0 →
    Reads a_term (rule (level 0 depth groups)) (Same a) gs (op_sign op ∷ mid) → Reads a_term (rule (level 0 (depth + 1) groups)) (Same b) mid left →
    Reads a_term (rule (level (suc m) depth groups)) (Same (two op a b)) gs left
two_level m depth groups op a b gs mid left is room end ra rb =
    reads (levels_up m 0 m depth groups a gs (op_sign op ∷ mid) (omega arith) (λ l le lt. omega (arith, is)) ra) (λ v e.
    reads {Q = Same (two op a b)} (chooses (λ line. goes m depth v.term (op_sign op) line is (omega (arith, same_height v.term a e))) (λ line.
    reads (levels_up m 0 m (depth + 1) groups b mid left (omega arith) (λ l le lt. omega (arith, end)) rb) (λ w f.
    let same = two_same op (operator (op_sign op)) v.term w.term a b (operator_is op) e f in
    reads (tail_none m depth groups (two op a b) (joined (mark line (op_sign op)) v w) left same (omega (arith, end))) (λ u g. gives_it g)))) (λ u g. gives_it g))

-- ---- terms

-- what opens a group, and what closes it
group : (depth groups : ℕ) (t : Term) (gs left : List Sign) → groups < 64 → Reads a_term (rule (expr depth (groups + 1))) (Same t) gs (close_paren ∷ left) →
    Reads a_term (rule (level 0 depth groups)) (Same t) (open_paren ∷ gs) left
unfolding begins_operand
group depth groups t gs left lt h = takes (λ line. accepts_less groups lt) (λ line. reads h (λ v e. word_again (gives_it e)))

-- a term as an operand
pub operand_again : (t : Term) (depth groups : ℕ) (gs : List Sign) → depth + height t ≤ 64 → groups + height t ≤ 64 →
    Reads a_term (rule (level 0 depth groups)) (Same t) (term_signs t gs) gs
unfolding begins_operand
operand_again (num line v) depth groups gs le room = takes (λ l. tt) (λ l. gives_it refl)
operand_again (lit line s) depth groups gs le room = takes (λ l. tt) (λ l. gives_it refl)
operand_again (var n) depth groups gs le room = takes (λ l. tt) (λ l. gives_it refl)
operand_again (atoi a) depth groups gs le room =
    let h = operand_again a (depth + 1) groups (close_paren ∷ gs) (omega arith) (omega arith) in
    takes (λ l. accepts_less (depth + 1) (omega (arith, height_some a))) (λ l.
    word_again (reads (whole 0 (depth + 1) groups a _ (close_paren ∷ gs) (omega arith) refl h) (λ v e. word_again (gives_it (ap atoi e)))))
operand_again (strcmp a b) depth groups gs le room =
    let h = operand_again a (depth + 1) groups (comma ∷ term_signs b (close_paren ∷ gs)) (omega arith) (omega arith) in
    let k = operand_again b (depth + 1) groups (close_paren ∷ gs) (omega arith) (omega arith) in
    takes (λ l. accepts_less (depth + 1) (omega (arith, height_some a))) (λ l.
    word_again (reads (whole 0 (depth + 1) groups a _ (comma ∷ term_signs b (close_paren ∷ gs)) (omega arith) refl h) (λ v e.
    word_again (reads (whole 0 (depth + 1) groups b _ (close_paren ∷ gs) (omega arith) refl k) (λ w f. word_again (gives_it (cc)))))))
operand_again (neg a) depth groups gs le room =
    let h = operand_again a (depth + 1) (groups + 1) (close_paren ∷ gs) (omega arith) (omega arith) in
    group depth groups (neg a) _ gs (omega (arith, height_some a))
    (whole 0 depth (groups + 1) (neg a) _ (close_paren ∷ gs) (omega arith) refl
    (takes (λ l. accepts_less (depth + 1) (omega (arith, height_some a))) (λ l. reads h (λ v e. gives_it (ap neg e)))))
operand_again (not_ a) depth groups gs le room =
    let h = operand_again a (depth + 1) (groups + 1) (close_paren ∷ gs) (omega arith) (omega arith) in
    group depth groups (not_ a) _ gs (omega (arith, height_some a))
    (whole 0 depth (groups + 1) (not_ a) _ (close_paren ∷ gs) (omega arith) refl
    (takes (λ l. accepts_less (depth + 1) (omega (arith, height_some a))) (λ l. reads h (λ v e. gives_it (ap not_ e)))))
operand_again (two op a b) depth groups gs le room =
    let h = operand_again a depth (groups + 1) (op_sign op ∷ term_signs b (close_paren ∷ gs)) (omega arith) (omega arith) in
    let k = operand_again b (depth + 1) (groups + 1) (close_paren ∷ gs) (omega arith) (omega arith) in
    group depth groups (two op a b) _ gs (omega (arith, height_some a))
    (whole (suc (below op)) depth (groups + 1) (two op a b) _ (close_paren ∷ gs) (omega (arith, below_top op)) refl
    (two_level (below op) depth (groups + 1) op a b _ _ (close_paren ∷ gs) (binds op) (omega arith) refl h k))

-- a term as an expression, before a sign that binds nowhere
pub term_again : (t : Term) (depth : ℕ) (gs : List Sign) → depth + height t ≤ 64 → next_binding gs ≡ 0 →
    Reads a_term (rule (expr depth 0)) (Same t) (term_signs t gs) gs
term_again t depth gs le e = whole 0 depth 0 t _ gs (omega arith) e (operand_again t depth 0 gs le (omega arith))
