-- Orders that were made stay, and say what they were made from.
use Rattle.std.proofs.Common.{◌≡◌, ◌≢◌, ◌<◌, ◌≤◌, ◌+◌, ℕ, zero, suc, refl, sym, ap, ◌∙◌, subst, List, [], ◌∷◌, ◌++◌, set, drop, map, get_or, length, Option, Some, None, arith, slice_get, Result, Ok, Err, IfOk, OnOk}
use Rattle.std.specs.Option.{option_map}
use Rattle.std.proofs.Math.Seq.{drop-cons}
use Rattle.std.proofs.Math.ListN.{length-append, length-set}
use Rattle.std.specs.declared.vec.Vec.{Vec}
use Rattle.std.specs.declared.alloc.Global.{Global}
use Rattle.gs_tree.specs.declared.tree.Assign.{Assign}
use Rattle.gs_tree.specs.declared.tree.Expr.{Expr}
use Rattle.gs_tree.specs.declared.tree.Stmt.{Stmt}
use Rattle.gs_tree.specs.declared.tree.Stmt.TheVariants as stmt
use Rattle.gs_tree.specs.declared.tree.Stmt.TheFolds.{fold-roll-Stmt}
use Rattle.gs_tree.specs.declared.tree.Stmt.TheOpen.{Stmt-F}
use Rattle.gs_tree.specs.Program.{Term, Setting, Code, block, choose, while, for, Codes, MaybeCodes, without, otherwise}
use Rattle.gs_tree.specs.View.{setting_of, term_of, code_step, code_of, codes_of}
use Rattle.gs_talk.specs.declared.formula.Formula.{Formula}
use Rattle.gs_talk.specs.Terms.{Placed, placed}
use Rattle.gs_talk.specs.Talk.{test_or_true}
use Rattle.gs_talk.specs.View.{placed_of}
use Rattle.gs_orders.specs.declared.order.Order.{Order}
use Rattle.gs_orders.specs.declared.order.Order.TheVariants as order
use Rattle.gs_orders.specs.Steps.{step_of, test}
use Rattle.gs_orders.specs.Says.{Scene, IsAt, SaysAll, SaysElse, SaysFirst}
use Rattle.gs_orders.specs.Emitted.{Agrees, Kept, Added, Wrote, WroteAll, WroteMaybe, WroteFirst, WroteTest, WroteElseOf}

get_front : (xs ys : List Order) (i : ℕ) → i < length xs → slice_get (xs ++ ys) i ≡ slice_get xs i
get_front [] ys i lt = absurd (omega arith)
get_front (x ∷ xs) ys zero lt = refl
get_front (x ∷ xs) ys (suc i) lt = get_front xs ys i (omega arith)

get_last : (xs : List Order) (x : Order) → slice_get (xs ++ x ∷ []) (length xs) ≡ Some x
get_last [] x = refl
get_last (y ∷ xs) x = get_last xs x

get_set : (xs : List Order) (i : ℕ) (x : Order) → i < length xs → slice_get (set xs i x) i ≡ Some x
get_set [] i x lt = absurd (omega arith)
get_set (y ∷ xs) zero x lt = refl
get_set (y ∷ xs) (suc i) x lt = get_set xs i x (omega arith)

get_other : (xs : List Order) (i j : ℕ) (x : Order) → j ≢ i → slice_get (set xs i x) j ≡ slice_get xs j
get_other [] i j x ne = refl
get_other (y ∷ xs) zero zero x ne = absurd (ne refl)
get_other (y ∷ xs) zero (suc j) x ne = refl
get_other (y ∷ xs) (suc i) zero x ne = refl
get_other (y ∷ xs) (suc i) (suc j) x ne = get_other xs i j x (λ e. ne (ap suc e))

longer : (old new : List Order) (here : ℕ) (o : Order) → Added old here o new → length new ≡ length old + 1
longer old new here o h = ap length h.1 ∙ length-append old (o ∷ [])

pub added_kept : (old new : List Order) (here : ℕ) (o : Order) → Added old here o new → Kept old new
added_kept old new here o h =
    let l = longer old new here o h in
    (omega arith, λ i lt. ap (λ xs. slice_get xs i) h.1 ∙ get_front old (o ∷ []) i lt)

pub added_at : (old new orders : List Order) (here : ℕ) (o : Order) → Added old here o new → Agrees (length old) (length new) new orders → IsAt orders here (step_of o)
added_at old new orders here o h agrees =
    let l = longer old new here o h in
    let same : slice_get orders here ≡ slice_get new here = agrees here (omega (arith, h.0)) (omega (arith, h.0)) in
    ap (option_map step_of) (same ∙ ap (slice_get new) h.0 ∙ ap (λ xs. slice_get xs (length old)) h.1 ∙ get_last old o)

pub agrees_later : (from later to : ℕ) (a b : List Order) → from ≤ later → Agrees from to a b → Agrees later to a b
agrees_later from later to a b le h i from_i i_to = h i (omega arith) i_to

pub agrees_back : (from : ℕ) (mid new orders : List Order) → Kept mid new → Agrees from (length new) new orders → Agrees from (length mid) mid orders
agrees_back from mid new orders kept h i from_i i_to = h i from_i (omega (arith, kept.0)) ∙ kept.1 i i_to

pub kept_then : (old mid new : List Order) → Kept old mid → Kept mid new → Kept old new
kept_then old mid new h k = (omega (arith, h.0, k.0), λ i lt. k.1 i (omega (arith, h.0)) ∙ h.1 i lt)

pub kept_same : (xs : List Order) → Kept xs xs
kept_same xs = (omega arith, λ i lt. refl)

-- a test behind the statements that it leads to
pub wrote_test : (sc : Scene) (old mid new : List Order) (here next line then_at else_at : ℕ) (t : Term) (f : Formula) (then_do : Codes) →
    Kept old mid → WroteAll sc old then_at then_do next mid → placed_of f ≡ placed sc.names t → Added mid here (order.Test line f then_at else_at) new → WroteTest sc old here line t then_do else_at next new
wrote_test sc old mid new here next line then_at else_at t f then_do k w e h = λ orders agrees.
    let last = added_kept mid new here (order.Test line f then_at else_at) h in (
      then_at,
      added_at mid new orders here (order.Test line f then_at else_at) h (agrees_later (length old) (length mid) (length new) new orders k.0 agrees) ∙ ap (λ (x : Placed). Some (test line x then_at else_at)) e,
      w orders (agrees_back (length old) mid new orders last agrees),
    )

abbrev pub maybe_else : Option (Vec Stmt Global) → MaybeCodes
maybe_else None = without
maybe_else (Some body) = otherwise (codes_of body.items)

says_else : (sc : Scene) (old mid orders : List Order) (else_at next : ℕ) (no_do : Option (Vec Stmt Global)) → WroteElseOf sc old else_at no_do next mid → Agrees (length old) (length mid) mid orders → SaysElse sc orders else_at (maybe_else no_do) next
says_else sc old mid orders else_at next None w agrees = w.0
says_else sc old mid orders else_at next (Some body) w agrees = w orders agrees

-- an `else`, and the test and its statements behind it
pub wrote_if : (sc : Scene) (old mid new : List Order) (here next line else_at : ℕ) (t : Term) (then_do : Codes) (no_do : Option (Vec Stmt Global)) →
    Kept old mid → WroteElseOf sc old else_at no_do next mid → Kept mid new → WroteTest sc mid here line t then_do else_at next new → Wrote sc old here (choose line t then_do (maybe_else no_do)) next new
wrote_if sc old mid new here next line else_at t then_do no_do k1 w1 k2 w2 = λ orders agrees.
    let x = w2 orders (agrees_later (length old) (length mid) (length new) new orders k1.0 agrees) in
    (x.0, else_at, x.1, x.2, says_else sc old mid orders else_at next no_do w1 (agrees_back (length old) mid new orders k2 agrees))

-- the same, where the call that writes the test is the last
pub wrote_if_last : {E : Type 0} (sc : Scene) (old mid new : List Order) (r : Result ℕ E) (next line else_at : ℕ) (t : Term) (then_do : Codes) (no_do : Option (Vec Stmt Global)) →
    Kept old mid → WroteElseOf sc old else_at no_do next mid → OnOk r (Kept mid new) → IfOk r (λ here. WroteTest sc mid here line t then_do else_at next new) →
    IfOk r (λ here. Wrote sc old here (choose line t then_do (maybe_else no_do)) next new)
wrote_if_last sc old mid new (Ok here) next line else_at t then_do no_do k1 w1 k2 w2 = wrote_if sc old mid new here next line else_at t then_do no_do k1 w1 k2 w2
wrote_if_last sc old mid new (Err e) next line else_at t then_do no_do k1 w1 k2 w2 = w2

while_longer : (old one_ two_ new : List Order) (here : ℕ) (o x : Order) → Added old here o one_ → Kept one_ two_ → new ≡ set two_ here x → (length new ≡ length two_) × (here < length two_)
while_longer old one_ two_ new here o x h k e =
    let l = longer old one_ here o h in
    (ap length e ∙ length-set two_ here x, omega (arith, h.0, k.0))

pub kept_while : (old one_ two_ new : List Order) (here : ℕ) (o x : Order) → Added old here o one_ → Kept one_ two_ → new ≡ set two_ here x → Kept old new
kept_while old one_ two_ new here o x h k e =
    let l = while_longer old one_ two_ new here o x h k e in
    let both = kept_then old one_ two_ (added_kept old one_ here o h) k in
    (omega (arith, l.0, both.0), λ i lt. ap (λ xs. slice_get xs i) e ∙ get_other two_ here i x (λ is. absurd (omega (arith, h.0))) ∙ both.1 i lt)

-- a loop's place that was kept free, its body, and its test written there
pub wrote_while : (sc : Scene) (old one_ two_ new : List Order) (here next line then_at : ℕ) (o : Order) (t : Term) (f : Formula) (body : Codes) →
    Added old here o one_ → Kept one_ two_ → WroteAll sc one_ then_at body here two_ → placed_of f ≡ placed sc.names t → new ≡ set two_ here (order.Test line f then_at next) → Wrote sc old here (while line t body) next new
wrote_while sc old one_ two_ new here next line then_at o t f body h k w e is = λ orders agrees.
    let x : Order = order.Test line f then_at next in
    let l = while_longer old one_ two_ new here o x h k is in
    let one_longer = longer old one_ here o h in
    let here_is : slice_get orders here ≡ slice_get new here = agrees here (omega (arith, h.0)) (omega (arith, l.0, l.1)) in (
      then_at,
      ap (option_map step_of) (here_is ∙ ap (λ xs. slice_get xs here) is ∙ get_set two_ here x l.1) ∙ ap (λ (y : Placed). Some (test line y then_at next)) e,
      w orders (λ i from_i i_to. agrees i (omega (arith, one_longer)) (omega (arith, l.0)) ∙ ap (λ xs. slice_get xs i) is ∙ get_other two_ here i x (λ j. absurd (omega (arith, h.0, one_longer)))),
    )

-- a `for`: its test's place, its step, its body, its test written, its first assignment
pub wrote_for : (sc : Scene) (old one_ two_ three four new : List Order) (here test_at next line then_at back : ℕ) (o : Order) (first step : Option Setting) (t : Option Term) (f : Formula) (body : Codes) →
    Added old test_at o one_ → Kept one_ two_ → WroteMaybe sc one_ back step test_at two_ → Kept two_ three → WroteAll sc two_ then_at body back three → placed_of f ≡ placed sc.names (test_or_true t line) → four ≡ set three test_at (order.Test line f then_at next) →
    Kept four new → WroteMaybe sc four here first test_at new → Wrote sc old here (for line first t step body) next new
wrote_for sc old one_ two_ three four new here test_at next line then_at back o first step t f body h k1 w1 k2 w2 e is k4 w4 = λ orders agrees.
    let x : Order = order.Test line f then_at next in
    let up : Kept one_ three = kept_then one_ two_ three k1 k2 in
    let l = while_longer old one_ three four test_at o x h up is in
    let one_longer = longer old one_ test_at o h in
    let until4 = agrees_back (length old) four new orders k4 agrees in
    let there : slice_get orders test_at ≡ slice_get four test_at = until4 test_at (omega (arith, h.0)) (omega (arith, l.0, l.1)) in
    let until3 : Agrees (length one_) (length three) three orders = λ i from_i i_to. until4 i (omega (arith, one_longer)) (omega (arith, l.0)) ∙ ap (λ xs. slice_get xs i) is ∙ get_other three test_at i x (λ j. absurd (omega (arith, h.0, one_longer))) in (
      test_at,
      then_at,
      back,
      w4 orders (agrees_later (length old) (length four) (length new) new orders (omega (arith, l.0, up.0, one_longer)) agrees),
      ap (option_map step_of) (there ∙ ap (λ xs. slice_get xs test_at) is ∙ get_set three test_at x l.1) ∙ ap (λ (y : Placed). Some (test line y then_at next)) e,
      w2 orders (agrees_later (length one_) (length two_) (length three) three orders k1.0 until3),
      w1 orders (agrees_back (length one_) two_ three orders k2 until3),
    )

pub wrote_all : (sc : Scene) (old mid new : List Order) (here later next i : ℕ) (body : List Stmt) (s : Stmt) → i < length body → s ≡ get_or body i s →
    Kept old mid → WroteAll sc old later (codes_of (drop (i + 1) body)) next mid → Kept mid new → Wrote sc mid here (code_of s) later new → WroteAll sc old here (codes_of (drop i body)) next new
wrote_all sc old mid new here later next i body s lt is k1 w1 k2 w2 = λ orders agrees.
    let next_is : suc i ≡ i + 1 = omega arith in
    let cons : drop i body ≡ s ∷ drop (i + 1) body = drop-cons body i s lt ∙ ap (λ (y : Stmt). y ∷ drop (suc i) body) (sym is) ∙ ap (λ j. s ∷ drop j body) next_is in
    subst (λ (xs : List Stmt). SaysAll sc orders here (codes_of xs) next) (sym cons)
    (later, w2 orders (agrees_later (length old) (length mid) (length new) new orders k1.0 agrees), w1 orders (agrees_back (length old) mid new orders k2 agrees))

pub wrote_first : (sc : Scene) (old mid new : List Order) (here later next i : ℕ) (first : List Assign) (a : Assign) → i < length first → a ≡ get_or first i a →
    Kept old mid → WroteFirst sc old later (map setting_of (drop (i + 1) first)) next mid → Kept mid new → Wrote sc mid here (Rattle.gs_tree.specs.Program.set (setting_of a)) later new → WroteFirst sc old here (map setting_of (drop i first)) next new
wrote_first sc old mid new here later next i first a lt is k1 w1 k2 w2 = λ orders agrees.
    let next_is : suc i ≡ i + 1 = omega arith in
    let cons : drop i first ≡ a ∷ drop (i + 1) first = drop-cons first i a lt ∙ ap (λ (y : Assign). y ∷ drop (suc i) first) (sym is) ∙ ap (λ j. a ∷ drop j first) next_is in
    subst (λ (xs : List Assign). SaysFirst sc orders here (map setting_of xs) next) (sym cons)
    (later, w2 orders (agrees_later (length old) (length mid) (length new) new orders k1.0 agrees), w1 orders (agrees_back (length old) mid new orders k2 agrees))

-- the same, where the call that makes the first assignment is the last
pub wrote_for_last : {E : Type 0} (sc : Scene) (old one_ two_ three four new : List Order) (r : Result ℕ E) (test_at next line then_at back : ℕ) (o : Order) (first step : Option Setting) (t : Option Term) (f : Formula) (body : Codes) →
    Added old test_at o one_ → Kept one_ two_ → WroteMaybe sc one_ back step test_at two_ → Kept two_ three → WroteAll sc two_ then_at body back three → placed_of f ≡ placed sc.names (test_or_true t line) → four ≡ set three test_at (order.Test line f then_at next) →
    OnOk r (Kept four new) → IfOk r (λ here. WroteMaybe sc four here first test_at new) → IfOk r (λ here. Wrote sc old here (for line first t step body) next new)
wrote_for_last sc old one_ two_ three four new (Ok here) test_at next line then_at back o first step t f body h k1 w1 k2 w2 e is k4 w4 =
    wrote_for sc old one_ two_ three four new here test_at next line then_at back o first step t f body h k1 w1 k2 w2 e is k4 w4
wrote_for_last sc old one_ two_ three four new (Err e) test_at next line then_at back o first step t f body h k1 w1 k2 w2 same is k4 w4 = w4

-- ---- the tree of the code

pub code_block : (line : ℕ) (body : Vec Stmt Global) → code_of (stmt.Block line body) ≡ block line (codes_of body.items)
code_block line body = ap code_of (sym (stmt.rolls-Block line body)) ∙ fold-roll-Stmt Code code_step (Stmt-F.Block line body)

pub code_if : (line : ℕ) (cond : Expr) (then_do : Vec Stmt Global) (no : Option (Vec Stmt Global)) → code_of (stmt.If line cond then_do no) ≡ choose line (term_of cond) (codes_of then_do.items) (maybe_else no)
code_if line cond then_do None = ap code_of (sym (stmt.rolls-If line cond then_do None)) ∙ fold-roll-Stmt Code code_step (Stmt-F.If line cond then_do None)
code_if line cond then_do (Some body) = ap code_of (sym (stmt.rolls-If line cond then_do (Some body))) ∙ fold-roll-Stmt Code code_step (Stmt-F.If line cond then_do (Some body))

pub code_while : (line : ℕ) (cond : Expr) (body : Vec Stmt Global) → code_of (stmt.While line cond body) ≡ while line (term_of cond) (codes_of body.items)
code_while line cond body = ap code_of (sym (stmt.rolls-While line cond body)) ∙ fold-roll-Stmt Code code_step (Stmt-F.While line cond body)

pub code_for : (line : ℕ) (first : Option Assign) (cond : Option Expr) (step : Option Assign) (body : Vec Stmt Global) → code_of (stmt.For line first cond step body) ≡ for line (option_map setting_of first) (option_map term_of cond) (option_map setting_of step) (codes_of body.items)
code_for line first cond step body = ap code_of (sym (stmt.rolls-For line first cond step body)) ∙ fold-roll-Stmt Code code_step (Stmt-F.For line first cond step body)
