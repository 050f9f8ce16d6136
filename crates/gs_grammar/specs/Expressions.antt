-- The productions of expressions: the signs that they begin with, what these say, and the signs that are left. `groups` counts the
-- parentheses of grouping that are open around them. Operators group to the left.
use Rattle.std.specs.Prelude.{ℕ, ℤ, ◌+◌, List, ◌∷◌}
use Rattle.gs_tree.specs.Program.{Name, Term, num, lit, var, atoi, strcmp, neg, not_, two}
use Rattle.gs_tree.specs.Sign.{Mark, number, string, atoi_, strcmp_, less_equal, greater_equal, equal_equal, not_equal, and_and, or_or, open_paren, close_paren, comma, plus, minus, star, slash, percent, less, greater, bang}
use Rattle.gs_tree.specs.declared.tree.Op.TheVariants.{Or, And, Eq, Ne, Lt, Le, Gt, Ge, Add, Sub, Mul, Div, Rem}
use Rattle.gs_parse.specs.Reading.{Limits}
use Rattle.gs_grammar.specs.Signs.{at, called, MayBeOpen}

mutual
  -- prim = number | string | ident | "atoi" "(" expr ")" | "strcmp" "(" expr "," expr ")" | "(" expr ")"
  pub data IsPrim (l : Limits) : (groups : ℕ) → List Mark → Term → List Mark → Type 0 where
    a_number : {groups line : ℕ} {v : ℤ} {rest : List Mark} → IsPrim l groups (at line (number v) ∷ rest) (num line v) rest
    a_string : {groups line : ℕ} {s : List ℕ} {rest : List Mark} → IsPrim l groups (at line (string s) ∷ rest) (lit line s) rest
    a_name : {groups : ℕ} {n : Name} {rest : List Mark} → IsPrim l groups (called n ∷ rest) (var n) rest
    an_atoi : {groups a b c : ℕ} {ts rest : List Mark} {e : Term} →
        IsExpr l groups ts e (at c close_paren ∷ rest) →
        IsPrim l groups (at a atoi_ ∷ at b open_paren ∷ ts) (atoi e) rest
    a_strcmp : {groups a b c d : ℕ} {ts us rest : List Mark} {e f : Term} →
        IsExpr l groups ts e (at c comma ∷ us) → IsExpr l groups us f (at d close_paren ∷ rest) →
        IsPrim l groups (at a strcmp_ ∷ at b open_paren ∷ ts) (strcmp e f) rest
    a_group : {groups a b : ℕ} {ts rest : List Mark} {e : Term} →
        MayBeOpen l (groups + 1) → IsExpr l (groups + 1) ts e (at b close_paren ∷ rest) →
        IsPrim l groups (at a open_paren ∷ ts) e rest

  -- unary = ( "-" | "!" ) unary | prim
  pub data IsUnary (l : Limits) : (groups : ℕ) → List Mark → Term → List Mark → Type 0 where
    negation : {groups a : ℕ} {ts rest : List Mark} {e : Term} → IsUnary l groups ts e rest → IsUnary l groups (at a minus ∷ ts) (neg e) rest
    inversion : {groups a : ℕ} {ts rest : List Mark} {e : Term} → IsUnary l groups ts e rest → IsUnary l groups (at a bang ∷ ts) (not_ e) rest
    a_prim : {groups : ℕ} {ts rest : List Mark} {e : Term} → IsPrim l groups ts e rest → IsUnary l groups ts e rest

  -- prod = unary { ( "*" | "/" | "%" ) unary }
  pub data IsProd (l : Limits) : (groups : ℕ) → List Mark → Term → List Mark → Type 0 where
    a_unary : {groups : ℕ} {ts rest : List Mark} {e : Term} → IsUnary l groups ts e rest → IsProd l groups ts e rest
    product : {groups a : ℕ} {ts us rest : List Mark} {e f : Term} →
        IsProd l groups ts e (at a star ∷ us) → IsUnary l groups us f rest → IsProd l groups ts (two Mul e f) rest
    quotient : {groups a : ℕ} {ts us rest : List Mark} {e f : Term} →
        IsProd l groups ts e (at a slash ∷ us) → IsUnary l groups us f rest → IsProd l groups ts (two Div e f) rest
    remainder : {groups a : ℕ} {ts us rest : List Mark} {e f : Term} →
        IsProd l groups ts e (at a percent ∷ us) → IsUnary l groups us f rest → IsProd l groups ts (two Rem e f) rest

  -- sum = prod { ( "+" | "-" ) prod }
  pub data IsSum (l : Limits) : (groups : ℕ) → List Mark → Term → List Mark → Type 0 where
    a_prod : {groups : ℕ} {ts rest : List Mark} {e : Term} → IsProd l groups ts e rest → IsSum l groups ts e rest
    addition : {groups a : ℕ} {ts us rest : List Mark} {e f : Term} →
        IsSum l groups ts e (at a plus ∷ us) → IsProd l groups us f rest → IsSum l groups ts (two Add e f) rest
    difference : {groups a : ℕ} {ts us rest : List Mark} {e f : Term} →
        IsSum l groups ts e (at a minus ∷ us) → IsProd l groups us f rest → IsSum l groups ts (two Sub e f) rest

  -- rel = sum { ( "<" | "<=" | ">" | ">=" ) sum }
  pub data IsRel (l : Limits) : (groups : ℕ) → List Mark → Term → List Mark → Type 0 where
    a_sum : {groups : ℕ} {ts rest : List Mark} {e : Term} → IsSum l groups ts e rest → IsRel l groups ts e rest
    is_less : {groups a : ℕ} {ts us rest : List Mark} {e f : Term} →
        IsRel l groups ts e (at a less ∷ us) → IsSum l groups us f rest → IsRel l groups ts (two Lt e f) rest
    is_at_most : {groups a : ℕ} {ts us rest : List Mark} {e f : Term} →
        IsRel l groups ts e (at a less_equal ∷ us) → IsSum l groups us f rest → IsRel l groups ts (two Le e f) rest
    is_greater : {groups a : ℕ} {ts us rest : List Mark} {e f : Term} →
        IsRel l groups ts e (at a greater ∷ us) → IsSum l groups us f rest → IsRel l groups ts (two Gt e f) rest
    is_at_least : {groups a : ℕ} {ts us rest : List Mark} {e f : Term} →
        IsRel l groups ts e (at a greater_equal ∷ us) → IsSum l groups us f rest → IsRel l groups ts (two Ge e f) rest

  -- eq = rel { ( "==" | "!=" ) rel }
  pub data IsEq (l : Limits) : (groups : ℕ) → List Mark → Term → List Mark → Type 0 where
    a_rel : {groups : ℕ} {ts rest : List Mark} {e : Term} → IsRel l groups ts e rest → IsEq l groups ts e rest
    is_equal : {groups a : ℕ} {ts us rest : List Mark} {e f : Term} →
        IsEq l groups ts e (at a equal_equal ∷ us) → IsRel l groups us f rest → IsEq l groups ts (two Eq e f) rest
    is_other : {groups a : ℕ} {ts us rest : List Mark} {e f : Term} →
        IsEq l groups ts e (at a not_equal ∷ us) → IsRel l groups us f rest → IsEq l groups ts (two Ne e f) rest

  -- and = eq { "&&" eq }
  pub data IsAnd (l : Limits) : (groups : ℕ) → List Mark → Term → List Mark → Type 0 where
    an_eq : {groups : ℕ} {ts rest : List Mark} {e : Term} → IsEq l groups ts e rest → IsAnd l groups ts e rest
    conjunction : {groups a : ℕ} {ts us rest : List Mark} {e f : Term} →
        IsAnd l groups ts e (at a and_and ∷ us) → IsEq l groups us f rest → IsAnd l groups ts (two And e f) rest

  -- expr = and { "||" and }
  pub data IsExpr (l : Limits) : (groups : ℕ) → List Mark → Term → List Mark → Type 0 where
    an_and : {groups : ℕ} {ts rest : List Mark} {e : Term} → IsAnd l groups ts e rest → IsExpr l groups ts e rest
    disjunction : {groups a : ℕ} {ts us rest : List Mark} {e f : Term} →
        IsExpr l groups ts e (at a or_or ∷ us) → IsAnd l groups us f rest → IsExpr l groups ts (two Or e f) rest
