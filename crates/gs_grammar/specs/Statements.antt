-- The productions of statements: the signs that they begin with, what these say, and the signs that are left.
use Rattle.std.specs.Prelude.{◌≢◌, ℕ, pos, true, false, List, [], ◌∷◌, Option, Some, None}
use Rattle.gs_tree.specs.Program.{Name, Term, num, var, two, Setting, Formatted, Passed, Code, empty, block, set, choose, while, for, open_file, read_line, close_file, barrier, print, print_file, print_str, call, Codes, none, one, without, otherwise}
use Rattle.gs_tree.specs.Sign.{Sign, Mark, if_, else_, while_, for_, gs_barrier, gs_fopen, gs_fclose, printf_, fprintf_, sprintf_, fgetline_, mode_r, mode_w, mode_a, string, plus_plus, minus_minus, plus_equal, minus_equal, open_paren, close_paren, open_brace, close_brace, comma, semicolon, equal, ampersand}
use Rattle.gs_tree.specs.declared.tree.Mode.{Mode}
use Rattle.gs_tree.specs.declared.tree.Mode.TheVariants.{R, W, A}
use Rattle.gs_tree.specs.declared.tree.Op.TheVariants.{Add, Sub}
use Rattle.gs_parse.specs.Reading.{Limits}
use Rattle.gs_parse.specs.Reads.{line_of}
use Rattle.gs_grammar.specs.Signs.{at, called}
use Rattle.gs_grammar.specs.Expressions.{IsExpr}

-- ---- what stands in parentheses

-- { "," expr }
pub data IsMoreExprs (l : Limits) : List Mark → List Term → List Mark → Type 0 where
  no_expr : {rest : List Mark} → IsMoreExprs l rest [] rest
  one_expr : {a : ℕ} {ts us rest : List Mark} {e : Term} {es : List Term} →
      IsExpr l 0 ts e us → IsMoreExprs l us es rest → IsMoreExprs l (at a comma ∷ ts) (e ∷ es) rest

-- arg = "&" ident | expr
pub data IsArg (l : Limits) : List Mark → Passed → List Mark → Type 0 where
  address : {a : ℕ} {n : Name} {rest : List Mark} → IsArg l (at a ampersand ∷ called n ∷ rest) (record { line = a; by_address = true; value = var n }) rest
  value : {ts rest : List Mark} {e : Term} → IsExpr l 0 ts e rest → IsArg l ts (record { line = line_of ts; by_address = false; value = e }) rest

-- { "," arg }
pub data IsMoreArgs (l : Limits) : List Mark → List Passed → List Mark → Type 0 where
  no_arg : {rest : List Mark} → IsMoreArgs l rest [] rest
  one_arg : {a : ℕ} {ts us rest : List Mark} {p : Passed} {ps : List Passed} →
      IsArg l ts p us → IsMoreArgs l us ps rest → IsMoreArgs l (at a comma ∷ ts) (p ∷ ps) rest

-- [ arg { "," arg } ]
pub data IsArgs (l : Limits) : List Mark → List Passed → List Mark → Type 0 where
  no_args : {rest : List Mark} → IsArgs l rest [] rest
  some_args : {ts us rest : List Mark} {p : Passed} {ps : List Passed} → IsArg l ts p us → IsMoreArgs l us ps rest → IsArgs l ts (p ∷ ps) rest

-- ---- assignments

abbrev pub assigned_to : Name → Term → Setting
assigned_to n e = record { to = n; value = e }

-- assign = ident "=" expr | ident "++" | ident "--" | ident "+=" expr | ident "-=" expr
pub data IsAssign (l : Limits) : List Mark → Setting → List Mark → Type 0 where
  sets : {a : ℕ} {n : Name} {ts rest : List Mark} {e : Term} → IsExpr l 0 ts e rest → IsAssign l (called n ∷ at a equal ∷ ts) (assigned_to n e) rest
  increments : {a : ℕ} {n : Name} {rest : List Mark} → IsAssign l (called n ∷ at a plus_plus ∷ rest) (assigned_to n (two Add (var n) (num a (pos 1)))) rest
  decrements : {a : ℕ} {n : Name} {rest : List Mark} → IsAssign l (called n ∷ at a minus_minus ∷ rest) (assigned_to n (two Sub (var n) (num a (pos 1)))) rest
  adds : {a : ℕ} {n : Name} {ts rest : List Mark} {e : Term} → IsExpr l 0 ts e rest →
      IsAssign l (called n ∷ at a plus_equal ∷ ts) (assigned_to n (two Add (var n) e)) rest
  subtracts : {a : ℕ} {n : Name} {ts rest : List Mark} {e : Term} → IsExpr l 0 ts e rest →
      IsAssign l (called n ∷ at a minus_equal ∷ ts) (assigned_to n (two Sub (var n) e)) rest

-- [ assign ]
pub data IsMaybeAssign (l : Limits) : List Mark → Option Setting → List Mark → Type 0 where
  no_assign : {rest : List Mark} → IsMaybeAssign l rest None rest
  an_assign : {ts rest : List Mark} {s : Setting} → IsAssign l ts s rest → IsMaybeAssign l ts (Some s) rest

-- [ expr ]
pub data IsMaybeExpr (l : Limits) : List Mark → Option Term → List Mark → Type 0 where
  no_test : {rest : List Mark} → IsMaybeExpr l rest None rest
  a_test : {ts rest : List Mark} {e : Term} → IsExpr l 0 ts e rest → IsMaybeExpr l ts (Some e) rest

-- ---- simple statements

-- "R" | "W" | "A"
abbrev pub mode_sign : Mode → Sign
mode_sign R = mode_r
mode_sign W = mode_w
mode_sign A = mode_a

-- a format where it stands
abbrev pub formatted : Formatted → Mark
formatted f = at f.line (string f.text)

pub data IsSimple (l : Limits) : List Mark → Code → List Mark → Type 0 where
  -- assign
  an_assignment : {ts rest : List Mark} {s : Setting} → IsAssign l ts s rest → IsSimple l ts (set s) rest
  -- ident "=" "GS_FOpen" "(" expr "," ( "R" | "W" | "A" ) ")"
  opens : {a b c d e f : ℕ} {n : Name} {m : Mode} {ts rest : List Mark} {path : Term} →
      IsExpr l 0 ts path (at d comma ∷ at e (mode_sign m) ∷ at f close_paren ∷ rest) →
      IsSimple l (called n ∷ at a equal ∷ at b gs_fopen ∷ at c open_paren ∷ ts) (open_file n.line n path m) rest
  -- ident "=" "fgetline" "(" ident "," ident ")"
  reads_line : {a b c d e : ℕ} {n h to : Name} {rest : List Mark} →
      IsSimple l (called n ∷ at a equal ∷ at b fgetline_ ∷ at c open_paren ∷ called h ∷ at d comma ∷ called to ∷ at e close_paren ∷ rest) (read_line n.line n h to) rest
  -- "GS_FClose" "(" ident ")"
  closes_file : {a b c : ℕ} {h : Name} {rest : List Mark} →
      IsSimple l (at a gs_fclose ∷ at b open_paren ∷ called h ∷ at c close_paren ∷ rest) (close_file a h) rest
  -- "GS_Barrier" "(" ")"
  waits : {a b c : ℕ} {rest : List Mark} → IsSimple l (at a gs_barrier ∷ at b open_paren ∷ at c close_paren ∷ rest) (barrier a) rest
  -- "printf" "(" string { "," expr } ")"
  prints : {a b c : ℕ} {f : Formatted} {ts rest : List Mark} {es : List Term} → IsMoreExprs l ts es (at c close_paren ∷ rest) →
      IsSimple l (at a printf_ ∷ at b open_paren ∷ formatted f ∷ ts) (print a f es) rest
  -- "fprintf" "(" ident "," string { "," expr } ")"
  prints_file : {a b c d : ℕ} {h : Name} {f : Formatted} {ts rest : List Mark} {es : List Term} → IsMoreExprs l ts es (at d close_paren ∷ rest) →
      IsSimple l (at a fprintf_ ∷ at b open_paren ∷ called h ∷ at c comma ∷ formatted f ∷ ts) (print_file a h f es) rest
  -- "sprintf" "(" ident "," string { "," expr } ")"
  prints_string : {a b c d : ℕ} {n : Name} {f : Formatted} {ts rest : List Mark} {es : List Term} → IsMoreExprs l ts es (at d close_paren ∷ rest) →
      IsSimple l (at a sprintf_ ∷ at b open_paren ∷ called n ∷ at c comma ∷ formatted f ∷ ts) (print_str a n f es) rest
  -- ident "(" [ arg { "," arg } ] ")"
  calls : {a b : ℕ} {n : Name} {ts rest : List Mark} {ps : List Passed} → IsArgs l ts ps (at b close_paren ∷ rest) →
      IsSimple l (called n ∷ at a open_paren ∷ ts) (call n ps) rest

-- ---- statements

-- a statement as a body: the statements of a block, or the one
abbrev pub body_of : Code → Codes
body_of (block line body) = body
body_of c = one c none

-- no `else` follows: an `else` goes with the nearest `if`
abbrev pub NoElse : List Mark → Type 0
NoElse [] = Unit {0}
NoElse (x ∷ xs) = x.sign ≢ else_

mutual
  pub data IsStmt (l : Limits) : List Mark → Code → List Mark → Type 0 where
    -- ";"
    nothing : {a : ℕ} {rest : List Mark} → IsStmt l (at a semicolon ∷ rest) (empty a) rest
    -- "{" { stmt } "}"
    a_block : {a b : ℕ} {ts rest : List Mark} {body : Codes} → IsStmts l ts body (at b close_brace ∷ rest) → IsStmt l (at a open_brace ∷ ts) (block a body) rest
    -- simple ";"
    a_simple : {a : ℕ} {ts rest : List Mark} {c : Code} → IsSimple l ts c (at a semicolon ∷ rest) → IsStmt l ts c rest
    -- "if" "(" expr ")" stmt
    an_if : {a b c : ℕ} {ts us rest : List Mark} {e : Term} {yes_ : Code} →
        IsExpr l 0 ts e (at c close_paren ∷ us) → IsStmt l us yes_ rest → NoElse rest →
        IsStmt l (at a if_ ∷ at b open_paren ∷ ts) (choose a e (body_of yes_) without) rest
    -- "if" "(" expr ")" stmt "else" stmt
    an_else : {a b c d : ℕ} {ts us vs rest : List Mark} {e : Term} {yes_ no_ : Code} →
        IsExpr l 0 ts e (at c close_paren ∷ us) → IsStmt l us yes_ (at d else_ ∷ vs) → IsStmt l vs no_ rest →
        IsStmt l (at a if_ ∷ at b open_paren ∷ ts) (choose a e (body_of yes_) (otherwise (body_of no_))) rest
    -- "while" "(" expr ")" stmt
    a_while : {a b c : ℕ} {ts us rest : List Mark} {e : Term} {body : Code} →
        IsExpr l 0 ts e (at c close_paren ∷ us) → IsStmt l us body rest →
        IsStmt l (at a while_ ∷ at b open_paren ∷ ts) (while a e (body_of body)) rest
    -- "for" "(" [ assign ] ";" [ expr ] ";" [ assign ] ")" stmt
    a_for : {a b c d e : ℕ} {ts us vs ws rest : List Mark} {first step : Option Setting} {test : Option Term} {body : Code} →
        IsMaybeAssign l ts first (at c semicolon ∷ us) → IsMaybeExpr l us test (at d semicolon ∷ vs) → IsMaybeAssign l vs step (at e close_paren ∷ ws) →
        IsStmt l ws body rest →
        IsStmt l (at a for_ ∷ at b open_paren ∷ ts) (for a first test step (body_of body)) rest

  -- { stmt }
  pub data IsStmts (l : Limits) : List Mark → Codes → List Mark → Type 0 where
    no_stmt : {rest : List Mark} → IsStmts l rest none rest
    one_stmt : {ts us rest : List Mark} {c : Code} {cs : Codes} → IsStmt l ts c us → IsStmts l us cs rest → IsStmts l ts (one c cs) rest
