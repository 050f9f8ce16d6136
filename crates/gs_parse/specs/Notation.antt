-- The notation of the grammar: what a rule is.
use Rattle.std.specs.Prelude.{ℕ, List, Option}
use Rattle.gs_tree.specs.Program.{Name, Term, Setting, Formatted, Passed, Code, Codes, Program}
use Rattle.gs_tree.specs.declared.tree.VarKind.{VarKind}
use Rattle.gs_tree.specs.Sign.{Sign, Mark}

-- An expression, and the line of its first sign.
pub record Lined : Type 0 where
  pub line : ℕ
  pub term : Term

-- What the declarations say: the variables, and the assignments in them.
pub record Declared : Type 0 where
  pub vars : List (Name × VarKind)
  pub first : List Setting

-- A format and the arguments after it.
pub record Printed : Type 0 where
  pub format : Formatted
  pub args : List Term

-- The statements up to a closing sign, and the line of that sign.
pub record Closed : Type 0 where
  pub body : Codes
  pub line : ℕ

-- The kinds of things that a part of a text says.
pub data Kind : Type 0 where
  a_term : Kind
  terms : Kind
  a_passed : Kind
  all_passed : Kind
  a_printed : Kind
  a_setting : Kind
  maybe_setting : Kind
  maybe_term : Kind
  settings : Kind
  a_code : Kind
  a_body : Kind
  closed : Kind
  declared : Kind
  a_program : Kind

abbrev pub Value : Kind → Type 0
Value a_term = Lined
Value terms = List Term
Value a_passed = Passed
Value all_passed = List Passed
Value a_printed = Printed
Value a_setting = Setting
Value maybe_setting = Option Setting
Value maybe_term = Option Term
Value settings = List Setting
Value a_code = Code
Value a_body = Codes
Value closed = Closed
Value declared = Declared
Value a_program = Program

-- The parts of a text that have a rule. An expression's `depth` counts the operators and calls around it, `groups` the open parentheses of
-- grouping; a statement's depth counts the statements around it.
pub data Part : Type 0 where
  -- expressions: level 0 is `unary`, 1 `prod`, 2 `sum`, 3 `rel`, 4 `eq`, 5 `and`, 6 `expr`
  level : (tightness depth groups : ℕ) → Part
  -- what follows the operand `so_far`: operators of level `tightness + 1` with their right sides
  tail : (tightness depth groups : ℕ) → (so_far : Lined) → Part
  -- `{ "," expr } ")"`, after the terms so far
  more_terms : (so_far : List Term) → Part
  arg : Part
  -- `{ "," arg } ")"`, after the arguments so far
  more_args : (so_far : List Passed) → Part
  -- `arg { "," arg } ")"`
  args : Part
  -- `"(" expr ")"`
  condition : Part
  -- `string { "," expr } ")" ";"`
  printing : Part
  -- an assignment after its name
  assigned : Name → Part
  -- the parts of the head of a `for`, each with the sign that ends it
  for_first : Part
  for_test : Part
  for_step : Part
  -- a statement after its first sign
  rest_of : (depth : ℕ) → (first : Mark) → Part
  body : (depth : ℕ) → Part
  -- statements up to a closing sign, after the statements so far
  stmts : (depth : ℕ) → (closer : Sign) → (so_far : List Code) → Part
  -- the names of a declaration after its type, and then the other declarations, after what was declared so far
  names : VarKind → (so_far : Declared) → Part
  decls : (so_far : Declared) → Part
  starts : (so_far : List Setting) → Part
  program : Part

abbrev pub kind_of : Part → Kind
kind_of (level t d g) = a_term
kind_of (tail t d g a) = a_term
kind_of (more_terms so_far) = terms
kind_of arg = a_passed
kind_of (more_args so_far) = all_passed
kind_of args = all_passed
kind_of condition = a_term
kind_of printing = a_printed
kind_of (assigned n) = a_setting
kind_of for_first = maybe_setting
kind_of for_test = maybe_term
kind_of for_step = maybe_setting
kind_of (rest_of d x) = a_code
kind_of (body d) = a_body
kind_of (stmts d c so_far) = closed
kind_of (names kind so_far) = declared
kind_of (decls so_far) = declared
kind_of (starts so_far) = settings
kind_of program = a_program

-- How a sign fits a place: not at all, only beyond a limit of depth, or well.
pub data Fit : Type 0 where
  unfit : Fit
  too_deep : Fit
  fit : Fit

-- A rule: it gives a value; or takes the next sign, where it fits; or may take it, and goes on without it where it is unfit; or reads a part.
pub data Rule : Kind → Type 0 where
  gives : {k : Kind} → Value k → Rule k
  take : {k : Kind} → (Mark → Fit) → (Mark → Rule k) → Rule k
  may : {k : Kind} → (Mark → Fit) → (Mark → Rule k) → Rule k → Rule k
  read : {k : Kind} → (n : Part) → (Value (kind_of n) → Rule k) → Rule k
