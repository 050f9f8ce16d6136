-- A main program as plain data. Each line is the one on which the thing stands.
use Rattle.std.specs.Prelude.{ℕ, ℤ, Bool, List, Option}
use Rattle.gs_tree.specs.declared.tree.Op.{Op}
use Rattle.gs_tree.specs.declared.tree.Mode.{Mode}
use Rattle.gs_tree.specs.declared.tree.VarKind.{VarKind}

pub record Name : Type 0 where
  pub line : ℕ
  pub text : List ℕ

-- Expressions; `two op a b` is `a op b`.
pub data Term : Type 0 where
  num : (line : ℕ) (v : ℤ) → Term
  lit : (line : ℕ) (s : List ℕ) → Term
  var : Name → Term
  atoi : Term → Term
  strcmp : Term → Term → Term
  neg : Term → Term
  not_ : Term → Term
  two : Op → Term → Term → Term

-- An assignment.
pub record Setting : Type 0 where
  pub to : Name
  pub value : Term

-- A format, after its escapes.
pub record Formatted : Type 0 where
  pub line : ℕ
  pub text : List ℕ

-- An argument of a task call.
pub record Passed : Type 0 where
  pub line : ℕ
  pub by_address : Bool
  pub value : Term

-- Statements, lists of statements, and the body of an `else`.
mutual
  pub data Code : Type 0 where
    empty : (line : ℕ) → Code
    block : (line : ℕ) → Codes → Code
    set : Setting → Code
    choose : (line : ℕ) → Term → Codes → MaybeCodes → Code
    while : (line : ℕ) → Term → Codes → Code
    for : (line : ℕ) → Option Setting → Option Term → Option Setting → Codes → Code
    open_file : (line : ℕ) → Name → Term → Mode → Code
    read_line : (line : ℕ) → (got handle to : Name) → Code
    close_file : (line : ℕ) → Name → Code
    barrier : (line : ℕ) → Code
    print : (line : ℕ) → Formatted → List Term → Code
    print_file : (line : ℕ) → Name → Formatted → List Term → Code
    print_str : (line : ℕ) → Name → Formatted → List Term → Code
    call : Name → List Passed → Code

  pub data Codes : Type 0 where
    none : Codes
    one : Code → Codes → Codes

  pub data MaybeCodes : Type 0 where
    without : MaybeCodes
    otherwise : Codes → MaybeCodes

-- The variables with their kinds, the initial assignments, the statements between GS_On and GS_Off, and GS_Off's line.
pub record Program : Type 0 where
  pub vars : List (Name × VarKind)
  pub first : List Setting
  pub body : Codes
  pub off : ℕ
