-- The first fault of a program: the variables come first, then the initial assignments, then the
-- statements, each in the order of the text, and at one place in the order of the kinds.
use Rattle.std.specs.Prelude.{ℕ, ◌==◌, Bool, true, false, ◌&&◌, ◌||◌, not, List, [], ◌∷◌, ◌++◌, length, Option, Some, None, is_none, is_some, if◌then◌else◌}
use Rattle.std.specs.Str.{bytes_eq}
use Rattle.std.specs.Option.{option_or}
use Rattle.gs_check.specs.declared.kind.CheckKind.{CheckKind}
use Rattle.gs_check.specs.declared.kind.Fault.{Fault}
use Rattle.gs_check.specs.declared.kind.CheckKind.TheVariants.{Twice, TooMany, Unknown, WrongKind, WrongCount, NotVariable, BadFormat}
use Rattle.gs_tree.specs.declared.tree.VarKind.{VarKind}
use Rattle.gs_tree.specs.declared.tree.VarKind.TheVariants.{Int, Str, Handle}
use Rattle.gs_tree.specs.Program.{Name, Term, num, lit, var, atoi, strcmp, neg, not_, two, Setting, Formatted, Passed, Code, empty, block, set, choose, while, for, open_file, read_line, close_file, barrier, print, print_file, print_str, call, Codes, none, one, MaybeCodes, without, otherwise, Program}
use Rattle.gs_idl.specs.Interface.{Param, Signature, op_place, params_at, is_out, is_out_scalar}
use Rattle.gs_idl.specs.declared.idl.ParamKind.{ParamKind}
use Rattle.gs_idl.specs.declared.idl.ParamKind.TheVariants as of
use Rattle.gs_tree.specs.Formats.{format_kinds}
use Rattle.gs_tree.specs.Variables.{declared_kind, term_kind, is_wrong, first_line, begins_with_leaf}

abbrev pub Vars : Type 0
Vars = List (Name × VarKind)

-- the first of a part, or else of what follows it
infixl 10 ◌then◌
abbrev pub ◌then◌ : Option Fault → Option Fault → Option Fault
a then b = option_or a b

-- a fault that stands where a test holds
abbrev pub fault_if : Bool → (line : ℕ) → CheckKind → Option Fault
fault_if true line kind = Some (record { line = line; kind = kind })
fault_if false line kind = None

-- ---- names and expressions

-- a name at which a variable of this kind is wanted
abbrev pub name_fault : Vars → (wanted : VarKind) → Name → Option Fault
name_fault vars wanted name =
    fault_if (is_none (declared_kind vars name.text)) name.line Unknown
    then fault_if (is_wrong wanted (declared_kind vars name.text)) name.line WrongKind

-- an expression that isn't of the kind that is wanted: the place is its first leaf
abbrev pub wrong_fault : Vars → (wanted : VarKind) → Term → Option Fault
wrong_fault vars wanted t = fault_if (is_wrong wanted (term_kind vars t)) (first_line t) WrongKind

-- inside an expression; `here` stands at its first leaf, after all that is found at that leaf
abbrev pub inner_fault : Vars → (here : Option Fault) → Term → Option Fault
inner_fault vars here (num line v) = here
inner_fault vars here (lit line s) = here
inner_fault vars here (var name) = fault_if (is_none (declared_kind vars name.text)) name.line
    Unknown then here
inner_fault vars here (atoi a) = inner_fault vars (wrong_fault vars Str a then here) a
inner_fault vars here (strcmp a b) =
    inner_fault vars (wrong_fault vars Str a then here) a
    then inner_fault vars (wrong_fault vars Str b) b
inner_fault vars here (neg a) = inner_fault vars (wrong_fault vars Int a then here) a
inner_fault vars here (not_ a) = inner_fault vars (wrong_fault vars Int a then here) a
inner_fault vars here (two op a b) =
    inner_fault vars (wrong_fault vars Int a then here) a
    then inner_fault vars (wrong_fault vars Int b) b

-- an expression at which this kind is wanted
abbrev pub term_fault : Vars → (wanted : VarKind) → Term → Option Fault
term_fault vars wanted t = inner_fault vars (wrong_fault vars wanted t) t

abbrev pub maybe_term_fault : Vars → (wanted : VarKind) → Option Term → Option Fault
maybe_term_fault vars wanted None = None
maybe_term_fault vars wanted (Some t) = term_fault vars wanted t

-- ---- assignments

-- what is wanted on the right side of a name of this kind; no handle is assigned to
abbrev pub value_fault : Vars → Option VarKind → Name → Term → Option Fault
value_fault vars None to value = inner_fault vars None value
value_fault vars (Some Handle) to value = Some (record { line = to.line; kind = WrongKind })
value_fault vars (Some Int) to value = term_fault vars Int value
value_fault vars (Some Str) to value = term_fault vars Str value

abbrev pub setting_fault : Vars → Setting → Option Fault
setting_fault vars s =
    fault_if (is_none (declared_kind vars s.to.text)) s.to.line Unknown
    then value_fault vars (declared_kind vars s.to.text) s.to s.value

abbrev pub maybe_setting_fault : Vars → Option Setting → Option Fault
maybe_setting_fault vars None = None
maybe_setting_fault vars (Some s) = setting_fault vars s

-- ---- prints

-- the arguments are as many as the kinds, and of these kinds
abbrev pub fit_kinds : Vars → List VarKind → List Term → Bool
fit_kinds vars [] [] = true
fit_kinds vars [] (t ∷ ts) = false
fit_kinds vars (k ∷ ks) [] = false
fit_kinds vars (k ∷ ks) (t ∷ ts) = not (is_wrong k (term_kind vars t)) && fit_kinds vars ks ts

abbrev pub is_format : Vars → Option (List VarKind) → List Term → Bool
is_format vars None args = false
is_format vars (Some kinds) args = fit_kinds vars kinds args

abbrev pub args_fault : Vars → List Term → Option Fault
args_fault vars [] = None
args_fault vars (t ∷ ts) = inner_fault vars None t then args_fault vars ts

abbrev pub format_fault : Vars → Formatted → List Term → Option Fault
format_fault vars format args =
    fault_if (not (is_format vars (format_kinds format.text) args)) format.line BadFormat
    then args_fault vars args

-- ---- task calls

-- a File place takes a file's name
abbrev pub place_kind : ParamKind → VarKind
place_kind of.File = Str
place_kind of.Int = Int
place_kind of.Str = Str

abbrev pub is_variable : Term → Bool
is_variable (var name) = true
is_variable t = false

-- it is the variable of this name
abbrev pub is_variable_of : List ℕ → Term → Bool
is_variable_of name (var n) = bytes_eq n.text name
is_variable_of name t = false

-- a variable of this name stands in an out place of these
abbrev pub stands_out : List Param → List Passed → List ℕ → Bool
stands_out [] args name = false
stands_out (p ∷ ps) [] name = false
stands_out (p ∷ ps) (a ∷ args) name = (is_out p.dir && is_variable_of name a.value)
    || stands_out ps args name

-- it is a variable that stands in an out place of these
abbrev pub repeats : List Param → List Passed → Term → Bool
repeats ps args (var name) = stands_out ps args name.text
repeats ps args t = false

-- an out scalar takes a variable, with or without `&`, which stands nowhere else
abbrev pub is_no_variable : Param → Passed → Bool
is_no_variable p a = if is_out_scalar p then not (is_variable a.value) else a.by_address

-- what stands at an argument's first sign
abbrev pub passed_place_fault : Vars → Param → Passed → Option Fault
passed_place_fault vars p a =
    fault_if (is_wrong (place_kind p.kind) (term_kind vars a.value)) a.line WrongKind
    then fault_if (is_no_variable p a) a.line NotVariable

-- the first sign of an argument is its first leaf
abbrev pub leads_with_leaf : Passed → Bool
leads_with_leaf a = not a.by_address && begins_with_leaf a.value && a.line == first_line a.value

-- what stands inside an argument, with what stands at its first sign
abbrev pub own_fault : Vars → (here : Option Fault) → Passed → Option Fault
own_fault vars here a = if leads_with_leaf a then inner_fault vars here a.value
    else (here then inner_fault vars None a.value)

-- an argument, after those before
abbrev pub passed_fault : Vars → List Param → (before : List Passed) → Param → Passed → Option Fault
passed_fault vars params before p a =
    fault_if (is_out p.dir && repeats params before a.value) a.line Twice
    then own_fault vars (passed_place_fault vars p a) a

-- the arguments from one on, at these places
abbrev pub all_passed_fault : Vars → List Param → (before : List Passed) → List Param → List Passed
    → Option Fault
all_passed_fault vars params before [] args = None
all_passed_fault vars params before (p ∷ ps) [] = None
all_passed_fault vars params before (p ∷ ps) (a ∷ args) =
    passed_fault vars params before p a then all_passed_fault vars params (before ++ a ∷ []) ps args

-- a call of the operation at this place, where one has the name
abbrev pub call_fault : List Signature → Vars → (op : Option ℕ) → (line : ℕ) → List Passed
    → Option Fault
call_fault ops vars None line args = Some (record { line = line; kind = Unknown })
call_fault ops vars (Some op) line args =
    fault_if (not (length (params_at ops op) == length args)) line WrongCount
    then all_passed_fault vars (params_at ops op) [] (params_at ops op) args

-- ---- statements

abbrev mutual
  pub code_fault : List Signature → Vars → Code → Option Fault
  code_fault ops vars (empty line) = None
  code_fault ops vars (block line body) = codes_fault ops vars body
  code_fault ops vars (set a) = setting_fault vars a
  code_fault ops vars (choose line test then_do else_do) =
      term_fault vars Int test then codes_fault ops vars then_do then else_fault ops vars else_do
  code_fault ops vars (while line test body) = term_fault vars Int test
      then codes_fault ops vars body
  code_fault ops vars (for line first test step body) =
      maybe_setting_fault vars first then maybe_term_fault vars Int test
      then maybe_setting_fault vars step then codes_fault ops vars body
  code_fault ops vars (open_file line to path mode) = name_fault vars Handle to
      then term_fault vars Str path
  code_fault ops vars (read_line line got handle to) = name_fault vars Int got
      then name_fault vars Handle handle then name_fault vars Str to
  code_fault ops vars (close_file line handle) = name_fault vars Handle handle
  code_fault ops vars (barrier line) = None
  code_fault ops vars (print line format args) = format_fault vars format args
  code_fault ops vars (print_file line handle format args) = name_fault vars Handle handle
      then format_fault vars format args
  code_fault ops vars (print_str line to format args) = name_fault vars Str to
      then format_fault vars format args
  code_fault ops vars (call op args) = call_fault ops vars (op_place ops op.text) op.line args

  pub codes_fault : List Signature → Vars → Codes → Option Fault
  codes_fault ops vars none = None
  codes_fault ops vars (one code rest) = code_fault ops vars code then codes_fault ops vars rest

  pub else_fault : List Signature → Vars → MaybeCodes → Option Fault
  else_fault ops vars without = None
  else_fault ops vars (otherwise body) = codes_fault ops vars body

-- ---- the whole

-- a variable is declared again, or has an operation's name
abbrev pub is_taken : List Signature → (before : Vars) → List ℕ → Bool
is_taken ops before name = is_some (declared_kind before name) || is_some (op_place ops name)

-- the variables from one on, after those before
abbrev pub vars_fault : List Signature → (before : Vars) → Vars → Option Fault
vars_fault ops before [] = None
vars_fault ops before (v ∷ vs) =
    fault_if (is_taken ops before v.0.text) v.0.line Twice
    then fault_if (length before == 128) v.0.line TooMany
    then vars_fault ops (before ++ v ∷ []) vs

abbrev pub initial_fault : Vars → List Setting → Option Fault
initial_fault vars [] = None
initial_fault vars (s ∷ ss) = setting_fault vars s then initial_fault vars ss

abbrev pub fault_of : List Signature → Program → Option Fault
fault_of ops p = vars_fault ops [] p.vars then initial_fault p.vars p.first
    then codes_fault ops p.vars p.body
