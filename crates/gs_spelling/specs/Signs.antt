-- The signs of a printed program, each time before the signs that follow.
use Rattle.std.specs.Prelude.{pos, List, [], ◌∷◌, Bool, true, false, Option, Some, None}
use Rattle.gs_tree.specs.declared.tree.Op.{Op}
use Rattle.gs_tree.specs.declared.tree.Op.TheVariants.{Or, And, Eq, Ne, Lt, Le, Gt, Ge, Add, Sub, Mul, Div, Rem}
use Rattle.gs_tree.specs.declared.tree.Mode.{Mode}
use Rattle.gs_tree.specs.declared.tree.Mode.TheVariants.{R, W, A}
use Rattle.gs_tree.specs.declared.tree.VarKind.{VarKind}
use Rattle.gs_tree.specs.declared.tree.VarKind.TheVariants.{Int, Str, Handle}
use Rattle.gs_tree.specs.Sign.{Sign, main_, int_, char_, file_, if_, else_, while_, for_, gs_on, gs_off, gs_barrier, gs_fopen, gs_fclose, printf_, fprintf_, sprintf_, fgetline_, atoi_, strcmp_, mode_r, mode_w, mode_a, ident, number, string, less_equal, greater_equal, equal_equal, not_equal, and_and, or_or, open_paren, close_paren, open_brace, close_brace, comma, semicolon, equal, plus, minus, star, slash, percent, less, greater, bang, ampersand}
use Rattle.gs_tree.specs.Program.{Name, Term, num, lit, var, atoi, strcmp, neg, not_, two, Setting, Formatted, Passed, Code, empty, block, set, choose, while, for, open_file, read_line, close_file, barrier, print, print_file, print_str, call, Codes, none, one, MaybeCodes, without, otherwise, Program}

abbrev pub op_sign : Op → Sign
op_sign Or = or_or
op_sign And = and_and
op_sign Eq = equal_equal
op_sign Ne = not_equal
op_sign Lt = less
op_sign Le = less_equal
op_sign Gt = greater
op_sign Ge = greater_equal
op_sign Add = plus
op_sign Sub = minus
op_sign Mul = star
op_sign Div = slash
op_sign Rem = percent

abbrev pub term_signs : Term → List Sign → List Sign
term_signs (num line v) rest = number v ∷ rest
term_signs (lit line s) rest = string s ∷ rest
term_signs (var n) rest = ident n.text ∷ rest
term_signs (atoi a) rest = atoi_ ∷ open_paren ∷ term_signs a (close_paren ∷ rest)
term_signs (strcmp a b) rest = strcmp_ ∷ open_paren ∷ term_signs a (comma ∷ term_signs b (close_paren ∷ rest))
term_signs (neg a) rest = open_paren ∷ minus ∷ term_signs a (close_paren ∷ rest)
term_signs (not_ a) rest = open_paren ∷ bang ∷ term_signs a (close_paren ∷ rest)
term_signs (two op a b) rest = open_paren ∷ term_signs a (op_sign op ∷ term_signs b (close_paren ∷ rest))

-- further values, each after a comma
abbrev pub more_signs : List Term → List Sign → List Sign
more_signs [] rest = rest
more_signs (t ∷ ts) rest = comma ∷ term_signs t (more_signs ts rest)

abbrev pub address_signs : Bool → List Sign → List Sign
address_signs true rest = ampersand ∷ rest
address_signs false rest = rest

abbrev pub passed_signs : Passed → List Sign → List Sign
passed_signs p rest = address_signs p.by_address (term_signs p.value rest)

abbrev pub more_passed_signs : List Passed → List Sign → List Sign
more_passed_signs [] rest = rest
more_passed_signs (p ∷ ps) rest = comma ∷ passed_signs p (more_passed_signs ps rest)

-- arguments, parted by commas
abbrev pub passeds_signs : List Passed → List Sign → List Sign
passeds_signs [] rest = rest
passeds_signs (p ∷ ps) rest = passed_signs p (more_passed_signs ps rest)

abbrev pub setting_signs : Setting → List Sign → List Sign
setting_signs s rest = ident s.to.text ∷ equal ∷ term_signs s.value rest

abbrev pub maybe_setting_signs : Option Setting → List Sign → List Sign
maybe_setting_signs None rest = rest
maybe_setting_signs (Some s) rest = setting_signs s rest

abbrev pub maybe_term_signs : Option Term → List Sign → List Sign
maybe_term_signs None rest = rest
maybe_term_signs (Some t) rest = term_signs t rest

abbrev pub mode_sign : Mode → Sign
mode_sign R = mode_r
mode_sign W = mode_w
mode_sign A = mode_a

-- a format and its arguments, to the statement's end
abbrev pub format_signs : Formatted → List Term → List Sign → List Sign
format_signs format args rest = string format.text ∷ more_signs args (close_paren ∷ semicolon ∷ rest)

abbrev mutual
  pub code_signs : Code → List Sign → List Sign
  code_signs (empty line) rest = semicolon ∷ rest
  code_signs (block line body) rest = open_brace ∷ codes_signs body (close_brace ∷ rest)
  code_signs (set a) rest = setting_signs a (semicolon ∷ rest)
  code_signs (choose line test then_do else_do) rest =
      if_ ∷ open_paren ∷ term_signs test (close_paren ∷ open_brace ∷ codes_signs then_do (else_signs else_do (close_brace ∷ rest)))
  code_signs (while line test body) rest = while_ ∷ open_paren ∷ term_signs test (close_paren ∷ open_brace ∷ codes_signs body (close_brace ∷ rest))
  code_signs (for line first test step body) rest =
      for_ ∷ open_paren ∷ maybe_setting_signs first (semicolon ∷ maybe_term_signs test (semicolon ∷
      maybe_setting_signs step (close_paren ∷ open_brace ∷ codes_signs body (close_brace ∷ rest))))
  code_signs (open_file line to path mode) rest =
      ident to.text ∷ equal ∷ gs_fopen ∷ open_paren ∷ term_signs path (comma ∷ mode_sign mode ∷ close_paren ∷ semicolon ∷ rest)
  code_signs (read_line line got handle to) rest =
      ident got.text ∷ equal ∷ fgetline_ ∷ open_paren ∷ ident handle.text ∷ comma ∷ ident to.text ∷ close_paren ∷ semicolon ∷ rest
  code_signs (close_file line handle) rest = gs_fclose ∷ open_paren ∷ ident handle.text ∷ close_paren ∷ semicolon ∷ rest
  code_signs (barrier line) rest = gs_barrier ∷ open_paren ∷ close_paren ∷ semicolon ∷ rest
  code_signs (print line format args) rest = printf_ ∷ open_paren ∷ format_signs format args rest
  code_signs (print_file line handle format args) rest = fprintf_ ∷ open_paren ∷ ident handle.text ∷ comma ∷ format_signs format args rest
  code_signs (print_str line to format args) rest = sprintf_ ∷ open_paren ∷ ident to.text ∷ comma ∷ format_signs format args rest
  code_signs (call op args) rest = ident op.text ∷ open_paren ∷ passeds_signs args (close_paren ∷ semicolon ∷ rest)

  pub codes_signs : Codes → List Sign → List Sign
  codes_signs none rest = rest
  codes_signs (one code others) rest = code_signs code (codes_signs others rest)

  -- from the end of the first body on
  pub else_signs : MaybeCodes → List Sign → List Sign
  else_signs without rest = rest
  else_signs (otherwise body) rest = close_brace ∷ else_ ∷ open_brace ∷ codes_signs body rest

abbrev pub type_signs : VarKind → List Sign → List Sign
type_signs Int rest = int_ ∷ rest
type_signs Str rest = char_ ∷ star ∷ rest
type_signs Handle rest = file_ ∷ star ∷ rest

-- one declaration per variable
abbrev pub vars_signs : List (Name × VarKind) → List Sign → List Sign
vars_signs [] rest = rest
vars_signs (v ∷ vs) rest = type_signs v.1 (ident v.0.text ∷ semicolon ∷ vars_signs vs rest)

abbrev pub settings_signs : List Setting → List Sign → List Sign
settings_signs [] rest = rest
settings_signs (s ∷ ss) rest = setting_signs s (semicolon ∷ settings_signs ss rest)

abbrev pub end_signs : List Sign
end_signs = gs_off ∷ open_paren ∷ number (pos 0) ∷ close_paren ∷ semicolon ∷ close_brace ∷ []

abbrev pub program_signs : Program → List Sign
program_signs p =
    main_ ∷ open_paren ∷ close_paren ∷ open_brace ∷
    vars_signs p.vars (settings_signs p.first (gs_on ∷ open_paren ∷ close_paren ∷ semicolon ∷ codes_signs p.body end_signs))
