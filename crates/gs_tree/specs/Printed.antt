-- The printed form of a program.
use Rattle.std.specs.Prelude.{ℕ, ◌+◌, ◌*◌, ◌==◌, Bool, true, false, List, [], ◌∷◌, ◌++◌, Option, Some, None, codes, replicate, if◌then◌else◌}
use Rattle.std.specs.List.{flat_map}
use Rattle.std.specs.Fmt.{signed_decimal}
use Rattle.gs_tree.specs.declared.tree.Op.{Op}
use Rattle.gs_tree.specs.declared.tree.Op.TheVariants.{Or, And, Eq, Ne, Lt, Le, Gt, Ge, Add, Sub, Mul, Div, Rem}
use Rattle.gs_tree.specs.declared.tree.Mode.{Mode}
use Rattle.gs_tree.specs.declared.tree.Mode.TheVariants.{R, W, A}
use Rattle.gs_tree.specs.declared.tree.VarKind.{VarKind}
use Rattle.gs_tree.specs.declared.tree.VarKind.TheVariants.{Int, Str, Handle}
use Rattle.gs_tree.specs.Program.{Name, Term, num, lit, var, atoi, strcmp, neg, not_, two, Setting, Formatted, Passed, Code, empty, block, set, choose, while, for, open_file, read_line, close_file, barrier, print, print_file, print_str, call, Codes, none, one, MaybeCodes, without, otherwise, Program}

-- a byte of a string, with the five escapes
abbrev pub escaped : ℕ → List ℕ
escaped b =
    if b == 10 then codes "\\n" else (if b == 9 then codes "\\t" else (if b == 13 then codes "\\r" else (if b == 92 then codes "\\\\" else (if b == 34 then codes "\\\"" else b ∷ []))))

abbrev pub quoted : List ℕ → List ℕ
quoted s = codes "\"" ++ flat_map escaped s ++ codes "\""

abbrev pub op_text : Op → List ℕ
op_text Or = codes " || "
op_text And = codes " && "
op_text Eq = codes " == "
op_text Ne = codes " != "
op_text Lt = codes " < "
op_text Le = codes " <= "
op_text Gt = codes " > "
op_text Ge = codes " >= "
op_text Add = codes " + "
op_text Sub = codes " - "
op_text Mul = codes " * "
op_text Div = codes " / "
op_text Rem = codes " % "

abbrev pub term_text : Term → List ℕ
term_text (num line v) = signed_decimal v
term_text (lit line s) = quoted s
term_text (var name) = name.text
term_text (atoi a) = codes "atoi(" ++ term_text a ++ codes ")"
term_text (strcmp a b) = codes "strcmp(" ++ term_text a ++ codes ", " ++ term_text b ++ codes ")"
term_text (neg a) = codes "(-" ++ term_text a ++ codes ")"
term_text (not_ a) = codes "(!" ++ term_text a ++ codes ")"
term_text (two op a b) = codes "(" ++ term_text a ++ op_text op ++ term_text b ++ codes ")"

-- further values, each after a comma
abbrev pub more_text : List Term → List ℕ
more_text [] = []
more_text (t ∷ ts) = codes ", " ++ term_text t ++ more_text ts

abbrev pub address_text : Bool → List ℕ
address_text true = codes "&"
address_text false = []

abbrev pub passed_text : Passed → List ℕ
passed_text p = address_text p.by_address ++ term_text p.value

abbrev pub more_passed : List Passed → List ℕ
more_passed [] = []
more_passed (p ∷ ps) = codes ", " ++ passed_text p ++ more_passed ps

-- arguments, parted by commas
abbrev pub passed_texts : List Passed → List ℕ
passed_texts [] = []
passed_texts (p ∷ ps) = passed_text p ++ more_passed ps

abbrev pub setting_text : Setting → List ℕ
setting_text s = s.to.text ++ codes " = " ++ term_text s.value

-- four blanks per level
abbrev pub indent_text : (level : ℕ) → List ℕ
indent_text level = replicate (4 * level) 32

abbrev pub line_text : (level : ℕ) → List ℕ → List ℕ
line_text level text = indent_text level ++ text ++ codes "\n"

abbrev pub mode_text : Mode → List ℕ
mode_text R = codes "R"
mode_text W = codes "W"
mode_text A = codes "A"

-- a part of a `for`'s head, empty where it is absent
abbrev pub maybe_setting : Option Setting → List ℕ
maybe_setting None = []
maybe_setting (Some s) = setting_text s

abbrev pub maybe_term : Option Term → List ℕ
maybe_term None = []
maybe_term (Some t) = term_text t

abbrev pub for_text : Option Setting → Option Term → Option Setting → List ℕ
for_text first test step = codes "for (" ++ maybe_setting first ++ codes "; " ++ maybe_term test ++ codes "; " ++ maybe_setting step ++ codes ") {"

abbrev pub open_text : Name → Term → Mode → List ℕ
open_text to path mode = to.text ++ codes " = " ++ codes "GS_FOpen(" ++ term_text path ++ codes ", " ++ mode_text mode ++ codes ");"

abbrev pub read_text : (got handle to : Name) → List ℕ
read_text got handle to = got.text ++ codes " = fgetline(" ++ handle.text ++ codes ", " ++ to.text ++ codes ");"

-- a format and its arguments, to the statement's end
abbrev pub format_text : Formatted → List Term → List ℕ
format_text format args = quoted format.text ++ more_text args ++ codes ");"

-- Statements at a level, each on lines of its own
abbrev mutual
  pub code_text : (level : ℕ) → Code → List ℕ
  code_text level (empty line) = line_text level (codes ";")
  code_text level (block line body) = line_text level (codes "{") ++ codes_text (level + 1) body ++ line_text level (codes "}")
  code_text level (set a) = line_text level (setting_text a ++ codes ";")
  code_text level (choose line test then_do else_do) = line_text level (codes "if (" ++ term_text test ++ codes ") {") ++ codes_text (level + 1) then_do ++ else_text level else_do ++ line_text level (codes "}")
  code_text level (while line test body) = line_text level (codes "while (" ++ term_text test ++ codes ") {") ++ codes_text (level + 1) body ++ line_text level (codes "}")
  code_text level (for line first test step body) = line_text level (for_text first test step) ++ codes_text (level + 1) body ++ line_text level (codes "}")
  code_text level (open_file line to path mode) = line_text level (open_text to path mode)
  code_text level (read_line line got handle to) = line_text level (read_text got handle to)
  code_text level (close_file line handle) = line_text level (codes "GS_FClose(" ++ handle.text ++ codes ");")
  code_text level (barrier line) = line_text level (codes "GS_Barrier();")
  code_text level (print line format args) = line_text level (codes "printf(" ++ format_text format args)
  code_text level (print_file line handle format args) = line_text level (codes "fprintf(" ++ handle.text ++ codes ", " ++ format_text format args)
  code_text level (print_str line to format args) = line_text level (codes "sprintf(" ++ to.text ++ codes ", " ++ format_text format args)
  code_text level (call op args) = line_text level (op.text ++ codes "(" ++ passed_texts args ++ codes ");")

  pub codes_text : (level : ℕ) → Codes → List ℕ
  codes_text level none = []
  codes_text level (one code rest) = code_text level code ++ codes_text level rest

  pub else_text : (level : ℕ) → MaybeCodes → List ℕ
  else_text level without = []
  else_text level (otherwise else_do) = line_text level (codes "} else {") ++ codes_text (level + 1) else_do

abbrev pub type_text : VarKind → List ℕ
type_text Int = codes "int "
type_text Str = codes "char *"
type_text Handle = codes "FILE *"

abbrev pub declared_text : Name × VarKind → List ℕ
declared_text v = type_text v.1 ++ v.0.text ++ codes ";"

-- one declaration per variable
abbrev pub vars_text : List (Name × VarKind) → List ℕ
vars_text [] = []
vars_text (v ∷ vs) = line_text 1 (declared_text v) ++ vars_text vs

abbrev pub first_text : List Setting → List ℕ
first_text [] = []
first_text (s ∷ ss) = line_text 1 (setting_text s ++ codes ";") ++ first_text ss

-- up to the statements
abbrev pub opening_text : List (Name × VarKind) → List Setting → List ℕ
opening_text vars first = line_text 0 (codes "main() {") ++ vars_text vars ++ first_text first

-- from GS_On to the end
abbrev pub run_text : Codes → List ℕ
run_text body = line_text 1 (codes "GS_On();") ++ codes_text 1 body ++ line_text 1 (codes "GS_Off(0);") ++ line_text 0 (codes "}")

abbrev pub printed : Program → List ℕ
printed p = opening_text p.vars p.first ++ run_text p.body
