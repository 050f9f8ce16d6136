-- The tree that the functions pass, as plain data.
use Rattle.std.specs.Prelude.{List, [], ◌∷◌, Option, Some, None, map}
use Rattle.std.specs.Option.{option_map}
use Rattle.std.specs.declared.vec.Vec.{Vec}
use Rattle.std.specs.declared.alloc.Global.{Global}
use Rattle.gs_tree.specs.Program.{Name, Term, num, lit, var, atoi, strcmp, neg, not_, two, Setting, Formatted, Passed, Code, empty, block, set, choose, while, for, open_file, read_line, close_file, barrier, print, print_file, print_str, call, Codes, none, one, MaybeCodes, without, otherwise, Program}
use Rattle.gs_tree.specs.declared.tree.Ident.{Ident}
use Rattle.gs_tree.specs.declared.tree.Assign.{Assign}
use Rattle.gs_tree.specs.declared.tree.Format.{Format}
use Rattle.gs_tree.specs.declared.tree.Argument.{Argument}
use Rattle.gs_tree.specs.declared.tree.Tree.{Tree}
use Rattle.gs_tree.specs.declared.tree.Var.{Var}
use Rattle.gs_tree.specs.declared.tree.VarKind.{VarKind}
use Rattle.gs_tree.specs.declared.tree.Expr.{Expr, fold-Expr}
use Rattle.gs_tree.specs.declared.tree.Expr.TheOpen.{Expr-F}
use Rattle.gs_tree.specs.declared.tree.Stmt.{Stmt, fold-Stmt}
use Rattle.gs_tree.specs.declared.tree.Stmt.TheOpen.{Stmt-F}

abbrev pub name_of : Ident → Name
name_of id = record { line = id.line; text = id.name.items }

abbrev pub term_step : Expr-F Term → Term
term_step (Expr-F.Num line v) = num line v
term_step (Expr-F.Lit line s) = lit line s.items
term_step (Expr-F.Name id) = var (name_of id)
term_step (Expr-F.Atoi e) = atoi e.value
term_step (Expr-F.Strcmp a b) = strcmp a.value b.value
term_step (Expr-F.Neg e) = neg e.value
term_step (Expr-F.Not e) = not_ e.value
term_step (Expr-F.Two op a b) = two op a.value b.value

abbrev pub term_of : Expr → Term
term_of = fold-Expr Term term_step

abbrev pub setting_of : Assign → Setting
setting_of a = record { to = name_of a.to; value = term_of a.value }

abbrev pub formatted_of : Format → Formatted
formatted_of f = record { line = f.line; text = f.s.items }

abbrev pub passed_of : Argument → Passed
passed_of a = record { line = a.line; by_address = a.by_address; value = term_of a.e }

abbrev pub codes : List Code → Codes
codes [] = none
codes (c ∷ cs) = one c (codes cs)

abbrev pub maybe_codes : Option (Vec Code Global) → MaybeCodes
maybe_codes None = without
maybe_codes (Some v) = otherwise (codes v.items)

abbrev pub code_step : Stmt-F Code → Code
code_step (Stmt-F.Empty line) = empty line
code_step (Stmt-F.Block line body) = block line (codes body.items)
code_step (Stmt-F.Set a) = set (setting_of a)
code_step (Stmt-F.If line test then_do else_do) = choose line (term_of test) (codes then_do.items) (maybe_codes else_do)
code_step (Stmt-F.While line test body) = while line (term_of test) (codes body.items)
code_step (Stmt-F.For line first test step body) = for line (option_map setting_of first) (option_map term_of test) (option_map setting_of step) (codes body.items)
code_step (Stmt-F.OpenFile line to path mode) = open_file line (name_of to) (term_of path) mode
code_step (Stmt-F.ReadLine line got handle to) = read_line line (name_of got) (name_of handle) (name_of to)
code_step (Stmt-F.CloseFile line handle) = close_file line (name_of handle)
code_step (Stmt-F.Barrier line) = barrier line
code_step (Stmt-F.Print line format args) = print line (formatted_of format) (map term_of args.items)
code_step (Stmt-F.PrintFile line handle format args) = print_file line (name_of handle) (formatted_of format) (map term_of args.items)
code_step (Stmt-F.PrintStr line to format args) = print_str line (name_of to) (formatted_of format) (map term_of args.items)
code_step (Stmt-F.Call op args) = call (name_of op) (map passed_of args.items)

abbrev pub code_of : Stmt → Code
code_of = fold-Stmt Code code_step

abbrev pub codes_of : List Stmt → Codes
codes_of body = codes (map code_of body)

abbrev pub var_of : Var → Name × VarKind
var_of v = (name_of v.name, v.kind)

abbrev pub program_of : Tree → Program
program_of t = record { vars = map var_of t.vars.items; first = map setting_of t.first.items; body = codes_of t.body.items; off = t.off }
