-- A program without its lines. Two trees are equal where these are.
use Rattle.std.specs.Prelude.{map}
use Rattle.std.specs.Option.{option_map}
use Rattle.gs_tree.specs.declared.tree.VarKind.{VarKind}
use Rattle.gs_tree.specs.Program.{Name, Term, num, lit, var, atoi, strcmp, neg, not_, two, Setting, Formatted, Passed, Code, empty, block, set, choose, while, for, open_file, read_line, close_file, barrier, print, print_file, print_str, call, Codes, none, one, MaybeCodes, without, otherwise, Program}

abbrev pub unlined_name : Name → Name
unlined_name n = record { line = 0; text = n.text }

abbrev pub unlined_term : Term → Term
unlined_term (num line v) = num 0 v
unlined_term (lit line s) = lit 0 s
unlined_term (var name) = var (unlined_name name)
unlined_term (atoi a) = atoi (unlined_term a)
unlined_term (strcmp a b) = strcmp (unlined_term a) (unlined_term b)
unlined_term (neg a) = neg (unlined_term a)
unlined_term (not_ a) = not_ (unlined_term a)
unlined_term (two op a b) = two op (unlined_term a) (unlined_term b)

abbrev pub unlined_setting : Setting → Setting
unlined_setting s = record { to = unlined_name s.to; value = unlined_term s.value }

abbrev pub unlined_format : Formatted → Formatted
unlined_format f = record { line = 0; text = f.text }

abbrev pub unlined_passed : Passed → Passed
unlined_passed p = record { line = 0; by_address = p.by_address; value = unlined_term p.value }

abbrev mutual
  pub unlined_code : Code → Code
  unlined_code (empty line) = empty 0
  unlined_code (block line body) = block 0 (unlined_codes body)
  unlined_code (set a) = set (unlined_setting a)
  unlined_code (choose line test then_do else_do) = choose 0 (unlined_term test) (unlined_codes then_do) (unlined_else else_do)
  unlined_code (while line test body) = while 0 (unlined_term test) (unlined_codes body)
  unlined_code (for line first test step body) =
      for 0 (option_map unlined_setting first) (option_map unlined_term test) (option_map unlined_setting step) (unlined_codes body)
  unlined_code (open_file line to path mode) = open_file 0 (unlined_name to) (unlined_term path) mode
  unlined_code (read_line line got handle to) = read_line 0 (unlined_name got) (unlined_name handle) (unlined_name to)
  unlined_code (close_file line handle) = close_file 0 (unlined_name handle)
  unlined_code (barrier line) = barrier 0
  unlined_code (print line format args) = print 0 (unlined_format format) (map unlined_term args)
  unlined_code (print_file line handle format args) = print_file 0 (unlined_name handle) (unlined_format format) (map unlined_term args)
  unlined_code (print_str line to format args) = print_str 0 (unlined_name to) (unlined_format format) (map unlined_term args)
  unlined_code (call op args) = call (unlined_name op) (map unlined_passed args)

  pub unlined_codes : Codes → Codes
  unlined_codes none = none
  unlined_codes (one code rest) = one (unlined_code code) (unlined_codes rest)

  pub unlined_else : MaybeCodes → MaybeCodes
  unlined_else without = without
  unlined_else (otherwise body) = otherwise (unlined_codes body)

abbrev pub unlined_var : Name × VarKind → Name × VarKind
unlined_var v = (unlined_name v.0, v.1)

abbrev pub unlined : Program → Program
unlined p = record { vars = map unlined_var p.vars; first = map unlined_setting p.first; body = unlined_codes p.body; off = 0 }
