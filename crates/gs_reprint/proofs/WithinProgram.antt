-- What signs say is within the limits, and spelled as the signs are.
use Rattle.std.proofs.Common.{List, [], ◌∷◌, ◌++◌, arith}
use Rattle.std.specs.Prelude.{Some, None}
use Rattle.gs_tree.specs.Program.{Name, Term, Setting, Program}
use Rattle.gs_tree.specs.Sign.{Sign, comma}
use Rattle.gs_tree.specs.declared.tree.VarKind.{VarKind}
use Rattle.gs_tree.specs.declared.tree.VarKind.TheVariants as var_kind
use Rattle.gs_parse.specs.Symbols.{name_at}
use Rattle.gs_parse.specs.Notation.{Declared, settings, declared, a_program, level, tail, more_terms, arg, more_args, args, condition, printing, assigned, for_first, for_test, for_step, rest_of, body, stmts, names, decls, starts, program}
use Rattle.gs_parse.specs.Grammar.{rule, declare, next_after, next_var, var_rule, names_rule, program_end, after_off, after_on, after_head, after_main}
use Rattle.gs_spelling.specs.Spelled.{IsName, VarsSpelled}
use Rattle.gs_reprint.specs.Laws.{ReadsWithin}
use Rattle.gs_reprint.proofs.Within.{GoodTerm, GoodSetting, GoodSettings, GoodDeclared, Gives, Keeps, AllKeep, signs_spelled, kept, name_taken}
use Rattle.gs_reprint.proofs.WithinTerms.{keep_level, keep_tail, keep_more_terms, keep_arg, keep_more_args, keep_args, keep_condition, keep_printing, keep_assigned, keep_first, keep_test, keep_step}
use Rattle.gs_reprint.proofs.WithinCodes.{keep_rest, keep_body, keep_stmts}

-- ---- declarations

-- one more variable
vars_more : (vs : List (Name × VarKind)) (n : Name) (k : VarKind) → VarsSpelled vs → IsName n.text → VarsSpelled (vs ++ (n, k) ∷ [])
vars_more [] n k hs h = (h, tt)
vars_more (v ∷ vs) n k hs h = (hs.0, vars_more vs n k hs.1 h)

-- one more good assignment
settings_more : (ss : List Setting) (s : Setting) → GoodSettings ss → GoodSetting s → GoodSettings (ss ++ s ∷ [])
settings_more [] s hs h = ((h.0, tt), (h.1, tt))
settings_more (u ∷ ss) s hs h = let i = settings_more ss s (hs.0.1, hs.1.1) h in ((hs.0.0, i.0), (hs.1.0, i.1))

-- one more variable without a value
declare_none : (n : Name) (k : VarKind) (d : Declared) → GoodDeclared d → IsName n.text → GoodDeclared (declare n k None d)
declare_none n k d hs h = (vars_more d.vars n k hs.0 h, hs.1)

-- one more variable with a value
declare_some : (n : Name) (k : VarKind) (e : Term) (d : Declared) → GoodDeclared d → IsName n.text → GoodTerm 0 e → GoodDeclared (declare n k (Some e) d)
declare_some n k e d hs h i = (vars_more d.vars n k hs.0 h, settings_more d.first (record { to = n; value = e }) hs.1 ((h, i.0), i.1))

-- further names or declarations, after good ones
keep_next_after : (k : VarKind) (d : Declared) (s : Sign) → GoodDeclared d → Keeps declared (next_after k d s) GoodDeclared
keep_next_after k d comma hs = (hs, λ all i. i)
keep_next_after k d _ hs = (hs, λ all i. i)

-- the same, by the sign that is there
keep_next_var : (k : VarKind) (d : Declared) → GoodDeclared d → Keeps declared (next_var k d) GoodDeclared
keep_next_var k d hs = λ x _ _. keep_next_after k d x.sign hs

-- a name with or without a value, and what follows
keep_var : (k : VarKind) (d : Declared) → GoodDeclared d → Keeps declared (var_rule k d) GoodDeclared
keep_var k d hs = λ x s a. (
  λ y _ _. (omega arith, λ e i. keep_next_var k (declare (name_at x) k (Some e.term) d) (declare_some (name_at x) k e.term d hs (name_taken x s a) i)),
  keep_next_var k (declare (name_at x) k None d) (declare_none (name_at x) k d hs (name_taken x s a)),
)

-- the names after a type, and what follows
keep_names : (k : VarKind) (d : Declared) → GoodDeclared d → Keeps declared (names_rule k d) GoodDeclared
keep_names var_kind.Int d hs = keep_var var_kind.Int d hs
keep_names var_kind.Str d hs = λ x _ _. keep_var var_kind.Str d hs
keep_names var_kind.Handle d hs = λ x _ _. λ y s a.
    keep_next_var var_kind.Handle (declare (name_at y) var_kind.Handle None d) (declare_none (name_at y) var_kind.Handle d hs (name_taken y s a))

-- declarations are good after good ones
keep_decls : (d : Declared) → GoodDeclared d → Keeps declared (rule (decls d)) GoodDeclared
keep_decls d hs = (λ x _ _. (hs, λ all i. i), hs)

-- assignments before the body are good after good ones
keep_starts : (so_far : List Setting) → GoodSettings so_far → Keeps settings (rule (starts so_far)) GoodSettings
keep_starts so_far hs = (
  λ x s a. λ y _ _. (omega arith, λ e i. λ z _ _. (settings_more so_far (record { to = name_at x; value = e.term }) hs ((name_taken x s a, i.0), i.1), λ all j. j)),
  hs,
)

-- ---- the whole program

-- the end of a good program
keep_end : (p : Program) → Gives program p → Keeps a_program (program_end p) (Gives program)
keep_end p h = λ x _ _. h

-- what follows GS_Off, of a good program
keep_off : (p : Program) → Gives program p → Keeps a_program (after_off p) (Gives program)
keep_off p h = λ x _ _. λ y _ _. λ z _ _. λ u _ _. (λ v _ _. λ w _ _. λ q _ _. keep_end p h, keep_end p h)

-- what follows GS_On, after good declarations
keep_on : (d : Declared) (first : List Setting) → GoodDeclared d → GoodSettings first → Keeps a_program (after_on d first) (Gives program)
keep_on d first hs is = λ x _ _. λ y _ _. λ z _ _. (
  (tt, tt),
  λ c h. keep_off (record { vars = d.vars; first = first; body = c.body; off = c.line })
      (record { vars = hs.0; first = is.0; body = h.0 }, record { first = is.1; body = h.1 }),
)

-- what follows `main(`
keep_head : Keeps a_program after_head (Gives program)
keep_head = λ x _ _. λ y _ _. ((tt, (tt, tt)), λ d hs. (hs.1, λ first is. λ z _ _. keep_on d first hs is))

-- what follows `main`
keep_main : Keeps a_program after_main (Gives program)
keep_main = λ x _ _. (λ y _ _. keep_head, keep_head)

-- a whole program
keep_program : Keeps a_program (rule program) (Gives program)
keep_program = (λ x _ _. λ y _ _. keep_main, λ y _ _. keep_main)

-- ---- all parts

-- every part gives what it should
all_keep : AllKeep
all_keep (level t d g) h = keep_level t d g h
all_keep (tail t d g a) h = keep_tail t d g a h.0 h.1
all_keep (more_terms so_far) h = keep_more_terms so_far h
all_keep arg h = keep_arg
all_keep (more_args so_far) h = keep_more_args so_far h
all_keep args h = keep_args
all_keep condition h = keep_condition
all_keep printing h = keep_printing
all_keep (assigned n) h = keep_assigned n h
all_keep for_first h = keep_first
all_keep for_test h = keep_test
all_keep for_step h = keep_step
all_keep (rest_of d x) h = keep_rest d x h.0 h.1
all_keep (body d) h = keep_body d
all_keep (stmts d c so_far) h = keep_stmts d c so_far h
all_keep (names k d) h = keep_names k d h
all_keep (decls d) h = keep_decls d h
all_keep (starts so_far) h = keep_starts so_far h
all_keep program h = keep_program

-- a program that spelled signs say within the limits is spelled and fits
pub reads_within : ReadsWithin
reads_within ts p all says = (kept all_keep a_program (rule program) ts p [] (Gives program) keep_program (signs_spelled ts all) says).0
