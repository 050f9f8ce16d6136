-- The text of the made program says it.
use Rattle.std.proofs.Common.{ℕ, zero, suc, pos, ◌+◌, ◌%◌, Bool, true, false, if◌then◌else◌, List, ◌∷◌, refl, lit<, lit≤, arith}
use Rattle.std.specs.Prelude.{◌==◌}
use Rattle.gs_tree.specs.Program.{lit, num, Codes, none}
use Rattle.gs_tree.specs.Sign.{Mark, string, number}
use Rattle.gs_parse.specs.Fits.{CodeFits, CodesFit}
use Rattle.gs_parse.specs.Reading.{limited}
use Rattle.gs_grammar.specs.Signs.{at}
use Rattle.gs_grammar.specs.Expressions.{IsExpr, an_and, an_eq, a_rel, a_sum, a_prod, a_unary, a_prim, a_string, a_number}
use Rattle.gs_grammar.specs.Statements.{value, no_arg, one_arg, some_args, calls, a_simple, IsStmt, IsStmts, no_stmt, one_stmt}
use Rattle.gs_grammar.specs.Programs.{no_type, no_void, no_decl, no_start, no_return, IsProgram, the_program}
use Rattle.gs_grammar.specs.Laws.{IsProgramText}
use Rattle.gs_grammar.proofs.Same.{same_texts}
use Rattle.gs_report.specs.Generator.{behind, drawn, after_tasks, program_text}
use Rattle.gs_report.proofs.Sizes.{program_short}
use Rattle.gs_made.specs.Texts.{line_of_task, mark_call, hash_call, task_call, task_calls, self_tree}
use Rattle.gs_made.specs.Laws.{SaysProgram}
use Rattle.gs_made.proofs.Lines.{mark_marks, hash_marks, task_marks, tasks_marks, end_marks, head_marks, program_cuts}

-- ---- the statements

string_said : (line : ℕ) (s : List ℕ) (rest : List Mark) → IsExpr limited 0 (at line (string s) ∷ rest) (lit line s) rest
string_said line s rest = an_and (an_eq (a_rel (a_sum (a_prod (a_unary (a_prim a_string))))))

number_said : (line n : ℕ) (rest : List Mark) → IsExpr limited 0 (at line (number (pos n)) ∷ rest) (num line (pos n)) rest
number_said line n rest = an_and (an_eq (a_rel (a_sum (a_prod (a_unary (a_prim a_number))))))

mark_said : (line t x : ℕ) (rest : List Mark) → IsStmt limited (mark_marks line t x rest) (mark_call line t x) rest
mark_said line t x rest = a_simple (calls (some_args (value (string_said line _ _)) (one_arg (value (number_said line t _)) no_arg)))

hash_said : (line x : ℕ) (rest : List Mark) → IsStmt limited (hash_marks line x rest) (hash_call line x) rest
hash_said line x rest =
    a_simple (calls (some_args (value (string_said line _ _)) (one_arg (value (string_said line _ _)) (one_arg (value (string_said line _ _)) no_arg))))

task_said : (t x : ℕ) (rest : List Mark) → IsStmt limited (task_marks (line_of_task t) t x rest) (task_call t x) rest
task_said t x rest = by (drawn x % 4 == 0)
  where
    by : (b : Bool) → IsStmt limited (if b then mark_marks (line_of_task t) t (behind x) rest else hash_marks (line_of_task t) (behind x) rest)
        (if b then mark_call (line_of_task t) t (behind x) else hash_call (line_of_task t) (behind x)) rest
    by true = mark_said (line_of_task t) t (behind x) rest
    by false = hash_said (line_of_task t) (behind x) rest

tasks_said : (seed k : ℕ) (marks rest : List Mark) (others : Codes) → IsStmts limited marks others rest
    → IsStmts limited (tasks_marks seed k marks) (task_calls seed k others) rest
tasks_said seed zero marks rest others h = h
tasks_said seed (suc k) marks rest others h = tasks_said seed k _ rest _ (one_stmt (task_said (suc k) (after_tasks seed k) marks) h)

-- ---- within the limits

task_fits : (t x : ℕ) → CodeFits 0 (task_call t x)
task_fits t x = by (drawn x % 4 == 0)
  where
    by : (b : Bool) → CodeFits 0 (if b then mark_call (line_of_task t) t (behind x) else hash_call (line_of_task t) (behind x))
    by true = (lit< tt, (lit≤ tt, (lit≤ tt, tt)))
    by false = (lit< tt, (lit≤ tt, (lit≤ tt, (lit≤ tt, tt))))

tasks_fit : (seed k : ℕ) (others : Codes) → CodesFit 0 others → CodesFit 0 (task_calls seed k others)
tasks_fit seed zero others h = h
tasks_fit seed (suc k) others h = tasks_fit seed k _ (task_fits (suc k) (after_tasks seed k), h)

-- ---- the program

program_said : (seed n : ℕ) → IsProgram limited (head_marks (tasks_marks seed n (end_marks (n + 3)))) (self_tree seed n)
program_said seed n = the_program no_type no_void no_decl no_start (tasks_said seed n _ _ none no_stmt) no_return

pub says_program : SaysProgram
says_program seed n le =
    let all = (program_cuts seed n le).cut (program_text seed n) 0 true refl in
    let text : IsProgramText (program_text seed n) (self_tree seed n) = record {
      short = omega (arith, program_short seed n le);
      tokens = all.found;
      cut = all.lexes;
      says = rw all.says (program_said seed n);
      fits = record { first = tt; body = tasks_fit seed n none tt };
    } in
    (same_texts (program_text seed n) (self_tree seed n)).0 text
