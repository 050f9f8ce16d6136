-- What the productions of statements say, the reader's grammar says.
use Rattle.std.proofs.Common.{◌≡◌, ◌<◌, ◌+◌, ℕ, suc, refl, sym, ap, ◌∙◌, subst, List, [], ◌∷◌, ◌++◌, Bool, true, false, nat_lt, arith, append-nil, append_assoc, eq-eqb, if◌then◌else◌}
use Rattle.std.proofs.lemmas.Bool.{ne_eqb}
use Rattle.std.specs.Prelude.{◌==◌}
use Rattle.gs_tree.specs.Program.{Name, Term, Setting, Passed, Code, empty, block, set, choose, while, for, open_file, read_line, close_file, barrier, print, print_file, print_str, call, Codes, none, one, without, otherwise}
use Rattle.gs_tree.specs.Sign.{Sign, Mark, else_, gs_off, gs_fopen, fgetline_, open_paren, close_paren, open_brace, close_brace, semicolon, comma, equal}
use Rattle.gs_tree.specs.View.{codes}
use Rattle.gs_tree.specs.declared.tree.Mode.{Mode}
use Rattle.gs_tree.specs.declared.tree.Mode.TheVariants.{R, W, A}
use Rattle.gs_parse.specs.Fits.{TermFits, PassedsFit, CodeFits, CodesFit}
use Rattle.gs_parse.specs.Symbols.{place}
use Rattle.gs_parse.specs.Notation.{Closed, a_setting, a_code, a_body, closed, level, args, condition, printing, assigned, for_first, for_test, for_step, rest_of, body, stmts, fit, unfit}
use Rattle.gs_parse.specs.Grammar.{rule, judged, is, assigns, is_mode, mode_of, begins_statement, begins_body, closes_or_begins, stmts_after}
use Rattle.gs_parse.specs.Reading.{Limits, limited, Accepts, next_fit, Says, taken}
use Rattle.gs_grammar.specs.Signs.{at, called}
use Rattle.gs_grammar.specs.Expressions.{IsExpr}
use Rattle.gs_grammar.specs.Statements.{IsAssign, sets, increments, decrements, adds, subtracts, mode_sign, IsSimple, an_assignment, opens, reads_line, closes_file, waits, prints, prints_file, prints_string, calls, IsArgs, no_args, some_args, body_of, NoElse, IsStmt, nothing, a_block, a_simple, an_if, an_else, a_while, a_for, IsStmts, no_stmt, one_stmt}
use Rattle.gs_grammar.proofs.Alone.{is_brace, begins_brace, simple_open, simple_alone}
use Rattle.gs_grammar.proofs.Exact.{is_plain, exact}
use Rattle.gs_grammar.proofs.Saying.{Within, accepts_less, say_word, say_choice, say_other, say_name, say_part, say_given}
use Rattle.gs_grammar.proofs.TermsSaid.{expr_said}
use Rattle.gs_grammar.proofs.PartsSaid.{other_sign, expr_not, args_said, arg_not, condition_said, printing_said, adds_said, subtracts_said, first_said, step_said, test_said}

-- a statement after its first sign
data Said (l : Limits) (d : ℕ) : List Mark → Code → List Mark → Type 0 where
  said : {x : Mark} {ts rest : List Mark} {c : Code} → begins_statement x.sign ≡ true → Says l a_code (rule (rest_of d x)) ts c rest → Said l d (x ∷ ts) c rest

-- ---- simple statements

-- what a name and a sign other than `(` and `=` begin
changed_said : {l : Limits} {d a : ℕ} {n : Name} {ts rest : List Mark} {s : Setting} → next_fit (is open_paren) ts ≡ unfit → next_fit (is equal) ts ≡ unfit →
    Says l a_setting (rule (assigned n)) ts s (at a semicolon ∷ rest) → Said l d (called n ∷ ts) (set s) rest
changed_said {l} {d} {a} {n} {ts} {rest} {s} e f h = said refl (say_other e (say_other f (say_part {n = assigned n} h (say_word say_given))))

-- an assignment that is a statement
setting_said : {l : Limits} {d a : ℕ} {ts rest : List Mark} {s : Setting} → IsAssign l ts s (at a semicolon ∷ rest) → (l ≡ limited → TermFits 0 s.value) → Said l d ts (set s) rest
unfolding is assigns
setting_said (sets h) f =
    said refl (say_other refl (say_choice (say_other (expr_not gs_fopen refl refl h) (say_other (expr_not fgetline_ refl refl h)
    (say_part {n = level 6 0 0} (expr_said h refl 0 f) (say_word say_given))))))
setting_said {l} (increments {a} {n} {rest}) f = changed_said refl refl (taken l a_setting _ _ _ _ _ _ tt say_given)
setting_said {l} (decrements {a} {n} {rest}) f = changed_said refl refl (taken l a_setting _ _ _ _ _ _ tt say_given)
setting_said {l} (adds {a} {n} {ts} {rest} {e} h) f = changed_said refl refl (adds_said h refl f)
setting_said {l} (subtracts {a} {n} {ts} {rest} {e} h) f = changed_said refl refl (subtracts_said h refl f)

-- a mode is read from its sign
mode_said : (l : Limits) (m : Mode) (line : ℕ) → Accepts l (is_mode (at line (mode_sign m)))
unfolding is_mode
mode_said l R line = tt
mode_said l W line = tt
mode_said l A line = tt

mode_of-sign : (m : Mode) → mode_of (mode_sign m) ≡ m
mode_of-sign R = refl
mode_of-sign W = refl
mode_of-sign A = refl

-- an opened file
open_said : {l : Limits} {d a b c e f g h : ℕ} {n : Name} {m : Mode} {ts rest : List Mark} {path : Term} →
    IsExpr l 0 ts path (at e comma ∷ at f (mode_sign m) ∷ at g close_paren ∷ at h semicolon ∷ rest) → (l ≡ limited → TermFits 0 path) →
    Said l d (called n ∷ at a equal ∷ at b gs_fopen ∷ at c open_paren ∷ ts) (open_file n.line n path m) rest
unfolding is
open_said {l} {d} {a} {b} {c} {e} {f} {g} {h} {n} {m} {ts} {rest} {path} k fits =
    subst (λ (z : Mode). Said l d (called n ∷ at a equal ∷ at b gs_fopen ∷ at c open_paren ∷ ts) (open_file n.line n path z) rest) (mode_of-sign m)
    (said refl (say_other refl (say_choice (say_choice (say_word (say_part {n = level 6 0 0} (expr_said k refl 0 fits)
    (say_word (taken l a_code _ _ (at f (mode_sign m)) _ _ _ (mode_said l m f) (say_word (say_word say_given))))))))))

-- a call
call_said : {l : Limits} {d a b c : ℕ} {n : Name} {ts rest : List Mark} {ps : List Passed} → IsArgs l ts ps (at b close_paren ∷ at c semicolon ∷ rest) →
    (l ≡ limited → PassedsFit ps) → Said l d (called n ∷ at a open_paren ∷ ts) (call n ps) rest
call_said no_args f = said refl (say_choice (say_choice (say_word say_given)))
call_said (some_args h k) f = said refl (say_choice (say_other (arg_not h) (say_part {n = args} (args_said h k f) (say_word say_given))))

simple_said : {l : Limits} {d a : ℕ} {ts rest : List Mark} {c : Code} → IsSimple l ts c (at a semicolon ∷ rest) → (l ≡ limited → CodeFits d c) → Said l d ts c rest
unfolding is
simple_said (an_assignment h) f = setting_said h (λ q. (f q).1)
simple_said (opens h) f = open_said h (λ q. (f q).1)
simple_said (reads_line {a} {b} {c} {d} {e} {n} {h} {to} {rest}) f =
    said refl (say_other refl (say_choice (say_other refl (say_choice (say_word (say_name (say_word (say_name (say_word (say_word say_given))))))))))
simple_said (closes_file {a} {b} {c} {h} {rest}) f = said refl (say_word (say_name (say_word (say_word say_given))))
simple_said (waits {a} {b} {c} {rest}) f = said refl (say_word (say_word (say_word say_given)))
simple_said (prints h) f = said refl (say_word (say_part {n = printing} (printing_said h (λ q. (f q).1)) say_given))
simple_said (prints_file h) f = said refl (say_word (say_name (say_word (say_part {n = printing} (printing_said h (λ q. (f q).1)) say_given))))
simple_said (prints_string h) f = said refl (say_word (say_name (say_word (say_part {n = printing} (printing_said h (λ q. (f q).1)) say_given))))
simple_said (calls h) f = call_said h (λ q. (f q).1)

-- ---- bodies

-- a statement within the limits stands within so many others
depth_kept : (d : ℕ) (c : Code) → CodeFits d c → d < 64
depth_kept d (empty line) f = f
depth_kept d (block line cs) f = f.0
depth_kept d (set s) f = f.0
depth_kept d (choose line t a b) f = f.0
depth_kept d (while line t b) f = f.0
depth_kept d (for line i t s b) f = f.0
depth_kept d (open_file line n p m) f = f.0
depth_kept d (read_line line g h t) f = f
depth_kept d (close_file line h) f = f
depth_kept d (barrier line) f = f
depth_kept d (print line g es) f = f.0
depth_kept d (print_file line h g es) f = f.0
depth_kept d (print_str line t g es) f = f.0
depth_kept d (call n ps) f = f.0

room_kept : (l : Limits) (d : ℕ) (c : Code) → (l ≡ limited → CodeFits d c) → Within l (suc d)
room_kept l d c f = λ q. let lt = depth_kept d c (f q) in omega (arith, lt)

-- a statement is accepted where one may begin
accepts_begun : (l : Limits) (d : ℕ) (b : Bool) → b ≡ true → Within l (suc d) → Accepts l (judged b (nat_lt d 64))
accepts_begun l d b e w = subst (λ (z : Bool). Accepts l (judged z (nat_lt d 64))) (sym e) (accepts_less l d w)

-- the one statement of a body, by its first sign
body_one : (l : Limits) (d line : ℕ) (s : Sign) (ts : List Mark) (c : Code) (rest : List Mark) → is_brace s ≡ false → Accepts l (judged (begins_statement s) (nat_lt d 64)) →
    Says l a_code (rule (rest_of d (at line s))) ts c rest → Says l a_body (rule (body d)) (at line s ∷ ts) (one c none) rest
unfolding begins_body
body_one l d line open_brace ts c rest e a h = absurd (cc)
body_one l d line s ts c rest e a h = taken l a_body _ _ (at line s) ts (one c none) rest a (say_part {n = rest_of d (at line s)} h say_given)

body_said : (l : Limits) (d : ℕ) (ts : List Mark) (c : Code) (rest : List Mark) → begins_brace ts ≡ false → Within l (suc d) → Said l d ts c rest →
    Says l a_body (rule (body d)) ts (one c none) rest
body_said l d ts c rest e w (said {x} {ts = xs} b h) = body_one l d x.line x.sign xs c rest e (accepts_begun l d (begins_statement x.sign) b w) h

-- a statement, by itself and as a body
record Both (l : Limits) (ts : List Mark) (c : Code) (rest : List Mark) : Type 0 where
  alone : (d : ℕ) → (l ≡ limited → CodeFits d c) → Said l d ts c rest
  inside : (d : ℕ) → (l ≡ limited → CodesFit d (body_of c)) → Says l a_body (rule (body d)) ts (body_of c) rest

-- what is no block is a body of one statement
no_block : {l : Limits} {ts : List Mark} {c : Code} {rest : List Mark} → body_of c ≡ one c none → begins_brace ts ≡ false →
    ((d : ℕ) → (l ≡ limited → CodeFits d c) → Said l d ts c rest) → Both l ts c rest
no_block {l} {ts} {c} {rest} e b h = record {
  alone = h;
  inside = λ d f.
      let g : l ≡ limited → CodeFits d c = λ q. (subst (CodesFit d) e (f q)).0 in
      subst (λ (z : Codes). Says l a_body (rule (body d)) ts z rest) (sym e) (body_said l d ts c rest b (room_kept l d c g) (h d g));
}

-- ---- lists of statements

abbrev list_of : Codes → List Code
list_of none = []
list_of (one c cs) = c ∷ list_of cs

codes-list_of : (cs : Codes) → codes (list_of cs) ≡ cs
codes-list_of none = refl
codes-list_of (one c cs) = ap (one c) (codes-list_of cs)

-- a sign that ends a list of statements
record Closer (s : Sign) : Type 0 where
  plain : is_plain s ≡ true
  begins_not : begins_statement s ≡ false

brace_closes : Closer close_brace
brace_closes = record { plain = refl; begins_not = refl }

-- a statement does not begin with it
not_closer : (x : Mark) (s : Sign) → Closer s → begins_statement x.sign ≡ true → (place x.sign == place s) ≡ false
not_closer x s c b =
    ne_eqb (place x.sign) (place s) (λ e. let bad : true ≡ false = sym b ∙ ap begins_statement (exact s x.sign c.plain e) ∙ c.begins_not in cc)

-- one statement more
one_onward : (l : Limits) (d : ℕ) (closer : Sign) (so_far : List Code) (x : Mark) (b : Bool) (ts us : List Mark) (c : Code) (v : Closed) (rest : List Mark) → (place x.sign == place closer) ≡ b →
    b ≡ false → Accepts l (judged (begins_statement x.sign) (nat_lt d 64)) → Says l a_code (rule (rest_of d x)) ts c us →
    Says l closed (rule (stmts d closer (so_far ++ c ∷ []))) us v rest → Says l closed (rule (stmts d closer so_far)) (x ∷ ts) v rest
unfolding closes_or_begins
one_onward l d closer so_far x true ts us c v rest e f a h t = absurd (cc)
one_onward l d closer so_far x false ts us c v rest e f a h t =
    taken l closed _ _ x ts v rest
    (subst (λ (z : Bool). Accepts l (if z then fit else judged (begins_statement x.sign) (nat_lt d 64))) (sym e) a)
    (subst (λ (z : Bool). Says l closed (stmts_after d closer so_far x z) ts v rest) (sym e)
    (say_part {n = rest_of d x} h (say_part {n = stmts d closer (so_far ++ c ∷ [])} t say_given)))

more_onward : (l : Limits) (d : ℕ) (closer : Sign) (so_far : List Code) (ts us : List Mark) (c : Code) (v : Closed) (rest : List Mark) → Closer closer → Within l (suc d) →
    Said l d ts c us → Says l closed (rule (stmts d closer (so_far ++ c ∷ []))) us v rest → Says l closed (rule (stmts d closer so_far)) ts v rest
more_onward l d closer so_far ts us c v rest k w (said {x} {ts = xs} b h) t =
    one_onward l d closer so_far x (place x.sign == place closer) xs us c v rest refl (not_closer x closer k b) (accepts_begun l d (begins_statement x.sign) b w) h t

-- no statement more
closed_said : (l : Limits) (d line : ℕ) (closer : Sign) (so_far : List Code) (rest : List Mark) →
    Says l closed (rule (stmts d closer so_far)) (at line closer ∷ rest) (record { body = codes so_far; line = line }) rest
unfolding closes_or_begins
closed_said l d line closer so_far rest =
    let same : (place closer == place closer) ≡ true = eq-eqb (place closer) (place closer) refl in
    taken l closed _ _ (at line closer) rest _ rest
    (subst (λ (z : Bool). Accepts l (if z then fit else judged (begins_statement closer) (nat_lt d 64))) (sym same) tt)
    (subst (λ (z : Bool). Says l closed (stmts_after d closer so_far (at line closer) z) rest (record { body = codes so_far; line = line }) rest) (sym same) say_given)

-- what was said of statements goes on behind them
abbrev Onward : Limits → List Mark → Codes → List Mark → Type 0
Onward l ts cs us =
    (d : ℕ) → (l ≡ limited → CodesFit d cs) → (closer : Sign) → Closer closer → (so_far : List Code) (v : Closed) (rest : List Mark) →
    Says l closed (rule (stmts d closer (so_far ++ list_of cs))) us v rest → Says l closed (rule (stmts d closer so_far)) ts v rest

-- all of the statements, from the first on
all_said : (l : Limits) (d line : ℕ) (closer : Sign) (ts : List Mark) (cs : Codes) (rest : List Mark) → Closer closer → (l ≡ limited → CodesFit d cs) →
    Onward l ts cs (at line closer ∷ rest) → Says l closed (rule (stmts d closer [])) ts (record { body = cs; line = line }) rest
all_said l d line closer ts cs rest k f h =
    subst (λ (z : Codes). Says l closed (rule (stmts d closer [])) ts (record { body = z; line = line }) rest) (codes-list_of cs)
    (h d f closer k [] (record { body = codes (list_of cs); line = line }) rest (closed_said l d line closer (list_of cs) rest))

-- no `else` follows
without_else : (ts : List Mark) → NoElse ts → next_fit (is else_) ts ≡ unfit
unfolding is
without_else [] h = refl
without_else (x ∷ ts) h = other_sign else_ x ts refl h

block_said : (l : Limits) (a b : ℕ) (ts : List Mark) (cs : Codes) (rest : List Mark) → Onward l ts cs (at b close_brace ∷ rest) → Both l (at a open_brace ∷ ts) (block a cs) rest
unfolding begins_body
block_said l a b ts cs rest h = record {
  alone = λ d f. said refl (say_part {n = stmts (d + 1) close_brace []} (all_said l (d + 1) b close_brace ts cs rest brace_closes (λ q. (f q).1) h) say_given);
  inside = λ d f. taken l a_body _ _ (at a open_brace) ts cs rest tt (say_part {n = stmts d close_brace []} (all_said l d b close_brace ts cs rest brace_closes f h) say_given);
}

mutual
  unfolding is

  stmt_said : {l : Limits} {ts rest : List Mark} {c : Code} → IsStmt l ts c rest → Both l ts c rest
  stmt_said (nothing {a} {rest}) = no_block {c = empty a} refl refl (λ d f. said refl say_given)
  stmt_said {l} (a_block {a} {b} {ts} {rest} {body = cs} h) = block_said l a b ts cs rest (stmts_onward h)
  stmt_said (a_simple {a} {ts} {rest} {c} h) = no_block {c = c} (simple_alone h) (simple_open h) (λ d f. simple_said h f)
  stmt_said (an_if {a} {rest} {e} {yes_} h k free) =
      let yes_said = stmt_said k in
      no_block {c = choose a e (body_of yes_) without} refl refl (λ d f. said refl (say_part {n = condition} (condition_said h (λ q. (f q).1)) (say_part {n = body (d + 1)} (yes_said.inside (d + 1) (λ q. (f q).2))
      (say_other (without_else rest free) say_given))))
  stmt_said (an_else {a} {e} {yes_} {no_} h k i) =
      let yes_said = stmt_said k in
      let no_said = stmt_said i in
      no_block {c = choose a e (body_of yes_) (otherwise (body_of no_))} refl refl (λ d f. said refl (say_part {n = condition} (condition_said h (λ q. (f q).1)) (say_part {n = body (d + 1)} (yes_said.inside (d + 1) (λ q. (f q).2))
      (say_choice (say_part {n = body (d + 1)} (no_said.inside (d + 1) (λ q. (f q).3)) say_given)))))
  stmt_said (a_while {a} {e} {body = inside} h k) =
      let inner = stmt_said k in
      no_block {c = while a e (body_of inside)} refl refl (λ d f. said refl (say_part {n = condition} (condition_said h (λ q. (f q).1)) (say_part {n = body (d + 1)} (inner.inside (d + 1) (λ q. (f q).2)) say_given)))
  stmt_said (a_for {a} {first} {step} {test} {body = inside} h i j k) =
      let inner = stmt_said k in
      no_block {c = for a first test step (body_of inside)} refl refl (λ d f. said refl (say_word (say_part {n = for_first} (first_said h (λ q. (f q).1)) (say_part {n = for_test} (test_said i (λ q. (f q).2))
      (say_part {n = for_step} (step_said j (λ q. (f q).3)) (say_part {n = body (d + 1)} (inner.inside (d + 1) (λ q. (f q).4)) say_given))))))

  stmts_onward : {l : Limits} {ts us : List Mark} {cs : Codes} → IsStmts l ts cs us → Onward l ts cs us
  stmts_onward {l} (no_stmt {rest = us}) d f closer k so_far v rest t = subst (λ (z : List Code). Says l closed (rule (stmts d closer z)) us v rest) (append-nil so_far) t
  stmts_onward {l} (one_stmt {ts} {us} {rest = vs} {c} {cs} h i) d f closer k so_far v rest t =
      let first = stmt_said h in
      more_onward l d closer so_far ts us c v rest k (room_kept l d c (λ q. (f q).0)) (first.alone d (λ q. (f q).0))
      (stmts_onward i d (λ q. (f q).1) closer k (so_far ++ c ∷ []) v rest
      (subst (λ (z : List Code). Says l closed (rule (stmts d closer z)) vs v rest) (sym (append_assoc so_far (c ∷ []) (list_of cs))) t))

-- the statements of the program
pub run_said : {l : Limits} {a : ℕ} {ts rest : List Mark} {cs : Codes} → IsStmts l ts cs (at a gs_off ∷ rest) → (l ≡ limited → CodesFit 0 cs) →
    Says l closed (rule (stmts 0 gs_off [])) ts (record { body = cs; line = a }) rest
run_said {l} {a} {ts} {rest} {cs} h f = all_said l 0 a gs_off ts cs rest (record { plain = refl; begins_not = refl }) f (stmts_onward h)
