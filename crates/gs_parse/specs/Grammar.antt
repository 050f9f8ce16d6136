-- The grammar of the main program: a rule for each part.
use Rattle.std.specs.Prelude.{ℕ, zero, suc, pos, ◌+◌, max, nat_lt, Bool, true, false, ◌==◌, ◌||◌, if◌then◌else◌, List, [], ◌∷◌, ◌++◌, Option, Some, None}
use Rattle.gs_tree.specs.declared.tree.Op.TheVariants.{Add, Sub}
use Rattle.gs_tree.specs.declared.tree.Mode.{Mode}
use Rattle.gs_tree.specs.declared.tree.Mode.TheVariants as mode
use Rattle.gs_tree.specs.declared.tree.VarKind.{VarKind}
use Rattle.gs_tree.specs.declared.tree.VarKind.TheVariants as var_kind
use Rattle.gs_tree.specs.Program.{Name, Term, num, lit, var, atoi, strcmp, neg, not_, two, Setting, Formatted, Passed, Code, empty, block, set, choose, while, for, open_file, read_line, close_file, barrier, print, print_file, print_str, call, none, one, without, otherwise, Program}
use Rattle.gs_tree.specs.View.{codes}
use Rattle.gs_tree.specs.Sign.{Sign, Mark, main_, int_, char_, file_, void_, if_, else_, while_, for_, return_, gs_on, gs_off, gs_barrier, gs_fopen, gs_fclose, printf_, fprintf_, sprintf_, fgetline_, atoi_, strcmp_, mode_r, mode_w, mode_a, ident, number, string, plus_plus, minus_minus, plus_equal, minus_equal, open_paren, close_paren, open_brace, close_brace, comma, semicolon, equal, minus, star, bang, ampersand}
use Rattle.gs_parse.specs.Symbols.{place, text_of, name_at, binding, operator}
use Rattle.gs_parse.specs.Notation.{Lined, Declared, Kind, a_term, terms, a_passed, all_passed, a_printed, a_setting, maybe_setting, maybe_term, settings, a_code, a_body, closed, declared, a_program, Part, level, tail, more_terms, arg, more_args, args, condition, printing, assigned, for_first, for_test, for_step, rest_of, body, stmts, names, decls, starts, program, kind_of, Fit, unfit, too_deep, fit, Rule, gives, take, may, read}

-- ---- what a sign has to be

-- a sign that stands here, within the limits or not
abbrev pub judged : (stands within : Bool) → Fit
judged true true = fit
judged true false = too_deep
judged false within = unfit

unfoldable pub is : Sign → Mark → Fit
is s x = judged (place x.sign == place s) true

unfoldable pub is_either : Sign → Sign → Mark → Fit
is_either s t x = judged (place x.sign == place s || place x.sign == place t) true

abbrev pub word : {k : Kind} → Sign → Rule k → Rule k
word s r = take (is s) (λ x. r)

-- a name
abbrev pub name : {k : Kind} → (Name → Rule k) → Rule k
name f = take (is (ident [])) (λ x. f (name_at x))

abbrev pub format : {k : Kind} → (Formatted → Rule k) → Rule k
format f = take (is (string [])) (λ x. f (record { line = x.line; text = text_of x.sign }))

abbrev pub zero_fit : Sign → Fit
zero_fit (number (pos zero)) = fit
zero_fit _ = unfit

-- `0`
unfoldable pub is_zero : Mark → Fit
is_zero x = zero_fit x.sign

-- ---- expressions

-- how deep a term is: 1 for a leaf
abbrev pub height : Term → ℕ
height (num line v) = 1
height (lit line s) = 1
height (var n) = 1
height (atoi e) = height e + 1
height (strcmp a b) = max (height a) (height b) + 1
height (neg e) = height e + 1
height (not_ e) = height e + 1
height (two op a b) = max (height a) (height b) + 1

-- how an operand begins; each operator or call needs room for a leaf below it
abbrev pub operand_fit : (depth groups : ℕ) → Sign → Fit
operand_fit depth groups (number v) = fit
operand_fit depth groups (string s) = fit
operand_fit depth groups (ident s) = fit
operand_fit depth groups minus = judged true (nat_lt (depth + 1) 64)
operand_fit depth groups bang = judged true (nat_lt (depth + 1) 64)
operand_fit depth groups atoi_ = judged true (nat_lt (depth + 1) 64)
operand_fit depth groups strcmp_ = judged true (nat_lt (depth + 1) 64)
operand_fit depth groups open_paren = judged true (nat_lt groups 64)
operand_fit depth groups _ = unfit

unfoldable pub begins_operand : (depth groups : ℕ) → Mark → Fit
begins_operand depth groups x = operand_fit depth groups x.sign

abbrev pub leaf : Mark → Term → Rule a_term
leaf x t = gives (record { line = x.line; term = t })

abbrev pub expr : (depth groups : ℕ) → Part
expr depth groups = level 6 depth groups

-- an operand after its first sign
abbrev pub operand : (depth groups : ℕ) → (first : Mark) → Sign → Rule a_term
operand depth groups x (number v) = leaf x (num x.line v)
operand depth groups x (string s) = leaf x (lit x.line s)
operand depth groups x (ident s) = leaf x (var (name_at x))
operand depth groups x minus = read (level 0 (depth + 1) groups) (λ e. leaf x (neg e.term))
operand depth groups x bang = read (level 0 (depth + 1) groups) (λ e. leaf x (not_ e.term))
operand depth groups x atoi_ =
    word open_paren (read (expr (depth + 1) groups) (λ e. word close_paren (leaf x (atoi e.term))))
operand depth groups x strcmp_ =
    word open_paren (read (expr (depth + 1) groups) (λ a. word comma (read (expr (depth + 1) groups) (λ b. word close_paren (leaf x (strcmp a.term b.term))))))
operand depth groups x open_paren = read (expr depth (groups + 1)) (λ e. word close_paren (leaf x e.term))
operand depth groups x _ = leaf x (num x.line (pos 0))

-- a binary operator of a level, where the term to its left still has room below it
unfoldable pub goes_on : (tightness depth : ℕ) → (left : Term) → Mark → Fit
goes_on tightness depth left x = judged (binding x.sign == tightness) (nat_lt (depth + height left) 64)

abbrev pub joined : Mark → (a b : Lined) → Lined
joined x a b = record { line = a.line; term = two (operator x.sign) a.term b.term }

abbrev pub level_rule : (tightness depth groups : ℕ) → Rule a_term
level_rule zero depth groups = take (begins_operand depth groups) (λ x. operand depth groups x x.sign)
level_rule (suc tightness) depth groups = read (level tightness depth groups) (λ a. read (tail tightness depth groups a) (λ t. gives t))

-- operators group to the left
abbrev pub tail_rule : (tightness depth groups : ℕ) → Lined → Rule a_term
tail_rule tightness depth groups a =
    may (goes_on (suc tightness) depth a.term)
    (λ x. read (level tightness (depth + 1) groups) (λ b. read (tail tightness depth groups (joined x a b)) (λ t. gives t)))
    (gives a)

-- ---- arguments

abbrev pub after_term : List Term → Sign → Rule terms
after_term so_far comma = read (expr 0 0) (λ e. read (more_terms (so_far ++ e.term ∷ [])) (λ all. gives all))
after_term so_far _ = gives so_far

abbrev pub arg_rule : Rule a_passed
arg_rule =
    may (is ampersand) (λ x. name (λ n. gives (record { line = x.line; by_address = true; value = var n })))
    (read (expr 0 0) (λ e. gives (record { line = e.line; by_address = false; value = e.term })))

abbrev pub after_arg : List Passed → Sign → Rule all_passed
after_arg so_far comma = read arg (λ a. read (more_args (so_far ++ a ∷ [])) (λ all. gives all))
after_arg so_far _ = gives so_far

abbrev pub args_rule : Rule all_passed
args_rule = read arg (λ a. read (more_args (a ∷ [])) (λ all. gives all))

abbrev pub condition_rule : Rule a_term
condition_rule = take (is open_paren) (λ x. read (expr 0 0) (λ e. word close_paren (gives (record { line = x.line; term = e.term }))))

abbrev pub printing_rule : Rule a_printed
printing_rule = format (λ f. read (more_terms []) (λ es. word semicolon (gives (record { format = f; args = es }))))

-- ---- assignments

abbrev pub assigning_fit : Sign → Fit
assigning_fit equal = fit
assigning_fit plus_plus = fit
assigning_fit minus_minus = fit
assigning_fit plus_equal = fit
assigning_fit minus_equal = fit
assigning_fit _ = unfit

unfoldable pub assigns : Mark → Fit
assigns x = assigning_fit x.sign

abbrev pub sets : Name → Term → Rule a_setting
sets n t = gives (record { to = n; value = t })

-- `n + e` stands for `n += e`, where e is one deeper
abbrev pub assignment : Name → Mark → Sign → Rule a_setting
assignment n x plus_plus = sets n (two Add (var n) (num x.line (pos 1)))
assignment n x minus_minus = sets n (two Sub (var n) (num x.line (pos 1)))
assignment n x plus_equal = read (expr 1 0) (λ e. sets n (two Add (var n) e.term))
assignment n x minus_equal = read (expr 1 0) (λ e. sets n (two Sub (var n) e.term))
assignment n x _ = read (expr 0 0) (λ e. sets n e.term)

-- ---- statements

abbrev pub mode_fit : Sign → Fit
mode_fit mode_r = fit
mode_fit mode_w = fit
mode_fit mode_a = fit
mode_fit _ = unfit

unfoldable pub is_mode : Mark → Fit
is_mode x = mode_fit x.sign

abbrev pub mode_of : Sign → Mode
mode_of mode_w = mode.W
mode_of mode_a = mode.A
mode_of _ = mode.R

abbrev pub begins_statement : Sign → Bool
begins_statement semicolon = true
begins_statement open_brace = true
begins_statement if_ = true
begins_statement while_ = true
begins_statement for_ = true
begins_statement (ident s) = true
begins_statement gs_fclose = true
begins_statement gs_barrier = true
begins_statement printf_ = true
begins_statement fprintf_ = true
begins_statement sprintf_ = true
begins_statement _ = false

-- a body in braces is no statement of its own
abbrev pub body_fit : (depth : ℕ) → Mark → Sign → Fit
body_fit depth x open_brace = fit
body_fit depth x _ = judged (begins_statement x.sign) (nat_lt depth 64)

unfoldable pub begins_body : (depth : ℕ) → Mark → Fit
begins_body depth x = body_fit depth x x.sign

abbrev pub open_rule : Name → Rule a_code
open_rule n =
    word open_paren (read (expr 0 0) (λ e. word comma (take is_mode (λ m. word close_paren (word semicolon (gives (open_file n.line n e.term (mode_of m.sign))))))))

abbrev pub line_rule : Name → Rule a_code
line_rule n = word open_paren (name (λ h. word comma (name (λ t. word close_paren (word semicolon (gives (read_line n.line n h t)))))))

abbrev pub call_rule : Name → Rule a_code
call_rule n =
    may (is close_paren) (λ x. word semicolon (gives (call n [])))
    (read args (λ all. word semicolon (gives (call n all))))

-- what follows a name and `=`
abbrev pub set_rule : Name → Rule a_code
set_rule n =
    may (is gs_fopen) (λ y. open_rule n) (may (is fgetline_) (λ y. line_rule n)
    (read (expr 0 0) (λ e. word semicolon (gives (set (record { to = n; value = e.term }))))))

-- a statement that begins with a name
abbrev pub named_rule : Name → Rule a_code
named_rule n =
    may (is open_paren) (λ x. call_rule n)
    (may (is equal)
    (λ x. set_rule n)
    (read (assigned n) (λ a. word semicolon (gives (set a)))))

-- an `else` goes with the nearest `if`
abbrev pub if_rule : (depth line : ℕ) → Rule a_code
if_rule depth line =
    read condition (λ e. read (body (depth + 1)) (λ yes_.
    may (is else_) (λ x. read (body (depth + 1)) (λ no_. gives (choose line e.term yes_ (otherwise no_))))
    (gives (choose line e.term yes_ without))))

abbrev pub while_rule : (depth line : ℕ) → Rule a_code
while_rule depth line = read condition (λ e. read (body (depth + 1)) (λ b. gives (while line e.term b)))

abbrev pub first_rule : Rule maybe_setting
first_rule = may (is semicolon) (λ x. gives None) (name (λ n. read (assigned n) (λ a. word semicolon (gives (Some a)))))

abbrev pub test_rule : Rule maybe_term
test_rule = may (is semicolon) (λ x. gives None) (read (expr 0 0) (λ e. word semicolon (gives (Some e.term))))

abbrev pub step_rule : Rule maybe_setting
step_rule = may (is close_paren) (λ x. gives None) (name (λ n. read (assigned n) (λ a. word close_paren (gives (Some a)))))

abbrev pub for_rule : (depth line : ℕ) → Rule a_code
for_rule depth line =
    word open_paren (read for_first (λ first. read for_test (λ test. read for_step (λ step. read (body (depth + 1)) (λ b. gives (for line first test step b))))))

abbrev pub close_rule : (line : ℕ) → Rule a_code
close_rule line = word open_paren (name (λ h. word close_paren (word semicolon (gives (close_file line h)))))

abbrev pub barrier_rule : (line : ℕ) → Rule a_code
barrier_rule line = word open_paren (word close_paren (word semicolon (gives (barrier line))))

abbrev pub print_rule : (line : ℕ) → Rule a_code
print_rule line = word open_paren (read printing (λ p. gives (print line p.format p.args)))

abbrev pub print_file_rule : (line : ℕ) → Rule a_code
print_file_rule line = word open_paren (name (λ h. word comma (read printing (λ p. gives (print_file line h p.format p.args)))))

abbrev pub print_str_rule : (line : ℕ) → Rule a_code
print_str_rule line = word open_paren (name (λ n. word comma (read printing (λ p. gives (print_str line n p.format p.args)))))

-- a statement after its first sign
abbrev pub statement : (depth : ℕ) → (first : Mark) → Sign → Rule a_code
statement depth x (ident s) = named_rule (name_at x)
statement depth x open_brace = read (stmts (depth + 1) close_brace []) (λ c. gives (block x.line c.body))
statement depth x if_ = if_rule depth x.line
statement depth x while_ = while_rule depth x.line
statement depth x for_ = for_rule depth x.line
statement depth x gs_fclose = close_rule x.line
statement depth x gs_barrier = barrier_rule x.line
statement depth x printf_ = print_rule x.line
statement depth x fprintf_ = print_file_rule x.line
statement depth x sprintf_ = print_str_rule x.line
statement depth x _ = gives (empty x.line)

abbrev pub body_after : (depth : ℕ) → (first : Mark) → Sign → Rule a_body
body_after depth x open_brace = read (stmts depth close_brace []) (λ c. gives c.body)
body_after depth x _ = read (rest_of depth x) (λ c. gives (one c none))

-- the closing sign, or a statement begins
unfoldable pub closes_or_begins : (depth : ℕ) → (closer : Sign) → Mark → Fit
closes_or_begins depth closer x = if place x.sign == place closer then fit else judged (begins_statement x.sign) (nat_lt depth 64)

abbrev pub stmts_after : (depth : ℕ) → (closer : Sign) → List Code → (first : Mark) → (is_closer : Bool) → Rule closed
stmts_after depth closer so_far x true = gives (record { body = codes so_far; line = x.line })
stmts_after depth closer so_far x false = read (rest_of depth x) (λ c. read (stmts depth closer (so_far ++ c ∷ [])) (λ all. gives all))

abbrev pub stmts_rule : (depth : ℕ) → (closer : Sign) → List Code → Rule closed
stmts_rule depth closer so_far = take (closes_or_begins depth closer) (λ x. stmts_after depth closer so_far x (place x.sign == place closer))

-- ---- the whole program

-- one more variable, with the value that it begins with, where there is one
abbrev pub declare : Name → VarKind → Option Term → Declared → Declared
declare n kind None d = record { vars = d.vars ++ (n, kind) ∷ []; first = d.first }
declare n kind (Some e) d = record { vars = d.vars ++ (n, kind) ∷ []; first = d.first ++ record { to = n; value = e } ∷ [] }

-- the other names of the declaration after `,`, or the other declarations after `;`
abbrev pub next_after : VarKind → Declared → Sign → Rule declared
next_after kind d comma = read (names kind d) (λ all. gives all)
next_after kind d _ = read (decls d) (λ all. gives all)

abbrev pub next_var : VarKind → Declared → Rule declared
next_var kind d = take (is_either comma semicolon) (λ x. next_after kind d x.sign)

-- a name that may have a value, and what follows
abbrev pub var_rule : VarKind → Declared → Rule declared
var_rule kind d =
    name (λ n. may (is equal) (λ x. read (expr 0 0) (λ e. next_var kind (declare n kind (Some e.term) d))) (next_var kind (declare n kind None d)))

abbrev pub names_rule : VarKind → Declared → Rule declared
names_rule var_kind.Int d = var_rule var_kind.Int d
names_rule var_kind.Str d = word star (var_rule var_kind.Str d)
names_rule var_kind.Handle d = word star (name (λ n. next_var var_kind.Handle (declare n var_kind.Handle None d)))

abbrev pub type_fit : Sign → Fit
type_fit int_ = fit
type_fit char_ = fit
type_fit file_ = fit
type_fit _ = unfit

unfoldable pub begins_declaration : Mark → Fit
begins_declaration x = type_fit x.sign

abbrev pub kind_named : Sign → VarKind
kind_named int_ = var_kind.Int
kind_named char_ = var_kind.Str
kind_named _ = var_kind.Handle

abbrev pub decls_rule : Declared → Rule declared
decls_rule d = may begins_declaration (λ x. read (names (kind_named x.sign) d) (λ all. gives all)) (gives d)

abbrev pub start_rule : List Setting → Rule settings
start_rule so_far =
    may (is (ident [])) (λ x. word equal (read (expr 0 0) (λ e. word semicolon
    (read (starts (so_far ++ record { to = name_at x; value = e.term } ∷ [])) (λ all. gives all)))))
    (gives so_far)

abbrev pub program_end : Program → Rule a_program
program_end p = word close_brace (gives p)

abbrev pub after_off : Program → Rule a_program
after_off p =
    word open_paren (take is_zero (λ x. word close_paren (word semicolon
    (may (is return_) (λ x. take is_zero (λ y. word semicolon (program_end p))) (program_end p)))))

abbrev pub after_on : Declared → List Setting → Rule a_program
after_on d first =
    word open_paren (word close_paren (word semicolon (read (stmts 0 gs_off []) (λ c.
    after_off (record { vars = d.vars; first = first; body = c.body; off = c.line })))))

abbrev pub after_head : Rule a_program
after_head =
    word close_paren (word open_brace (read (decls (record { vars = []; first = [] })) (λ d. read (starts d.first) (λ first. word gs_on (after_on d first)))))

abbrev pub after_main : Rule a_program
after_main = word open_paren (may (is void_) (λ x. after_head) after_head)

abbrev pub program_rule : Rule a_program
program_rule = may (is_either int_ void_) (λ x. word main_ after_main) (word main_ after_main)

-- ---- the rule of each part

abbrev pub rule : (n : Part) → Rule (kind_of n)
rule (level tightness depth groups) = level_rule tightness depth groups
rule (tail tightness depth groups a) = tail_rule tightness depth groups a
rule (more_terms so_far) = take (is_either comma close_paren) (λ x. after_term so_far x.sign)
rule arg = arg_rule
rule (more_args so_far) = take (is_either comma close_paren) (λ x. after_arg so_far x.sign)
rule args = args_rule
rule condition = condition_rule
rule printing = printing_rule
rule (assigned n) = take assigns (λ x. assignment n x x.sign)
rule for_first = first_rule
rule for_test = test_rule
rule for_step = step_rule
rule (rest_of depth x) = statement depth x x.sign
rule (body depth) = take (begins_body depth) (λ x. body_after depth x x.sign)
rule (stmts depth closer so_far) = stmts_rule depth closer so_far
rule (names kind so_far) = names_rule kind so_far
rule (decls so_far) = decls_rule so_far
rule (starts so_far) = start_rule so_far
rule program = program_rule
