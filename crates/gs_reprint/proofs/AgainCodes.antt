-- The signs of printed statements are read as the statements.
use Rattle.std.proofs.Common.{◌≡◌, ◌<◌, ◌+◌, ℕ, refl, sym, ap, ◌∙◌, subst, List, [], ◌∷◌, ◌++◌, Bool, true, false, Option, nat_lt, lt-ltb, eq-eqb, if◌then◌else◌}
use Rattle.std.specs.Prelude.{◌==◌}
use Rattle.gs_tree.specs.Sign.{Sign, ident, if_, else_, while_, for_, gs_off, gs_barrier, gs_fopen, gs_fclose, printf_, fprintf_, sprintf_, fgetline_, open_paren, close_paren, open_brace, close_brace, comma, semicolon, equal}
use Rattle.gs_tree.specs.declared.tree.Mode.{Mode}
use Rattle.gs_tree.specs.declared.tree.Mode.TheVariants.{R, W, A}
use Rattle.gs_tree.specs.Program.{Name, Term, Setting, Formatted, Passed, Code, empty, block, set, choose, while, for, open_file, read_line, close_file, barrier, print, print_file, print_str, call, Codes, none, one, without, otherwise}
use Rattle.gs_tree.specs.View.{codes}
use Rattle.gs_tree.specs.Unlined.{unlined_name, unlined_code, unlined_codes}
use Rattle.gs_spelling.specs.Signs.{mode_sign, term_signs, code_signs, codes_signs}
use Rattle.gs_parse.specs.Symbols.{place}
use Rattle.gs_parse.specs.Notation.{Closed, a_code, a_body, closed, rest_of, body, stmts, fit}
use Rattle.gs_parse.specs.Grammar.{rule, judged, begins_statement, is_mode, mode_of, begins_body, closes_or_begins, stmts_after}
use Rattle.gs_parse.specs.Reading.{limited, Accepts}
use Rattle.gs_parse.specs.Fits.{CodeFits, CodesFit}
use Rattle.gs_reprint.proofs.Again.{Reads, mark, gives_it, takes, reads, word_again, name_again, next_is, without_word, with_word}
use Rattle.gs_reprint.proofs.AgainTerms.{term_again}
use Rattle.gs_reprint.proofs.AgainParts.{not_open, not_line, args_again, some_args, condition_again, printing_again, first_again, test_again, step_again}

-- ---- lists of statements

-- statements before others
abbrev onto : List Code → Codes → Codes
onto [] cs = cs
onto (c ∷ so_far) cs = one c (onto so_far cs)

-- before nothing
onto_none : (so_far : List Code) → codes so_far ≡ onto so_far none
onto_none [] = refl
onto_none (c ∷ so_far) = ap (one c) (onto_none so_far)

-- one more behind stands first of what follows
onto_push : (so_far : List Code) (c : Code) (cs : Codes) → onto (so_far ++ c ∷ []) cs ≡ onto so_far (one c cs)
onto_push [] c cs = refl
onto_push (b ∷ so_far) c cs = ap (one b) (onto_push so_far c cs)

-- what follows may differ in its lines
onto_same : (so_far : List Code) (x y : Codes) → unlined_codes x ≡ unlined_codes y → unlined_codes (onto so_far x) ≡ unlined_codes (onto so_far y)
onto_same [] x y e = e
onto_same (c ∷ so_far) x y e = ap (one (unlined_code c)) (onto_same so_far x y e)

-- one more behind is one less ahead
onto_more : (so_far : List Code) (c d : Code) (cs : Codes) → unlined_code c ≡ unlined_code d →
    unlined_codes (onto (so_far ++ c ∷ []) cs) ≡ unlined_codes (onto so_far (one d cs))
onto_more so_far c d cs e = ap unlined_codes (onto_push so_far c cs) ∙ onto_same so_far (one c cs) (one d cs) (ap (λ z. one z (unlined_codes cs)) e)

-- a statement that differs in its lines alone
abbrev SameCode : Code → Code → Type 0
SameCode c d = unlined_code d ≡ unlined_code c

-- a body that differs in its lines alone
abbrev SameBody : Codes → Codes → Type 0
SameBody cs b = unlined_codes b ≡ unlined_codes cs

-- what is read up to a closing sign, after the statements so far
abbrev pub SameClosed : (so_far : List Code) → Codes → Closed → Type 0
SameClosed so_far cs v = unlined_codes v.body ≡ unlined_codes (onto so_far cs)

-- ---- how statements begin and end

-- A statement begins here, and its first sign leads to it.
record Begins (depth : ℕ) (c : Code) (gs left : List Sign) : Type 0 where
  sign : Sign
  others : List Sign
  is : gs ≡ sign ∷ others
  begins : begins_statement sign ≡ true
  reads_on : (line : ℕ) → Reads a_code (rule (rest_of depth (mark line sign))) (SameCode c) others left

-- A sign that ends statements: it begins none, and is no `else`.
pub record Closes (s : Sign) : Type 0 where
  pub apart : (t : Sign) → begins_statement t ≡ true → (place t == place s) ≡ false
  pub no_else : (place s == place else_) ≡ false

-- no statement begins with `}`
no_brace : (t : Sign) → begins_statement t ≡ true → (place t == 41) ≡ false
no_brace close_brace e = absurd (cc)
no_brace _ e = refl

-- no statement begins with `GS_Off`
no_off : (t : Sign) → begins_statement t ≡ true → (place t == 12) ≡ false
no_off gs_off e = absurd (cc)
no_off _ e = refl

-- `}` ends a body
pub brace_closes : Closes close_brace
brace_closes = record { apart = no_brace; no_else = refl }

-- `GS_Off` ends the program's statements
pub off_closes : Closes gs_off
off_closes = record { apart = no_off; no_else = refl }

-- the closing sign is accepted
accepts_closer : (depth : ℕ) (s : Sign) (line : ℕ) → Accepts limited (closes_or_begins depth s (mark line s))
unfolding closes_or_begins
accepts_closer depth s line =
    subst (λ (z : Bool). Accepts limited (if z then fit else judged (begins_statement s) (nat_lt depth 64))) (sym (eq-eqb (place s) (place s) refl)) tt

-- a statement's first sign is accepted, within the limit
accepts_first : (depth : ℕ) (s t : Sign) (line : ℕ) → (place t == place s) ≡ false → begins_statement t ≡ true → depth < 64 →
    Accepts limited (closes_or_begins depth s (mark line t))
unfolding closes_or_begins
accepts_first depth s t line e b lt =
    subst (λ (z : Bool). Accepts limited (if z then fit else judged (begins_statement t) (nat_lt depth 64))) (sym e)
    (subst (λ (z : Bool). Accepts limited (judged z (nat_lt depth 64))) (sym b)
    (subst (λ (z : Bool). Accepts limited (judged true z)) (sym (lt-ltb depth 64 lt)) tt))

-- no more statements
none_again : (depth : ℕ) (s : Sign) (so_far : List Code) (gs : List Sign) → Reads closed (rule (stmts depth s so_far)) (SameClosed so_far none) (s ∷ gs) gs
none_again depth s so_far gs =
    takes (λ l. accepts_closer depth s l) (λ l.
    subst (λ (z : Bool). Reads closed (stmts_after depth s so_far (mark l s) z) (SameClosed so_far none) gs gs) (sym (eq-eqb (place s) (place s) refl))
    (gives_it (ap unlined_codes (onto_none so_far))))

-- one more statement
one_again : (depth : ℕ) (s : Sign) (so_far : List Code) (c : Code) (cs : Codes) (gs mid left : List Sign) → Closes s → depth < 64 → Begins depth c gs mid →
    ((d : Code) → Reads closed (rule (stmts depth s (so_far ++ d ∷ []))) (SameClosed (so_far ++ d ∷ []) cs) mid left) →
    Reads closed (rule (stmts depth s so_far)) (SameClosed so_far (one c cs)) gs left
one_again depth s so_far c cs gs mid left closes lt b h =
    let e = closes.apart b.sign b.begins in
    subst (λ (z : List Sign). Reads closed (rule (stmts depth s so_far)) (SameClosed so_far (one c cs)) z left) (sym b.is)
    (takes (λ l. accepts_first depth s b.sign l e b.begins lt) (λ l.
    subst (λ (z : Bool). Reads closed (stmts_after depth s so_far (mark l b.sign) z) (SameClosed so_far (one c cs)) b.others left) (sym e)
    (reads (b.reads_on l) (λ d f. reads (h d) (λ v g. gives_it (g ∙ onto_more so_far d c cs f))))))

-- a body may begin with `{`
accepts_brace : (depth line : ℕ) → Accepts limited (begins_body depth (mark line open_brace))
unfolding begins_body
accepts_brace depth line = tt

-- a body in braces
body_again : (depth : ℕ) (cs : Codes) (gs : List Sign) → Reads closed (rule (stmts depth close_brace [])) (SameClosed [] cs) (codes_signs cs (close_brace ∷ gs)) gs →
    Reads a_body (rule (body depth)) (SameBody cs) (open_brace ∷ codes_signs cs (close_brace ∷ gs)) gs
body_again depth cs gs h = takes (λ l. accepts_brace depth l) (λ l. reads h (λ v e. gives_it e))

-- ---- each statement

-- a mode is accepted
accepts_mode : (m : Mode) (line : ℕ) → Accepts limited (is_mode (mark line (mode_sign m)))
unfolding is_mode
accepts_mode R line = tt
accepts_mode W line = tt
accepts_mode A line = tt

-- a mode is read from its sign
mode_again : (m : Mode) → mode_of (mode_sign m) ≡ m
mode_again R = refl
mode_again W = refl
mode_again A = refl

-- an assignment
set_again : (depth : ℕ) (a : Setting) (gs : List Sign) → CodeFits depth (set a) → Begins depth (set a) (code_signs (set a) gs) gs
set_again depth a gs fits = record {
  sign = ident a.to.text;
  others = equal ∷ term_signs a.value (semicolon ∷ gs);
  is = refl;
  begins = refl;
  reads_on = λ l.
      without_word open_paren refl (with_word (λ k.
      without_word gs_fopen (not_open a.value (semicolon ∷ gs)) (without_word fgetline_ (not_line a.value (semicolon ∷ gs))
      (reads (term_again a.value 0 (semicolon ∷ gs) fits.1 refl) (λ v e. word_again (gives_it (cc)))))));
}

-- a call of `GS_FOpen`
open_again : (depth line : ℕ) (to : Name) (path : Term) (mode : Mode) (gs : List Sign) → CodeFits depth (open_file line to path mode) →
    Begins depth (open_file line to path mode) (code_signs (open_file line to path mode) gs) gs
open_again depth line to path mode gs fits = record {
  sign = ident to.text;
  others = equal ∷ gs_fopen ∷ open_paren ∷ term_signs path (comma ∷ mode_sign mode ∷ close_paren ∷ semicolon ∷ gs);
  is = refl;
  begins = refl;
  reads_on = λ l.
      without_word open_paren refl (with_word (λ k. with_word (λ k.
      word_again (reads (term_again path 0 (comma ∷ mode_sign mode ∷ close_paren ∷ semicolon ∷ gs) fits.1 refl) (λ v e.
      word_again (takes (λ k. accepts_mode mode k) (λ k. word_again (word_again (gives_it (cc (mode_again mode)))))))))));
}

-- a call of `fgetline`
line_again : (depth line : ℕ) (got handle to : Name) (gs : List Sign) → Begins depth (read_line line got handle to) (code_signs (read_line line got handle to) gs) gs
line_again depth line got handle to gs = record {
  sign = ident got.text;
  others = equal ∷ fgetline_ ∷ open_paren ∷ ident handle.text ∷ comma ∷ ident to.text ∷ close_paren ∷ semicolon ∷ gs;
  is = refl;
  begins = refl;
  reads_on = λ l.
      without_word open_paren refl (with_word (λ k. without_word gs_fopen refl (with_word (λ k.
      word_again (name_again (λ k. word_again (name_again (λ k. word_again (word_again (gives_it refl))))))))));
}

-- a call of a task
call_again : (depth : ℕ) (op : Name) (args : List Passed) (gs : List Sign) → CodeFits depth (call op args) →
    Begins depth (call op args) (code_signs (call op args) gs) gs
call_again depth op [] gs fits = record {
  sign = ident op.text;
  others = open_paren ∷ close_paren ∷ semicolon ∷ gs;
  is = refl;
  begins = refl;
  reads_on = λ l. with_word (λ k. with_word (λ k. word_again (gives_it refl)));
}
call_again depth op (p ∷ ps) gs fits = record {
  sign = ident op.text;
  others = _;
  is = refl;
  begins = refl;
  reads_on = λ l. with_word (λ k. without_word close_paren (some_args p ps (close_paren ∷ semicolon ∷ gs))
      (reads (args_again p ps (semicolon ∷ gs) fits.1) (λ all e. word_again (gives_it (ap (call (unlined_name op)) e)))));
}

-- a print
print_again : (depth line : ℕ) (f : Formatted) (args : List Term) (gs : List Sign) → CodeFits depth (print line f args) →
    Begins depth (print line f args) (code_signs (print line f args) gs) gs
print_again depth line f args gs fits = record {
  sign = printf_;
  others = _;
  is = refl;
  begins = refl;
  reads_on = λ l. word_again (reads (printing_again f args gs fits.1) (λ p e. gives_it (cc (e.0, e.1))));
}

-- a print to a file
print_file_again : (depth line : ℕ) (handle : Name) (f : Formatted) (args : List Term) (gs : List Sign) → CodeFits depth (print_file line handle f args) →
    Begins depth (print_file line handle f args) (code_signs (print_file line handle f args) gs) gs
print_file_again depth line handle f args gs fits = record {
  sign = fprintf_;
  others = _;
  is = refl;
  begins = refl;
  reads_on = λ l. word_again (name_again (λ k. word_again (reads (printing_again f args gs fits.1) (λ p e. gives_it (cc (e.0, e.1))))));
}

-- a print to a string
print_str_again : (depth line : ℕ) (to : Name) (f : Formatted) (args : List Term) (gs : List Sign) → CodeFits depth (print_str line to f args) →
    Begins depth (print_str line to f args) (code_signs (print_str line to f args) gs) gs
print_str_again depth line to f args gs fits = record {
  sign = sprintf_;
  others = _;
  is = refl;
  begins = refl;
  reads_on = λ l. word_again (name_again (λ k. word_again (reads (printing_again f args gs fits.1) (λ p e. gives_it (cc (e.0, e.1))))));
}

-- a body within a statement: what is read of it, whatever follows
abbrev BodyAgain : (depth : ℕ) → Codes → Type 0
BodyAgain depth cs = (gs : List Sign) → Reads closed (rule (stmts (depth + 1) close_brace [])) (SameClosed [] cs) (codes_signs cs (close_brace ∷ gs)) gs

-- a block
block_again : (depth line : ℕ) (cs : Codes) (gs : List Sign) → BodyAgain depth cs → Begins depth (block line cs) (code_signs (block line cs) gs) gs
block_again depth line cs gs h =
    record { sign = open_brace; others = _; is = refl; begins = refl; reads_on = λ l. reads (h gs) (λ v e. gives_it (ap (block 0) e)) }

-- a `while`
while_again : (depth line : ℕ) (test : Term) (cs : Codes) (gs : List Sign) → CodeFits depth (while line test cs) → BodyAgain depth cs →
    Begins depth (while line test cs) (code_signs (while line test cs) gs) gs
while_again depth line test cs gs fits h = record {
  sign = while_;
  others = _;
  is = refl;
  begins = refl;
  reads_on = λ l. reads (condition_again test _ fits.1) (λ v e. reads (body_again (depth + 1) cs gs (h gs)) (λ b f. gives_it (cc)));
}

-- loops of equal parts
for_same : (f f2 s s2 : Option Setting) (t t2 : Option Term) (b b2 : Codes) → f ≡ f2 → t ≡ t2 → s ≡ s2 → b ≡ b2 → for 0 f t s b ≡ for 0 f2 t2 s2 b2
for_same f f2 s s2 t t2 b b2 p q r u = cc

-- a `for`
for_again : (depth line : ℕ) (first : Option Setting) (test : Option Term) (step : Option Setting) (cs : Codes) (gs : List Sign) →
    CodeFits depth (for line first test step cs) → BodyAgain depth cs →
    Begins depth (for line first test step cs) (code_signs (for line first test step cs) gs) gs
for_again depth line first test step cs gs fits h = record {
  sign = for_;
  others = _;
  is = refl;
  begins = refl;
  reads_on = λ l.
      word_again (reads (first_again first _ fits.1) (λ f e. reads (test_again test _ fits.2) (λ t g. reads (step_again step _ fits.3) (λ s i.
      reads (body_again (depth + 1) cs gs (h gs)) (λ b j. gives_it (for_same _ _ _ _ _ _ _ _ e g i j))))));
}

-- an `if` with no `else`, where no `else` follows
if_again : (depth line : ℕ) (test : Term) (cs : Codes) (gs : List Sign) → CodeFits depth (choose line test cs without) → next_is else_ gs ≡ false →
    BodyAgain depth cs →
    Begins depth (choose line test cs without) (code_signs (choose line test cs without) gs) gs
if_again depth line test cs gs fits free h = record {
  sign = if_;
  others = _;
  is = refl;
  begins = refl;
  reads_on = λ l. reads (condition_again test _ fits.1) (λ v e. reads (body_again (depth + 1) cs gs (h gs)) (λ b f. without_word else_ free (gives_it (cc))));
}

-- an `if` with an `else`
else_again : (depth line : ℕ) (test : Term) (cs ds : Codes) (gs : List Sign) → CodeFits depth (choose line test cs (otherwise ds)) → BodyAgain depth cs →
    BodyAgain depth ds →
    Begins depth (choose line test cs (otherwise ds)) (code_signs (choose line test cs (otherwise ds)) gs) gs
else_again depth line test cs ds gs fits h k = record {
  sign = if_;
  others = _;
  is = refl;
  begins = refl;
  reads_on = λ l.
      reads (condition_again test _ fits.1) (λ v e. reads (body_again (depth + 1) cs (else_ ∷ open_brace ∷ codes_signs ds (close_brace ∷ gs)) (h _)) (λ b f.
      with_word (λ m. reads (body_again (depth + 1) ds gs (k gs)) (λ d g. gives_it (cc)))));
}

-- ---- all statements

-- no statement begins with `else`
code_no_else : (c : Code) (gs : List Sign) → next_is else_ (code_signs c gs) ≡ false
code_no_else (empty line) gs = refl
code_no_else _ gs = refl

-- nor do statements and what ends them
codes_no_else : (cs : Codes) (s : Sign) (gs : List Sign) → Closes s → next_is else_ (codes_signs cs (s ∷ gs)) ≡ false
codes_no_else none s gs closes = closes.no_else
codes_no_else (one c cs) s gs closes = code_no_else c (codes_signs cs (s ∷ gs))

-- a statement within the limits stands above the deepest place
room : (depth : ℕ) (c : Code) → CodeFits depth c → depth < 64
room depth (empty line) fits = fits
room depth (read_line line got handle to) fits = fits
room depth (close_file line handle) fits = fits
room depth (barrier line) fits = fits
room depth _ fits = fits.0

mutual
  -- each statement, where no `else` follows
  code_again : (c : Code) (depth : ℕ) (gs : List Sign) → CodeFits depth c → next_is else_ gs ≡ false → Begins depth c (code_signs c gs) gs
  code_again (empty line) depth gs fits free = record { sign = semicolon; others = gs; is = refl; begins = refl; reads_on = λ l. gives_it refl }
  code_again (block line cs) depth gs fits free = block_again depth line cs gs (λ hs. codes_again cs (depth + 1) close_brace [] hs brace_closes fits.1)
  code_again (set a) depth gs fits free = set_again depth a gs fits
  code_again (choose line test cs without) depth gs fits free =
      if_again depth line test cs gs fits free (λ hs. codes_again cs (depth + 1) close_brace [] hs brace_closes fits.2)
  code_again (choose line test cs (otherwise ds)) depth gs fits free =
      else_again depth line test cs ds gs fits (λ hs. codes_again cs (depth + 1) close_brace [] hs brace_closes fits.2)
      (λ hs. codes_again ds (depth + 1) close_brace [] hs brace_closes fits.3)
  code_again (while line test cs) depth gs fits free = while_again depth line test cs gs fits (λ hs. codes_again cs (depth + 1) close_brace [] hs brace_closes fits.2)
  code_again (for line first test step cs) depth gs fits free =
      for_again depth line first test step cs gs fits (λ hs. codes_again cs (depth + 1) close_brace [] hs brace_closes fits.4)
  code_again (open_file line to path mode) depth gs fits free = open_again depth line to path mode gs fits
  code_again (read_line line got handle to) depth gs fits free = line_again depth line got handle to gs
  code_again (close_file line handle) depth gs fits free =
      record { sign = gs_fclose; others = _; is = refl; begins = refl; reads_on = λ l. word_again (name_again (λ k. word_again (word_again (gives_it refl)))) }
  code_again (barrier line) depth gs fits free =
      record { sign = gs_barrier; others = _; is = refl; begins = refl; reads_on = λ l. word_again (word_again (word_again (gives_it refl))) }
  code_again (print line f args) depth gs fits free = print_again depth line f args gs fits
  code_again (print_file line handle f args) depth gs fits free = print_file_again depth line handle f args gs fits
  code_again (print_str line to f args) depth gs fits free = print_str_again depth line to f args gs fits
  code_again (call op args) depth gs fits free = call_again depth op args gs fits

  -- statements up to a closing sign, after others
  pub codes_again : (cs : Codes) (depth : ℕ) (s : Sign) (so_far : List Code) (gs : List Sign) → Closes s → CodesFit depth cs →
      Reads closed (rule (stmts depth s so_far)) (SameClosed so_far cs) (codes_signs cs (s ∷ gs)) gs
  codes_again none depth s so_far gs closes fits = none_again depth s so_far gs
  codes_again (one c cs) depth s so_far gs closes fits =
      one_again depth s so_far c cs _ (codes_signs cs (s ∷ gs)) gs closes (room depth c fits.0)
      (code_again c depth (codes_signs cs (s ∷ gs)) fits.0 (codes_no_else cs s gs closes))
      (λ d. codes_again cs depth s (so_far ++ d ∷ []) gs closes fits.1)
