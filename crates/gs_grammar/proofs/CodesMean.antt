-- What the reader's grammar says of statements is what the productions say.
use Rattle.std.proofs.Common.{◌≡◌, ◌+◌, ℕ, suc, refl, sym, ap, ◌∙◌, subst, List, [], ◌∷◌, Bool, true, false, nat_lt, arith, append-nil, append_assoc, if◌then◌else◌}
use Rattle.std.proofs.lemmas.Bool.{eqb-true}
use Rattle.std.specs.Prelude.{◌==◌, Option}
use Rattle.gs_tree.specs.Program.{Name, Term, Setting, Formatted, Code, block, choose, while, for, print, print_file, print_str, Codes, none, one, without, otherwise}
use Rattle.gs_tree.specs.Sign.{Sign, Mark, if_, else_, while_, for_, gs_barrier, gs_fopen, gs_fclose, printf_, fprintf_, sprintf_, fgetline_, mode_r, mode_w, mode_a, ident, plus_plus, minus_minus, plus_equal, minus_equal, open_paren, close_paren, open_brace, close_brace, comma, semicolon, equal}
use Rattle.gs_tree.specs.View.{codes}
use Rattle.gs_parse.specs.Symbols.{place}
use Rattle.gs_parse.specs.Fits.{CodesFit}
use Rattle.gs_parse.specs.Notation.{Printed, Closed, a_term, a_printed, a_setting, maybe_setting, maybe_term, a_code, a_body, closed, condition, printing, assigned, for_first, for_test, for_step, rest_of, body, stmts, fit, unfit}
use Rattle.gs_parse.specs.Grammar.{rule, judged, is, assigns, assigning_fit, assignment, is_mode, mode_fit, mode_of, begins_statement, body_fit, begins_body, open_rule, line_rule, call_rule, set_rule, named_rule, if_rule, while_rule, for_rule, statement, body_after, closes_or_begins, stmts_after}
use Rattle.gs_parse.specs.Reading.{Limits, Accepts, next_fit}
use Rattle.gs_grammar.specs.Signs.{at, called}
use Rattle.gs_grammar.specs.Expressions.{IsExpr}
use Rattle.gs_grammar.specs.Statements.{sets, increments, decrements, adds, subtracts, no_assign, an_assign, no_test, a_test, mode_sign, formatted, an_assignment, opens, reads_line, closes_file, waits, prints, prints_file, prints_string, calls, no_args, body_of, NoElse, IsStmt, nothing, a_block, a_simple, an_if, an_else, a_while, a_for, IsStmts, no_stmt, one_stmt}
use Rattle.gs_grammar.proofs.Saying.{Within}
use Rattle.gs_grammar.proofs.TermsSaid.{height_some}
use Rattle.gs_grammar.proofs.Alone.{is_brace, begins_brace, simple_alone}
use Rattle.gs_grammar.proofs.Exact.{is_plain, exact, refused, stands}
use Rattle.gs_grammar.proofs.Meaning.{TermsUp, InParens, in_parens, Printing, printing_, Assigned, MaybeSet, MaybeTest, Stated, Begun, Body, a_body, StmtsUp, Means, Keeping, done, sign_, part_, word_, may_, name_, format_}
use Rattle.gs_grammar.proofs.TermsMean.{below, top}

-- ---- conditions, formats and assignments

pub keep_condition : (l : Limits) → Keeping l a_term (rule condition) (Means l condition)
keep_condition l = word_ open_paren refl (λ a. part_ (λ e. word_ close_paren refl (λ c. done (λ end ts he. let h = he (top l) in in_parens h.says h.room))))

printed_up : (l : Limits) (f : Formatted) (ts end : List Mark) (line : ℕ) (es : List Term) → TermsUp l [] ts es (at line semicolon ∷ end) →
    Printing l (formatted f ∷ ts) (record { format = f; args = es }) end
printed_up l f ts end line es h = subst (λ (z : List Term). Printing l (formatted f ∷ ts) (record { format = f; args = z }) end) (sym h.all_is) (printing_ h.says h.fits)

pub keep_printing : (l : Limits) → Keeping l a_printed (rule printing) (Means l printing)
keep_printing l = format_ (λ f. part_ (λ es. word_ semicolon refl (λ c. done (λ end ts h. printed_up l f ts end c es h))))

keep_assignment : (l : Limits) (n : Name) (line : ℕ) (s : Sign) → Accepts l (assigning_fit s) →
    Keeping l a_setting (assignment n (at line s) s) (λ ts v us. Assigned l n (at line s ∷ ts) v us)
keep_assignment l n line equal a = part_ (λ e. done (λ end ts he. let h = he (top l) in record { says = sets h.says; fits = h.room }))
keep_assignment l n line plus_plus a = done (λ end. record { says = increments; fits = λ q. omega arith })
keep_assignment l n line minus_minus a = done (λ end. record { says = decrements; fits = λ q. omega arith })
keep_assignment l n line plus_equal a =
    part_ (λ e. done (λ end ts he. let h = he (λ q. omega arith) in record { says = adds h.says; fits = λ q. omega (arith, h.room q, height_some e.term) }))
keep_assignment l n line minus_equal a =
    part_ (λ e. done (λ end ts he. let h = he (λ q. omega arith) in record { says = subtracts h.says; fits = λ q. omega (arith, h.room q, height_some e.term) }))
keep_assignment l n line _ a = absurd (refused l a)

pub keep_assigned : (l : Limits) (n : Name) → Keeping l a_setting (rule (assigned n)) (Means l (assigned n))
unfolding assigns
keep_assigned l n = sign_ (λ x a. keep_assignment l n x.line x.sign a)

-- ---- the head of a `for`

pub keep_first : (l : Limits) → Keeping l maybe_setting (rule for_first) (Means l for_first)
keep_first l =
    may_ semicolon refl (λ a. done (λ end. record { line = a; says = no_assign; fits = λ q. tt }))
    (name_ (λ n. part_ (λ s. word_ semicolon refl (λ c. done (λ end ts h free. record { line = c; says = an_assign h.says; fits = h.fits })))))

pub keep_test : (l : Limits) → Keeping l maybe_term (rule for_test) (Means l for_test)
keep_test l =
    may_ semicolon refl (λ a. done (λ end. record { line = a; says = no_test; fits = λ q. tt }))
    (part_ (λ e. word_ semicolon refl (λ c. done (λ end ts he free. let h = he (top l) in record { line = c; says = a_test h.says; fits = h.room }))))

pub keep_step : (l : Limits) → Keeping l maybe_setting (rule for_step) (Means l for_step)
keep_step l =
    may_ close_paren refl (λ a. done (λ end. record { line = a; says = no_assign; fits = λ q. tt }))
    (name_ (λ n. part_ (λ s. word_ close_paren refl (λ c. done (λ end ts h free. record { line = c; says = an_assign h.says; fits = h.fits })))))

-- ---- statements that begin with a name

-- the sign of a mode
mode_is : (l : Limits) (s : Sign) → Accepts l (mode_fit s) → s ≡ mode_sign (mode_of s)
mode_is l mode_r a = refl
mode_is l mode_w a = refl
mode_is l mode_a a = refl
mode_is l _ a = absurd (refused l a)

keep_open : (l : Limits) (d a b : ℕ) (n : Name) →
    Keeping l a_code (open_rule n) (λ ts c us. next_fit (is open_paren) (at a equal ∷ at b gs_fopen ∷ ts) ≡ unfit → Begun l d (called n) (at a equal ∷ at b gs_fopen ∷ ts) c us)
unfolding is_mode
keep_open l d a b n =
    word_ open_paren refl (λ c. part_ (λ e. word_ comma refl (λ g. sign_ (λ m acc. word_ close_paren refl (λ i. word_ semicolon refl (λ j. done (λ end ts he free begins room.
    let h = he (top l) in
    let path = subst (λ (z : Sign). IsExpr l 0 ts e.term (at g comma ∷ at m.line z ∷ at i close_paren ∷ at j semicolon ∷ end)) (mode_is l m.sign acc) h.says in
    record { says = a_simple (opens path); fits = λ q. (omega (arith, room q), h.room q) })))))))

keep_line : (l : Limits) (d a b : ℕ) (n : Name) →
    Keeping l a_code (line_rule n) (λ ts c us. next_fit (is gs_fopen) (at b fgetline_ ∷ ts) ≡ unfit → next_fit (is open_paren) (at a equal ∷ at b fgetline_ ∷ ts) ≡ unfit →
    Begun l d (called n) (at a equal ∷ at b fgetline_ ∷ ts) c us)
keep_line l d a b n =
    word_ open_paren refl (λ c. name_ (λ h. word_ comma refl (λ g. name_ (λ t. word_ close_paren refl (λ i. word_ semicolon refl (λ j. done (λ end f free begins room.
    record { says = a_simple reads_line; fits = λ q. omega (arith, room q) })))))))

keep_call : (l : Limits) (d a : ℕ) (n : Name) → Keeping l a_code (call_rule n) (λ ts c us. Begun l d (called n) (at a open_paren ∷ ts) c us)
keep_call l d a n =
    may_ close_paren refl (λ b. word_ semicolon refl (λ c. done (λ end begins room. record { says = a_simple (calls no_args); fits = λ q. (omega (arith, room q), tt) })))
    (part_ (λ all. word_ semicolon refl (λ c. done (λ end ts h free begins room. record { says = a_simple (calls h.says); fits = λ q. (omega (arith, room q), h.fits q) }))))

keep_set : (l : Limits) (d a : ℕ) (n : Name) →
    Keeping l a_code (set_rule n) (λ ts c us. next_fit (is open_paren) (at a equal ∷ ts) ≡ unfit → Begun l d (called n) (at a equal ∷ ts) c us)
keep_set l d a n =
    may_ gs_fopen refl (λ b. keep_open l d a b n)
    (may_ fgetline_ refl (λ b. keep_line l d a b n)
    (part_ (λ e. word_ semicolon refl (λ c. done (λ end ts he no_line no_open free begins room.
    let h = he (top l) in
    record { says = a_simple (an_assignment (sets h.says)); fits = λ q. (omega (arith, room q), h.room q) })))))

keep_named : (l : Limits) (d : ℕ) (n : Name) → Keeping l a_code (named_rule n) (Begun l d (called n))
keep_named l d n =
    may_ open_paren refl (λ a. keep_call l d a n)
    (may_ equal refl (λ a. keep_set l d a n)
    (part_ (λ s. word_ semicolon refl (λ c. done (λ end ts h no_set no_call begins room.
    record { says = a_simple (an_assignment h.says); fits = λ q. (omega (arith, room q), h.fits q) })))))

-- ---- statements

-- no `else` follows
no_else : (ts : List Mark) → next_fit (is else_) ts ≡ unfit → NoElse ts
unfolding is
no_else [] e = tt
no_else (x ∷ ts) e = λ f. let no : judged (place x.sign == place else_) true ≡ fit = ap (λ (z : Sign). judged (place z == place else_) true) f in absurd (let bad : unfit ≡ fit = sym e ∙ no in cc)

keep_if : (l : Limits) (d line : ℕ) → Keeping l a_code (if_rule d line) (Begun l d (at line if_))
keep_if l d line =
    part_ (λ e. part_ (λ yes_.
    may_ else_ refl (λ a. part_ (λ no_. done (λ end ts3 hn ts2 hy ts1 he begins room. else_up l d line a ts1 ts2 ts3 end e.term yes_ no_ room he hy hn)))
    (done (λ end free ts2 hy ts1 he begins room. if_up l d line ts1 ts2 end e.term yes_ room (no_else end free) he hy))))
  where
    if_up : (l : Limits) (d line : ℕ) (ts1 ts2 end : List Mark) (e : Term) (yes_ : Codes) → Within l (suc d) → NoElse end → InParens l ts1 e ts2 → Body l (d + 1) ts2 yes_ end →
        Stated l d (at line if_ ∷ ts1) (choose line e yes_ without) end
    if_up l d line ts1 ts2 end e yes_ room free (in_parens h f) (a_body k g) = record { says = an_if h k free; fits = λ q. (omega (arith, room q), f q, g q, tt) }

    else_up : (l : Limits) (d line a : ℕ) (ts1 ts2 ts3 end : List Mark) (e : Term) (yes_ no_ : Codes) → Within l (suc d) → InParens l ts1 e ts2 →
        Body l (d + 1) ts2 yes_ (at a else_ ∷ ts3) → Body l (d + 1) ts3 no_ end → Stated l d (at line if_ ∷ ts1) (choose line e yes_ (otherwise no_)) end
    else_up l d line a ts1 ts2 ts3 end e yes_ no_ room (in_parens h f) (a_body k g) (a_body i j) = record { says = an_else h k i; fits = λ q. (omega (arith, room q), f q, g q, j q) }

keep_while : (l : Limits) (d line : ℕ) → Keeping l a_code (while_rule d line) (Begun l d (at line while_))
keep_while l d line = part_ (λ e. part_ (λ b. done (λ end ts2 hb ts1 he begins room. while_up l d line ts1 ts2 end e.term b room he hb)))
  where
    while_up : (l : Limits) (d line : ℕ) (ts1 ts2 end : List Mark) (e : Term) (b : Codes) → Within l (suc d) → InParens l ts1 e ts2 → Body l (d + 1) ts2 b end →
        Stated l d (at line while_ ∷ ts1) (while line e b) end
    while_up l d line ts1 ts2 end e b room (in_parens h f) (a_body k g) = record { says = a_while h k; fits = λ q. (omega (arith, room q), f q, g q) }

for_up : (l : Limits) (d line a : ℕ) (ts1 ts2 ts3 ts4 end : List Mark) (first : Option Setting) (test : Option Term) (step : Option Setting) (b : Codes) → Within l (suc d) →
    MaybeSet l semicolon ts1 first ts2 → MaybeTest l ts2 test ts3 → MaybeSet l close_paren ts3 step ts4 → Body l (d + 1) ts4 b end →
    Stated l d (at line for_ ∷ at a open_paren ∷ ts1) (for line first test step b) end
for_up l d line a ts1 ts2 ts3 ts4 end first test step b room h i j (a_body k g) =
    record { says = a_for h.says i.says j.says k; fits = λ q. (omega (arith, room q), h.fits q, i.fits q, j.fits q, g q) }

keep_for : (l : Limits) (d line : ℕ) → Keeping l a_code (for_rule d line) (Begun l d (at line for_))
keep_for l d line =
    word_ open_paren refl (λ a. part_ (λ first. part_ (λ test. part_ (λ step. part_ (λ b. done (λ end ts4 hb ts3 hu ts2 ht ts1 hf begins room.
    for_up l d line a ts1 ts2 ts3 ts4 end first test step b room hf ht hu hb))))))

print_up : (l : Limits) (d line a : ℕ) (ts end : List Mark) (p : Printed) → Within l (suc d) → Printing l ts p end →
    Stated l d (at line printf_ ∷ at a open_paren ∷ ts) (print line p.format p.args) end
print_up l d line a ts end p room (printing_ h f) = record { says = a_simple (prints h); fits = λ q. (omega (arith, room q), f q) }

print_file_up : (l : Limits) (d line a b : ℕ) (h : Name) (ts end : List Mark) (p : Printed) → Within l (suc d) → Printing l ts p end →
    Stated l d (at line fprintf_ ∷ at a open_paren ∷ called h ∷ at b comma ∷ ts) (print_file line h p.format p.args) end
print_file_up l d line a b h ts end p room (printing_ g f) = record { says = a_simple (prints_file g); fits = λ q. (omega (arith, room q), f q) }

print_str_up : (l : Limits) (d line a b : ℕ) (n : Name) (ts end : List Mark) (p : Printed) → Within l (suc d) → Printing l ts p end →
    Stated l d (at line sprintf_ ∷ at a open_paren ∷ called n ∷ at b comma ∷ ts) (print_str line n p.format p.args) end
print_str_up l d line a b n ts end p room (printing_ g f) = record { says = a_simple (prints_string g); fits = λ q. (omega (arith, room q), f q) }

block_up : (l : Limits) (d line : ℕ) (ts end : List Mark) (c : Closed) → Within l (suc d) → StmtsUp l (d + 1) close_brace [] ts c end →
    Stated l d (at line open_brace ∷ ts) (block line c.body) end
block_up l d line ts end c room h =
    subst (λ (z : Codes). Stated l d (at line open_brace ∷ ts) (block line z) end) (sym h.all_is) (record { says = a_block h.says; fits = λ q. (omega (arith, room q), h.fits q) })

-- a statement after its first sign
keep_statement : (l : Limits) (d line : ℕ) (s : Sign) → Keeping l a_code (statement d (at line s) s) (Begun l d (at line s))
keep_statement l d line (ident w) = keep_named l d (record { line = line; text = w })
keep_statement l d line open_brace = part_ (λ c. done (λ end ts h begins room. block_up l d line ts end c room (h refl)))
keep_statement l d line if_ = keep_if l d line
keep_statement l d line while_ = keep_while l d line
keep_statement l d line for_ = keep_for l d line
keep_statement l d line gs_fclose =
    word_ open_paren refl (λ a. name_ (λ h. word_ close_paren refl (λ b. word_ semicolon refl (λ c. done (λ end begins room.
    record { says = a_simple closes_file; fits = λ q. omega (arith, room q) })))))
keep_statement l d line gs_barrier =
    word_ open_paren refl (λ a. word_ close_paren refl (λ b. word_ semicolon refl (λ c. done (λ end begins room. record { says = a_simple waits; fits = λ q. omega (arith, room q) }))))
keep_statement l d line printf_ = word_ open_paren refl (λ a. part_ (λ p. done (λ end ts h begins room. print_up l d line a ts end p room h)))
keep_statement l d line fprintf_ =
    word_ open_paren refl (λ a. name_ (λ h. word_ comma refl (λ b. part_ (λ p. done (λ end ts k begins room. print_file_up l d line a b h ts end p room k)))))
keep_statement l d line sprintf_ =
    word_ open_paren refl (λ a. name_ (λ h. word_ comma refl (λ b. part_ (λ p. done (λ end ts k begins room. print_str_up l d line a b h ts end p room k)))))
keep_statement l d line semicolon = done (λ end begins room. record { says = nothing; fits = λ q. omega (arith, room q) })
keep_statement l d line _ = done (λ end begins room. absurd (cc))

pub keep_rest : (l : Limits) (d : ℕ) (x : Mark) → Keeping l a_code (rule (rest_of d x)) (Means l (rest_of d x))
keep_rest l d x = keep_statement l d x.line x.sign

-- ---- bodies

-- what begins with no brace is no block
stands_alone : {l : Limits} {ts us : List Mark} {c : Code} → IsStmt l ts c us → begins_brace ts ≡ false → body_of c ≡ one c none
stands_alone nothing e = refl
stands_alone (a_block h) e = absurd (cc)
stands_alone (a_simple h) e = simple_alone h
stands_alone (an_if h k free) e = refl
stands_alone (an_else h k i) e = refl
stands_alone (a_while h k) e = refl
stands_alone (a_for h i j k) e = refl

-- one statement as a body
alone_up : (l : Limits) (d line : ℕ) (s : Sign) (ts end : List Mark) (c : Code) → is_brace s ≡ false → Accepts l (judged (begins_statement s) (nat_lt d 64)) →
    Begun l d (at line s) ts c end → Body l d (at line s ∷ ts) (one c none) end
alone_up l d line s ts end c e a hc =
    let h = hc (stands l (begins_statement s) (nat_lt d 64) a) (below l (begins_statement s) d a) in
    let alone = stands_alone h.says e in
    subst (λ (z : Codes). Body l d (at line s ∷ ts) z end) alone (a_body h.says (λ q. subst (λ (z : Codes). CodesFit d z) (sym alone) (h.fits q, tt)))

block_body : (l : Limits) (d line : ℕ) (ts end : List Mark) (c : Closed) → StmtsUp l d close_brace [] ts c end → Body l d (at line open_brace ∷ ts) c.body end
block_body l d line ts end c h =
    subst (λ (z : Codes). Body l d (at line open_brace ∷ ts) z end) (sym h.all_is) (a_body {c = block line (codes h.more)} (a_block h.says) h.fits)

keep_body_after : (l : Limits) (d line : ℕ) (s : Sign) → Accepts l (body_fit d (at line s) s) → Keeping l a_body (body_after d (at line s) s) (λ ts b us. Body l d (at line s ∷ ts) b us)
keep_body_after l d line open_brace a = part_ (λ c. done (λ end ts h. block_body l d line ts end c (h refl)))
keep_body_after l d line s a = part_ (λ c. done (λ end ts h. alone_up l d line s ts end c refl a h))

pub keep_body : (l : Limits) (d : ℕ) → Keeping l a_body (rule (body d)) (Means l (body d))
unfolding begins_body
keep_body l d = sign_ (λ x a. keep_body_after l d x.line x.sign a)

-- ---- lists of statements

keep_stmts_after : (l : Limits) (d : ℕ) (closer : Sign) (so_far : List Code) (x : Mark) (b : Bool) → (place x.sign == place closer) ≡ b →
    Accepts l (if b then fit else judged (begins_statement x.sign) (nat_lt d 64)) →
    Keeping l closed (stmts_after d closer so_far x b) (λ ts v us. is_plain closer ≡ true → StmtsUp l d closer so_far (x ∷ ts) v us)
keep_stmts_after l d closer so_far x true e a =
    done (λ end plain. record {
      more = [];
      says = subst (λ (z : Sign). IsStmts l (at x.line z ∷ end) none (at x.line closer ∷ end)) (sym (exact closer x.sign plain (eqb-true (place x.sign) (place closer) e))) no_stmt;
      all_is = ap codes (sym (append-nil so_far));
      fits = λ q. tt;
    })
keep_stmts_after l d closer so_far x false e a =
    part_ (λ c. part_ (λ all. done (λ end mid hs ts hc plain.
    let h = hs plain in
    let i = hc (stands l (begins_statement x.sign) (nat_lt d 64) a) (below l (begins_statement x.sign) d a) in
    record {
      more = c ∷ h.more;
      says = one_stmt i.says h.says;
      all_is = h.all_is ∙ ap codes (append_assoc so_far (c ∷ []) h.more);
      fits = λ q. (i.fits q, h.fits q);
    })))

pub keep_stmts : (l : Limits) (d : ℕ) (closer : Sign) (so_far : List Code) → Keeping l closed (rule (stmts d closer so_far)) (Means l (stmts d closer so_far))
unfolding closes_or_begins
keep_stmts l d closer so_far = sign_ (λ x a. keep_stmts_after l d closer so_far x (place x.sign == place closer) refl a)
