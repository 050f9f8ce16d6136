-- How statements are read.
use Rattle.std.proofs.Common.{◌≡◌, ◌≤◌, ◌<◌, ℕ, refl, sym, ap, ◌∙◌, subst, List, [], ◌∷◌, ◌++◌, Result, Ok, Err, true, false, Bool, nat_lt, lt-ltb, if◌then◌else◌}
use Rattle.std.specs.Prelude.{◌==◌}
use Rattle.std.proofs.lemmas.Bool.{le-ltb}
use Rattle.gs_tree.specs.Sign.{Sign, Mark, open_brace, close_brace}
use Rattle.gs_tree.specs.View.{codes, code_of}
use Rattle.gs_tree.specs.declared.tree.Stmt.{Stmt}
use Rattle.gs_tree.specs.Program.{Code, Codes, one, none}
use Rattle.gs_parse.specs.declared.begin.Begin.{Begin}
use Rattle.gs_parse.specs.declared.begin.Begin.TheVariants as b
use Rattle.gs_parse.specs.declared.start.Start.{Start}
use Rattle.gs_parse.specs.declared.stop.Stop.{Stop}
use Rattle.gs_parse.specs.declared.stop.Stop.TheVariants.{Unfit, TooDeep}
use Rattle.gs_parse.specs.Symbols.{place}
use Rattle.gs_parse.specs.Notation.{a_code, a_body, closed, Closed, rest_of, body, stmts, unfit, too_deep, fit, Rule, gives, read}
use Rattle.gs_parse.specs.Grammar.{rule, judged, is, begins_statement, begins_body, body_fit, body_after, closes_or_begins, stmts_after, statement}
use Rattle.gs_parse.specs.Reading.{next_fit}
use Rattle.gs_parse.specs.Reads.{Reads, Takes, line_of}
use Rattle.gs_parse.specs.Begins.{sign_of_begin, IsStart, NoStart}
use Rattle.gs_parse.specs.Frame.{Onward}
use Rattle.gs_parse.proofs.Chain.{took, stop_unfit, stop_deep, then_part, stop_part, gave, last_part}

abbrev pub start_mark : Start → Mark
start_mark s = record { line = s.line; sign = sign_of_begin s.begin }

pub rest_by : {A : Type 0} (t s : Begin) (depth line : ℕ) (view : A → Code) (old : List Mark) (result : Result A Stop) (new : List Mark) → s ≡ t → Reads a_code (statement depth (record { line = line; sign = sign_of_begin t }) (sign_of_begin t)) view old result new → Reads a_code (rule (rest_of depth (record { line = line; sign = sign_of_begin s }))) view old result new
rest_by t s depth line view old result new e r =
    subst (λ (z : Begin). Reads a_code (rule (rest_of depth (record { line = line; sign = sign_of_begin z }))) view old result new) (sym e) r

mark_same : (a b : ℕ) (s t : Sign) → a ≡ b → s ≡ t → (let x : Mark = record { line = a; sign = s } in x) ≡ record { line = b; sign = t }
mark_same a b s t e h = cc

pub start_here : (s : Start) (x : Mark) (here next : List Mark) → here ≡ x ∷ next → s.line ≡ x.line → x.sign ≡ sign_of_begin s.begin → IsStart s here next
unfolding IsStart
start_here s x here next h l e = h ∙ ap (λ z. z ∷ next) (mark_same x.line s.line x.sign (sign_of_begin s.begin) (sym l) e)

pub no_start_end : (here : List Mark) → here ≡ [] → NoStart here
unfolding NoStart
no_start_end here e = subst NoStart (sym e) tt

pub no_start_other : (x : Mark) (here next : List Mark) → here ≡ x ∷ next → begins_statement x.sign ≡ false → NoStart here
unfolding NoStart
no_start_other x here next h e = subst NoStart (sym h) e

-- ---- bodies

begun_fit : (b : Begin) → begins_statement (sign_of_begin b) ≡ true
begun_fit b.Empty = refl
begun_fit b.Block = refl
begun_fit b.If = refl
begun_fit b.While = refl
begun_fit b.For = refl
begun_fit (b.Name w) = refl
begun_fit b.Close = refl
begun_fit b.Barrier = refl
begun_fit b.Print = refl
begun_fit b.PrintFile = refl
begun_fit b.PrintStr = refl

judged_true : (v : Bool) → judged v true ≡ fit → v ≡ true
judged_true true e = refl
judged_true false e = absurd (cc)

judged_false : (v : Bool) → judged v true ≡ unfit → v ≡ false
judged_false true e = absurd (cc)
judged_false false e = refl

by_brace : (s : Sign) → (place s == 40) ≡ true → s ≡ open_brace
by_brace open_brace e = refl
by_brace _ e = absurd (cc)

start_is : (s : Start) (here next : List Mark) → IsStart s here next → here ≡ start_mark s ∷ next
unfolding IsStart
start_is s here next h = h

brace_no : (x : Mark) (xs here : List Mark) (c : Sign) → here ≡ x ∷ xs → next_fit (is c) here ≡ unfit → (place x.sign == place c) ≡ false
unfolding is
brace_no x xs here c e h = judged_false _ (let g : judged (place x.sign == place c) true ≡ unfit = sym (ap (next_fit (is c)) e) ∙ h in g)

body_fit_is : (d line : ℕ) (g : Begin) → (place (sign_of_begin g) == 40) ≡ false → body_fit d (record { line = line; sign = sign_of_begin g }) (sign_of_begin g) ≡ judged true (nat_lt d 64)
body_fit_is d line b.Empty e = refl
body_fit_is d line b.Block e = absurd (cc)
body_fit_is d line b.If e = refl
body_fit_is d line b.While e = refl
body_fit_is d line b.For e = refl
body_fit_is d line (b.Name w) e = refl
body_fit_is d line b.Close e = refl
body_fit_is d line b.Barrier e = refl
body_fit_is d line b.Print e = refl
body_fit_is d line b.PrintFile e = refl
body_fit_is d line b.PrintStr e = refl

abbrev one_rule : (d : ℕ) (x : Mark) → Rule a_body
one_rule d x = read (rest_of d x) (λ c. gives (one c none))

body_after_is : (d : ℕ) (x : Mark) (g : Begin) → (place (sign_of_begin g) == 40) ≡ false → body_after d x (sign_of_begin g) ≡ one_rule d x
body_after_is d x b.Empty e = refl
body_after_is d x b.Block e = absurd (cc)
body_after_is d x b.If e = refl
body_after_is d x b.While e = refl
body_after_is d x b.For e = refl
body_after_is d x (b.Name w) e = refl
body_after_is d x b.Close e = refl
body_after_is d x b.Barrier e = refl
body_after_is d x b.Print e = refl
body_after_is d x b.PrintFile e = refl
body_after_is d x b.PrintStr e = refl

in_room : (d : ℕ) → d < 64 → judged true (nat_lt d 64) ≡ fit
in_room d lt = ap (judged true) (lt-ltb d 64 lt)

out_of_room : (d : ℕ) → 64 ≤ d → judged true (nat_lt d 64) ≡ too_deep
out_of_room d le = ap (judged true) (le-ltb d 64 le)

pub body_block : {A : Type 0} (d : ℕ) (view : A → Codes) (old mid : List Mark) (result : Result A Stop) (new : List Mark) → Takes open_brace old true mid → Reads a_body (read (stmts d close_brace []) (λ c. gives c.body)) view mid result new → Reads a_body (rule (body d)) view old result new
unfolding Takes is begins_body
body_block d view old mid result new h r =
    let same = by_brace h.0.sign (judged_true _ h.2) in
    took a_body (begins_body d) (λ x. body_after d x x.sign) view old h.0 mid result new h.1 (ap (body_fit d h.0) same)
    (subst (λ (z : Sign). Reads a_body (body_after d h.0 z) view mid result new) (sym same) r)

pub body_one : {A : Type 0} (d : ℕ) (s : Start) (view : A → Codes) (old mid next : List Mark) (result : Result A Stop) (new : List Mark) → Takes open_brace old false mid → IsStart s mid next → d < 64 → Reads a_body (read (rest_of d (start_mark s)) (λ c. gives (one c none))) view next result new → Reads a_body (rule (body d)) view old result new
unfolding Takes begins_body
body_one d s view old mid next result new h st lt r =
    let here : old ≡ start_mark s ∷ next = sym h.1 ∙ start_is s mid next st in
    let other = brace_no (start_mark s) next old open_brace here h.0 in
    took a_body (begins_body d) (λ x. body_after d x x.sign) view old (start_mark s) next result new here (body_fit_is d s.line s.begin other ∙ in_room d lt)
    (subst (λ (z : Rule a_body). Reads a_body z view next result new) (sym (body_after_is d (start_mark s) s.begin other)) r)

pub body_deep : {A : Type 0} (d : ℕ) (s : Start) (view : A → Codes) (old mid next : List Mark) → Takes open_brace old false mid → IsStart s mid next → 64 ≤ d → Reads a_body (rule (body d)) view old (Err TooDeep) mid
unfolding Takes begins_body
body_deep d s view old mid next h st le =
    let here : old ≡ start_mark s ∷ next = sym h.1 ∙ start_is s mid next st in
    let other = brace_no (start_mark s) next old open_brace here h.0 in
    subst (λ (z : List Mark). Reads a_body (rule (body d)) view old (Err TooDeep) z) (sym h.1)
    (stop_deep a_body (begins_body d) _ view old (ap (next_fit (begins_body d)) here ∙ body_fit_is d s.line s.begin other ∙ out_of_room d le))

-- ---- lists of statements

pub stmts_end : {A : Type 0} (d : ℕ) (c : Sign) (so_far : List Code) (line : ℕ) (view : A → Closed) (old mid : List Mark) (a : A) → Takes c old true mid → line ≡ line_of old → view a ≡ record { body = codes so_far; line = line } → Reads closed (rule (stmts d c so_far)) view old (Ok a) mid
unfolding Takes is closes_or_begins
stmts_end d c so_far line view old mid a h l v =
    let same : (place h.0.sign == place c) ≡ true = judged_true _ h.2 in
    took closed (closes_or_begins d c) (λ x. stmts_after d c so_far x (place x.sign == place c)) view old h.0 mid (Ok a) mid h.1
    (ap (λ z. if z then fit else judged (begins_statement h.0.sign) (nat_lt d 64)) same)
    (subst (λ (z : Bool). Reads closed (stmts_after d c so_far h.0 z) view mid (Ok a) mid) (sym same)
    (gave closed _ view mid a (v ∙ ap (λ (n : ℕ). let p : Closed = record { body = codes so_far; line = n } in p) (l ∙ ap line_of h.1))))

start_fit : (d : ℕ) (c : Sign) (s : Start) → (place (sign_of_begin s.begin) == place c) ≡ false → (w : Bool) → nat_lt d 64 ≡ w → closes_or_begins d c (start_mark s) ≡ judged true w
unfolding closes_or_begins
start_fit d c s other w is =
    ap (λ z. if z then fit else judged (begins_statement (sign_of_begin s.begin)) (nat_lt d 64)) other
    ∙ ap (λ z. judged z (nat_lt d 64)) (begun_fit s.begin) ∙ ap (judged true) is

stmts_began : {A : Type 0} (d : ℕ) (c : Sign) (so_far : List Code) (s : Start) (view : A → Closed) (old mid next : List Mark) (result : Result A Stop) (new : List Mark) → Takes c old false mid → IsStart s mid next → d < 64 → Reads closed (stmts_after d c so_far (start_mark s) false) view next result new → Reads closed (rule (stmts d c so_far)) view old result new
unfolding Takes
stmts_began d c so_far s view old mid next result new h st lt r =
    let here : old ≡ start_mark s ∷ next = sym h.1 ∙ start_is s mid next st in
    let other = brace_no (start_mark s) next old c here h.0 in
    took closed (closes_or_begins d c) (λ x. stmts_after d c so_far x (place x.sign == place c)) view old (start_mark s) next result new here (start_fit d c s other true (lt-ltb d 64 lt))
    (subst (λ (z : Bool). Reads closed (stmts_after d c so_far (start_mark s) z) view next result new) (sym other) r)

pub stmts_more : {A : Type 0} (d : ℕ) (c : Sign) (so_far : List Code) (s : Start) (view : A → Closed) (old mid next mid2 : List Mark) (e : Stmt) (all : List Code) → Takes c old false mid → IsStart s mid next → d < 64 → Reads a_code (rule (rest_of d (start_mark s))) code_of next (Ok e) mid2 → all ≡ so_far ++ code_of e ∷ [] → Onward closed (rule (stmts d c so_far)) (rule (stmts d c all)) view old mid2
stmts_more d c so_far s view old mid next mid2 e all h st lt r is result new g =
    stmts_began d c so_far s view old mid next result new h st lt
    (then_part closed (rest_of d (start_mark s)) _ code_of view next mid2 e result new r
    (last_part closed (stmts d c (so_far ++ code_of e ∷ [])) view mid2 result new (subst (λ (z : List Code). Reads closed (rule (stmts d c z)) view mid2 result new) is g)))

pub stmts_stop : {A : Type 0} (d : ℕ) (c : Sign) (so_far : List Code) (s : Start) (view : A → Closed) (old mid next : List Mark) (stop : Stop) (new : List Mark) → Takes c old false mid → IsStart s mid next → d < 64 → Reads {A = Stmt} a_code (rule (rest_of d (start_mark s))) code_of next (Err stop) new → Reads closed (rule (stmts d c so_far)) view old (Err stop) new
stmts_stop d c so_far s view old mid next stop new h st lt r =
    stmts_began d c so_far s view old mid next (Err stop) new h st lt (stop_part closed (rest_of d (start_mark s)) _ code_of view next stop new r)

pub stmts_deep : {A : Type 0} (d : ℕ) (c : Sign) (so_far : List Code) (s : Start) (view : A → Closed) (old mid next : List Mark) → Takes c old false mid → IsStart s mid next → 64 ≤ d → Reads closed (rule (stmts d c so_far)) view old (Err TooDeep) mid
unfolding Takes
stmts_deep d c so_far s view old mid next h st le =
    let here : old ≡ start_mark s ∷ next = sym h.1 ∙ start_is s mid next st in
    let other = brace_no (start_mark s) next old c here h.0 in
    subst (λ (z : List Mark). Reads closed (rule (stmts d c so_far)) view old (Err TooDeep) z) (sym h.1)
    (stop_deep closed (closes_or_begins d c) _ view old (ap (next_fit (closes_or_begins d c)) here ∙ start_fit d c s other false (le-ltb d 64 le)))

-- (the four below are not checked yet)
unfit_body : (d : ℕ) (x : Mark) (s : Sign) → x.sign ≡ s → (place s == 40) ≡ false → begins_statement s ≡ false → body_fit d x s ≡ unfit
unfit_body d x open_brace e o n = absurd (cc)
unfit_body d x s e o n = ap (λ z. judged (begins_statement z) (nat_lt d 64)) e ∙ ap (λ z. judged z (nat_lt d 64)) n

no_start_next : (d : ℕ) (c : Sign) (ts : List Mark) → next_fit (is c) ts ≡ unfit → NoStart ts → next_fit (closes_or_begins d c) ts ≡ unfit
unfolding is closes_or_begins NoStart
no_start_next d c [] e n = refl
no_start_next d c (x ∷ xs) e n =
    ap (λ z. if z then fit else judged (begins_statement x.sign) (nat_lt d 64)) (judged_false _ e) ∙ ap (λ z. judged z (nat_lt d 64)) n

no_body_next : (d : ℕ) (ts : List Mark) → next_fit (is open_brace) ts ≡ unfit → NoStart ts → next_fit (begins_body d) ts ≡ unfit
unfolding is begins_body NoStart
no_body_next d [] e n = refl
no_body_next d (x ∷ xs) e n = unfit_body d x x.sign refl (judged_false _ e) n

pub stmts_unfit : {A : Type 0} (d : ℕ) (c : Sign) (so_far : List Code) (view : A → Closed) (old mid : List Mark) → Takes c old false mid → NoStart mid → Reads closed (rule (stmts d c so_far)) view old (Err Unfit) mid
unfolding Takes
stmts_unfit d c so_far view old mid h n =
    subst (λ (z : List Mark). Reads closed (rule (stmts d c so_far)) view old (Err Unfit) z) (sym h.1)
    (stop_unfit closed (closes_or_begins d c) _ view old (no_start_next d c old h.0 (subst NoStart h.1 n)))

pub body_unfit : {A : Type 0} (d : ℕ) (view : A → Codes) (old mid : List Mark) → Takes open_brace old false mid → NoStart mid → Reads a_body (rule (body d)) view old (Err Unfit) mid
unfolding Takes
body_unfit d view old mid h n =
    subst (λ (z : List Mark). Reads a_body (rule (body d)) view old (Err Unfit) z) (sym h.1)
    (stop_unfit a_body (begins_body d) _ view old (no_body_next d old h.0 (subst NoStart h.1 n)))
