-- What the parts of the reader's grammar say is what the productions say.
use Rattle.std.proofs.Common.{◌≡◌, ◌+◌, ℕ, zero, suc, sym, subst, List, [], ◌∷◌, ◌++◌, true, Option}
use Rattle.gs_tree.specs.Program.{Name, Term, Setting, Formatted, Passed, Code, Codes, Program}
use Rattle.gs_tree.specs.Sign.{Sign, Mark, ident, string, open_paren, close_paren, semicolon}
use Rattle.gs_tree.specs.View.{codes}
use Rattle.gs_tree.specs.declared.tree.VarKind.{VarKind}
use Rattle.gs_parse.specs.Fits.{TermFits, TermsFit, AddressFits, PassedsFit, MaybeSettingFits, MaybeTermFits, CodeFits, CodesFit, SettingsFit, ProgramFits}
use Rattle.gs_parse.specs.Symbols.{name_at, text_of}
use Rattle.gs_parse.specs.Notation.{Lined, Declared, Printed, Closed, Kind, Value, Part, level, tail, more_terms, arg, more_args, args, condition, printing, assigned, for_first, for_test, for_step, rest_of, body, stmts, names, decls, starts, program, kind_of, Fit, unfit, Rule, gives, take, may, read}
use Rattle.gs_parse.specs.Grammar.{rule, is, height, begins_statement}
use Rattle.gs_parse.specs.Reading.{Limits, limited, Accepts, next_fit, Says, given, taken, chosen, passed, part}
use Rattle.gs_parse.specs.Reads.{line_of}
use Rattle.gs_grammar.specs.Signs.{at, called}
use Rattle.gs_grammar.specs.Expressions.{IsUnary, IsProd, IsSum, IsRel, IsEq, IsAnd, IsExpr}
use Rattle.gs_grammar.specs.Statements.{IsMoreExprs, IsArg, IsMoreArgs, IsArgs, IsAssign, IsMaybeAssign, IsMaybeExpr, formatted, body_of, IsStmt, IsStmts}
use Rattle.gs_grammar.specs.Programs.{IsVars, IsDecls, IsStarts, IsProgram}
use Rattle.gs_grammar.proofs.Saying.{Within}
use Rattle.gs_grammar.proofs.Exact.{is_plain, exact, exact_name, exact_string, placed}

-- ---- what each part says

-- the productions of a level
abbrev pub Level : Limits → ℕ → (groups : ℕ) → List Mark → Term → List Mark → Type 0
Level l zero = IsUnary l
Level l (suc zero) = IsProd l
Level l (suc (suc zero)) = IsSum l
Level l (suc (suc (suc zero))) = IsRel l
Level l (suc (suc (suc (suc zero)))) = IsEq l
Level l (suc (suc (suc (suc (suc zero))))) = IsAnd l
Level l (suc (suc (suc (suc (suc (suc m)))))) = IsExpr l

pub record AtLevel (l : Limits) (m depth groups : ℕ) (ts : List Mark) (v : Lined) (rest : List Mark) : Type 0 where
  pub says : Level l m groups ts v.term rest
  pub line_is : v.line ≡ line_of ts
  pub room : Within l (depth + height v.term)

pub record TermsUp (l : Limits) (so_far : List Term) (ts : List Mark) (all : List Term) (rest : List Mark) : Type 0 where
  pub line : ℕ
  pub more : List Term
  pub says : IsMoreExprs l ts more (at line close_paren ∷ rest)
  pub all_is : all ≡ so_far ++ more
  pub fits : l ≡ limited → TermsFit more

pub record OneArg (l : Limits) (ts : List Mark) (p : Passed) (rest : List Mark) : Type 0 where
  pub says : IsArg l ts p rest
  pub fits : l ≡ limited → AddressFits p.by_address p.value

pub record ArgsUp (l : Limits) (so_far : List Passed) (ts : List Mark) (all : List Passed) (rest : List Mark) : Type 0 where
  pub line : ℕ
  pub more : List Passed
  pub says : IsMoreArgs l ts more (at line close_paren ∷ rest)
  pub all_is : all ≡ so_far ++ more
  pub fits : l ≡ limited → PassedsFit more

pub record AllArgs (l : Limits) (ts : List Mark) (ps : List Passed) (rest : List Mark) : Type 0 where
  pub line : ℕ
  pub says : IsArgs l ts ps (at line close_paren ∷ rest)
  pub fits : l ≡ limited → PassedsFit ps

pub data InParens (l : Limits) : List Mark → Term → List Mark → Type 0 where
  in_parens : {a b : ℕ} {ts rest : List Mark} {e : Term} → IsExpr l 0 ts e (at b close_paren ∷ rest) → (l ≡ limited → TermFits 0 e) →
      InParens l (at a open_paren ∷ ts) e rest

pub data Printing (l : Limits) : List Mark → Printed → List Mark → Type 0 where
  printing_ : {a b : ℕ} {f : Formatted} {ts rest : List Mark} {es : List Term} → IsMoreExprs l ts es (at a close_paren ∷ at b semicolon ∷ rest) →
      (l ≡ limited → TermsFit es) → Printing l (formatted f ∷ ts) (record { format = f; args = es }) rest

pub record Assigned (l : Limits) (n : Name) (ts : List Mark) (s : Setting) (rest : List Mark) : Type 0 where
  pub says : IsAssign l (called n ∷ ts) s rest
  pub fits : l ≡ limited → TermFits 0 s.value

pub record MaybeSet (l : Limits) (closer : Sign) (ts : List Mark) (s : Option Setting) (rest : List Mark) : Type 0 where
  pub line : ℕ
  pub says : IsMaybeAssign l ts s (at line closer ∷ rest)
  pub fits : l ≡ limited → MaybeSettingFits s

pub record MaybeTest (l : Limits) (ts : List Mark) (e : Option Term) (rest : List Mark) : Type 0 where
  pub line : ℕ
  pub says : IsMaybeExpr l ts e (at line semicolon ∷ rest)
  pub fits : l ≡ limited → MaybeTermFits e

pub record Stated (l : Limits) (depth : ℕ) (ts : List Mark) (c : Code) (rest : List Mark) : Type 0 where
  pub says : IsStmt l ts c rest
  pub fits : l ≡ limited → CodeFits depth c

-- a statement whose first sign stands before the part
abbrev pub Begun : (l : Limits) (depth : ℕ) (first : Mark) → List Mark → Code → List Mark → Type 0
Begun l depth x ts c rest = begins_statement x.sign ≡ true → Within l (suc depth) → Stated l depth (x ∷ ts) c rest

pub data Body (l : Limits) (depth : ℕ) : List Mark → Codes → List Mark → Type 0 where
  a_body : {ts rest : List Mark} {c : Code} → IsStmt l ts c rest → (l ≡ limited → CodesFit depth (body_of c)) → Body l depth ts (body_of c) rest

pub record StmtsUp (l : Limits) (depth : ℕ) (closer : Sign) (so_far : List Code) (ts : List Mark) (v : Closed) (rest : List Mark) : Type 0 where
  pub more : List Code
  pub says : IsStmts l ts (codes more) (at v.line closer ∷ rest)
  pub all_is : v.body ≡ codes (so_far ++ more)
  pub fits : l ≡ limited → CodesFit depth (codes more)

pub record DeclsUp (l : Limits) (so_far : Declared) (ts : List Mark) (d : Declared) (rest : List Mark) : Type 0 where
  pub vars : List (Name × VarKind)
  pub first : List Setting
  pub says : IsDecls l ts vars first rest
  pub vars_is : d.vars ≡ so_far.vars ++ vars
  pub first_is : d.first ≡ so_far.first ++ first
  pub fits : l ≡ limited → SettingsFit first

pub record NamesUp (l : Limits) (k : VarKind) (so_far : Declared) (ts : List Mark) (d : Declared) (rest : List Mark) : Type 0 where
  pub line : ℕ
  pub mid : List Mark
  pub vars : List (Name × VarKind)
  pub others : List (Name × VarKind)
  pub first : List Setting
  pub later : List Setting
  pub says : IsVars l k ts vars first (at line semicolon ∷ mid)
  pub says_then : IsDecls l mid others later rest
  pub vars_is : d.vars ≡ so_far.vars ++ (vars ++ others)
  pub first_is : d.first ≡ so_far.first ++ (first ++ later)
  pub fits : l ≡ limited → SettingsFit (first ++ later)

pub record StartsUp (l : Limits) (so_far : List Setting) (ts : List Mark) (all : List Setting) (rest : List Mark) : Type 0 where
  pub more : List Setting
  pub says : IsStarts l ts more rest
  pub all_is : all ≡ so_far ++ more
  pub fits : l ≡ limited → SettingsFit more

pub record Whole (l : Limits) (ts : List Mark) (p : Program) : Type 0 where
  pub says : IsProgram l ts p
  pub fits : l ≡ limited → ProgramFits p

abbrev pub Means : (l : Limits) (n : Part) → List Mark → Value (kind_of n) → List Mark → Type 0
Means l (level m d g) ts v us = Within l (suc d) → AtLevel l m d g ts v us
Means l (tail m d g a) ts v us = (start : List Mark) → AtLevel l (suc m) d g start a ts → AtLevel l (suc m) d g start v us
Means l (more_terms so_far) ts v us = TermsUp l so_far ts v us
Means l arg ts v us = OneArg l ts v us
Means l (more_args so_far) ts v us = ArgsUp l so_far ts v us
Means l args ts v us = AllArgs l ts v us
Means l condition ts v us = InParens l ts v.term us
Means l printing ts v us = Printing l ts v us
Means l (assigned n) ts v us = Assigned l n ts v us
Means l for_first ts v us = MaybeSet l semicolon ts v us
Means l for_test ts v us = MaybeTest l ts v us
Means l for_step ts v us = MaybeSet l close_paren ts v us
Means l (rest_of d x) ts v us = Begun l d x ts v us
Means l (body d) ts v us = Body l d ts v us
Means l (stmts d c so_far) ts v us = is_plain c ≡ true → StmtsUp l d c so_far ts v us
Means l (names k so_far) ts v us = NamesUp l k so_far ts v us
Means l (decls so_far) ts v us = DeclsUp l so_far ts v us
Means l (starts so_far) ts v us = StartsUp l so_far ts v us
Means l program ts v us = us ≡ [] → Whole l ts v

-- ---- rules

-- what a rule says from signs on, where its parts mean what they should
abbrev pub Keeps : (l : Limits) (k : Kind) → Rule k → (List Mark → Value k → List Mark → Type 0) → Type 0
Keeps l k (gives v) P = (ts : List Mark) → P ts v ts
Keeps l k (take f next) P = (x : Mark) → Accepts l (f x) → Keeps l k (next x) (λ ts v us. P (x ∷ ts) v us)
Keeps l k (may f next other) P =
    ((x : Mark) → Accepts l (f x) → Keeps l k (next x) (λ ts v us. P (x ∷ ts) v us)) × Keeps l k other (λ ts v us. next_fit f ts ≡ unfit → P ts v us)
Keeps l k (read n next) P = (w : Value (kind_of n)) → Keeps l k (next w) (λ ms v us. (ts : List Mark) → Means l n ts w ms → P ts v us)

pub record Keeping (l : Limits) (k : Kind) (r : Rule k) (P : List Mark → Value k → List Mark → Type 0) : Type 0 where
  pub on : Keeps l k r P

abbrev pub AllKeep : Limits → Type 0
AllKeep l = (n : Part) → Keeping l (kind_of n) (rule n) (Means l n)

-- what is said has what the rule keeps
pub kept : (l : Limits) → AllKeep l → (k : Kind) (r : Rule k) (ts : List Mark) (v : Value k) (us : List Mark) (P : List Mark → Value k → List Mark → Type 0) →
    Keeps l k r P → Says l k r ts v us → P ts v us
kept l all k r ts v us P keeps (given _ _ _ _) = keeps ts
kept l all k r ts v us P keeps (taken _ _ f n x xs _ _ a h) = kept l all k (n x) xs v us (λ qs w rs. P (x ∷ qs) w rs) (keeps x a) h
kept l all k r ts v us P keeps (chosen _ _ f n o x xs _ _ a h) = kept l all k (n x) xs v us (λ qs w rs. P (x ∷ qs) w rs) (keeps.0 x a) h
kept l all k r ts v us P keeps (passed _ _ f n o _ _ _ e h) = kept l all k o ts v us (λ qs w rs. next_fit f qs ≡ unfit → P qs w rs) keeps.1 h e
kept l all k r ts v us P keeps (part _ _ n next _ ms w _ _ g h) =
    kept l all k (next w) ms v us (λ ps z rs. (qs : List Mark) → Means l n qs w ps → P qs z rs) (keeps w) h ts
    (kept l all (kind_of n) (rule n) ts w ms (Means l n) (all n).on g)

-- ---- a rule, a part at a time

pub done : {l : Limits} {k : Kind} {v : Value k} {P : List Mark → Value k → List Mark → Type 0} → ((ts : List Mark) → P ts v ts) → Keeping l k (gives v) P
done {l} {k} {v} {P} h = record { on = h }

pub sign_ : {l : Limits} {k : Kind} {f : Mark → Fit} {next : Mark → Rule k} {P : List Mark → Value k → List Mark → Type 0} →
    ((x : Mark) → Accepts l (f x) → Keeping l k (next x) (λ ts v us. P (x ∷ ts) v us)) → Keeping l k (take f next) P
sign_ {l} {k} {f} {next} {P} h = record { on = λ x a. (h x a).on }

pub choice_ : {l : Limits} {k : Kind} {f : Mark → Fit} {next : Mark → Rule k} {other : Rule k} {P : List Mark → Value k → List Mark → Type 0} →
    ((x : Mark) → Accepts l (f x) → Keeping l k (next x) (λ ts v us. P (x ∷ ts) v us)) → Keeping l k other (λ ts v us. next_fit f ts ≡ unfit → P ts v us) →
    Keeping l k (may f next other) P
choice_ {l} {k} {f} {next} {other} {P} h g = record { on = (λ x a. (h x a).on, g.on) }

pub part_ : {l : Limits} {k : Kind} {n : Part} {next : Value (kind_of n) → Rule k} {P : List Mark → Value k → List Mark → Type 0} →
    ((w : Value (kind_of n)) → Keeping l k (next w) (λ ms v us. (ts : List Mark) → Means l n ts w ms → P ts v us)) → Keeping l k (read n next) P
part_ {l} {k} {n} {next} {P} h = record { on = λ w. (h w).on }

-- a sign that holds nothing
the_sign : {l : Limits} {k : Kind} (s : Sign) (next : Mark → Rule k) (P : List Mark → Value k → List Mark → Type 0) → is_plain s ≡ true →
    ((line : ℕ) → Keeping l k (next (at line s)) (λ ts v us. P (at line s ∷ ts) v us)) → (x : Mark) → Accepts l (is s x) → Keeping l k (next x) (λ ts v us. P (x ∷ ts) v us)
the_sign {l} {k} s next P plain h x a =
    subst (λ (z : Sign). Keeping l k (next (at x.line z)) (λ ts v us. P (at x.line z ∷ ts) v us)) (sym (exact s x.sign plain (placed l s x a))) (h x.line)

pub word_ : (s : Sign) {l : Limits} {k : Kind} {next : Mark → Rule k} {P : List Mark → Value k → List Mark → Type 0} → is_plain s ≡ true →
    ((line : ℕ) → Keeping l k (next (at line s)) (λ ts v us. P (at line s ∷ ts) v us)) → Keeping l k (take (is s) next) P
word_ s {l} {k} {next} {P} plain h = sign_ (the_sign s next P plain h)

pub may_ : (s : Sign) {l : Limits} {k : Kind} {next : Mark → Rule k} {other : Rule k} {P : List Mark → Value k → List Mark → Type 0} → is_plain s ≡ true →
    ((line : ℕ) → Keeping l k (next (at line s)) (λ ts v us. P (at line s ∷ ts) v us)) → Keeping l k other (λ ts v us. next_fit (is s) ts ≡ unfit → P ts v us) →
    Keeping l k (may (is s) next other) P
may_ s {l} {k} {next} {other} {P} plain h g = choice_ (the_sign s next P plain h) g

-- a name
the_name : {l : Limits} {k : Kind} (next : Mark → Rule k) (P : List Mark → Value k → List Mark → Type 0) →
    ((n : Name) → Keeping l k (next (called n)) (λ ts v us. P (called n ∷ ts) v us)) → (x : Mark) → Accepts l (is (ident []) x) →
    Keeping l k (next x) (λ ts v us. P (x ∷ ts) v us)
the_name {l} {k} next P h x a =
    subst (λ (z : Sign). Keeping l k (next (at x.line z)) (λ ts v us. P (at x.line z ∷ ts) v us)) (sym (exact_name x.sign (placed l (ident []) x a))) (h (name_at x))

pub name_ : {l : Limits} {k : Kind} {next : Mark → Rule k} {P : List Mark → Value k → List Mark → Type 0} →
    ((n : Name) → Keeping l k (next (called n)) (λ ts v us. P (called n ∷ ts) v us)) → Keeping l k (take (is (ident [])) next) P
name_ {l} {k} {next} {P} h = sign_ (the_name next P h)

pub may_name : {l : Limits} {k : Kind} {next : Mark → Rule k} {other : Rule k} {P : List Mark → Value k → List Mark → Type 0} →
    ((n : Name) → Keeping l k (next (called n)) (λ ts v us. P (called n ∷ ts) v us)) → Keeping l k other (λ ts v us. next_fit (is (ident [])) ts ≡ unfit → P ts v us) →
    Keeping l k (may (is (ident [])) next other) P
may_name {l} {k} {next} {other} {P} h g = choice_ (the_name next P h) g

-- a format
pub format_ : {l : Limits} {k : Kind} {next : Mark → Rule k} {P : List Mark → Value k → List Mark → Type 0} →
    ((f : Formatted) → Keeping l k (next (formatted f)) (λ ts v us. P (formatted f ∷ ts) v us)) → Keeping l k (take (is (string [])) next) P
format_ {l} {k} {next} {P} h =
    sign_ (λ x a. subst (λ (z : Sign). Keeping l k (next (at x.line z)) (λ ts v us. P (at x.line z ∷ ts) v us)) (sym (exact_string x.sign (placed l (string []) x a)))
    (h (record { line = x.line; text = text_of x.sign })))

-- what is wanted follows from what is kept
weaker : (l : Limits) (k : Kind) (r : Rule k) (P Q : List Mark → Value k → List Mark → Type 0) → ((ts : List Mark) (v : Value k) (us : List Mark) → P ts v us → Q ts v us) →
    Keeps l k r P → Keeps l k r Q
weaker l k (gives v) P Q f h = λ ts. f ts v ts (h ts)
weaker l k (take g next) P Q f h = λ x a. weaker l k (next x) (λ ts v us. P (x ∷ ts) v us) (λ ts v us. Q (x ∷ ts) v us) (λ ts v us. f (x ∷ ts) v us) (h x a)
weaker l k (may g next other) P Q f h = (
  λ x a. weaker l k (next x) (λ ts v us. P (x ∷ ts) v us) (λ ts v us. Q (x ∷ ts) v us) (λ ts v us. f (x ∷ ts) v us) (h.0 x a),
  weaker l k other (λ ts v us. next_fit g ts ≡ unfit → P ts v us) (λ ts v us. next_fit g ts ≡ unfit → Q ts v us) (λ ts v us m e. f ts v us (m e)) h.1,
)
weaker l k (read n next) P Q f h = λ w.
    weaker l k (next w) (λ ms v us. (ts : List Mark) → Means l n ts w ms → P ts v us) (λ ms v us. (ts : List Mark) → Means l n ts w ms → Q ts v us)
    (λ ms v us g ts m. f ts v us (g ts m)) (h w)

pub wants : {l : Limits} {k : Kind} {r : Rule k} {P Q : List Mark → Value k → List Mark → Type 0} → Keeping l k r P →
    ((ts : List Mark) (v : Value k) (us : List Mark) → P ts v us → Q ts v us) → Keeping l k r Q
wants {l} {k} {r} {P} {Q} h f = record { on = weaker l k r P Q f h.on }
