-- What the reader's grammar says of a whole program is what the productions say.
use Rattle.std.proofs.Common.{◌≡◌, ℕ, zero, suc, refl, sym, ap, ◌∙◌, subst, List, [], ◌∷◌, ◌++◌, append-nil, append_assoc}
use Rattle.std.specs.Prelude.{pos, negsuc, Some, None}
use Rattle.gs_tree.specs.Program.{Name, Term, Setting, Codes, Program}
use Rattle.gs_tree.specs.Sign.{Sign, Mark, main_, int_, char_, file_, void_, return_, gs_on, gs_off, number, open_paren, close_paren, open_brace, close_brace, comma, semicolon, equal, star}
use Rattle.gs_tree.specs.declared.tree.VarKind.{VarKind}
use Rattle.gs_tree.specs.declared.tree.VarKind.TheVariants as var_kind
use Rattle.gs_parse.specs.Fits.{CodesFit, SettingsFit}
use Rattle.gs_parse.specs.Notation.{Declared, Closed, Kind, Value, settings, declared, a_program, level, tail, more_terms, arg, more_args, args, condition, printing, assigned, for_first, for_test, for_step, rest_of, body, stmts, names, decls, starts, program, Rule, take}
use Rattle.gs_parse.specs.Grammar.{rule, is_either, is_zero, zero_fit, begins_declaration, type_fit, kind_named, declare, next_after, next_var, var_rule, names_rule, after_off, after_on, after_head, after_main}
use Rattle.gs_parse.specs.Reading.{Limits, limited, Accepts, SaysProgram}
use Rattle.gs_grammar.specs.Signs.{at, called}
use Rattle.gs_grammar.specs.Statements.{assigned_to, IsStmts}
use Rattle.gs_grammar.specs.Programs.{IsValue, no_value, a_value, IsVar, int_var, string_var, handle_var, last_var, more_vars, type_sign, IsDecls, no_decl, a_decl, IsStarts, no_start, a_start, IsType, no_type, int_type, void_type, IsVoid, no_void, a_void, IsReturn, no_return, a_return, the_program}
use Rattle.gs_grammar.proofs.Exact.{refused}
use Rattle.gs_grammar.proofs.Meaning.{StmtsUp, DeclsUp, NamesUp, StartsUp, Whole, Means, Keeping, AllKeep, kept, done, sign_, choice_, part_, word_, may_, name_, may_name, wants}
use Rattle.gs_grammar.proofs.TermsMean.{top, keep_level, keep_tail, keep_more_terms, keep_arg, keep_more_args, keep_args}
use Rattle.gs_grammar.proofs.CodesMean.{keep_condition, keep_printing, keep_assigned, keep_first, keep_test, keep_step, keep_rest, keep_body, keep_stmts}

-- ---- declarations

-- assignments one after the other are within the limits
SettingsFit-append : (ss us : List Setting) → SettingsFit ss → SettingsFit us → SettingsFit (ss ++ us)
SettingsFit-append [] us h k = k
SettingsFit-append (s ∷ ss) us h k = (h.0, SettingsFit-append ss us h.1 k)

-- what follows a variable of a declaration
data NextVar (l : Limits) (k : VarKind) (so_far : Declared) : List Mark → Declared → List Mark → Type 0 where
  next_name : {a : ℕ} {ts rest : List Mark} {d : Declared} → NamesUp l k so_far ts d rest → NextVar l k so_far (at a comma ∷ ts) d rest
  next_decl : {a : ℕ} {ts rest : List Mark} {d : Declared} → DeclsUp l so_far ts d rest → NextVar l k so_far (at a semicolon ∷ ts) d rest

keep_next_after : (l : Limits) (k : VarKind) (d : Declared) (line : ℕ) (s : Sign) → Accepts l (is_either comma semicolon (at line s)) →
    Keeping l declared (next_after k d s) (λ ts e us. NextVar l k d (at line s ∷ ts) e us)
unfolding is_either
keep_next_after l k d line comma a = part_ (λ all. done (λ end ts h. next_name h))
keep_next_after l k d line semicolon a = part_ (λ all. done (λ end ts h. next_decl h))
keep_next_after l k d line _ a = absurd (refused l a)

keep_next_var : (l : Limits) (k : VarKind) (d : Declared) → Keeping l declared (next_var k d) (NextVar l k d)
keep_next_var l k d = sign_ (λ x a. keep_next_after l k d x.line x.sign a)

-- a declaration with one more variable
record OneMore (n : Name) (k : VarKind) (first : List Setting) (before after : Declared) : Type 0 where
  vars_is : after.vars ≡ before.vars ++ (n, k) ∷ []
  first_is : after.first ≡ before.first ++ first

-- a variable and what follows it
var_up : (l : Limits) (n : Name) (k : VarKind) (first : List Setting) (before after : Declared) (start ts : List Mark) (e : Declared) (end : List Mark) →
    OneMore n k first before after → IsVar l k start n first ts → (l ≡ limited → SettingsFit first) → NextVar l k after ts e end → NamesUp l k before start e end
var_up l n k first before after start ts e end more h f (next_name g) = record {
  line = g.line;
  mid = g.mid;
  vars = (n, k) ∷ g.vars;
  others = g.others;
  first = first ++ g.first;
  later = g.later;
  says = more_vars h g.says;
  says_then = g.says_then;
  vars_is = g.vars_is ∙ ap (λ z. z ++ (g.vars ++ g.others)) more.vars_is ∙ append_assoc before.vars ((n, k) ∷ []) (g.vars ++ g.others);
  first_is = g.first_is ∙ ap (λ z. z ++ (g.first ++ g.later)) more.first_is ∙ append_assoc before.first first (g.first ++ g.later)
      ∙ ap (λ z. before.first ++ z) (sym (append_assoc first g.first g.later));
  fits = λ q. subst SettingsFit (sym (append_assoc first g.first g.later)) (SettingsFit-append first (g.first ++ g.later) (f q) (g.fits q));
}
var_up l n k first before after start ts e end more h f (next_decl {a} g) = record {
  line = a;
  mid = _;
  vars = (n, k) ∷ [];
  others = g.vars;
  first = first;
  later = g.first;
  says = last_var h;
  says_then = g.says;
  vars_is = g.vars_is ∙ ap (λ z. z ++ g.vars) more.vars_is ∙ append_assoc before.vars ((n, k) ∷ []) g.vars;
  first_is = g.first_is ∙ ap (λ z. z ++ g.first) more.first_is ∙ append_assoc before.first first g.first;
  fits = λ q. SettingsFit-append first g.first (f q) (g.fits q);
}

declared_none : (n : Name) (k : VarKind) (d : Declared) → OneMore n k [] d (declare n k None d)
declared_none n k d = record { vars_is = refl; first_is = sym (append-nil d.first) }

declared_some : (n : Name) (k : VarKind) (e : Term) (d : Declared) → OneMore n k (assigned_to n e ∷ []) d (declare n k (Some e) d)
declared_some n k e d = record { vars_is = refl; first_is = refl }

-- a name, with its value where it has one, after the sign that stands before it
keep_var : (l : Limits) (k : VarKind) (d : Declared) (before : List Mark) →
    ((n : Name) (ts rest : List Mark) (first : List Setting) → IsValue l n ts first rest → IsVar l k (before ++ called n ∷ ts) n first rest) →
    Keeping l declared (var_rule k d) (λ ts e us. NamesUp l k d (before ++ ts) e us)
keep_var l k d before h =
    name_ (λ n.
    may_ equal refl (λ a. part_ (λ e. wants (keep_next_var l k (declare n k (Some e.term) d)) (λ ts all us g start he.
    let v = he (top l) in
    var_up l n k (assigned_to n e.term ∷ []) d (declare n k (Some e.term) d) (before ++ called n ∷ at a equal ∷ start) ts all us (declared_some n k e.term d)
    (h n (at a equal ∷ start) ts (assigned_to n e.term ∷ []) (a_value v.says)) (λ q. (v.room q, tt)) g)))
    (wants (keep_next_var l k (declare n k None d)) (λ ts all us g free.
    var_up l n k [] d (declare n k None d) (before ++ called n ∷ ts) ts all us (declared_none n k d) (h n ts ts [] no_value) (λ q. tt) g)))

keep_names : (l : Limits) (k : VarKind) (d : Declared) → Keeping l declared (names_rule k d) (λ ts e us. NamesUp l k d ts e us)
keep_names l var_kind.Int d = keep_var l var_kind.Int d [] (λ n ts rest first h. int_var h)
keep_names l var_kind.Str d = word_ star refl (λ a. keep_var l var_kind.Str d (at a star ∷ []) (λ n ts rest first h. string_var h))
keep_names l var_kind.Handle d =
    word_ star refl (λ a. name_ (λ n. wants (keep_next_var l var_kind.Handle (declare n var_kind.Handle None d)) (λ ts all us g.
    var_up l n var_kind.Handle [] d (declare n var_kind.Handle None d) (at a star ∷ called n ∷ ts) ts all us (declared_none n var_kind.Handle d) handle_var (λ q. tt) g)))

-- the sign of a type
type_is : (l : Limits) (s : Sign) → Accepts l (type_fit s) → s ≡ type_sign (kind_named s)
type_is l int_ a = refl
type_is l char_ a = refl
type_is l file_ a = refl
type_is l _ a = absurd (refused l a)

decl_up : (l : Limits) (d : Declared) (line : ℕ) (k : VarKind) (s : Sign) (ts : List Mark) (all : Declared) (end : List Mark) → s ≡ type_sign k → NamesUp l k d ts all end →
    DeclsUp l d (at line s ∷ ts) all end
decl_up l d line k s ts all end e h = record {
  vars = h.vars ++ h.others;
  first = h.first ++ h.later;
  says = subst (λ (z : Sign). IsDecls l (at line z ∷ ts) (h.vars ++ h.others) (h.first ++ h.later) end) (sym e) (a_decl h.says h.says_then);
  vars_is = h.vars_is;
  first_is = h.first_is;
  fits = h.fits;
}

keep_decls : (l : Limits) (d : Declared) → Keeping l declared (rule (decls d)) (Means l (decls d))
unfolding begins_declaration
keep_decls l d =
    choice_ (λ x a. part_ (λ all. done (λ end ts h. decl_up l d x.line (kind_named x.sign) x.sign ts all end (type_is l x.sign a) h)))
    (done (λ end free. record { vars = []; first = []; says = no_decl; vars_is = sym (append-nil d.vars); first_is = sym (append-nil d.first); fits = λ q. tt }))

keep_starts : (l : Limits) (so_far : List Setting) → Keeping l settings (rule (starts so_far)) (Means l (starts so_far))
keep_starts l so_far =
    may_name (λ n. word_ equal refl (λ a. part_ (λ e. word_ semicolon refl (λ b. part_ (λ all. done (λ end mid h ts he.
    let v = he (top l) in
    record {
      more = assigned_to n e.term ∷ h.more;
      says = a_start v.says h.says;
      all_is = h.all_is ∙ append_assoc so_far (assigned_to n e.term ∷ []) h.more;
      fits = λ q. (v.room q, h.fits q);
    }))))))
    (done (λ end free. record { more = []; says = no_start; all_is = sym (append-nil so_far); fits = λ q. tt }))

-- ---- the whole program

-- a `0`
zero_is : (l : Limits) (s : Sign) → Accepts l (zero_fit s) → s ≡ number (pos 0)
zero_is l (number (pos zero)) a = refl
zero_is l (number (pos (suc n))) a = absurd (refused l a)
zero_is l (number (negsuc n)) a = absurd (refused l a)
zero_is l _ a = absurd (refused l a)

zero_ : {l : Limits} {k : Kind} {next : Mark → Rule k} {P : List Mark → Value k → List Mark → Type 0} →
    ((line : ℕ) → Keeping l k (next (at line (number (pos 0)))) (λ ts v us. P (at line (number (pos 0)) ∷ ts) v us)) → Keeping l k (take is_zero next) P
unfolding is_zero
zero_ {l} {k} {next} {P} h =
    sign_ (λ x a. subst (λ (z : Sign). Keeping l k (next (at x.line z)) (λ ts v us. P (at x.line z ∷ ts) v us)) (sym (zero_is l x.sign a)) (h x.line))

-- what follows GS_Off, GS_On, and `main(` with `void` or without
data Ended : List Mark → Type 0 where
  ended : {j k m n o : ℕ} {ys : List Mark} → IsReturn ys (at o close_brace ∷ []) →
      Ended (at j open_paren ∷ at k (number (pos 0)) ∷ at m close_paren ∷ at n semicolon ∷ ys)

data Running (l : Limits) (vars : List (Name × VarKind)) (first : List Setting) : List Mark → Program → Type 0 where
  running : {f g h i : ℕ} {xs ys : List Mark} {body_ : Codes} → IsStmts l xs body_ (at i gs_off ∷ ys) → Ended ys → (l ≡ limited → CodesFit 0 body_) →
      Running l vars first (at f open_paren ∷ at g close_paren ∷ at h semicolon ∷ xs) (record { vars = vars; first = first; body = body_; off = i })

data Headed (l : Limits) : List Mark → Program → Type 0 where
  headed : {c d e : ℕ} {vs ws zs : List Mark} {vars : List (Name × VarKind)} {first others : List Setting} {p : Program} →
      IsDecls l vs vars first ws → IsStarts l ws others (at e gs_on ∷ zs) → Running l vars (first ++ others) zs p → (l ≡ limited → SettingsFit (first ++ others)) →
      Headed l (at c close_paren ∷ at d open_brace ∷ vs) p

-- nothing follows the last brace
last_brace : (o : ℕ) (ys end : List Mark) → end ≡ [] → IsReturn ys (at o close_brace ∷ end) → IsReturn ys (at o close_brace ∷ [])
last_brace o ys end e h = subst (λ (z : List Mark). IsReturn ys (at o close_brace ∷ z)) e h

keep_off : (l : Limits) (p : Program) → Keeping l a_program (after_off p) (λ ts q us. us ≡ [] → (q ≡ p) × Ended ts)
keep_off l p =
    word_ open_paren refl (λ j. zero_ (λ k. word_ close_paren refl (λ m. word_ semicolon refl (λ n.
    may_ return_ refl (λ a. zero_ (λ b. word_ semicolon refl (λ c. word_ close_brace refl (λ o. done (λ end e. (refl, ended (last_brace o _ end e a_return)))))))
    (word_ close_brace refl (λ o. done (λ end free e. (refl, ended (last_brace o _ end e no_return)))))))))

-- statements up to GS_Off
running_up : (l : Limits) (vars : List (Name × VarKind)) (first : List Setting) (c : Closed) (f g h : ℕ) (xs ys : List Mark) (q : Program) →
    q ≡ record { vars = vars; first = first; body = c.body; off = c.line } → StmtsUp l 0 gs_off [] xs c ys → Ended ys →
    Running l vars first (at f open_paren ∷ at g close_paren ∷ at h semicolon ∷ xs) q
running_up l vars first c f g h xs ys q e up end =
    let with_body = subst (λ (z : Codes). Running l vars first (at f open_paren ∷ at g close_paren ∷ at h semicolon ∷ xs) (record { vars = vars; first = first; body = z; off = c.line }))
    (sym up.all_is) (running up.says end up.fits) in
    subst (λ (z : Program). Running l vars first (at f open_paren ∷ at g close_paren ∷ at h semicolon ∷ xs) z) (sym e) with_body

keep_on : (l : Limits) (d : Declared) (first : List Setting) → Keeping l a_program (after_on d first) (λ ts q us. us ≡ [] → Running l d.vars first ts q)
keep_on l d first =
    word_ open_paren refl (λ f. word_ close_paren refl (λ g. word_ semicolon refl (λ h. part_ (λ c.
    wants (keep_off l (record { vars = d.vars; first = first; body = c.body; off = c.line })) (λ ts q us off xs up e.
    let o = off e in
    running_up l d.vars first c f g h xs ts q o.0 (up refl) o.1)))))

-- declarations and first assignments
headed_up : (l : Limits) (c d e : ℕ) (ds : Declared) (first : List Setting) (vs ws zs : List Mark) (q : Program) → DeclsUp l (record { vars = []; first = [] }) vs ds ws →
    StartsUp l ds.first ws first (at e gs_on ∷ zs) → Running l ds.vars first zs q → Headed l (at c close_paren ∷ at d open_brace ∷ vs) q
headed_up l c d e ds first vs ws zs q hd hs r =
    let first_is : first ≡ hd.first ++ hs.more = hs.all_is ∙ ap (λ z. z ++ hs.more) hd.first_is in
    let run = subst (λ (z : List Setting). Running l hd.vars z zs q) first_is (subst (λ (z : List (Name × VarKind)). Running l z first zs q) hd.vars_is r) in
    headed hd.says hs.says run (λ q. SettingsFit-append hd.first hs.more (hd.fits q) (hs.fits q))

keep_head : (l : Limits) → Keeping l a_program after_head (λ ts q us. us ≡ [] → Headed l ts q)
keep_head l =
    word_ close_paren refl (λ c. word_ open_brace refl (λ d. part_ (λ ds. part_ (λ first. word_ gs_on refl (λ e.
    wants (keep_on l ds first) (λ zs q us run ws hs vs hd last. headed_up l c d e ds first vs ws zs q hd hs (run last)))))))

whole_up : (l : Limits) (a b : ℕ) (ts us vs : List Mark) (q : Program) → IsType ts (at a main_ ∷ at b open_paren ∷ us) → IsVoid us vs → Headed l vs q → Whole l ts q
whole_up l a b ts us vs q t v (headed hd hs (running h (ended r) f) g) = record { says = the_program t v hd hs h r; fits = λ q. record { first = g q; body = f q } }

-- from `main` on
keep_main : (l : Limits) (a : ℕ) → Keeping l a_program after_main (λ us q end. end ≡ [] → (start : List Mark) → IsType start (at a main_ ∷ us) → Whole l start q)
keep_main l a =
    word_ open_paren refl (λ b.
    may_ void_ refl (λ c. wants (keep_head l) (λ vs q end h last start t. whole_up l a b start _ vs q t a_void (h last)))
    (wants (keep_head l) (λ vs q end h free last start t. whole_up l a b start vs vs q t no_void (h last))))

-- the type of `main`
a_type : (l : Limits) (x : Mark) (ts : List Mark) → Accepts l (is_either int_ void_ x) → IsType (x ∷ ts) ts
unfolding is_either
a_type l x ts a = by_sign l x.line x.sign ts a
  where
    by_sign : (l : Limits) (line : ℕ) (s : Sign) (ts : List Mark) → Accepts l (is_either int_ void_ (at line s)) → IsType (at line s ∷ ts) ts
    by_sign l line int_ ts a = int_type
    by_sign l line void_ ts a = void_type
    by_sign l line _ ts a = absurd (refused l a)

keep_program : (l : Limits) → Keeping l a_program (rule program) (Means l program)
keep_program l =
    choice_ (λ x acc. word_ main_ refl (λ a. wants (keep_main l a) (λ us q end h last. h last (x ∷ at a main_ ∷ us) (a_type l x (at a main_ ∷ us) acc))))
    (word_ main_ refl (λ a. wants (keep_main l a) (λ us q end h free last. h last (at a main_ ∷ us) no_type)))

-- ---- all parts

all_keep : (l : Limits) → AllKeep l
all_keep l (level m d g) = keep_level l m d g
all_keep l (tail m d g a) = keep_tail l m d g a
all_keep l (more_terms so_far) = keep_more_terms l so_far
all_keep l arg = keep_arg l
all_keep l (more_args so_far) = keep_more_args l so_far
all_keep l args = keep_args l
all_keep l condition = keep_condition l
all_keep l printing = keep_printing l
all_keep l (assigned n) = keep_assigned l n
all_keep l for_first = keep_first l
all_keep l for_test = keep_test l
all_keep l for_step = keep_step l
all_keep l (rest_of d x) = keep_rest l d x
all_keep l (body d) = keep_body l d
all_keep l (stmts d c so_far) = keep_stmts l d c so_far
all_keep l (names k d) = keep_names l k d
all_keep l (decls d) = keep_decls l d
all_keep l (starts so_far) = keep_starts l so_far
all_keep l program = keep_program l

-- what the reader's grammar says is a program of the productions, within the limits where there are any
pub whole_program : (l : Limits) (ts : List Mark) (p : Program) → SaysProgram l ts p → Whole l ts p
whole_program l ts p says = kept l (all_keep l) a_program (rule program) ts p [] (Means l program) (keep_program l).on says refl
