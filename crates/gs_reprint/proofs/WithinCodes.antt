-- Statements are within the limits, and spelled as their signs are.
use Rattle.std.proofs.Common.{◌≡◌, ◌<◌, ℕ, List, [], ◌∷◌, ◌++◌, Bool, true, false, nat_lt, refl, sym, subst, arith, if◌then◌else◌}
use Rattle.std.specs.Prelude.{◌==◌}
use Rattle.gs_tree.specs.Program.{Name, Code}
use Rattle.gs_tree.specs.Sign.{Sign, Mark, if_, while_, for_, gs_barrier, gs_fclose, printf_, fprintf_, sprintf_, ident, open_brace}
use Rattle.gs_tree.specs.View.{codes}
use Rattle.gs_parse.specs.Symbols.{place, text_of, name_at}
use Rattle.gs_parse.specs.Notation.{a_code, a_body, closed, fit, rest_of, body, stmts}
use Rattle.gs_parse.specs.Grammar.{rule, judged, begins_statement, body_fit, begins_body, open_rule, line_rule, call_rule, set_rule, named_rule, statement, body_after, closes_or_begins, stmts_after}
use Rattle.gs_parse.specs.Reading.{limited, Accepts}
use Rattle.gs_spelling.specs.Spelled.{IsName, SignSpelled}
use Rattle.gs_reprint.proofs.Within.{GoodCode, GoodCodes, Keeps, below, name_taken}

-- an assignment of an opened file is good
keep_open : (d : ℕ) (n : Name) → d < 64 → IsName n.text → Keeps a_code (open_rule n) (GoodCode d)
keep_open d n lt h = λ x _ _. (omega arith, λ e i. λ y _ _. λ m _ _. λ z _ _. λ u _ _. ((h, i.0), (lt, i.1)))

-- a reading of a line is good
keep_line : (d : ℕ) (n : Name) → d < 64 → IsName n.text → Keeps a_code (line_rule n) (GoodCode d)
keep_line d n lt h = λ x _ _. λ y s a. λ z _ _. λ u t b. λ v _ _. λ w _ _. ((h, name_taken y s a, name_taken u t b), lt)

-- a call of a task is good
keep_call : (d : ℕ) (n : Name) → d < 64 → IsName n.text → Keeps a_code (call_rule n) (GoodCode d)
keep_call d n lt h = (λ x _ _. λ y _ _. ((h, tt), (lt, tt)), (tt, λ all i. λ y _ _. ((h, i.0), (lt, i.1))))

-- what follows a name and `=` gives a good statement
keep_set : (d : ℕ) (n : Name) → d < 64 → IsName n.text → Keeps a_code (set_rule n) (GoodCode d)
keep_set d n lt h = (λ x _ _. keep_open d n lt h, (λ x _ _. keep_line d n lt h, (omega arith, λ e i. λ y _ _. ((h, i.0), (lt, i.1)))))

-- a statement that begins with a name is good
keep_named : (d : ℕ) (n : Name) → d < 64 → IsName n.text → Keeps a_code (named_rule n) (GoodCode d)
keep_named d n lt h = (λ x _ _. keep_call d n lt h, (λ x _ _. keep_set d n lt h, (h, λ a i. λ y _ _. (i.0, (lt, i.1)))))

-- a statement, after its first sign, is good where one has room
keep_statement : (d : ℕ) (x : Mark) (s : Sign) → d < 64 → text_of x.sign ≡ text_of s → SignSpelled s → Keeps a_code (statement d x s) (GoodCode d)
keep_statement d x (ident w) lt e s = keep_named d (name_at x) lt (subst IsName (sym e) s)
keep_statement d x open_brace lt e s = ((tt, tt), λ c h. (h.0, (lt, h.1)))
keep_statement d x if_ lt e s = (tt, λ v h. (tt, λ b i. (λ y _ _. (tt, λ c j. ((h.0, i.0, j.0), (lt, h.1, i.1, j.1))), ((h.0, i.0, tt), (lt, h.1, i.1, tt)))))
keep_statement d x while_ lt e s = (tt, λ v h. (tt, λ b i. ((h.0, i.0), (lt, h.1, i.1))))
keep_statement d x for_ lt e s = λ y _ _. (tt, λ f h. (tt, λ t i. (tt, λ u j. (tt, λ b k. ((h.0, i.0, j.0, k.0), (lt, h.1, i.1, j.1, k.1))))))
keep_statement d x gs_fclose lt e s = λ y _ _. λ z t a. λ u _ _. λ v _ _. (name_taken z t a, lt)
keep_statement d x gs_barrier lt e s = λ y _ _. λ z _ _. λ u _ _. (tt, lt)
keep_statement d x printf_ lt e s = λ y _ _. (tt, λ p h. ((h.0, h.1.0), (lt, h.1.1)))
keep_statement d x fprintf_ lt e s = λ y _ _. λ z t a. λ u _ _. (tt, λ p h. ((name_taken z t a, (h.0, h.1.0)), (lt, h.1.1)))
keep_statement d x sprintf_ lt e s = λ y _ _. λ z t a. λ u _ _. (tt, λ p h. ((name_taken z t a, (h.0, h.1.0)), (lt, h.1.1)))
keep_statement d x _ lt e s = (tt, lt)

-- the same, by the sign that is there
pub keep_rest : (d : ℕ) (x : Mark) → SignSpelled x.sign → d < 64 → Keeps a_code (rule (rest_of d x)) (GoodCode d)
keep_rest d x s lt = keep_statement d x x.sign lt refl s

-- the statements of a body in braces are good, and so is the one statement that is a body
keep_body_after : (d : ℕ) (x : Mark) (s : Sign) → SignSpelled x.sign → Accepts limited (body_fit d x s) → Keeps a_body (body_after d x s) (GoodCodes d)
keep_body_after d x open_brace s a = ((tt, tt), λ c h. h)
keep_body_after d x _ s a = ((s, below (begins_statement x.sign) d a), λ c h. ((h.0, tt), (h.1, tt)))

-- a body is good
pub keep_body : (d : ℕ) → Keeps a_body (rule (body d)) (GoodCodes d)
unfolding begins_body
keep_body d = λ x s a. keep_body_after d x x.sign s a

-- one more good statement
codes_more : (d : ℕ) (cs : List Code) (c : Code) → GoodCodes d (codes cs) → GoodCode d c → GoodCodes d (codes (cs ++ c ∷ []))
codes_more d [] c hs h = ((h.0, tt), (h.1, tt))
codes_more d (b ∷ cs) c hs h = let i = codes_more d cs c (hs.0.1, hs.1.1) h in ((hs.0.0, i.0), (hs.1.0, i.1))

-- the closing sign, or further statements, after good ones
keep_stmts_after : (d : ℕ) (c : Sign) (so_far : List Code) (x : Mark) (b : Bool) → GoodCodes d (codes so_far) → SignSpelled x.sign →
    Accepts limited (if b then fit else judged (begins_statement x.sign) (nat_lt d 64)) → Keeps closed (stmts_after d c so_far x b) (λ s. GoodCodes d s.body)
keep_stmts_after d c so_far x true hs s a = hs
keep_stmts_after d c so_far x false hs s a = ((s, below (begins_statement x.sign) d a), λ v h. (codes_more d so_far v hs h, λ all i. i))

-- statements up to a closing sign are good after good ones
pub keep_stmts : (d : ℕ) (c : Sign) (so_far : List Code) → GoodCodes d (codes so_far) → Keeps closed (rule (stmts d c so_far)) (λ s. GoodCodes d s.body)
unfolding closes_or_begins
keep_stmts d c so_far hs = λ x s a. keep_stmts_after d c so_far x (place x.sign == place c) hs s a
