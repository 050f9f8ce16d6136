-- What the productions of a whole program say, the reader's grammar says.
use Rattle.std.proofs.Common.{◌≡◌, ℕ, refl, sym, ap, ◌∙◌, subst, List, [], ◌∷◌, ◌++◌, append-nil, append_assoc}
use Rattle.std.specs.Prelude.{pos, None}
use Rattle.gs_tree.specs.Program.{Name, Setting, Program}
use Rattle.gs_tree.specs.Sign.{Sign, Mark, main_, void_, gs_off, ident, number, open_paren, close_paren, close_brace, comma, semicolon, equal}
use Rattle.gs_tree.specs.declared.tree.VarKind.{VarKind}
use Rattle.gs_tree.specs.declared.tree.VarKind.TheVariants.{Int, Str, Handle}
use Rattle.gs_parse.specs.Fits.{SettingsFit, ProgramFits}
use Rattle.gs_parse.specs.Notation.{Declared, settings, declared, a_program, level, stmts, names, decls, starts, program, unfit}
use Rattle.gs_parse.specs.Grammar.{rule, is, is_either, is_zero, begins_declaration, declare, next_var, var_rule, after_off, after_head, after_main}
use Rattle.gs_parse.specs.Reading.{Limits, limited, next_fit, Says, SaysProgram, taken, chosen}
use Rattle.gs_grammar.specs.Signs.{at, called}
use Rattle.gs_grammar.specs.Statements.{assigned_to}
use Rattle.gs_grammar.specs.Programs.{IsValue, no_value, a_value, IsVar, int_var, string_var, handle_var, IsVars, last_var, more_vars, type_sign, IsDecls, no_decl, a_decl, IsStarts, no_start, a_start, IsType, no_type, int_type, void_type, IsVoid, no_void, a_void, IsReturn, no_return, a_return, IsProgram, the_program}
use Rattle.gs_grammar.proofs.Saying.{accepts_is, say_word, say_choice, say_other, say_name, say_part, say_given}
use Rattle.gs_grammar.proofs.TermsSaid.{next_binding, expr_said}
use Rattle.gs_grammar.proofs.CodesSaid.{run_said}

-- ---- declarations

-- with more variables and assignments
abbrev grown : Declared → List (Name × VarKind) → List Setting → Declared
grown d vs ss = record { vars = d.vars ++ vs; first = d.first ++ ss }

grown-nil : (d : Declared) → grown d [] [] ≡ d
grown-nil d =
    let kept : Declared → List (Name × VarKind) → Declared = λ e vs. record { vars = vs; first = e.first ++ [] } in
    ap (kept d) (append-nil d.vars) ∙ ap (λ (ss : List Setting). record d { first = ss }) (append-nil d.first)

grown-grown : (d : Declared) (vs ws : List (Name × VarKind)) (ss us : List Setting) → grown (grown d vs ss) ws us ≡ grown d (vs ++ ws) (ss ++ us)
grown-grown d vs ws ss us =
    let with_vars : List (Name × VarKind) → Declared = λ z. record { vars = z; first = (d.first ++ ss) ++ us } in
    let with_first : List Setting → Declared = λ z. record { vars = d.vars ++ (vs ++ ws); first = z } in
    ap with_vars (append_assoc d.vars vs ws) ∙ ap with_first (append_assoc d.first ss us)

SettingsFit-left : (ss us : List Setting) → SettingsFit (ss ++ us) → SettingsFit ss
SettingsFit-left [] us h = tt
SettingsFit-left (s ∷ ss) us h = (h.0, SettingsFit-left ss us h.1)

SettingsFit-right : (ss us : List Setting) → SettingsFit (ss ++ us) → SettingsFit us
SettingsFit-right [] us h = h
SettingsFit-right (s ∷ ss) us h = SettingsFit-right ss us h.1

-- what may stand after a variable
record AfterVar (ts : List Mark) : Type 0 where
  loose : next_binding ts ≡ 0
  no_value_ : next_fit (is equal) ts ≡ unfit

no_value_said : (l : Limits) (k : VarKind) (d : Declared) (n : Name) (e : Declared) (us rest : List Mark) → Says l declared (next_var k (grown d ((n, k) ∷ []) [])) us e rest →
    Says l declared (next_var k (declare n k None d)) us e rest
no_value_said l k d n e us rest h = subst (λ (z : List Setting). Says l declared (next_var k (record { vars = d.vars ++ (n, k) ∷ []; first = z })) us e rest) (append-nil d.first) h

value_said : {l : Limits} {n : Name} {ts us : List Mark} {first : List Setting} → IsValue l n ts first us → (k : VarKind) (d e : Declared) (rest : List Mark) → AfterVar us →
    (l ≡ limited → SettingsFit first) → Says l declared (next_var k (grown d ((n, k) ∷ []) first)) us e rest → Says l declared (var_rule k d) (called n ∷ ts) e rest
value_said {l} {n} (no_value {rest = us}) k d e rest a f h =
    say_name (say_other a.no_value_ (no_value_said l k d n e us rest h))
value_said {l} {n} (a_value {a = line} {ts} {rest = us} {e = term} g) k d e rest a f h =
    say_name (say_choice (say_part {n = level 6 0 0} (expr_said g a.loose 0 (λ q. (f q).0)) h))

var_said : {l : Limits} {k : VarKind} {n : Name} {ts us : List Mark} {first : List Setting} → IsVar l k ts n first us → (d e : Declared) (rest : List Mark) → AfterVar us →
    (l ≡ limited → SettingsFit first) → Says l declared (next_var k (grown d ((n, k) ∷ []) first)) us e rest → Says l declared (rule (names k d)) ts e rest
var_said (int_var g) d e rest a f h = value_said g Int d e rest a f h
var_said (string_var g) d e rest a f h = say_word (value_said g Str d e rest a f h)
var_said {l} (handle_var {n} {rest = us}) d e rest a f h = say_word (say_name (no_value_said l Handle d n e us rest h))

-- a comma or a semicolon
after_sign : (s : Sign) (line : ℕ) (ts : List Mark) → next_binding (at line s ∷ ts) ≡ 0 → next_fit (is equal) (at line s ∷ ts) ≡ unfit → AfterVar (at line s ∷ ts)
after_sign s line ts e f = record { loose = e; no_value_ = f }

vars_onward : {l : Limits} {k : VarKind} {ts us : List Mark} {vars : List (Name × VarKind)} {first : List Setting} → IsVars l k ts vars first us →
    (d e : Declared) (rest : List Mark) → AfterVar us → (l ≡ limited → SettingsFit first) → Says l declared (next_var k (grown d vars first)) us e rest →
    Says l declared (rule (names k d)) ts e rest
unfolding is is_either
vars_onward (last_var g) d e rest a f h = var_said g d e rest a f h
vars_onward {l} {k} (more_vars {a} {n} {ts} {us} {rest = vs} {first} {others} {vars} g m) d e rest after f h =
    let so_far = grown d ((n, k) ∷ []) first in
    let more = subst (λ (z : Declared). Says l declared (next_var k z) vs e rest) (sym (grown-grown d ((n, k) ∷ []) vars first others)) h in
    var_said g d e rest (after_sign comma a us refl refl) (λ q. SettingsFit-left first others (f q))
    (taken l declared _ _ (at a comma) us e rest tt
    (say_part {n = names k so_far} (vars_onward m so_far e rest after (λ q. SettingsFit-right first others (f q)) more) say_given))

decl_said : (l : Limits) (k : VarKind) (a : ℕ) (d e : Declared) (ts rest : List Mark) → Says l declared (rule (names k d)) ts e rest →
    Says l declared (rule (decls d)) (at a (type_sign k) ∷ ts) e rest
unfolding begins_declaration
decl_said l Int a d e ts rest h = chosen l declared _ _ _ _ ts e rest tt (say_part {n = names Int d} h say_given)
decl_said l Str a d e ts rest h = chosen l declared _ _ _ _ ts e rest tt (say_part {n = names Str d} h say_given)
decl_said l Handle a d e ts rest h = chosen l declared _ _ _ _ ts e rest tt (say_part {n = names Handle d} h say_given)

decls_said : {l : Limits} {ts us : List Mark} {vars : List (Name × VarKind)} {first : List Setting} → IsDecls l ts vars first us → next_fit begins_declaration us ≡ unfit →
    (l ≡ limited → SettingsFit first) → (d : Declared) → Says l declared (rule (decls d)) ts (grown d vars first) us
unfolding is is_either
decls_said {l} (no_decl {rest = us}) free f d = subst (λ (z : Declared). Says l declared (rule (decls d)) us z us) (sym (grown-nil d)) (say_other free say_given)
decls_said {l} (a_decl {a} {b} {k} {ts} {us} {rest} {vars} {more} {first} {others} g m) free f d =
    let so_far = grown d vars first in
    let all = grown so_far more others in
    let rest_said = decls_said m free (λ q. SettingsFit-right first others (f q)) so_far in
    let next : Says l declared (next_var k so_far) (at b semicolon ∷ us) all rest = taken l declared _ _ (at b semicolon) us all rest tt (say_part {n = decls so_far} rest_said say_given) in
    let these = vars_onward g d all rest (after_sign semicolon b us refl refl) (λ q. SettingsFit-left first others (f q)) next in
    subst (λ (z : Declared). Says l declared (rule (decls d)) (at a (type_sign k) ∷ ts) z rest) (grown-grown d vars more first others) (decl_said l k a d all ts rest these)

-- ---- the first assignments

starts_said : {l : Limits} {ts us : List Mark} {ss : List Setting} → IsStarts l ts ss us → next_fit (is (ident [])) us ≡ unfit → (l ≡ limited → SettingsFit ss) →
    (so_far : List Setting) → Says l settings (rule (starts so_far)) ts (so_far ++ ss) us
starts_said {l} (no_start {rest = us}) free f so_far =
    subst (λ (z : List Setting). Says l settings (rule (starts so_far)) us z us) (sym (append-nil so_far)) (say_other free say_given)
starts_said {l} (a_start {a} {b} {n} {ts} {us} {rest} {e} {first} g m) free f so_far =
    subst (λ (z : List Setting). Says l settings (rule (starts so_far)) (called n ∷ at a equal ∷ ts) z rest) (append_assoc so_far (assigned_to n e ∷ []) first)
    (chosen l settings _ _ _ (called n) _ _ _ (accepts_is l (ident []) (ident n.text) n.line refl)
    (say_word (say_part {n = level 6 0 0} (expr_said g refl 0 (λ q. (f q).0)) (say_word
    (say_part {n = starts (so_far ++ assigned_to n e ∷ [])} (starts_said m free (λ q. (f q).1) (so_far ++ assigned_to n e ∷ [])) say_given)))))

-- no declaration begins the first assignments, or what follows them
starts_free : {l : Limits} {ts us : List Mark} {ss : List Setting} → IsStarts l ts ss us → next_fit begins_declaration us ≡ unfit → next_fit begins_declaration ts ≡ unfit
unfolding begins_declaration
starts_free no_start e = e
starts_free (a_start g m) e = refl

-- ---- the whole program

end_said : {l : Limits} {o : ℕ} {ys : List Mark} → IsReturn ys (at o close_brace ∷ []) → (j k m n : ℕ) (p : Program) →
    Says l a_program (after_off p) (at j open_paren ∷ at k (number (pos 0)) ∷ at m close_paren ∷ at n semicolon ∷ ys) p []
unfolding is is_zero
end_said {l} (no_return {rest}) j k m n p = say_word (taken l a_program _ _ (at k (number (pos 0))) _ p [] tt (say_word (say_word (say_other refl (say_word say_given)))))
end_said {l} (a_return {a} {b} {c} {rest}) j k m n p =
    say_word (taken l a_program _ _ (at k (number (pos 0))) _ p [] tt (say_word (say_word (say_choice
    (taken l a_program _ _ (at b (number (pos 0))) _ p [] tt (say_word (say_word say_given)))))))

main_said : {l : Limits} {us vs rest : List Mark} {b : ℕ} {p : Program} → IsVoid us vs → next_fit (is void_) vs ≡ unfit → Says l a_program after_head vs p rest →
    Says l a_program after_main (at b open_paren ∷ us) p rest
main_said no_void free h = say_word (say_other free h)
main_said a_void free h = say_word (say_choice h)

typed_said : {l : Limits} {ts us rest : List Mark} {a : ℕ} {p : Program} → IsType ts (at a main_ ∷ us) → Says l a_program after_main us p rest →
    Says l a_program (rule program) ts p rest
unfolding is_either
typed_said no_type h = say_other refl (say_word h)
typed_said {l} int_type h = chosen l a_program _ _ _ _ _ _ _ tt (say_word h)
typed_said {l} void_type h = chosen l a_program _ _ _ _ _ _ _ tt (say_word h)

pub program_said : {l : Limits} {ts : List Mark} {p : Program} → IsProgram l ts p → (l ≡ limited → ProgramFits p) → SaysProgram l ts p
unfolding is begins_declaration
program_said {l} (the_program {a} {b} {c} {d} {e} {f} {g} {h} {i} {j} {k} {m} {n} {o} {ts} {us} {vs} {ws} {xs} {ys} {vars} {first} {others} {body = cs} t v ds ss run r) fits =
    let none_yet : Declared = record { vars = []; first = [] } in
    let decls_ = decls_said ds (starts_free ss refl) (λ q. SettingsFit-left first others (fits q).first) none_yet in
    let starts_ = starts_said ss refl (λ q. SettingsFit-right first others (fits q).first) first in
    typed_said t (main_said v refl (say_word (say_word (say_part {n = decls none_yet} decls_ (say_part {n = starts first} starts_
    (say_word (say_word (say_word (say_word (say_part {n = stmts 0 gs_off []} (run_said run (λ q. (fits q).body)) (end_said r j k m n _)))))))))))
