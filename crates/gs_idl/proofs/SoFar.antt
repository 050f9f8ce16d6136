-- The signs that lead to a state, and what is a text.
use Rattle.std.proofs.Common.{◌≡◌, ℕ, ◌≤◌, Bool, true, false, List, [], ◌∷◌, ◌++◌, length, refl, sym, ap, subst, ◌∙◌, arith, append_assoc, length-append}
use Rattle.std.proofs.lemmas.List.{append-nil}
use Rattle.std.specs.List.{All}
use Rattle.std.proofs.lemmas.List.Elements.{All-nil, All-cons, All-append}
use lib.Chars.{codes}
use Rattle.gs_idl.specs.Interface.{Param, Signature}
use Rattle.gs_idl.specs.Lexicon.{IdlSign, word, symbol, finish}
use Rattle.gs_idl.specs.Grammar.{dir_word, kind_word, param_signs, params_signs, op_signs, ops_signs, IsText, plain, ended}
use Rattle.gs_idl.specs.Machine.{State, start, at_title, at_brace, at_ops, at_name, at_paren, at_dir, at_kind, at_param, at_sep, at_semi, closed, whole, param_by, op_by}
use Rattle.gs_idl.specs.Machine as m
use Rattle.gs_idl.specs.declared.token.Symbol.TheVariants.{OpenBrace, CloseBrace, OpenParen, CloseParen, Comma, Semicolon}
use Rattle.gs_idl.proofs.Transitions.{Next, to_title, to_brace, to_ops, to_name, to_closed, to_paren, to_dir, to_kind, to_param, to_sep, to_more, to_semi, to_next, to_ended, to_whole, to_end, Path, here, goes}

abbrev pub base : List ℕ → List Signature → List IdlSign
base x os = word (codes "interface") ∷ word x ∷ symbol OpenBrace ∷ ops_signs os

-- what stands before a parameter behind these
abbrev pub lead_by : IdlSign → List Param → IdlSign
lead_by lead [] = lead
lead_by lead (p ∷ ps) = symbol Comma

abbrev pub begun : List ℕ → List Param → List IdlSign
begun f ps = word (codes "void") ∷ word f ∷ params_signs (symbol OpenParen) ps

abbrev pub lead : List Param → IdlSign
lead ps = lead_by (symbol OpenParen) ps

unfoldable pub so_far : State → List IdlSign
so_far start = []
so_far at_title = word (codes "interface") ∷ []
so_far (at_brace x) = word (codes "interface") ∷ word x ∷ []
so_far (at_ops x os) = base x os
so_far (at_name x os) = base x os ++ word (codes "void") ∷ []
so_far (at_paren x os f) = base x os ++ word (codes "void") ∷ word f ∷ []
so_far (at_dir x os f ps) = base x os ++ (begun f ps ++ lead ps ∷ [])
so_far (at_kind x os f ps d) = base x os ++ (begun f ps ++ lead ps ∷ word (dir_word d) ∷ [])
so_far (at_param x os f ps d k) = base x os ++ (begun f ps ++ lead ps ∷ word (dir_word d) ∷ word (kind_word k) ∷ [])
so_far (at_sep x os f ps) = base x os ++ begun f ps
so_far (at_semi x os f ps) = base x os ++ (begun f ps ++ symbol CloseParen ∷ [])
so_far (closed x os) = base x os ++ symbol CloseBrace ∷ []
so_far (m.ended x os) = base x os ++ symbol CloseBrace ∷ symbol Semicolon ∷ []
so_far (whole false x os) = base x os ++ symbol CloseBrace ∷ finish ∷ []
so_far (whole true x os) = base x os ++ symbol CloseBrace ∷ symbol Semicolon ∷ finish ∷ []

abbrev pub Filled : List Signature → Type 0
Filled os = All (λ o. 1 ≤ length o.params) os

-- there is something of all that there has to be
abbrev pub Shaped : State → Type 0
Shaped start = Unit {0}
Shaped at_title = Unit {0}
Shaped (at_brace x) = Unit {0}
Shaped (at_ops x os) = Filled os
Shaped (at_name x os) = Filled os
Shaped (at_paren x os f) = Filled os
Shaped (at_dir x os f ps) = Filled os
Shaped (at_kind x os f ps d) = Filled os
Shaped (at_param x os f ps d k) = Filled os
Shaped (at_sep x os f ps) = Filled os × (1 ≤ length ps)
Shaped (at_semi x os f ps) = Filled os × (1 ≤ length ps)
Shaped (closed x os) = Filled os × (1 ≤ length os)
Shaped (m.ended x os) = Filled os × (1 ≤ length os)
Shaped (whole b x os) = Filled os × (1 ≤ length os)

comma_snoc : (ps : List Param) (p : Param) → params_signs (symbol Comma) (ps ++ p ∷ []) ≡ params_signs (symbol Comma) ps ++ symbol Comma ∷ param_signs p
comma_snoc [] p = refl
comma_snoc (q ∷ ps) p = ap (λ (gs : List IdlSign). symbol Comma ∷ (param_signs q ++ gs)) (comma_snoc ps p)

pub params_snoc : (s : IdlSign) (ps : List Param) (p : Param) → params_signs s (ps ++ p ∷ []) ≡ params_signs s ps ++ lead_by s ps ∷ param_signs p
params_snoc s [] p = refl
params_snoc s (q ∷ ps) p = ap (λ (gs : List IdlSign). s ∷ (param_signs q ++ gs)) (comma_snoc ps p)

pub ops_snoc : (os : List Signature) (o : Signature) → ops_signs (os ++ o ∷ []) ≡ ops_signs os ++ op_signs o
ops_snoc [] o = append-nil (op_signs o)
ops_snoc (q ∷ os) o = ap (λ (gs : List IdlSign). op_signs q ++ gs) (ops_snoc os o) ∙ sym (append_assoc (op_signs q) (ops_signs os) (op_signs o))

comma_lead : (ps : List Param) → 1 ≤ length ps → lead ps ≡ symbol Comma
comma_lead [] h = absurd (omega arith)
comma_lead (p ∷ ps) h = refl

snoc_some : (ps : List Param) (p : Param) → 1 ≤ length (ps ++ p ∷ [])
snoc_some ps p = omega (arith, length-append ps (p ∷ []))

pub shaped_next : (s : State) (g : IdlSign) (t : State) → Next s g t → Shaped s → Shaped t
shaped_next s g t to_title h = tt
shaped_next s g t (to_brace x) h = tt
shaped_next s g t (to_ops x) h = All-nil (λ o. 1 ≤ length o.params)
shaped_next s g t (to_name x os) h = h
shaped_next s g t (to_closed x o os) h = (h, omega arith)
shaped_next s g t (to_paren x os f) h = h
shaped_next s g t (to_dir x os f) h = h
shaped_next s g t (to_kind x os f ps d) h = h
shaped_next s g t (to_param x os f ps d k) h = h
shaped_next s g t (to_sep x os f ps d k w) h = (h, snoc_some ps (param_by d k w))
shaped_next s g t (to_more x os f ps) h = h.0
shaped_next s g t (to_semi x os f ps) h = h
shaped_next s g t (to_next x os f ps) h = All-append (λ o. 1 ≤ length o.params) os (op_by f ps ∷ []) h.0 (All-cons (λ o. 1 ≤ length o.params) (op_by f ps) [] h.1 (All-nil (λ o. 1 ≤ length o.params)))
shaped_next s g t (to_ended x os) h = h
shaped_next s g t (to_whole x os) h = h
shaped_next s g t (to_end x os) h = h

so_far_next : (s : State) (g : IdlSign) (t : State) → Next s g t → Shaped s → so_far t ≡ so_far s ++ g ∷ []
unfolding so_far
so_far_next s g t to_title h = refl
so_far_next s g t (to_brace x) h = refl
so_far_next s g t (to_ops x) h = refl
so_far_next s g t (to_name x os) h = refl
so_far_next s g t (to_closed x o os) h = refl
so_far_next s g t (to_paren x os f) h = sym (append_assoc (base x os) (word (codes "void") ∷ []) (word f ∷ []))
so_far_next s g t (to_dir x os f) h = sym (append_assoc (base x os) (word (codes "void") ∷ word f ∷ []) (symbol OpenParen ∷ []))
so_far_next s g t (to_kind x os f ps d) h = simp append_assoc
so_far_next s g t (to_param x os f ps d k) h = simp append_assoc
so_far_next s g t (to_sep x os f ps d k w) h = ap (λ (gs : List IdlSign). base x os ++ word (codes "void") ∷ word f ∷ gs) (params_snoc (symbol OpenParen) ps (param_by d k w)) ∙ simp append_assoc
so_far_next s g t (to_more x os f ps) h = ap (λ (l : IdlSign). base x os ++ (begun f ps ++ l ∷ [])) (comma_lead ps h.1) ∙ simp append_assoc
so_far_next s g t (to_semi x os f ps) h = simp append_assoc
so_far_next s g t (to_next x os f ps) h = ap (λ (gs : List IdlSign). word (codes "interface") ∷ word x ∷ symbol OpenBrace ∷ gs) (ops_snoc os (op_by f ps)) ∙ simp append_assoc
so_far_next s g t (to_ended x os) h = simp append_assoc
so_far_next s g t (to_whole x os) h = simp append_assoc
so_far_next s g t (to_end x os) h = simp append_assoc

pub shaped_path : (s t : State) (gs : List IdlSign) → Path s gs t → Shaped s → Shaped t
shaped_path s t gs (here s') h = h
shaped_path s t gs (goes s' r t' g ks n p) h = shaped_path r t' ks p (shaped_next s' g r n h)

pub so_far_path : (s t : State) (gs : List IdlSign) → Path s gs t → Shaped s → so_far t ≡ so_far s ++ gs
so_far_path s t gs (here s') h = sym (append-nil (so_far s'))
so_far_path s t gs (goes s' r t' g ks n p) h =
    so_far_path r t' ks p (shaped_next s' g r n h) ∙ ap (λ (hs : List IdlSign). hs ++ ks) (so_far_next s' g r n h) ∙ append_assoc (so_far s') (g ∷ []) ks

pub from_start : (t : State) (gs : List IdlSign) → Path start gs t → so_far t ≡ gs
unfolding so_far
from_start t gs p = so_far_path start t gs p tt

whole_text : (b : Bool) (x : List ℕ) (os : List Signature) → Filled os → 1 ≤ length os → IsText (so_far (whole b x os)) (record { name = x; ops = os })
unfolding so_far
whole_text false x os h le = plain _ (record { name = x; ops = os }) (record { ops = le; params = h }) (simp append_assoc)
whole_text true x os h le = ended _ (record { name = x; ops = os }) (record { ops = le; params = h }) (simp append_assoc)

-- what is read to the end is a text
pub path_text : (gs : List IdlSign) (b : Bool) (x : List ℕ) (os : List Signature) → Path start gs (whole b x os) → IsText gs (record { name = x; ops = os })
path_text gs b x os p =
    let shape = shaped_path start (whole b x os) gs p tt in
    subst (λ (hs : List IdlSign). IsText hs (record { name = x; ops = os })) (from_start (whole b x os) gs p) (whole_text b x os shape.0 shape.1)
