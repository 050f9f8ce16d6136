-- Each text is read to its end.
use Rattle.std.proofs.Common.{ℕ, ◌≤◌, Bool, true, false, List, [], ◌∷◌, ◌++◌, length, sym, subst, arith, append_assoc}
use Rattle.std.proofs.lemmas.List.{append-nil}
use Rattle.std.proofs.lemmas.List.Elements.{All-head, All-tail}
use Rattle.gs_idl.specs.Interface.{Param, Signature, Interface}
use Rattle.gs_idl.specs.Lexicon.{IdlSign, symbol, finish}
use Rattle.gs_idl.specs.Grammar.{dir_word, kind_word, param_signs, params_signs, op_signs, ops_signs, interface_signs, IsFilled, IsText, plain}
use Rattle.gs_idl.specs.Grammar as g
use Rattle.gs_idl.specs.Machine.{State, start, at_ops, at_paren, at_dir, at_sep, closed, whole}
use Rattle.gs_idl.specs.declared.token.Symbol.TheVariants.{CloseBrace, OpenParen, CloseParen, Comma, Semicolon}
use Rattle.gs_idl.proofs.Transitions.{Next, to_title, to_brace, to_ops, to_name, to_closed, to_paren, to_dir, to_kind, to_param, to_sep, to_more, to_semi, to_next, to_ended, to_whole, to_end, Path, here, goes, joined}
use Rattle.gs_idl.proofs.SoFar.{Filled}

one : (s t : State) (g : IdlSign) → Next s g t → Path s (g ∷ []) t
one s t g n = goes s t t g [] n (here t)

param_path : (x : List ℕ) (os : List Signature) (f : List ℕ) (ps : List Param) (p : Param) → Path (at_dir x os f ps) (param_signs p) (at_sep x os f (ps ++ p ∷ []))
param_path x os f ps p =
    goes _ _ _ _ _ (to_kind x os f ps p.dir) (goes _ _ _ _ _ (to_param x os f ps p.dir p.kind) (one _ _ _ (to_sep x os f ps p.dir p.kind p.name)))

-- the parameters behind a comma
more_path : (x : List ℕ) (os : List Signature) (f : List ℕ) (ps qs : List Param) → Path (at_sep x os f ps) (params_signs (symbol Comma) qs) (at_sep x os f (ps ++ qs))
more_path x os f ps [] = subst (λ (rs : List Param). Path (at_sep x os f ps) [] (at_sep x os f rs)) (sym (append-nil ps)) (here (at_sep x os f ps))
more_path x os f ps (q ∷ qs) =
    goes _ _ _ _ _ (to_more x os f ps)
    (subst (λ (rs : List Param). Path (at_dir x os f ps) (param_signs q ++ params_signs (symbol Comma) qs) (at_sep x os f rs)) (append_assoc ps (q ∷ []) qs)
    (joined _ _ _ (param_signs q) (params_signs (symbol Comma) qs) (param_path x os f ps q) (more_path x os f (ps ++ q ∷ []) qs)))

params_path : (x : List ℕ) (os : List Signature) (f : List ℕ) (ps : List Param) → 1 ≤ length ps → Path (at_paren x os f) (params_signs (symbol OpenParen) ps) (at_sep x os f ps)
params_path x os f [] h = absurd (omega arith)
params_path x os f (p ∷ ps) h =
    goes _ _ _ _ _ (to_dir x os f) (joined _ _ _ (param_signs p) (params_signs (symbol Comma) ps) (param_path x os f [] p) (more_path x os f (p ∷ []) ps))

op_path : (x : List ℕ) (os : List Signature) (o : Signature) → 1 ≤ length o.params → Path (at_ops x os) (op_signs o) (at_ops x (os ++ o ∷ []))
op_path x os o h =
    goes _ _ _ _ _ (to_name x os) (goes _ _ _ _ _ (to_paren x os o.name)
    (joined _ _ _ (params_signs (symbol OpenParen) o.params) (symbol CloseParen ∷ symbol Semicolon ∷ []) (params_path x os o.name o.params h)
    (goes _ _ _ _ _ (to_semi x os o.name o.params) (one _ _ _ (to_next x os o.name o.params)))))

ops_path : (x : List ℕ) (os rs : List Signature) → Filled rs → Path (at_ops x os) (ops_signs rs) (at_ops x (os ++ rs))
ops_path x os [] h = subst (λ (qs : List Signature). Path (at_ops x os) [] (at_ops x qs)) (sym (append-nil os)) (here (at_ops x os))
ops_path x os (r ∷ rs) h =
    subst (λ (qs : List Signature). Path (at_ops x os) (op_signs r ++ ops_signs rs) (at_ops x qs)) (append_assoc os (r ∷ []) rs)
    (joined _ _ _ (op_signs r) (ops_signs rs) (op_path x os r (All-head (λ o. 1 ≤ length o.params) r rs h)) (ops_path x (os ++ r ∷ []) rs (All-tail (λ o. 1 ≤ length o.params) r rs h)))

close_path : (x : List ℕ) (os : List Signature) → 1 ≤ length os → Path (at_ops x os) (symbol CloseBrace ∷ []) (closed x os)
close_path x [] h = absurd (omega arith)
close_path x (o ∷ os) h = one _ _ _ (to_closed x o os)

interface_path : (i : Interface) → IsFilled i → Path start (interface_signs i) (closed i.name i.ops)
interface_path i h =
    goes _ _ _ _ _ to_title (goes _ _ _ _ _ (to_brace i.name) (goes _ _ _ _ _ (to_ops i.name)
    (joined _ _ _ (ops_signs i.ops) (symbol CloseBrace ∷ []) (ops_path i.name [] i.ops h.params) (close_path i.name i.ops h.ops))))

-- each text is read to its end
pub text_path : (gs : List IdlSign) (i : Interface) → IsText gs i → (b : Bool) × Path start gs (whole b i.name i.ops)
text_path gs i (plain ts i' h e) =
    (false, subst (λ (hs : List IdlSign). Path start hs (whole false i'.name i'.ops)) (sym e) (joined _ _ _ (interface_signs i') (finish ∷ []) (interface_path i' h) (one _ _ _ (to_whole i'.name i'.ops))))
text_path gs i (g.ended ts i' h e) = (
  true,
  subst (λ (hs : List IdlSign). Path start hs (whole true i'.name i'.ops)) (sym e)
      (joined _ _ _ (interface_signs i') (symbol Semicolon ∷ finish ∷ []) (interface_path i' h) (goes _ _ _ _ _ (to_ended i'.name i'.ops) (one _ _ _ (to_end i'.name i'.ops)))),
)
