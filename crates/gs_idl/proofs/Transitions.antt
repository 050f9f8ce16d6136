-- The steps of reading as a relation.
use Rattle.std.proofs.Common.{◌≡◌, ℕ, Bool, true, false, if◌then◌else◌, List, [], ◌∷◌, ◌++◌, Option, Some, None, refl, sym, ap, subst, ◌∙◌}
use Rattle.std.specs.Option.{option_map}
use Rattle.std.specs.Str.{bytes_eq}
use Rattle.std.proofs.lemmas.Slice.Eq.{bytes_eq-Decides}
use lib.Chars.{codes}
use Rattle.gs_idl.specs.Interface.{Param, Signature}
use Rattle.gs_idl.specs.Lexicon.{IdlSign, word, symbol, finish}
use Rattle.gs_idl.specs.Grammar.{dir_word, kind_word}
use Rattle.gs_idl.specs.Machine.{State, start, at_title, at_brace, at_ops, at_name, at_paren, at_dir, at_kind, at_param, at_sep, at_semi, closed, ended, whole, step, where_is, dir_of, kind_of, param_by, op_by}
use Rattle.gs_idl.specs.declared.idl.Dir.{Dir}
use Rattle.gs_idl.specs.declared.idl.Dir.TheVariants.{Input, Both, Output}
use Rattle.gs_idl.specs.declared.idl.ParamKind.{ParamKind}
use Rattle.gs_idl.specs.declared.idl.ParamKind.TheVariants.{File, Int, Str}
use Rattle.gs_idl.specs.declared.token.Symbol.TheVariants.{OpenBrace, CloseBrace, OpenParen, CloseParen, Comma, Semicolon}
use Rattle.gs_idl.proofs.Steps.{asked}

-- a sign leads from a state to another
pub data Next : State → IdlSign → State → Type 0 where
  to_title : Next start (word (codes "interface")) at_title
  to_brace : (x : List ℕ) → Next at_title (word x) (at_brace x)
  to_ops : (x : List ℕ) → Next (at_brace x) (symbol OpenBrace) (at_ops x [])
  to_name : (x : List ℕ) (os : List Signature) → Next (at_ops x os) (word (codes "void")) (at_name x os)
  to_closed : (x : List ℕ) (o : Signature) (os : List Signature) → Next (at_ops x (o ∷ os)) (symbol CloseBrace) (closed x (o ∷ os))
  to_paren : (x : List ℕ) (os : List Signature) (f : List ℕ) → Next (at_name x os) (word f) (at_paren x os f)
  to_dir : (x : List ℕ) (os : List Signature) (f : List ℕ) → Next (at_paren x os f) (symbol OpenParen) (at_dir x os f [])
  to_kind : (x : List ℕ) (os : List Signature) (f : List ℕ) (ps : List Param) (d : Dir) → Next (at_dir x os f ps) (word (dir_word d)) (at_kind x os f ps d)
  to_param : (x : List ℕ) (os : List Signature) (f : List ℕ) (ps : List Param) (d : Dir) (k : ParamKind) → Next (at_kind x os f ps d) (word (kind_word k)) (at_param x os f ps d k)
  to_sep : (x : List ℕ) (os : List Signature) (f : List ℕ) (ps : List Param) (d : Dir) (k : ParamKind) (w : List ℕ) → Next (at_param x os f ps d k) (word w) (at_sep x os f (ps ++ param_by d k w ∷ []))
  to_more : (x : List ℕ) (os : List Signature) (f : List ℕ) (ps : List Param) → Next (at_sep x os f ps) (symbol Comma) (at_dir x os f ps)
  to_semi : (x : List ℕ) (os : List Signature) (f : List ℕ) (ps : List Param) → Next (at_sep x os f ps) (symbol CloseParen) (at_semi x os f ps)
  to_next : (x : List ℕ) (os : List Signature) (f : List ℕ) (ps : List Param) → Next (at_semi x os f ps) (symbol Semicolon) (at_ops x (os ++ op_by f ps ∷ []))
  to_ended : (x : List ℕ) (os : List Signature) → Next (closed x os) (symbol Semicolon) (ended x os)
  to_whole : (x : List ℕ) (os : List Signature) → Next (closed x os) finish (whole false x os)
  to_end : (x : List ℕ) (os : List Signature) → Next (ended x os) finish (whole true x os)

some_is : {A : Type 0} (x y : A) → Some x ≡ Some y → x ≡ y
some_is x y e = cc

word_by : (b : Bool) (wanted w : List ℕ) (s t : State) → bytes_eq w wanted ≡ b → (if b then Some s else None) ≡ Some t → (wanted ≡ w) × (s ≡ t)
word_by true wanted w s t e h = (sym ((bytes_eq-Decides w wanted).0 e), some_is s t h)
word_by false wanted w s t e h = absurd cc

-- a word that is asked for
by_word : (s : State) (wanted w : List ℕ) (u t : State) → Next s (word wanted) u → where_is wanted w u ≡ Some t → Next s (word w) t
by_word s wanted w u t n e =
    let p = word_by (bytes_eq w wanted) wanted w u t refl e in
    subst (λ (z : State). Next s (word w) z) p.1 (subst (λ (v : List ℕ). Next s (word v) u) p.0 n)

mapped : {A B : Type 0} (f : A → B) (o : Option A) (y : B) → option_map f o ≡ Some y → (x : A) × (o ≡ Some x) × (f x ≡ y)
mapped f None y e = absurd cc
mapped f (Some x) y e = (x, refl, some_is (f x) y e)

abbrev IsDirOf : List ℕ → Option Dir → Type 0
IsDirOf w None = Unit {0}
IsDirOf w (Some d) = dir_word d ≡ w

abbrev IsKindOf : List ℕ → Option ParamKind → Type 0
IsKindOf w None = Unit {0}
IsKindOf w (Some k) = kind_word k ≡ w

choose_dir : (b : Bool) (w v : List ℕ) (d : Dir) (o : Option Dir) → bytes_eq w v ≡ b → dir_word d ≡ v → IsDirOf w o → IsDirOf w (if b then Some d else o)
choose_dir true w v d o e s h = s ∙ sym ((bytes_eq-Decides w v).0 e)
choose_dir false w v d o e s h = h

dir_is : (w : List ℕ) → IsDirOf w (dir_of w)
dir_is w =
    choose_dir (bytes_eq w (codes "in")) w (codes "in") Input _ refl refl (choose_dir (bytes_eq w (codes "inout")) w (codes "inout") Both _ refl refl (choose_dir (bytes_eq w (codes "out")) w (codes "out") Output None refl refl tt))

choose_kind : (b : Bool) (w v : List ℕ) (k : ParamKind) (o : Option ParamKind) → bytes_eq w v ≡ b → kind_word k ≡ v → IsKindOf w o → IsKindOf w (if b then Some k else o)
choose_kind true w v k o e s h = s ∙ sym ((bytes_eq-Decides w v).0 e)
choose_kind false w v k o e s h = h

kind_is : (w : List ℕ) → IsKindOf w (kind_of w)
kind_is w =
    choose_kind (bytes_eq w (codes "File")) w (codes "File") File _ refl refl (choose_kind (bytes_eq w (codes "int")) w (codes "int") Int _ refl refl (choose_kind (bytes_eq w (codes "string")) w (codes "string") Str None refl refl tt))

by_dir : (x : List ℕ) (os : List Signature) (f : List ℕ) (ps : List Param) (w : List ℕ) (t : State) → option_map (λ d. at_kind x os f ps d) (dir_of w) ≡ Some t → Next (at_dir x os f ps) (word w) t
by_dir x os f ps w t e =
    let m = mapped (λ d. at_kind x os f ps d) (dir_of w) t e in
    let is : dir_word m.0 ≡ w = subst (IsDirOf w) m.1 (dir_is w) in
    subst (λ (z : State). Next (at_dir x os f ps) (word w) z) m.2 (subst (λ (v : List ℕ). Next (at_dir x os f ps) (word v) (at_kind x os f ps m.0)) is (to_kind x os f ps m.0))

by_kind : (x : List ℕ) (os : List Signature) (f : List ℕ) (ps : List Param) (d : Dir) (w : List ℕ) (t : State) → option_map (λ k. at_param x os f ps d k) (kind_of w) ≡ Some t → Next (at_kind x os f ps d) (word w) t
by_kind x os f ps d w t e =
    let m = mapped (λ k. at_param x os f ps d k) (kind_of w) t e in
    let is : kind_word m.0 ≡ w = subst (IsKindOf w) m.1 (kind_is w) in
    subst (λ (z : State). Next (at_kind x os f ps d) (word w) z) m.2 (subst (λ (v : List ℕ). Next (at_kind x os f ps d) (word v) (at_param x os f ps d m.0)) is (to_param x os f ps d m.0))

by_some : (s : State) (g : IdlSign) (u t : State) → Next s g u → Some u ≡ Some t → Next s g t
by_some s g u t n e = subst (λ (z : State). Next s g z) (some_is u t e) n

pub step_next : (s : State) (g : IdlSign) (t : State) → step s g ≡ Some t → Next s g t
unfolding step
step_next start (word w) t e = by_word start (codes "interface") w at_title t to_title e
step_next at_title (word w) t e = by_some at_title (word w) (at_brace w) t (to_brace w) e
step_next (at_brace x) (symbol OpenBrace) t e = by_some _ _ _ t (to_ops x) e
step_next (at_ops x []) (word w) t e = by_word (at_ops x []) (codes "void") w (at_name x []) t (to_name x []) e
step_next (at_ops x (o ∷ os)) (word w) t e = by_word (at_ops x (o ∷ os)) (codes "void") w (at_name x (o ∷ os)) t (to_name x (o ∷ os)) e
step_next (at_ops x (o ∷ os)) (symbol CloseBrace) t e = by_some _ _ _ t (to_closed x o os) e
step_next (at_name x os) (word w) t e = by_some _ _ _ t (to_paren x os w) e
step_next (at_paren x os f) (symbol OpenParen) t e = by_some _ _ _ t (to_dir x os f) e
step_next (at_dir x os f ps) (word w) t e = by_dir x os f ps w t e
step_next (at_kind x os f ps d) (word w) t e = by_kind x os f ps d w t e
step_next (at_param x os f ps d k) (word w) t e = by_some _ _ _ t (to_sep x os f ps d k w) e
step_next (at_sep x os f ps) (symbol Comma) t e = by_some _ _ _ t (to_more x os f ps) e
step_next (at_sep x os f ps) (symbol CloseParen) t e = by_some _ _ _ t (to_semi x os f ps) e
step_next (at_semi x os f ps) (symbol Semicolon) t e = by_some _ _ _ t (to_next x os f ps) e
step_next (closed x os) (symbol Semicolon) t e = by_some _ _ _ t (to_ended x os) e
step_next (closed x os) finish t e = by_some _ _ _ t (to_whole x os) e
step_next (ended x os) finish t e = by_some _ _ _ t (to_end x os) e
step_next s g t e = absurd cc

pub dir_found : (d : Dir) → dir_of (dir_word d) ≡ Some d
dir_found Input = refl
dir_found Both = refl
dir_found Output = refl

pub kind_found : (k : ParamKind) → kind_of (kind_word k) ≡ Some k
kind_found File = refl
kind_found Int = refl
kind_found Str = refl

ops_void : (x : List ℕ) (os : List Signature) → step (at_ops x os) (word (codes "void")) ≡ Some (at_name x os)
unfolding step
ops_void x [] = asked (codes "void") (at_name x [])
ops_void x (o ∷ os) = asked (codes "void") (at_name x (o ∷ os))

pub next_step : (s : State) (g : IdlSign) (t : State) → Next s g t → step s g ≡ Some t
unfolding step
next_step s g t to_title = asked (codes "interface") at_title
next_step s g t (to_brace x) = refl
next_step s g t (to_ops x) = refl
next_step s g t (to_name x os) = ops_void x os
next_step s g t (to_closed x o os) = refl
next_step s g t (to_paren x os f) = refl
next_step s g t (to_dir x os f) = refl
next_step s g t (to_kind x os f ps d) = ap (option_map (λ d. at_kind x os f ps d)) (dir_found d)
next_step s g t (to_param x os f ps d k) = ap (option_map (λ k. at_param x os f ps d k)) (kind_found k)
next_step s g t (to_sep x os f ps d k w) = refl
next_step s g t (to_more x os f ps) = refl
next_step s g t (to_semi x os f ps) = refl
next_step s g t (to_next x os f ps) = refl
next_step s g t (to_ended x os) = refl
next_step s g t (to_whole x os) = refl
next_step s g t (to_end x os) = refl

pub one_next : (s : State) (g : IdlSign) (t u : State) → Next s g t → Next s g u → t ≡ u
one_next s g t u n m = some_is t u (sym (next_step s g t n) ∙ next_step s g u m)

-- signs lead from a state to another
pub data Path : State → List IdlSign → State → Type 0 where
  here : (s : State) → Path s [] s
  goes : (s t u : State) (g : IdlSign) (gs : List IdlSign) → Next s g t → Path t gs u → Path s (g ∷ gs) u

pub joined : (s t u : State) (gs hs : List IdlSign) → Path s gs t → Path t hs u → Path s (gs ++ hs) u
joined s t u gs hs (here s') q = q
joined s t u gs hs (goes s' r t' g ks n p) q = goes s' r u g (ks ++ hs) n (joined r t' u ks hs p q)

pub onward : (s t u : State) (gs : List IdlSign) (g : IdlSign) → Path s gs t → Next t g u → Path s (gs ++ g ∷ []) u
onward s t u gs g p n = joined s t u gs (g ∷ []) p (goes t u u g [] n (here u))

pub first_of : (s u : State) (g : IdlSign) (gs : List IdlSign) → Path s (g ∷ gs) u → (r : State) × Next s g r × Path r gs u
first_of s u g gs (goes s' r u' g' ks n p) = (r, n, p)

-- what is left of a path behind its beginning
pub path_left : (s t u : State) (gs hs : List IdlSign) → Path s gs t → Path s (gs ++ hs) u → Path t hs u
path_left s t u gs hs (here s') q = q
path_left s t u gs hs (goes s' r t' g ks n p) q =
    let f = first_of s' u g (ks ++ hs) q in
    path_left r t' u ks hs p (subst (λ (z : State). Path z (ks ++ hs) u) (one_next s' g f.0 r f.1 n) f.2)
