-- Where reading stands behind signs that begin a text and break no rule, and what it does there.
use Rattle.std.proofs.Common.{◌≡◌, ◌≢◌, ℕ, zero, suc, ◌+◌, ◌*◌, ◌<◌, List, [], ◌∷◌, ◌++◌, length, Some, refl, sym, ap, subst, ◌∙◌, arith, length-append, inl, inr, ◌⊎◌}
use Rattle.std.specs.Prelude.{slice_get}
use Rattle.std.proofs.lemmas.List.{append-nil}
use Rattle.gs_idl.specs.Interface.{Param, Signature, Interface}
use Rattle.gs_idl.specs.Lexicon.{IdlSign}
use Rattle.gs_idl.specs.Grammar.{Breaks, many_ops, many_params, op_twice, param_twice, reserved, combination, params_signs}
use Rattle.gs_idl.specs.declared.idl.Dir.TheVariants.{Both}
use Rattle.gs_idl.specs.declared.idl.ParamKind.TheVariants.{File}
use Rattle.gs_idl.specs.declared.token.IdlKind.{IdlKind}
use Rattle.gs_idl.specs.Machine.{State, start, at_title, at_brace, at_ops, at_name, at_paren, at_dir, at_kind, at_param, at_sep, at_semi, closed, ended, whole, param_by, op_by}
use Rattle.gs_idl.proofs.Rules.{CleanParams, CleanOps, NameFits, size_of, clean_sound, LastBreaks, last_many, last_params, last_twice, last_param, last_word, last_clash}
use Rattle.gs_idl.proofs.LastRules.{none_read, name_read}
use Rattle.gs_idl.proofs.Clean.{Clean}
use Rattle.gs_idl.proofs.Ideal.{size}
use Rattle.gs_idl.proofs.Extends.{Extends}
use Rattle.gs_idl.proofs.SoFar.{so_far, base, begun, ops_snoc, from_start}
use Rattle.gs_idl.proofs.Transitions.{Path}
use Rattle.gs_idl_faults.proofs.Fronts.{before, here, behind, found, front_breaks, end_of}

-- ---- how many signs lead to a state

params_size : (s : IdlSign) (ps : List Param) → length (params_signs s ps) ≡ 4 * length ps
params_size s [] = omega arith
params_size s (p ∷ ps) = let rest : (t : IdlSign) → length (params_signs t ps) ≡ 4 * length ps = λ t. params_size t ps in omega (arith, rest)

-- where the operation behind this one has its name
op_size : (os : List Signature) (f : List ℕ) (ps : List Param) → end_of os (op_by f ps) ≡ 8 + size_of os + 4 * length ps
op_size os f ps =
    let all : (t : IdlSign) → length (params_signs t ps) ≡ 4 * length ps = λ t. params_size t ps in
    omega (arith, ap length (ops_snoc os (op_by f ps)), length-append {A = IdlSign}, all)

-- as many signs as lead to a state, at most
abbrev pub Few : State → ℕ → Type 0
Few start n = n ≡ 0
Few at_title n = n ≡ 1
Few (at_brace x) n = n ≡ 2
Few (at_ops x os) n = n ≡ 3 + size_of os
Few (at_name x os) n = n ≡ 4 + size_of os
Few (at_paren x os f) n = n ≡ 5 + size_of os
Few (at_dir x os f ps) n = n ≡ 6 + size_of os + 4 * length ps
Few (at_kind x os f ps d) n = n ≡ 7 + size_of os + 4 * length ps
Few (at_param x os f ps d k) n = n ≡ 8 + size_of os + 4 * length ps
Few (at_sep x os f ps) n = n ≡ 5 + size_of os + 4 * length ps
Few (at_semi x os f ps) n = n ≡ 6 + size_of os + 4 * length ps
Few (closed x os) n = Unit {0}
Few (ended x os) n = Unit {0}
Few (whole b x os) n = Unit {0}

begun_size : (x : List ℕ) (os : List Signature) (f : List ℕ) (ps : List Param) → length (base x os ++ begun f ps) ≡ 5 + size_of os + 4 * length ps
begun_size x os f ps =
    let all : (t : IdlSign) → length (params_signs t ps) ≡ 4 * length ps = λ t. params_size t ps in
    omega (arith, length-append (base x os) (begun f ps), all)

semi_size : (g : IdlSign) (x : List ℕ) (os : List Signature) (f : List ℕ) (ps : List Param) → length (base x os ++ (begun f ps ++ g ∷ [])) ≡ 6 + size_of os + 4 * length ps
semi_size g x os f ps = omega (arith, length-append (base x os) (begun f ps ++ g ∷ []), length-append (begun f ps) (g ∷ []), begun_size x os f ps, length-append (base x os) (begun f ps))

few : (s : State) → Few s (length (so_far s))
unfolding so_far
few start = size start
few at_title = size at_title
few (at_brace x) = size (at_brace x)
few (at_ops x os) = size (at_ops x os)
few (at_name x os) = size (at_name x os)
few (at_paren x os f) = size (at_paren x os f)
few (at_dir x os f ps) = size (at_dir x os f ps)
few (at_kind x os f ps d) = size (at_kind x os f ps d)
few (at_param x os f ps d k) = size (at_param x os f ps d k)
few (at_sep x os f ps) = begun_size x os f ps
few (at_semi x os f ps) = semi_size _ x os f ps
few (closed x os) = tt
few (ended x os) = tt
few (whole b x os) = tt

pub few_at : (p : List IdlSign) (s : State) → Path start p s → Few s (length p)
few_at p s q = subst (λ (gs : List IdlSign). Few s (length gs)) (from_start s p q) (few s)

-- ---- no rule is broken before a state's place, whatever follows

-- no rule is broken by the first four signs
fourth : (i : Interface) (k : ℕ) (kind : IdlKind) → Breaks i k kind → k < 4 → ⊥
fourth i k kind (many_ops i' k' h e) lt = omega arith
fourth i k kind (many_params i' k' j p g h e) lt = omega arith
fourth i k kind (op_twice i' k' j b p q g h l same e) lt = omega arith
fourth i k kind (param_twice i' k' j a b r p q g h m l same e) lt = omega arith
fourth i k kind (reserved i' k' j p g h e) lt = omega arith
fourth i k kind (combination i' k' j a r p g h d n e) lt = omega arith

get_part : {A : Type 0} (xs ys : List A) (y : A) (j : ℕ) → j < length xs → slice_get (xs ++ ys) j ≡ Some y → slice_get xs j ≡ Some y
get_part [] ys y j lt e = absurd (omega arith)
get_part (x ∷ xs) ys y zero lt e = e
get_part (x ∷ xs) ys y (suc j) lt e = get_part xs ys y j (omega arith) e

in_part : (os : List Param) (ps qs : List Param) (p : Param) (j : ℕ) → os ≡ ps ++ qs → j < length ps → slice_get os j ≡ Some p → slice_get ps j ≡ Some p
in_part os ps qs p j is lt g = get_part ps qs p j lt (sym (ap (λ (rs : List Param). slice_get rs j) is) ∙ g)

-- these parameters are read, and of the next one the direction at most
inner_read : (os : List Signature) (o : Signature) (k : ℕ) (kind : IdlKind) (ps qs : List Param) → NameFits os o.name → CleanParams ps → o.params ≡ ps ++ qs
    → (length ps < 16) ⊎ (k < 6 + size_of os + 4 * length ps) → k < 7 + size_of os + 4 * length ps → LastBreaks os o k kind → ⊥
inner_read os o k kind ps qs f c is room lt (last_many k' h e) = let few = f.few in omega arith
inner_read os o k kind ps qs f c is room lt (last_params k' h e) = let few = c.few in elim room [ inl u ↦ omega arith | inr u ↦ omega arith ]
inner_read os o k kind ps qs f c is room lt (last_twice k' j p g same e) = f.apart j p g same
inner_read os o k kind ps qs f c is room lt (last_param k' a b p q g h m same e) =
    c.apart a b p q (in_part o.params ps qs p a is (omega arith) g) (in_part o.params ps qs q b is (omega arith) h) m same
inner_read os o k kind ps qs f c is room lt (last_word k' h e) = f.free h
inner_read os o k kind ps qs f c is room lt (last_clash k' a p g d n e) = c.fit a p (in_part o.params ps qs p a is (omega arith) g) d n

-- these parameters are read, and of the next one the kind
kind_read : (os : List Signature) (o : Signature) (k : ℕ) (kind : IdlKind) (ps qs : List Param) (r : Param) → NameFits os o.name → CleanParams ps → o.params ≡ ps ++ r ∷ qs → (r.dir ≡ Both → r.kind ≢ File → ⊥)
    → length ps < 16 → k < 8 + size_of os + 4 * length ps → LastBreaks os o k kind → ⊥
kind_read os o k kind ps qs r f c is fit room lt (last_many k' h e) = let few = f.few in omega arith
kind_read os o k kind ps qs r f c is fit room lt (last_params k' h e) = omega arith
kind_read os o k kind ps qs r f c is fit room lt (last_twice k' j p g same e) = f.apart j p g same
kind_read os o k kind ps qs r f c is fit room lt (last_param k' a b p q g h m same e) =
    c.apart a b p q (in_part o.params ps (r ∷ qs) p a is (omega arith) g) (in_part o.params ps (r ∷ qs) q b is (omega arith) h) m same
kind_read os o k kind ps qs r f c is fit room lt (last_word k' h e) = f.free h
kind_read os o k kind ps qs r f c is fit room lt (last_clash k' a p g d n e) = elim (found ps qs r p a (sym (ap (λ (rs : List Param). slice_get rs a) is) ∙ g)) [
  | before l h ↦ c.fit a p h d n
  | here l h ↦ fit (ap (λ (x : Param). x.dir) h ∙ d) (λ same. n (sym (ap (λ (x : Param). x.kind) h) ∙ same))
  | behind l ↦ omega arith
]

pub in_front : (i : Interface) (k : ℕ) (kind : IdlKind) (os rs : List Signature) (f : List ℕ) (ps : List Param) → i.ops ≡ os ++ op_by f ps ∷ rs → CleanOps os → k < 8 + size_of os + 4 * length ps → Breaks i k kind → LastBreaks os (op_by f ps) k kind
in_front i k kind os rs f ps is c lt b = front_breaks i k kind os rs (op_by f ps) is c (omega (arith, op_size os f ps)) b

begun_clean : (i : Interface) (os rs : List Signature) (k : ℕ) (kind : IdlKind) → CleanOps os → i.ops ≡ os ++ rs → k < 4 + size_of os → Breaks i k kind → ⊥
begun_clean i os [] k kind c is lt b = clean_sound i (subst CleanOps (sym (is ∙ append-nil os)) c) k kind b
begun_clean i os (r ∷ rs) k kind c is lt b = none_read os r k kind (in_front i k kind os rs r.name r.params is c (omega arith) b) lt

-- no sign so far breaks a rule, whatever follows
pub clean_front : (s : State) (i : Interface) (n k : ℕ) (kind : IdlKind) → Clean s → Few s n → Extends s i.ops → k < n → Breaks i k kind → ⊥
clean_front start i n k kind c z x lt b = fourth i k kind b (omega arith)
clean_front at_title i n k kind c z x lt b = fourth i k kind b (omega arith)
clean_front (at_brace y) i n k kind c z x lt b = fourth i k kind b (omega arith)
clean_front (at_ops y os) i n k kind c z x lt b = begun_clean i os x.0 k kind c x.1 (omega arith) b
clean_front (at_name y os) i n k kind c z x lt b = begun_clean i os x.0 k kind c x.1 (omega arith) b
clean_front (at_paren y os f) i n k kind c z x lt b = name_read os (op_by f x.0) k kind c.1 (in_front i k kind os x.1 f x.0 x.2 c.0 (omega arith) b) (omega arith)
clean_front (at_dir y os f ps) i n k kind c z x lt b =
    inner_read os (op_by f (ps ++ x.0)) k kind ps x.0 c.1 c.2 refl (inr (omega arith)) (omega arith) (in_front i k kind os x.1 f (ps ++ x.0) x.2 c.0 (omega (arith, length-append ps x.0)) b)
clean_front (at_kind y os f ps d) i n k kind c z x lt b =
    let r = param_by d x.0 x.1 in
    inner_read os (op_by f (ps ++ r ∷ x.2)) k kind ps (r ∷ x.2) c.1 c.2 refl (inl c.3) (omega arith) (in_front i k kind os x.3 f (ps ++ r ∷ x.2) x.4 c.0 (omega (arith, length-append ps (r ∷ x.2))) b)
clean_front (at_param y os f ps d m) i n k kind c z x lt b =
    let r = param_by d m x.0 in
    kind_read os (op_by f (ps ++ r ∷ x.1)) k kind ps x.1 r c.1 c.2 refl c.4 c.3 (omega arith) (in_front i k kind os x.2 f (ps ++ r ∷ x.1) x.3 c.0 (omega (arith, length-append ps (r ∷ x.1))) b)
clean_front (at_sep y os f ps) i n k kind c z x lt b =
    inner_read os (op_by f (ps ++ x.0)) k kind ps x.0 c.1 c.2 refl (inr (omega arith)) (omega arith) (in_front i k kind os x.1 f (ps ++ x.0) x.2 c.0 (omega (arith, length-append ps x.0)) b)
clean_front (at_semi y os f ps) i n k kind c z x lt b =
    inner_read os (op_by f ps) k kind ps [] c.1 c.2 (sym (append-nil ps)) (inr (omega arith)) (omega arith) (in_front i k kind os x.0 f ps x.1 c.0 (omega arith) b)
clean_front (closed y os) i n k kind c z x lt b = clean_sound i (subst CleanOps (sym x) c) k kind b
clean_front (ended y os) i n k kind c z x lt b = clean_sound i (subst CleanOps (sym x) c) k kind b
clean_front (whole w y os) i n k kind c z x lt b = clean_sound i (subst CleanOps (sym x) c) k kind b
