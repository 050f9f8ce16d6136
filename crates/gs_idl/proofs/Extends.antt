-- An interface goes on from a state, and breaks the rules that its signs break.
use Rattle.std.proofs.Common.{◌≡◌, ◌≢◌, ℕ, zero, suc, ◌+◌, ◌*◌, ◌<◌, ◌≤◌, Bool, true, false, nat_le, if◌then◌else◌, List, [], ◌∷◌, ◌++◌, length, Option, Some, None, refl, sym, ap, subst, ◌∙◌, arith, append_assoc, length-append, inl, inr, ◌⊎◌}
use Rattle.std.specs.Prelude.{slice_get}
use Rattle.std.specs.Str.{bytes_eq}
use Rattle.std.proofs.lemmas.Slice.Eq.{bytes_eq-Decides}
use Rattle.std.proofs.lemmas.List.{append-nil}
use Rattle.std.proofs.lemmas.Bool.{leb-true}
use Rattle.gs_idl.specs.Interface.{Param, Signature, Interface}
use Rattle.gs_idl.specs.Lexicon.{IdlSign}
use Rattle.gs_idl.specs.Grammar.{kind_word, name_place, Breaks, many_ops, many_params, op_twice, param_twice, reserved, combination}
use Rattle.gs_idl.specs.declared.idl.Dir.{Dir}
use Rattle.gs_idl.specs.declared.idl.Dir.TheVariants.{Input, Both, Output}
use Rattle.gs_idl.specs.declared.idl.ParamKind.{ParamKind}
use Rattle.gs_idl.specs.declared.idl.ParamKind.TheVariants.{File, Int, Str}
use Rattle.gs_idl.specs.declared.token.IdlKind.{IdlKind}
use Rattle.gs_idl.specs.declared.token.IdlKind.TheVariants.{BadCombination, TooMany, Twice, Reserved}
use Rattle.gs_idl.proofs.Lists.{get_within, get_front, get_behind, any_found}
use Rattle.gs_idl.specs.Grammar.{ComesBefore, many_twice, many_reserved, twice_reserved}
use Rattle.gs_idl.specs.Machine.{State, start, at_title, at_brace, at_ops, at_name, at_paren, at_dir, at_kind, at_param, at_sep, at_semi, closed, ended, whole, param_by, op_by, broken, name_rule, clash_rule, is_clash, has_op, has_param, kind_of}
use Rattle.gs_idl.proofs.Transitions.{Next, to_title, to_brace, to_ops, to_name, to_closed, to_paren, to_dir, to_kind, to_param, to_sep, to_more, to_semi, to_next, to_ended, to_whole, to_end, kind_found, Path, here, goes}
use Rattle.gs_idl.proofs.Rules.{CleanParams, CleanOps, size_of, place_behind, LastBreaks, last_many, last_params, last_twice, last_param, last_word, last_clash}
use Rattle.gs_idl.proofs.LastRules.{last_breaks}
use Rattle.gs_idl.proofs.Clean.{Clean, NameRule, name_many, name_twice, name_word, name_fits, name_is, no_op}
use Rattle.gs_idl.proofs.Ideal.{ideal, Size, fill}

abbrev pub Extends : State → List Signature → Type 0
Extends start i = Unit {0}
Extends at_title i = Unit {0}
Extends (at_brace x) i = Unit {0}
Extends (at_ops x os) i = (rs : List Signature) × (i ≡ os ++ rs)
Extends (at_name x os) i = (rs : List Signature) × (i ≡ os ++ rs)
Extends (at_paren x os f) i = (ps : List Param) × (rs : List Signature) × (i ≡ os ++ op_by f ps ∷ rs)
Extends (at_dir x os f ps) i = (qs : List Param) × (rs : List Signature) × (i ≡ os ++ op_by f (ps ++ qs) ∷ rs)
Extends (at_kind x os f ps d) i = (k : ParamKind) × (w : List ℕ) × (qs : List Param) × (rs : List Signature) × (i ≡ os ++ op_by f (ps ++ param_by d k w ∷ qs) ∷ rs)
Extends (at_param x os f ps d k) i = (w : List ℕ) × (qs : List Param) × (rs : List Signature) × (i ≡ os ++ op_by f (ps ++ param_by d k w ∷ qs) ∷ rs)
Extends (at_sep x os f ps) i = (qs : List Param) × (rs : List Signature) × (i ≡ os ++ op_by f (ps ++ qs) ∷ rs)
Extends (at_semi x os f ps) i = (rs : List Signature) × (i ≡ os ++ op_by f ps ∷ rs)
Extends (closed x os) i = i ≡ os
Extends (ended x os) i = i ≡ os
Extends (whole b x os) i = i ≡ os

extends_next : (s : State) (g : IdlSign) (t : State) (i : List Signature) → Next s g t → Extends t i → Extends s i
extends_next s g t i to_title e = tt
extends_next s g t i (to_brace x) e = tt
extends_next s g t i (to_ops x) e = tt
extends_next s g t i (to_name x os) e = e
extends_next s g t i (to_closed x o os) e = ([], e ∙ sym (append-nil (o ∷ os)))
extends_next s g t i (to_paren x os f) e = (op_by f e.0 ∷ e.1, e.2)
extends_next s g t i (to_dir x os f) e = (e.0, e.1, e.2)
extends_next s g t i (to_kind x os f ps d) e = (param_by d e.0 e.1 ∷ e.2, e.3, e.4)
extends_next s g t i (to_param x os f ps d k) e = (k, e.0, e.1, e.2, e.3)
extends_next s g t i (to_sep x os f ps d k w) e = (w, e.0, e.1, e.2 ∙ ap (λ (qs : List Param). os ++ op_by f qs ∷ e.1) (append_assoc ps (param_by d k w ∷ []) e.0))
extends_next s g t i (to_more x os f ps) e = e
extends_next s g t i (to_semi x os f ps) e = ([], e.0, e.1 ∙ ap (λ (qs : List Param). os ++ op_by f qs ∷ e.0) (sym (append-nil ps)))
extends_next s g t i (to_next x os f ps) e = (e.0, e.1 ∙ append_assoc os (op_by f ps ∷ []) e.0)
extends_next s g t i (to_ended x os) e = e
extends_next s g t i (to_whole x os) e = e
extends_next s g t i (to_end x os) e = e

pub extends_path : (s t : State) (gs : List IdlSign) (i : List Signature) → Path s gs t → Extends t i → Extends s i
extends_path s t gs i (here s') e = e
extends_path s t gs i (goes s' r t' g ks n p) e = extends_next s' g r i n (extends_path r t' ks i p e)

-- ---- the rules

got_last : (i : Interface) (os rs : List Signature) (o : Signature) → i.ops ≡ os ++ o ∷ rs → slice_get i.ops (length os) ≡ Some o
got_last i os rs o is = ap (λ (qs : List Signature). slice_get qs (length os)) is ∙ get_behind os rs o

got_early : (i : Interface) (os rs : List Signature) (o p : Signature) (j : ℕ) → i.ops ≡ os ++ o ∷ rs → slice_get os j ≡ Some p → slice_get i.ops j ≡ Some p
got_early i os rs o p j is g = ap (λ (qs : List Signature). slice_get qs j) is ∙ get_front os (o ∷ rs) p j g

name_at : (i : Interface) (os rs : List Signature) (o : Signature) (j : ℕ) → i.ops ≡ os ++ o ∷ rs → j ≡ length os → name_place i.ops j ≡ 4 + size_of os
name_at i os rs o j is e = ap (λ (qs : List Signature). name_place qs j) is ∙ ap (λ (n : ℕ). name_place (os ++ o ∷ rs) n) e ∙ place_behind os (o ∷ rs)

same_words : (w v : List ℕ) → bytes_eq w v ≡ true → w ≡ v
same_words w v e = (bytes_eq-Decides w v).0 e

name_breaks : (i : Interface) (os rs : List Signature) (f : List ℕ) (ps : List Param) (n : ℕ) (kind : IdlKind) (r : Option IdlKind) → i.ops ≡ os ++ op_by f ps ∷ rs → CleanOps os → n ≡ 4 + size_of os → NameRule os f r → r ≡ Some kind → Breaks i n kind
name_breaks i os rs f ps n kind r is c z (name_many h) e =
    let few = c.few in
    let at : 64 ≡ length os = omega arith in
    let more : length i.ops ≡ length os + length (op_by f ps ∷ rs) = ap length is ∙ length-append os (op_by f ps ∷ rs) in
    subst (Breaks i n) (let k : TooMany ≡ kind = cc in k) (many_ops i n (omega arith) (z ∙ sym (name_at i os rs (op_by f ps) 64 is at)))
name_breaks i os rs f ps n kind r is c z (name_twice h t) e =
    let a = any_found (λ o. bytes_eq f o.name) os t in
    subst (Breaks i n) (let k : Twice ≡ kind = cc in k)
    (op_twice i n a.0 (length os) a.1 (op_by f ps) (got_early i os rs (op_by f ps) a.1 a.0 is a.2) (got_last i os rs (op_by f ps) is) (get_within os a.1 a.0 a.2) (sym (same_words f a.1.name a.3)) (z ∙ sym (name_at i os rs (op_by f ps) (length os) is refl)))
name_breaks i os rs f ps n kind r is c z (name_word h t u) e =
    subst (Breaks i n) (let k : Reserved ≡ kind = cc in k) (reserved i n (length os) (op_by f ps) (got_last i os rs (op_by f ps) is) u (z ∙ sym (name_at i os rs (op_by f ps) (length os) is refl)))
name_breaks i os rs f ps n kind r is c z (name_fits h t u) e = absurd cc

many_by : (m : ℕ) (b : Bool) (kind : IdlKind) → nat_le 16 m ≡ b → (if b then Some TooMany else None) ≡ Some kind → (16 ≤ m) × (TooMany ≡ kind)
many_by m true kind x e = (leb-true 16 m x, cc)
many_by m false kind x e = absurd cc

clash_by : (d : Dir) (k : ParamKind) (b : Bool) (kind : IdlKind) → is_clash d k ≡ b → (if b then Some BadCombination else None) ≡ Some kind → (is_clash d k ≡ true) × (BadCombination ≡ kind)
clash_by d k true kind x e = (x, cc)
clash_by d k false kind x e = absurd cc

clash_of : (d : Dir) (k : ParamKind) (o : Option ParamKind) (kind : IdlKind) → o ≡ Some k → clash_rule d o ≡ Some kind → (is_clash d k ≡ true) × (BadCombination ≡ kind)
clash_of d k None kind is e = absurd cc
clash_of d k (Some l) kind is e = let same : l ≡ k = cc in subst (λ (m : ParamKind). (is_clash d m ≡ true) × (BadCombination ≡ kind)) same (clash_by d l (is_clash d l) kind refl e)

clash_says : (d : Dir) (k : ParamKind) → is_clash d k ≡ true → (d ≡ Both) × (k ≢ File)
clash_says Input k e = absurd cc
clash_says Output k e = absurd cc
clash_says Both File e = absurd cc
clash_says Both Int e = (refl, λ h. cc)
clash_says Both Str e = (refl, λ h. cc)

twice_by : (w : List ℕ) (ps : List Param) (b : Bool) (kind : IdlKind) → has_param w ps ≡ b → (if b then Some Twice else None) ≡ Some kind → (has_param w ps ≡ true) × (Twice ≡ kind)
twice_by w ps true kind x e = (x, cc)
twice_by w ps false kind x e = absurd cc

kind_breaks : (i : Interface) (os rs : List Signature) (f : List ℕ) (ps qs : List Param) (p : Param) (n : ℕ) (kind : IdlKind) → i.ops ≡ os ++ op_by f (ps ++ p ∷ qs) ∷ rs → CleanParams ps → n ≡ 6 + size_of os + 4 * length ps
    → (16 ≤ length ps) × (TooMany ≡ kind) → Breaks i n kind
kind_breaks i os rs f ps qs p n kind is c z h =
    let few = c.few in
    let full = h.0 in
    let at = name_at i os rs (op_by f (ps ++ p ∷ qs)) (length os) is refl in
    subst (Breaks i n) h.1 (many_params i n (length os) (op_by f (ps ++ p ∷ qs)) (got_last i os rs (op_by f (ps ++ p ∷ qs)) is) (omega (arith, length-append ps (p ∷ qs))) (omega arith))

param_breaks : (i : Interface) (os rs : List Signature) (f : List ℕ) (ps qs : List Param) (d : Dir) (k : ParamKind) (w : List ℕ) (n : ℕ) (kind : IdlKind) → i.ops ≡ os ++ op_by f (ps ++ param_by d k w ∷ qs) ∷ rs
    → n ≡ 7 + size_of os + 4 * length ps → (is_clash d k ≡ true) × (BadCombination ≡ kind) → Breaks i n kind
param_breaks i os rs f ps qs d k w n kind is z h =
    let says = clash_says d k h.0 in
    let at = name_at i os rs (op_by f (ps ++ param_by d k w ∷ qs)) (length os) is refl in
    subst (Breaks i n) h.1 (combination i n (length os) (length ps) (op_by f (ps ++ param_by d k w ∷ qs)) (param_by d k w) (got_last i os rs (op_by f (ps ++ param_by d k w ∷ qs)) is) (get_behind ps qs (param_by d k w)) says.0 says.1 (omega arith))

sep_breaks : (i : Interface) (os rs : List Signature) (f : List ℕ) (ps qs : List Param) (d : Dir) (k : ParamKind) (w : List ℕ) (n : ℕ) (kind : IdlKind) → i.ops ≡ os ++ op_by f ((ps ++ param_by d k w ∷ []) ++ qs) ∷ rs
    → n ≡ 8 + size_of os + 4 * length ps → (has_param w ps ≡ true) × (Twice ≡ kind) → Breaks i n kind
sep_breaks i os rs f ps qs d k w n kind is z h =
    let all : List Param = ps ++ param_by d k w ∷ qs in
    let here : i.ops ≡ os ++ op_by f all ∷ rs = is ∙ ap (λ (xs : List Param). os ++ op_by f xs ∷ rs) (append_assoc ps (param_by d k w ∷ []) qs) in
    let a = any_found (λ p. bytes_eq w p.name) ps h.0 in
    let at = name_at i os rs (op_by f all) (length os) here refl in
    subst (Breaks i n) h.1
    (param_twice i n (length os) a.0 (length ps) (op_by f all) a.1 (param_by d k w) (got_last i os rs (op_by f all) here) (get_front ps (param_by d k w ∷ qs) a.1 a.0 a.2) (get_behind ps qs (param_by d k w)) (get_within ps a.1 a.0 a.2)
    (sym (same_words w a.1.name a.3)) (omega arith))

-- an interface that goes on breaks the rule that the sign breaks, at its place
pub breaks_next : (s : State) (g : IdlSign) (t : State) (i : Interface) (n : ℕ) (kind : IdlKind) → Next s g t → broken s g ≡ Some kind → Clean s → Size s n → Extends t i.ops → Breaks i n kind
unfolding broken
breaks_next s g t i n kind (to_paren x os f) e c z h = name_breaks i os h.1 f h.0 n kind (name_rule os f) h.2 c z (name_is os f) e
breaks_next s g t i n kind (to_kind x os f ps d) e c z h = kind_breaks i os h.3 f ps h.2 (param_by d h.0 h.1) n kind h.4 c.2 z (many_by (length ps) (nat_le 16 (length ps)) kind refl e)
breaks_next s g t i n kind (to_param x os f ps d k) e c z h = param_breaks i os h.2 f ps h.1 d k h.0 n kind h.3 z (clash_of d k (kind_of (kind_word k)) kind (kind_found k) e)
breaks_next s g t i n kind (to_sep x os f ps d k w) e c z h = sep_breaks i os h.1 f ps h.0 d k w n kind h.2 z (twice_by w ps (has_param w ps) kind refl e)
breaks_next s g t i n kind to_title e c z h = absurd cc
breaks_next s g t i n kind (to_brace x) e c z h = absurd cc
breaks_next s g t i n kind (to_ops x) e c z h = absurd cc
breaks_next s g t i n kind (to_name x os) e c z h = absurd cc
breaks_next s g t i n kind (to_closed x o os) e c z h = absurd cc
breaks_next s g t i n kind (to_dir x os f) e c z h = absurd cc
breaks_next s g t i n kind (to_more x os f ps) e c z h = absurd cc
breaks_next s g t i n kind (to_semi x os f ps) e c z h = absurd cc
breaks_next s g t i n kind (to_next x os f ps) e c z h = absurd cc
breaks_next s g t i n kind (to_ended x os) e c z h = absurd cc
breaks_next s g t i n kind (to_whole x os) e c z h = absurd cc
breaks_next s g t i n kind (to_end x os) e c z h = absurd cc

-- ---- no rule that counts before is broken at the same place

one_param : (p q r : Param) (a b : ℕ) → slice_get (p ∷ []) a ≡ Some q → slice_get (p ∷ []) b ≡ Some r → a < b → ⊥
one_param p q r a zero g h lt = omega arith
one_param p q r a (suc b) g h lt = cc

no_many : (other : IdlKind) (kind : IdlKind) → kind ≡ TooMany → ComesBefore other kind → ⊥
no_many other kind e many_twice = cc
no_many other kind e many_reserved = cc
no_many other kind e twice_reserved = cc

no_clash : (other : IdlKind) (kind : IdlKind) → kind ≡ BadCombination → ComesBefore other kind → ⊥
no_clash other kind e many_twice = cc
no_clash other kind e many_reserved = cc
no_clash other kind e twice_reserved = cc

-- what counts before a name that stands again, or a parameter's
many_of : (other : IdlKind) (kind : IdlKind) → kind ≡ Twice → ComesBefore other kind → other ≡ TooMany
many_of other kind e many_twice = refl
many_of other kind e many_reserved = absurd cc
many_of other kind e twice_reserved = absurd cc

few_last : (os : List Signature) (o : Signature) (n : ℕ) (other : IdlKind) → length os < 64 → length o.params ≤ 16 → LastBreaks os o n other → other ≡ TooMany → ⊥
few_last os o n other lt le (last_many k h e) is = omega arith
few_last os o n other lt le (last_params k h e) is = omega arith
few_last os o n other lt le (last_twice k j p g same e) is = cc
few_last os o n other lt le (last_param k a b p q g h m same e) is = cc
few_last os o n other lt le (last_word k h e) is = cc
few_last os o n other lt le (last_clash k a p g d m e) is = cc

not_before : (a b other kind : IdlKind) → ComesBefore other kind → other ≡ a → kind ≡ b → (a ≡ TooMany) ⊎ (a ≡ Twice)
not_before a b other kind many_twice e f = inl (sym e)
not_before a b other kind many_reserved e f = inl (sym e)
not_before a b other kind twice_reserved e f = inr (sym e)

not_itself : (kind : IdlKind) → ComesBefore Reserved kind → ⊥
not_itself kind cb = elim (not_before Reserved kind Reserved kind cb refl refl) [ inl e ↦ cc | inr e ↦ cc ]

clash_not_before : {kind : IdlKind} → ComesBefore BadCombination kind → ⊥
clash_not_before {kind = kind} cb = elim (not_before BadCombination kind BadCombination kind cb refl refl) [ inl e ↦ cc | inr e ↦ cc ]

-- a name that is a keyword and new among fewer than 64
word_first : (os : List Signature) (f : List ℕ) (n : ℕ) (other : IdlKind) → length os < 64 → has_op f os ≡ false → LastBreaks os (op_by f (fill ∷ [])) n other → ComesBefore other Reserved → ⊥
word_first os f n other lt new (last_many k h e) cb = omega arith
word_first os f n other lt new (last_params k h e) cb = omega arith
word_first os f n other lt new (last_twice k j p g same e) cb = no_op f os j p new g same
word_first os f n other lt new (last_param k a b p q g h m same e) cb = one_param fill p q a b g h m
word_first os f n other lt new (last_word k h e) cb = not_itself Reserved cb
word_first os f n other lt new (last_clash k a p g d m e) cb = clash_not_before cb

first_name : (os : List Signature) (f : List ℕ) (n : ℕ) (kind other : IdlKind) (r : Option IdlKind) → NameRule os f r → r ≡ Some kind → ComesBefore other kind → LastBreaks os (op_by f (fill ∷ [])) n other → ⊥
first_name os f n kind other r (name_many h) e cb lb = no_many other kind (let k : kind ≡ TooMany = cc in k) cb
first_name os f n kind other r (name_twice h t) e cb lb = few_last os (op_by f (fill ∷ [])) n other h (omega arith) lb (many_of other kind (let k : kind ≡ Twice = cc in k) cb)
first_name os f n kind other r (name_word h t u) e cb lb = word_first os f n other h t lb (subst (ComesBefore other) (let k : kind ≡ Reserved = cc in k) cb)
first_name os f n kind other r (name_fits h t u) e cb lb = cc

-- where a sign breaks a rule, the text that goes on breaks none there that counts before
pub first_next : (s : State) (g : IdlSign) (t : State) (n : ℕ) (kind other : IdlKind) → Next s g t → broken s g ≡ Some kind → Clean s → ComesBefore other kind → Breaks (ideal t) n other → ⊥
unfolding broken
first_next s g t n kind other (to_paren x os f) e c cb b = first_name os f n kind other (name_rule os f) (name_is os f) e cb (last_breaks (ideal (at_paren x os f)) n other os (op_by f (fill ∷ [])) refl c b)
first_next s g t n kind other (to_kind x os f ps d) e c cb b = no_many other kind (sym (many_by (length ps) (nat_le 16 (length ps)) kind refl e).1) cb
first_next s g t n kind other (to_param x os f ps d k) e c cb b = no_clash other kind (sym (clash_of d k (kind_of (kind_word k)) kind (kind_found k) e).1) cb
first_next s g t n kind other (to_sep x os f ps d k w) e c cb b =
    few_last os (op_by f (ps ++ param_by d k w ∷ [])) n other (c.1).few (let lt = c.3 in omega (arith, length-append ps (param_by d k w ∷ [])))
    (last_breaks (ideal (at_sep x os f (ps ++ param_by d k w ∷ []))) n other os (op_by f (ps ++ param_by d k w ∷ [])) refl c.0 b) (many_of other kind (sym (twice_by w ps (has_param w ps) kind refl e).1) cb)
first_next s g t n kind other to_title e c cb b = cc
first_next s g t n kind other (to_brace x) e c cb b = cc
first_next s g t n kind other (to_ops x) e c cb b = cc
first_next s g t n kind other (to_name x os) e c cb b = cc
first_next s g t n kind other (to_closed x o os) e c cb b = cc
first_next s g t n kind other (to_dir x os f) e c cb b = cc
first_next s g t n kind other (to_more x os f ps) e c cb b = cc
first_next s g t n kind other (to_semi x os f ps) e c cb b = cc
first_next s g t n kind other (to_next x os f ps) e c cb b = cc
first_next s g t n kind other (to_ended x os) e c cb b = cc
first_next s g t n kind other (to_whole x os) e c cb b = cc
first_next s g t n kind other (to_end x os) e c cb b = cc
