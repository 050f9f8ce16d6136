-- Operators at a place of a text.
use Rattle.std.proofs.Common.{◌≡◌, ◌≢◌, ◌≤◌, ◌<◌, ◌+◌, ◌-◌, ℕ, suc, refl, sym, ap, ◌∙◌, subst, List, [], ◌∷◌, Ok, Err, true, false, Bool, arith, nat_lt, lt-ltb, max}
use Rattle.std.proofs.lemmas.Bool.{ne_eqb, le-ltb}
use Rattle.std.proofs.Common.{eq-eqb}
use Rattle.gs_tree.specs.Sign.{Mark}
use Rattle.gs_tree.specs.Program.{Term, two}
use Rattle.gs_tree.specs.Signs.{sign_of_keyword}
use Rattle.gs_tree.specs.declared.sign.Keyword.{Keyword}
use Rattle.gs_tree.specs.declared.sign.Keyword.TheVariants.{Main}
use Rattle.gs_tree.specs.declared.tree.Op.{Op}
use Rattle.gs_tree.specs.declared.tree.Op.TheVariants.{Or}
use Rattle.gs_parse.specs.declared.stop.Stop.{Stop}
use Rattle.gs_parse.specs.declared.stop.Stop.TheVariants.{TooDeep}
use Rattle.gs_parse.specs.Symbols.{binding, operator}
use Rattle.gs_parse.specs.Notation.{a_term, Lined, level, tail, unfit, gives, read}
use Rattle.gs_parse.specs.Grammar.{rule, judged, height, goes_on, joined}
use Rattle.gs_parse.specs.Reading.{next_fit}
use Rattle.gs_parse.specs.Reads.{Reads}
use Rattle.gs_parse.specs.Frame.{Onward}
use Rattle.gs_parse.specs.Operators.{IsOperator, NoOperator}
use Rattle.gs_parse.proofs.Chain.{chose, passing, may_deep, then_part, stop_part, gave, last_part}

pub no_binding_keyword : (k : Keyword) → 0 ≡ binding (sign_of_keyword k)
no_binding_keyword Main = refl
no_binding_keyword _ = refl

pub no_operator_keyword : (k : Keyword) → Or ≡ operator (sign_of_keyword k)
no_operator_keyword Main = refl
no_operator_keyword _ = refl

pub operator_end : (n : ℕ) (here : List Mark) → here ≡ [] → NoOperator n here
unfolding NoOperator
operator_end n here e = subst (λ (z : List Mark). NoOperator n z) (sym e) tt

pub operator_other : (n b : ℕ) (x : Mark) (here next : List Mark) → here ≡ x ∷ next → b ≡ binding x.sign → b ≢ n → NoOperator n here
unfolding NoOperator
operator_other n b x here next e h ne = subst (λ (z : List Mark). NoOperator n z) (sym e) (λ same. ne (h ∙ same))

pub operator_here : (n b : ℕ) (op : Op) (x : Mark) (here next : List Mark) → here ≡ x ∷ next → b ≡ binding x.sign → b ≡ n → op ≡ operator x.sign → IsOperator n op here next
unfolding IsOperator
operator_here n b op x here next e h same o = (x, e, sym h ∙ same, sym o)

-- ---- a level

above : (t : ℕ) → 0 < t → t ≡ suc (t - 1)
above t lt = omega (arith, lt)

level_is : (t d g : ℕ) → 0 < t → rule (level t d g) ≡ read (level (t - 1) d g) (λ a. read (tail (t - 1) d g a) (λ v. gives v))
level_is t d g lt = ap (λ z. rule (level z d g)) (above t lt)

pub level_first : {A : Type 0} (t d g : ℕ) (view : A → Lined) (old mid : List Mark) (a : A) → 0 < t → Reads a_term (rule (level (t - 1) d g)) view old (Ok a) mid → Onward a_term (rule (level t d g)) (rule (tail (t - 1) d g (view a))) view old mid
level_first t d g view old mid a lt h result new r =
    subst (λ z. Reads a_term z view old result new) (sym (level_is t d g lt))
    (then_part a_term (level (t - 1) d g) _ view view old mid a result new h (last_part a_term (tail (t - 1) d g (view a)) view mid result new r))

pub level_stop : {A : Type 0} (t d g : ℕ) (view : A → Lined) (old : List Mark) (stop : Stop) (new : List Mark) → 0 < t → Reads a_term (rule (level (t - 1) d g)) view old (Err stop) new → Reads a_term (rule (level t d g)) view old (Err stop) new
level_stop t d g view old stop new lt h =
    subst (λ z. Reads a_term z view old (Err stop) new) (sym (level_is t d g lt)) (stop_part a_term (level (t - 1) d g) _ view view old stop new h)

-- ---- what follows an operand

fits_here : (m d : ℕ) (a : Term) (x : Mark) → binding x.sign ≡ suc m → (b : Bool) → nat_lt (d + height a) 64 ≡ b → goes_on (suc m) d a x ≡ judged true b
unfolding goes_on
fits_here m d a x e b h = ap (λ z. judged z (nat_lt (d + height a) 64)) (eq-eqb (binding x.sign) (suc m) e) ∙ ap (λ z. judged true z) h

none_fits : (m d : ℕ) (a : Term) (here : List Mark) → NoOperator (suc m) here → next_fit (goes_on (suc m) d a) here ≡ unfit
unfolding goes_on NoOperator
none_fits m d a [] free = refl
none_fits m d a (x ∷ xs) free = ap (λ z. judged z (nat_lt (d + height a) 64)) (ne_eqb (binding x.sign) (suc m) free)

too_high : (n : ℕ) → 64 ≤ n → nat_lt n 64 ≡ false
too_high n le = le-ltb n 64 le

pub tail_end : {A : Type 0} (t d g : ℕ) (a : Lined) (view : A → Lined) (here : List Mark) (r : A) → 0 < t → NoOperator t here → view r ≡ a → Reads a_term (rule (tail (t - 1) d g a)) view here (Ok r) here
tail_end t d g a view here r lt free e =
    passing a_term _ _ _ view here (Ok r) here (none_fits (t - 1) d a.term here (subst (λ (z : ℕ). NoOperator z here) (above t lt) free)) (gave a_term a view here r e)

pub tail_more : {A B : Type 0} (t d g : ℕ) (a : Lined) (op : Op) (view : A → Lined) (inner : B → Lined) (here next mid : List Mark) (b : B) (c : Lined) → 0 < t → IsOperator t op here next → d + height a.term < 64 → Reads a_term (rule (level (t - 1) (d + 1) g)) inner next (Ok b) mid → c ≡ record { line = a.line; term = two op a.term (inner b).term } → Onward a_term (rule (tail (t - 1) d g a)) (rule (tail (t - 1) d g c)) view here mid
unfolding IsOperator
tail_more t d g a op view inner here next mid b c lt is room h same result new r =
    let fits = fits_here (t - 1) d a.term is.0 (is.2 ∙ above t lt) true (lt-ltb (d + height a.term) 64 room) in
    let c_is : c ≡ joined is.0 a (inner b) = same ∙ ap (λ (z : Op). let l : Lined = record { line = a.line; term = two z a.term (inner b).term } in l) (sym is.3) in
    chose a_term _ _ _ view here is.0 next result new is.1 fits
    (then_part a_term (level (t - 1) (d + 1) g) _ inner view next mid b result new h
    (last_part a_term (tail (t - 1) d g (joined is.0 a (inner b))) view mid result new (subst (λ (z : Lined). Reads a_term (rule (tail (t - 1) d g z)) view mid result new) c_is r)))

pub tail_stop : {A B : Type 0} (t d g : ℕ) (a : Lined) (op : Op) (view : A → Lined) (inner : B → Lined) (here next : List Mark) (stop : Stop) (new : List Mark) → 0 < t → IsOperator t op here next → d + height a.term < 64 → Reads a_term (rule (level (t - 1) (d + 1) g)) inner next (Err stop) new → Reads a_term (rule (tail (t - 1) d g a)) view here (Err stop) new
unfolding IsOperator
tail_stop t d g a op view inner here next stop new lt is room h =
    let fits = fits_here (t - 1) d a.term is.0 (is.2 ∙ above t lt) true (lt-ltb (d + height a.term) 64 room) in
    chose a_term _ _ _ view here is.0 next (Err stop) new is.1 fits (stop_part a_term (level (t - 1) (d + 1) g) _ inner view next stop new h)

pub tail_deep : {A : Type 0} (t d g : ℕ) (a : Lined) (op : Op) (view : A → Lined) (here next : List Mark) → 0 < t → IsOperator t op here next → 64 ≤ d + height a.term → Reads a_term (rule (tail (t - 1) d g a)) view here (Err TooDeep) here
unfolding IsOperator
tail_deep t d g a op view here next lt is room =
    may_deep a_term _ _ _ view here (ap (next_fit (goes_on (suc (t - 1)) d a.term)) is.1 ∙ fits_here (t - 1) d a.term is.0 (is.2 ∙ above t lt) false (too_high (d + height a.term) room))

pub height_joined : (h ha hb : ℕ) (op : Op) (a b e : Term) → ha ≡ height a → hb ≡ height b → h ≡ max ha hb + 1 → e ≡ two op a b → h ≡ height e
height_joined h ha hb op a b e p q r s = r ∙ ap (λ n. max n hb + 1) p ∙ ap (λ n. max (height a) n + 1) q ∙ sym (ap height s)

pub lined_two : (line : ℕ) (s t : Term) → s ≡ t → (let x : Lined = record { line = line; term = s } in x) ≡ record { line = line; term = t }
lined_two line s t e = ap (λ z. let x : Lined = record { line = line; term = z } in x) e
