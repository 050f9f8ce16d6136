-- What reading says of a text.
use Rattle.std.proofs.Common.{◌≡◌, ℕ, ◌+◌, ◌<◌, Bool, true, false, List, [], ◌∷◌, ◌++◌, length, take, Option, Some, None, refl, sym, ap, subst, ◌∙◌, arith, append_assoc, length-append, inl, inr}
use Rattle.std.specs.Prelude.{slice_get}
use Rattle.std.proofs.lemmas.List.{take_at}
use Rattle.gs_idl.specs.Interface.{Signature, Interface}
use Rattle.gs_idl.specs.Lexicon.{IdlSign, bad, finish}
use Rattle.gs_idl.specs.Grammar.{Breaks, IsSound}
use Rattle.gs_idl.specs.declared.token.IdlKind.{IdlKind}
use Rattle.gs_idl.proofs.Lists.{get_behind}
use Rattle.gs_idl.specs.Grammar.{refused, IsText, IsBeginning, IsRight, IsFaultAt}
use Rattle.gs_idl.specs.Machine.{State, start, whole, closed, ended, step, broken, judge, stepped, unless, Verdict, refuse, go, Fed, Text, Fault, moved, run}
use Rattle.gs_idl.specs.Machine as m
use Rattle.gs_idl.proofs.Running.{run_cons}
use Rattle.gs_idl.proofs.Transitions.{Next, step_next, next_step, Path, here, joined, onward, path_left, first_of, one_next, to_title, to_brace, to_ops, to_name, to_closed, to_paren, to_dir, to_kind, to_param, to_sep, to_more, to_semi, to_next, to_ended, to_whole, to_end}
use Rattle.gs_idl.proofs.SoFar.{from_start, path_text}
use Rattle.gs_idl.proofs.Complete.{text_path}
use Rattle.gs_idl.proofs.Clean.{Clean, clean_next}
use Rattle.gs_idl.proofs.Rules.{clean_sound}
use Rattle.gs_idl.proofs.Ideal.{ideal, ideal_name, ideal_ops, reaches, Size, size, right}
use Rattle.gs_idl.proofs.Extends.{Extends, extends_path, breaks_next, first_next}

-- ---- a state that was reached

pub record Reached (p : List IdlSign) (s : State) : Type 0 where
  pub path : Path start p s
  pub clean : Clean s

size_at : (p : List IdlSign) (s : State) → Path start p s → Size s (length p)
size_at p s q = subst (λ (gs : List IdlSign). Size s (length gs)) (from_start s p q) (size s)

-- the signs so far begin a text, in which they break no rule
right_at : (p : List IdlSign) (s : State) → Reached p s → (more : List IdlSign) × IsText (p ++ more) (ideal s) × ((j : ℕ) (kind : IdlKind) → j < length p → Breaks (ideal s) j kind → ⊥)
right_at p s r =
    let e = reaches s in
    (e.0, path_text (p ++ e.0) e.1 (ideal_name s) (ideal_ops s) (joined start s (whole e.1 (ideal_name s) (ideal_ops s)) p e.0 r.path e.2), right s r.clean (length p) (size_at p s r.path))

no_more : (p : List IdlSign) (s : State) (g : IdlSign) → Path start p s → step s g ≡ None → IsBeginning (p ++ g ∷ []) → ⊥
no_more p s g q e b =
    let t = text_path ((p ++ g ∷ []) ++ b.0) b.1 b.2 in
    let left = path_left start s (whole t.0 b.1.name b.1.ops) p (g ∷ b.0) q (subst (λ (gs : List IdlSign). Path start gs (whole t.0 b.1.name b.1.ops)) (append_assoc p (g ∷ []) b.0) t.1) in
    let f = first_of s (whole t.0 b.1.name b.1.ops) g b.0 left in
    let is : None ≡ Some f.0 = sym e ∙ next_step s g f.0 f.1 in
    cc

-- ---- the places of a list

take_before : (p : List IdlSign) (gs : List IdlSign) → take (length p) (p ++ gs) ≡ p
take_before p gs = take_at p gs (length p) refl

take_here : (p gs : List IdlSign) (g : IdlSign) → take (length p + 1) (p ++ g ∷ gs) ≡ p ++ g ∷ []
take_here p gs g =
    ap (λ (hs : List IdlSign). take (length p + 1) hs) (sym (append_assoc p (g ∷ []) gs)) ∙ take_at (p ++ g ∷ []) gs (length p + 1) (length-append p (g ∷ []))

at_here : (p gs : List IdlSign) (g : IdlSign) → slice_get (p ++ g ∷ gs) (length p) ≡ Some g
at_here p gs g = get_behind p gs g

before_here : (p gs : List IdlSign) (s : State) → Reached p s → IsRight (p ++ gs) (length p)
before_here p gs s r =
    let e = right_at p s r in
    record { more = e.0; interface = ideal s; text = subst (λ (hs : List IdlSign). IsText (hs ++ e.0) (ideal s)) (sym (take_before p gs)) e.1; sound = e.2 }

pub refused_fault : (p gs : List IdlSign) (g : IdlSign) (s : State) → Reached p s → step s g ≡ None → IsFaultAt (p ++ g ∷ gs) (length p) (refused g)
refused_fault p gs g s r e = record {
  sign = g;
  here = at_here p gs g;
  before = before_here p (g ∷ gs) s r;
  why = inl (record { no_beginning = λ b. no_more p s g r.path e (subst IsBeginning (take_here p gs g) b); is = refl });
}

pub rule_fault : (p gs : List IdlSign) (g : IdlSign) (s t : State) (kind : IdlKind) → Reached p s → Next s g t → broken s g ≡ Some kind → IsFaultAt (p ++ g ∷ gs) (length p) kind
rule_fault p gs g s t kind r n e =
    let q = onward start s t p g r.path n in
    let c = reaches t in
    let rest : Path start ((p ++ g ∷ []) ++ c.0) (whole c.1 (ideal_name t) (ideal_ops t)) = joined start t (whole c.1 (ideal_name t) (ideal_ops t)) (p ++ g ∷ []) c.0 q c.2 in
    let text = path_text ((p ++ g ∷ []) ++ c.0) c.1 (ideal_name t) (ideal_ops t) rest in
    let on : Extends t (ideal_ops t) = extends_path t (whole c.1 (ideal_name t) (ideal_ops t)) c.0 (ideal_ops t) c.2 refl in
    record {
      sign = g;
      here = at_here p gs g;
      before = before_here p (g ∷ gs) s r;
      why = inr (record {
        more = c.0;
        interface = ideal t;
        text = subst (λ (hs : List IdlSign). IsText (hs ++ c.0) (ideal t)) (sym (take_here p gs g)) text;
        breaks = breaks_next s g t (ideal t) (length p) kind n e r.clean (size_at p s r.path) on;
        first = λ other cb b. first_next s g t (length p) kind other n e r.clean cb b;
      });
    }

-- ---- nothing is said where a sign goes wrong

what_follows : (p gs : List IdlSign) (g : IdlSign) (s : State) (i : Interface) → Path start p s → IsText (p ++ g ∷ gs) i → (b : Bool) × (r : State) × Next s g r × Path r gs (whole b i.name i.ops)
what_follows p gs g s i q t =
    let w = text_path (p ++ g ∷ gs) i t in
    let f = first_of s (whole w.0 i.name i.ops) g gs (path_left start s (whole w.0 i.name i.ops) p (g ∷ gs) q w.1) in
    (w.0, f.0, f.1, f.2)

pub refused_says : (p gs : List IdlSign) (g : IdlSign) (s : State) → Path start p s → step s g ≡ None → (i : Interface) → IsText (p ++ g ∷ gs) i → ⊥
refused_says p gs g s q e i t =
    let f = what_follows p gs g s i q t in
    let is : None ≡ Some f.1 = sym e ∙ next_step s g f.1 f.2 in
    cc

pub rule_says : (p gs : List IdlSign) (g : IdlSign) (s t : State) (kind : IdlKind) → Reached p s → Next s g t → broken s g ≡ Some kind → (i : Interface) → IsText (p ++ g ∷ gs) i → IsSound i → ⊥
rule_says p gs g s t kind r n e i x sound =
    let f = what_follows p gs g s i r.path x in
    let on : Extends t i.ops = extends_path t (whole f.0 i.name i.ops) gs i.ops (subst (λ (u : State). Path u gs (whole f.0 i.name i.ops)) (one_next s g f.1 t f.2 n) f.3) refl in
    sound (length p) kind (breaks_next s g t i (length p) kind n e r.clean (size_at p s r.path) on)

-- ---- the run

-- the last sign is the end or a bad one, and no other is
abbrev pub IsFinal : IdlSign → Type 0
IsFinal finish = Unit {0}
IsFinal (bad kind) = Unit {0}
IsFinal _ = ⊥

abbrev pub Closing : List IdlSign → Type 0
Closing [] = ⊥
Closing (g ∷ []) = IsFinal g
Closing (g ∷ h ∷ gs) = (IsFinal g → ⊥) × Closing (h ∷ gs)

pub closing_more : (g : IdlSign) (gs : List IdlSign) → (IsFinal g → ⊥) → Closing gs → Closing (g ∷ gs)
closing_more g [] n c = absurd c
closing_more g (h ∷ gs) n c = (n, c)

closing_end : (g : IdlSign) (gs : List IdlSign) → IsFinal g → Closing (g ∷ gs) → gs ≡ []
closing_end g [] f c = refl
closing_end g (h ∷ gs) f c = absurd (c.0 f)

closing_rest : (g : IdlSign) (gs : List IdlSign) → (IsFinal g → ⊥) → Closing (g ∷ gs) → Closing gs
closing_rest g [] n c = absurd (n c)
closing_rest g (h ∷ gs) n c = c.1

-- only the end leads to the whole, and what leads elsewhere is no last sign
final_next : (s : State) (g : IdlSign) (b : Bool) (x : List ℕ) (os : List Signature) (t : State) → Next s g t → t ≡ whole b x os → IsFinal g
final_next s g b x os t to_title e = cc
final_next s g b x os t (to_brace y) e = cc
final_next s g b x os t (to_ops y) e = cc
final_next s g b x os t (to_name y ps) e = cc
final_next s g b x os t (to_closed y o ps) e = cc
final_next s g b x os t (to_paren y ps f) e = cc
final_next s g b x os t (to_dir y ps f) e = cc
final_next s g b x os t (to_kind y ps f qs d) e = cc
final_next s g b x os t (to_param y ps f qs d k) e = cc
final_next s g b x os t (to_sep y ps f qs d k w) e = cc
final_next s g b x os t (to_more y ps f qs) e = cc
final_next s g b x os t (to_semi y ps f qs) e = cc
final_next s g b x os t (to_next y ps f qs) e = cc
final_next s g b x os t (to_ended y ps) e = cc
final_next s g b x os t (to_whole y ps) e = tt
final_next s g b x os t (to_end y ps) e = tt

-- what a step leads to: the whole, behind the end, or a state that is gone on from, behind another sign
pub data Leads (g : IdlSign) : State → Type 0 where
  leads_whole : (b : Bool) (x : List ℕ) (os : List Signature) → IsFinal g → Leads g (whole b x os)
  leads_on : (t : State) → (IsFinal g → ⊥) → ((f : Fed) → moved t f ≡ f) → Leads g t

leads : (s : State) (g : IdlSign) (t : State) → Next s g t → Leads g t
leads s g t to_title = leads_on _ (λ h. h) (λ f. refl)
leads s g t (to_brace y) = leads_on _ (λ h. h) (λ f. refl)
leads s g t (to_ops y) = leads_on _ (λ h. h) (λ f. refl)
leads s g t (to_name y ps) = leads_on _ (λ h. h) (λ f. refl)
leads s g t (to_closed y o ps) = leads_on _ (λ h. h) (λ f. refl)
leads s g t (to_paren y ps f) = leads_on _ (λ h. h) (λ f. refl)
leads s g t (to_dir y ps f) = leads_on _ (λ h. h) (λ f. refl)
leads s g t (to_kind y ps f qs d) = leads_on _ (λ h. h) (λ f. refl)
leads s g t (to_param y ps f qs d k) = leads_on _ (λ h. h) (λ f. refl)
leads s g t (to_sep y ps f qs d k w) = leads_on _ (λ h. h) (λ f. refl)
leads s g t (to_more y ps f qs) = leads_on _ (λ h. h) (λ f. refl)
leads s g t (to_semi y ps f qs) = leads_on _ (λ h. h) (λ f. refl)
leads s g t (to_next y ps f qs) = leads_on _ (λ h. h) (λ f. refl)
leads s g t (to_ended y ps) = leads_on _ (λ h. h) (λ f. refl)
leads s g t (to_whole y ps) = leads_whole false y ps tt
leads s g t (to_end y ps) = leads_whole true y ps tt

-- what reading says of the signs
abbrev pub Told : List IdlSign → Fed → Type 0
Told ts (Text i) = IsText ts i × IsSound i
Told ts (Fault k kind) = IsFaultAt ts k kind × ((i : Interface) → IsText ts i → IsSound i → ⊥)

reached_next : (p : List IdlSign) (g : IdlSign) (s t : State) → Reached p s → Next s g t → broken s g ≡ None → Reached (p ++ g ∷ []) t
reached_next p g s t r n e = record { path = onward start s t p g r.path n; clean = clean_next s g t n e r.clean }

whole_told : (p : List IdlSign) (b : Bool) (x : List ℕ) (os : List Signature) → Reached p (whole b x os) → Told p (Text (record { name = x; ops = os }))
whole_told p b x os r = (path_text p b x os r.path, clean_sound (record { name = x; ops = os }) r.clean)

on_told : (p gs : List IdlSign) (g : IdlSign) (s t : State) (n : ℕ) → Reached p s → Next s g t → broken s g ≡ None → Closing (g ∷ gs) → Leads g t
    → ((IsFinal g → ⊥) → Reached (p ++ g ∷ []) t → Told ((p ++ g ∷ []) ++ gs) (run (n + 1) t gs)) → Told (p ++ g ∷ gs) (moved t (run (n + 1) t gs))
on_told p gs g s t n r m e c (leads_whole b x os f) rec =
    let nil = closing_end g gs f c in
    subst (λ (hs : List IdlSign). Told (p ++ g ∷ hs) (Text (record { name = x; ops = os }))) (sym nil) (whole_told (p ++ g ∷ []) b x os (reached_next p g s (whole b x os) r m e))
on_told p gs g s t n r m e c (leads_on t' f mid) rec =
    subst (Told (p ++ g ∷ gs)) (sym (mid (run (n + 1) t gs))) (subst (λ (hs : List IdlSign). Told hs (run (n + 1) t gs)) (append_assoc p (g ∷ []) gs) (rec f (reached_next p g s t r m e)))

rule_told : (p gs : List IdlSign) (g : IdlSign) (s t : State) (n : ℕ) (o : Option IdlKind) → Reached p s → n ≡ length p → Next s g t → broken s g ≡ o → Closing (g ∷ gs)
    → ((IsFinal g → ⊥) → Reached (p ++ g ∷ []) t → Told ((p ++ g ∷ []) ++ gs) (run (n + 1) t gs)) → Told (p ++ g ∷ gs) (m.goes (unless o (go t)) n (λ u. run (n + 1) u gs))
rule_told p gs g s t n None r z m e c rec = on_told p gs g s t n r m e c (leads s g t m) rec
rule_told p gs g s t n (Some kind) r z m e c rec =
    (subst (λ (k : ℕ). IsFaultAt (p ++ g ∷ gs) k kind) (sym z) (rule_fault p gs g s t kind r m e), rule_says p gs g s t kind r m e)

step_told : (p gs : List IdlSign) (g : IdlSign) (s : State) (n : ℕ) (o : Option State) → Reached p s → n ≡ length p → step s g ≡ o → Closing (g ∷ gs)
    → ((t : State) → (IsFinal g → ⊥) → Reached (p ++ g ∷ []) t → Told ((p ++ g ∷ []) ++ gs) (run (n + 1) t gs)) → Told (p ++ g ∷ gs) (m.goes (stepped s g o) n (λ u. run (n + 1) u gs))
step_told p gs g s n None r z e c rec =
    (subst (λ (k : ℕ). IsFaultAt (p ++ g ∷ gs) k (refused g)) (sym z) (refused_fault p gs g s r e), λ i t sound. refused_says p gs g s r.path e i t)
step_told p gs g s n (Some t) r z e c rec = rule_told p gs g s t n (broken s g) r z (step_next s g t e) refl c (rec t)

told_from : (p gs : List IdlSign) (s : State) (n : ℕ) → Reached p s → n ≡ length p → Closing gs → Told (p ++ gs) (run n s gs)
told_from p [] s n r z c = absurd c
told_from p (g ∷ gs) s n r z c =
    subst (Told (p ++ g ∷ gs)) (sym (run_cons n s g gs))
    (step_told p gs g s n (step s g) r z refl c (λ t f q. told_from (p ++ g ∷ []) gs t (n + 1) q (omega (arith, length-append p (g ∷ []))) (closing_rest g gs f c)))

pub told : (gs : List IdlSign) → Closing gs → Told gs (run 0 start gs)
told gs c = told_from [] gs start 0 (record { path = here start; clean = tt }) refl c
