-- The entries of a store, from the first on.
use Rattle.std.proofs.Common.{◌≡◌, ℕ, zero, suc, ◌+◌, List, [], ◌∷◌, drop, Some, None, refl, sym, ap, ◌∙◌, add-one}
use Rattle.std.specs.Prelude.{slice_get}
use Rattle.gs_entries.specs.Order.{stage_of}
use Rattle.gs_entries.specs.declared.entry.Entry.{Entry}
use Rattle.gs_entries.specs.declared.entry.Entry.TheVariants as made
use Rattle.gs_entries.specs.declared.entry.GateNote.{GateNote}
use Rattle.gs_entries.specs.declared.entry.Texts.{Texts}
use Rattle.gs_store.specs.Ordered.{AreInOrder, gate_in, HasEnded}

-- a run that has ended has a first entry
pub some_first : (es : List Entry) → HasEnded (stage_of es) → None ≡ slice_get es 0 → ⊥
some_first [] ended none = ended
some_first (e ∷ es) ended none = absurd cc

-- and that is a header
pub first_header : (es : List Entry) (e : Entry) → AreInOrder es → Some e ≡ slice_get es 0
    → ((t : Texts) → e ≡ made.Header t → ⊥) → ⊥
first_header [] e order there other = absurd cc
first_header (made.Header t ∷ es) e order there other =
    other t (let same : e ≡ made.Header t = cc in same)
first_header (made.Done n op os ∷ es) e order there other = let no = order.1 in absurd cc
first_header (made.Gate g ∷ es) e order there other = let no = order.1 in absurd cc
first_header (made.Closed ∷ es) e order there other = let no = order.1 in absurd cc

-- ---- the gate

from_there : (es : List Entry) (i : ℕ) (e : Entry) → Some e ≡ slice_get es i
    → drop i es ≡ e ∷ drop (suc i) es
from_there [] i e there = absurd cc
from_there (f ∷ es) zero e there =
    let same : f ≡ e = cc in ap (λ (x : Entry). x ∷ es) same
from_there (f ∷ es) (suc i) e there = from_there es i e there

none_there : (es : List Entry) (i : ℕ) → None ≡ slice_get es i → drop i es ≡ []
none_there [] zero none = refl
none_there [] (suc i) none = refl
none_there (e ∷ es) zero none = absurd cc
none_there (e ∷ es) (suc i) none = none_there es i none

passed_by : (e : Entry) (es : List Entry) → ((g : GateNote) → e ≡ made.Gate g → ⊥)
    → gate_in (e ∷ es) ≡ gate_in es
passed_by (made.Header t) es other = refl
passed_by (made.Done n op os) es other = refl
passed_by (made.Gate g) es other = absurd (other g refl)
passed_by made.Closed es other = refl

-- one entry more that is no gate
pub gate_behind : (es : List Entry) (i : ℕ) (e : Entry) → Some e ≡ slice_get es i
    → ((g : GateNote) → e ≡ made.Gate g → ⊥) → gate_in (drop i es) ≡ gate_in es
    → gate_in (drop (i + 1) es) ≡ gate_in es
gate_behind es i e there other so_far =
    ap (λ (n : ℕ). gate_in (drop n es)) (add-one i) ∙ sym (passed_by e (drop (suc i) es) other)
    ∙ ap gate_in (sym (from_there es i e there)) ∙ so_far

-- the gate is here
pub gate_found : (es : List Entry) (i : ℕ) (e : Entry) (h g : GateNote) → Some e ≡ slice_get es i
    → e ≡ made.Gate h → gate_in (drop i es) ≡ gate_in es → gate_in es ≡ Some g
    → slice_get es i ≡ Some (made.Gate g)
gate_found es i e h g there is so_far gate =
    let here : drop i es ≡ made.Gate h ∷ drop (suc i) es
    = from_there es i e there ∙ ap (λ (x : Entry). x ∷ drop (suc i) es) is in
    let both : Some h ≡ Some g = sym (ap gate_in here) ∙ so_far ∙ gate in
    let same : h ≡ g = cc in
    sym there ∙ ap Some is ∙ ap (λ (x : GateNote). Some (made.Gate x)) same

-- there is none
pub gate_missed : (es : List Entry) (i : ℕ) (g : GateNote) → None ≡ slice_get es i
    → gate_in (drop i es) ≡ gate_in es → gate_in es ≡ Some g
    → slice_get es i ≡ Some (made.Gate g)
gate_missed es i g none so_far gate =
    let both : None ≡ Some g = sym (ap gate_in (none_there es i none)) ∙ so_far ∙ gate in absurd cc
