-- The gate among entries in order.
use Rattle.std.proofs.Common.{◌≡◌, ℕ, suc, ◌<◌, ◌≤◌, true, false, List, [], ◌∷◌, ◌++◌, length, get_or, drop, drop-cons, Some, None, refl, sym, ap, subst, ◌∙◌, append_assoc}
use Rattle.std.proofs.lemmas.List.{append-nil, drop_all}
use Rattle.gs_entries.specs.Entries.{entry}
use Rattle.gs_entries.specs.Order.{stage_by, later, stage_after, stage_of, may_follow}
use Rattle.gs_entries.specs.declared.entry.Entry.{Entry}
use Rattle.gs_entries.specs.declared.entry.Entry.TheVariants as made
use Rattle.gs_entries.specs.declared.entry.GateNote.{GateNote}
use Rattle.gs_entries.specs.declared.entry.Stage.{Stage}
use Rattle.gs_entries.specs.declared.entry.Stage.TheVariants as stages
use Rattle.gs_entries.proofs.Ordered.{stage_push}
use Rattle.gs_store.specs.Ordered.{AreBehind, AreInOrder, gate_in, HasEnded}
use Rattle.gs_store.proofs.Putting.{is_late, later_late, stays_late}

ended_late : (s : Stage) → HasEnded s → is_late s ≡ true
ended_late stages.Fresh h = absurd h
ended_late stages.Running h = absurd h
ended_late stages.Gated h = refl
ended_late stages.Closed h = refl

late_ended : (s : Stage) → is_late s ≡ true → HasEnded s
late_ended stages.Fresh e = absurd cc
late_ended stages.Running e = absurd cc
late_ended stages.Gated e = tt
late_ended stages.Closed e = tt

-- an entry in order that is no gate doesn't lead past the running of a run
early_step : (s : Stage) (es : List Entry) (e : Entry) → gate_in (e ∷ []) ≡ None
    → may_follow s es e ≡ true → is_late s ≡ false
    → is_late (later s (stage_by e)) ≡ false
early_step stages.Fresh es (made.Header t) none may early = refl
early_step stages.Fresh es (made.Done n op os) none may early = absurd cc
early_step stages.Fresh es made.Closed none may early = absurd cc
early_step stages.Running es (made.Header t) none may early = absurd cc
early_step stages.Running es (made.Done n op os) none may early = refl
early_step stages.Running es made.Closed none may early = absurd cc
early_step stages.Gated es e none may early = absurd cc
early_step stages.Closed es e none may early = absurd cc
early_step s es (made.Gate g) none may early = absurd cc

-- without a gate the main program hasn't ended
none_in : (e : Entry) (es : List Entry) → gate_in (e ∷ es) ≡ None
    → (gate_in (e ∷ []) ≡ None) × (gate_in es ≡ None)
none_in (made.Header t) es none = (refl, none)
none_in (made.Done n op os) es none = (refl, none)
none_in (made.Gate g) es none = absurd cc
none_in made.Closed es none = (refl, none)

early : (before es : List Entry) → AreBehind before es → gate_in es ≡ None
    → is_late (stage_of before) ≡ false → is_late (stage_of (before ++ es)) ≡ false
early before [] h none so = ap (λ (l : List Entry). is_late (stage_of l)) (append-nil before)
    ∙ so
early before (e ∷ es) h none so =
    let parts = none_in e es none in
    let step = ap is_late (stage_push stages.Fresh before e)
    ∙ early_step (stage_of before) before e parts.0 h.1 so in
    sym (ap (λ (l : List Entry). is_late (stage_of l)) (append_assoc before (e ∷ []) es))
    ∙ early (before ++ e ∷ []) es h.2 parts.1 step

pub not_ended : (es : List Entry) → AreInOrder es → gate_in es ≡ None
    → HasEnded (stage_of es) → ⊥
not_ended es order none ended =
    let no = early [] es order none refl in
    let yes = ended_late (stage_of es) ended in absurd cc

gate_late : (s : Stage) (es : List Entry) (g : GateNote) → gate_in es ≡ Some g
    → is_late (stage_after s es) ≡ true
gate_late s [] g is = absurd cc
gate_late s (made.Header t ∷ es) g is = gate_late (later s stages.Running) es g is
gate_late s (made.Done n op os ∷ es) g is = gate_late (later s stages.Running) es g is
gate_late s (made.Gate h ∷ es) g is =
    stays_late (later s stages.Gated) es (later_late s stages.Gated refl)
gate_late s (made.Closed ∷ es) g is = gate_late (later s stages.Closed) es g is

pub has_ended : (es : List Entry) (g : GateNote) → gate_in es ≡ Some g
    → HasEnded (stage_of es)
has_ended es g is = late_ended (stage_of es) (gate_late stages.Fresh es g is)

gate_fits_behind : (before es : List Entry) (g : GateNote) → AreBehind before es
    → gate_in es ≡ Some g → entry.fits (made.Gate g) ≡ true
gate_fits_behind before [] g h is = absurd cc
gate_fits_behind before (made.Header t ∷ es) g h is =
    gate_fits_behind (before ++ made.Header t ∷ []) es g h.2 is
gate_fits_behind before (made.Done n op os ∷ es) g h is =
    gate_fits_behind (before ++ made.Done n op os ∷ []) es g h.2 is
gate_fits_behind before (made.Gate f ∷ es) g h is =
    let same : f ≡ g = cc in subst (λ (k : GateNote). entry.fits (made.Gate k) ≡ true) same h.0
gate_fits_behind before (made.Closed ∷ es) g h is =
    gate_fits_behind (before ++ made.Closed ∷ []) es g h.2 is

pub gate_fits : (es : List Entry) (g : GateNote) → AreInOrder es → gate_in es ≡ Some g
    → entry.fits (made.Gate g) ≡ true
gate_fits es g order is = gate_fits_behind [] es g order is

-- ---- looking for it

pub gate_here : (list es : List Entry) (i : ℕ) (e : Entry) (g : GateNote) → list ≡ es
    → i < length list → e ≡ get_or list i e → e ≡ made.Gate g
    → gate_in (drop i es) ≡ gate_in es → gate_in es ≡ Some g
gate_here list es i e g same lt item is so_far =
    sym so_far ∙ ap (λ (l : List Entry). gate_in (drop i l)) (sym same)
    ∙ ap gate_in (drop-cons list i e lt
    ∙ ap (λ (x : Entry). x ∷ drop (suc i) list) (sym item ∙ is))

pub none_left : (list es : List Entry) (i : ℕ) → list ≡ es → length list ≤ i
    → gate_in (drop i es) ≡ gate_in es → gate_in es ≡ None
none_left list es i same le so_far =
    sym so_far ∙ ap (λ (l : List Entry). gate_in (drop i l)) (sym same)
    ∙ ap gate_in (drop_all i list le)

-- what a store's own list says of its entries
pub own_order : (list es : List Entry) → list ≡ es → AreInOrder list → AreInOrder es
own_order list es same order = subst AreInOrder same order
