-- A record behind its gate.
use Rattle.std.proofs.Common.{◌≡◌, List, [], ◌∷◌, ◌++◌, Option, Some, None, Result, refl, sym, ap, subst, ◌∙◌}
use Rattle.std.specs.Prelude.{IfErr}
use Rattle.gs_disk.specs.Folder.{Folder}
use Rattle.gs_entries.specs.Order.{stage_of}
use Rattle.gs_entries.specs.declared.entry.Entry.{Entry}
use Rattle.gs_entries.specs.declared.entry.Entry.TheVariants as made
use Rattle.gs_entries.specs.declared.entry.GateNote.{GateNote}
use Rattle.gs_entries.specs.declared.entry.Stage.{Stage}
use Rattle.gs_entries.specs.declared.entry.Stage.TheVariants as stages
use Rattle.gs_store.specs.Ordered.{gate_in, HasEnded}
use Rattle.gs_store.specs.State.{StoreState, with_entry}
use Rattle.gs_store.specs.Versions.{AllStand, finals_kept}
use Rattle.gs_store.proofs.Gating.{has_ended}
use Rattle.gs_back.specs.Finals.{Final, finals_of, finals_at, finals_in}
use Rattle.gs_life.proofs.Images.{stage_after}
use Rattle.gs_finish.specs.declared.halt.Halt.{Halt}
use Rattle.gs_finish.specs.Finishing.{LacksFinal, IsNotLost}
use Rattle.gs_engine.proofs.SealingFinals.{never_lacks_final}

-- ---- its stage

stage_gated : (store store_new : StoreState) (g : GateNote)
    → stage_of store.entries ≡ stages.Running → store_new ≡ with_entry store (made.Gate g)
    → stage_of store_new.entries ≡ stages.Gated
stage_gated store store_new g running is =
    ap (λ (st : StoreState). stage_of st.entries) is
    ∙ stage_after store.entries (made.Gate g) stages.Running running

pub has_gated : (store store_new : StoreState) (g : GateNote)
    → stage_of store.entries ≡ stages.Running → store_new ≡ with_entry store (made.Gate g)
    → HasEnded (stage_of store_new.entries)
has_gated store store_new g running is =
    subst HasEnded (sym (stage_gated store store_new g running is)) tt

-- ---- its finals

open_still : (s : Stage) → s ≡ stages.Running → HasEnded s → ⊥
open_still stages.Fresh is ended = ended
open_still stages.Running is ended = ended
open_still stages.Gated is ended = absurd cc
open_still stages.Closed is ended = absurd cc

no_gate : (es : List Entry) (o : Option GateNote) → (HasEnded (stage_of es) → ⊥) → gate_in es ≡ o
    → gate_in es ≡ None
no_gate es None goes is = is
no_gate es (Some g) goes is = absurd (goes (has_ended es g is))

gate_push : (es : List Entry) (g : GateNote) → gate_in es ≡ None
    → gate_in (es ++ made.Gate g ∷ []) ≡ Some g
gate_push [] g none = refl
gate_push (made.Header t ∷ es) g none = gate_push es g none
gate_push (made.Done n op os ∷ es) g none = gate_push es g none
gate_push (made.Gate x ∷ es) g none = absurd cc
gate_push (made.Closed ∷ es) g none = gate_push es g none

finals_gated : (store store_new : StoreState) (g : GateNote)
    → stage_of store.entries ≡ stages.Running → store_new ≡ with_entry store (made.Gate g)
    → finals_of store_new.entries ≡ finals_in g.names g.finals
finals_gated store store_new g running is =
    ap (λ (st : StoreState). finals_of st.entries) is
    ∙ ap finals_at (gate_push store.entries g (no_gate store.entries (gate_in store.entries)
    (open_still (stage_of store.entries) running) refl))

-- where they stand none is lost
pub finish_never : {T : Type 0} (store store_new : StoreState) (g : GateNote) (folder : Folder)
    (r : Result T Halt) → stage_of store.entries ≡ stages.Running
    → store_new ≡ with_entry store (made.Gate g) → AllStand folder (finals_kept g.finals)
    → IfErr r (LacksFinal folder (finals_of store_new.entries)) → IfErr r IsNotLost
finish_never store store_new g folder r running is all refused =
    never_lacks_final folder g.names g.finals r all
    (subst (λ (fs : List Final). IfErr r (LacksFinal folder fs))
    (finals_gated store store_new g running is) refused)
