-- A run that ends, step by step.
use Rattle.std.proofs.Common.{◌≡◌, List, Result, Ok, Err, sym, subst}
use Rattle.std.specs.Prelude.{OnOk}
use Rattle.gs_disk.specs.Folder.{Folder, DiskState, Same}
use Rattle.gs_disk.specs.Moments.{EachNow, Passes, Always}
use Rattle.gs_disk.specs.Going.{always_then, always_same, always_started}
use Rattle.gs_entries.specs.Order.{stage_of}
use Rattle.gs_entries.specs.declared.entry.Entry.{Entry}
use Rattle.gs_entries.specs.declared.entry.Entry.TheVariants as made
use Rattle.gs_entries.specs.declared.entry.GateNote.{GateNote}
use Rattle.gs_store.specs.State.{StoreState, with_entry}
use Rattle.gs_life.specs.Origin.{Origin}
use Rattle.gs_life.specs.Called.{StandsFor, Stood, Closes}
use Rattle.gs_life.specs.Stands.{IsGateOf, IsGated, Stands, StandsClosed, StandsAt}
use Rattle.gs_life.proofs.Calls.{each_stands, for_gated}
use Rattle.gs_finish.specs.declared.halt.Halt.{Halt}
use Rattle.gs_engine.proofs.Standing.{steady_same}
use Rattle.gs_engine.proofs.BeginningWords.{done, halt}

-- ---- nothing is recorded yet

-- nothing was done
pub nothing_sealed : {T : Type 0} (o : Origin) (es : List Entry) (a : DiskState) (e : Halt)
    → StandsFor o es a → Closes {T = T} o a a (Err e)
nothing_sealed o es a e for =
    record { always = always_started (Stands o) a (each_stands o es a for); closed = tt }

-- files were looked at
same_always : (o : Origin) (es : List Entry) (a b : DiskState) → Passes Same a b
    → StandsFor o es a → Always (Stands o) a b
same_always o es a b passes for =
    always_same (Stands o) a a b (always_started (Stands o) a (each_stands o es a for)) passes

for_same : (o : Origin) (es : List Entry) (a b : DiskState) → b.folder ≡ a.folder
    → Passes Same a b → StandsFor o es a → StandsFor o es b
for_same o es a b same passes for = record {
  rules = for.rules;
  steady = steady_same es a b same passes for.steady;
  stands = subst (λ (f : Folder). StandsAt o f es (stage_of es)) (sym same) for.stands;
}

-- ---- the gate

-- what recording the gate does
abbrev pub Gates : StoreState → GateNote → DiskState → DiskState → Result (Unit {0}) Halt → Type 0
Gates store g a b r = (o : Origin) → StandsFor o store.entries a → IsGateOf o a.folder g
    → Stood o (with_entry store (made.Gate g)).entries
    (λ f. IsGated o f (with_entry store (made.Gate g)).entries) a b r

-- a file was lost
pub looked_gates : (store : StoreState) (g : GateNote) (a b : DiskState) (e : Halt)
    → Passes Same a b → Gates store g a b (halt e)
looked_gates store g a b e passes o for gate =
    record { always = same_always o store.entries a b passes for; steady = tt; holds = tt }

-- none was, and then the gate was recorded
pub then_gates : (store : StoreState) (g : GateNote) (a b d : DiskState)
    (r : Result (Unit {0}) Halt) → b.folder ≡ a.folder → Passes Same a b → Gates store g b d r
    → Gates store g a d r
then_gates store g a b d r same passes gates o for gate =
    let s = gates o (for_same o store.entries a b same passes for)
    (subst (λ (f : Folder). IsGateOf o f g) (sym same) gate) in
    record {
      always = always_then (Stands o) a b d (same_always o store.entries a b passes for) s.always;
      steady = s.steady;
      holds = s.holds;
    }

-- it wasn't recorded
pub gate_sealed : {T : Type 0} (o : Origin) (store : StoreState) (g : GateNote)
    (a b : DiskState) (r : Result (Unit {0}) Halt) (e : Halt) → Gates store g a b r
    → StandsFor o store.entries a → IsGateOf o a.folder g → Closes {T = T} o a b (Err e)
gate_sealed o store g a b r e gates for gate =
    record { always = (gates o for gate).always; closed = tt }

-- ---- the end

closed_over : {T : Type 0} (o : Origin) (es : List Entry) (b d : DiskState) (r : Result T Halt)
    → StandsFor o es b
    → OnOk r ((o : Origin) → StandsFor o es b → EachNow (StandsClosed o) d)
    → OnOk r (EachNow (StandsClosed o) d)
closed_over o es b d (Ok x) for closed = closed o for
closed_over o es b d (Err e) for closed = tt

-- results were brought back, or that stopped
pub all_sealed : {T : Type 0} (o : Origin) (store store_new : StoreState) (g : GateNote)
    (a b d : DiskState) (r : Result T Halt) → store_new ≡ with_entry store (made.Gate g)
    → Gates store g a b done
    → ((o : Origin) → StandsFor o store_new.entries b → Always (Stands o) b d)
    → OnOk r ((o : Origin) → StandsFor o store_new.entries b → EachNow (StandsClosed o) d)
    → StandsFor o store.entries a → IsGateOf o a.folder g → Closes o a d r
all_sealed o store store_new g a b d r is gates stands closed for gate =
    let s = gates o for gate in
    let mine : StandsFor o store_new.entries b =
    subst (λ (st : StoreState). StandsFor o st.entries b) (sym is)
    (for_gated o (with_entry store (made.Gate g)).entries b for.rules s.steady s.holds) in
    record {
      always = always_then (Stands o) a b d s.always (stands o mine);
      closed = closed_over o store_new.entries b d r mine closed;
    }
