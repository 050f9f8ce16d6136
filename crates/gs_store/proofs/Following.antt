-- Which entry may follow, and that a store past its beginning has a log.
use Rattle.std.proofs.Common.{◌≡◌, ℕ, Bool, true, false, not, List, Option, Some, None, refl, ap, sym, subst, ◌∙◌}
use Rattle.std.specs.Prelude.{is_some}
use Rattle.gs_types.specs.declared.note.OutNote.{OutNote}
use Rattle.gs_entries.specs.Entries.{entry}
use Rattle.gs_entries.specs.Order.{stage_of, has_done, may_follow, follows}
use Rattle.gs_entries.specs.declared.entry.Entry.{Entry}
use Rattle.gs_entries.specs.declared.entry.Entry.TheVariants as made
use Rattle.gs_entries.specs.declared.entry.GateNote.{GateNote}
use Rattle.gs_entries.specs.declared.entry.Stage.{Stage}
use Rattle.gs_entries.specs.declared.entry.Stage.TheVariants as stages
use Rattle.gs_store.specs.State.{StoreState, IsLogOf}

pub done_follows : (es : List Entry) (n op : ℕ) (os : List OutNote)
    → stage_of es ≡ stages.Running → has_done es n ≡ false
    → follows es (made.Done n op os) ≡ true
done_follows es n op os run fresh = ap (λ (s : Stage). may_follow s es (made.Done n op os)) run
    ∙ ap not fresh

pub gate_follows : (es : List Entry) (g : GateNote) → stage_of es ≡ stages.Running
    → follows es (made.Gate g) ≡ true
gate_follows es g run = ap (λ (s : Stage). may_follow s es (made.Gate g)) run

pub closed_follows : (es : List Entry) → stage_of es ≡ stages.Gated
    → follows es made.Closed ≡ true
closed_follows es gated = ap (λ (s : Stage). may_follow s es made.Closed) gated

pub closed_fits : entry.fits made.Closed ≡ true
unfolding entry
closed_fits = refl

abbrev pub is_begun : Stage → Bool
is_begun stages.Fresh = false
is_begun stages.Running = true
is_begun stages.Gated = true
is_begun stages.Closed = true

has_log : (store : StoreState) (o : Option (List (List ℕ))) (s : Stage)
    → IsLogOf o store.entries → is_some o ≡ store.marked → stage_of store.entries ≡ s
    → is_begun s ≡ true → store.marked ≡ true
has_log store None s none is at begun =
    let e : s ≡ stages.Fresh = sym at ∙ ap stage_of none in
    let no : is_begun s ≡ false = ap is_begun e in absurd cc
has_log store (Some list) s of is at begun = sym is

-- a store at a stage past its beginning, seen from inside
pub is_marked : (store : StoreState) (o : Option (List (List ℕ))) (es : List Entry) (s : Stage)
    → IsLogOf o es → record { marked = is_some o; entries = es } ≡ store
    → stage_of store.entries ≡ s → is_begun s ≡ true → store.marked ≡ true
is_marked store o es s of view at begun =
    has_log store o s
    (subst (λ (l : List Entry). IsLogOf o l) (ap (λ (t : StoreState). t.entries) view) of)
    (ap (λ (t : StoreState). t.marked) view) at begun
