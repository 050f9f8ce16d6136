-- What an image stands for once the program has ended.
use Rattle.std.proofs.Common.{◌≡◌, ℕ, zero, suc, ◌<◌, true, List, [], ◌∷◌, ◌++◌, length, Option, Some, None, refl, ap, subst, ◌∙◌, inl, inr}
use Rattle.std.specs.Prelude.{All, ◌^◌, option_map, slice_index_or}
use Rattle.std.proofs.Math.Nat.{not-suc-le-zero, le_of_suc-le-suc}
use Rattle.std.proofs.lemmas.Bool.{ltb-true}
use Rattle.gs_types.specs.declared.note.Version.{Version}
use Rattle.gs_types.specs.declared.note.Version.TheVariants.{Original, Out, Main}
use Rattle.gs_types.specs.declared.note.FinalNote.{FinalNote}
use Rattle.gs_idl.specs.Interface.{KeepRules}
use Rattle.gs_disk.specs.Folder.{Folder, Outside}
use Rattle.gs_disk.specs.Name.{IsUser}
use Rattle.gs_fields.specs.Format.{byte, four, pair, all_fit}
use Rattle.gs_entries.specs.Notes as notes
use Rattle.gs_entries.specs.Gate as gates
use Rattle.gs_entries.specs.Entries.{entry}
use Rattle.gs_entries.specs.Order.{follows, stage_of}
use Rattle.gs_entries.specs.declared.entry.Entry.{Entry}
use Rattle.gs_entries.specs.declared.entry.Entry.TheVariants as made
use Rattle.gs_entries.specs.declared.entry.GateNote.{GateNote}
use Rattle.gs_entries.specs.declared.entry.Stage.{Stage}
use Rattle.gs_entries.specs.declared.entry.Stage.TheVariants as stages
use Rattle.gs_entries.proofs.Loop.{both}
use Rattle.gs_store.specs.Names.{IsKept}
use Rattle.gs_store.specs.Keeps.{Keeps}
use Rattle.gs_store.specs.Ordered.{gate_in, HasEnded}
use Rattle.gs_store.specs.Versions.{finals_kept, Among, Named}
use Rattle.gs_store.proofs.Gating.{gate_fits, has_ended}
use Rattle.gs_back.specs.Finals.{names_of, finals_in}
use Rattle.gs_talk.specs.Seq.{Known}
use Rattle.gs_history.specs.Setup.{Setup}
use Rattle.gs_life.specs.Origin.{Origin}
use Rattle.gs_life.specs.Standing.{as_in_but}
use Rattle.gs_life.specs.Stands.{IsHeld, IsGateOf, IsRunning, IsGated, IsClosed}
use Rattle.gs_life.proofs.Images.{SameNamed, are_kept, are_pushed, stage_after}

-- ---- what the finals name

final_among : (fs : List FinalNote) (k : ℕ) (d : FinalNote) → k < length fs
    → Among (slice_index_or fs k d).version (finals_kept fs)
final_among [] k d lt = absurd (not-suc-le-zero lt)
final_among (f ∷ fs) zero d lt = inl refl
final_among (f ∷ fs) (suc k) d lt = inr (final_among fs k d (le_of_suc-le-suc lt))

gate_named : (es : List Entry) (g : GateNote) (v : Version) → gate_in es ≡ Some g
    → Among v (finals_kept g.finals) → Named v es
gate_named [] g v is among = absurd cc
gate_named (made.Header t ∷ es) g v is among = inr (gate_named es g v is among)
gate_named (made.Done n op os ∷ es) g v is among = inr (gate_named es g v is among)
gate_named (made.Gate x ∷ es) g v is among =
    let same : g ≡ x = cc in
    inl (subst (λ (y : GateNote). Among v (finals_kept y.finals)) same among)
gate_named (made.Closed ∷ es) g v is among = inr (gate_named es g v is among)

version_kept : (v : Version) → notes.version.fits v ≡ true → IsKept v
version_kept (Original x) fits = absurd cc
version_kept (Out n place) fits =
    let parts = both (notes.task.fits n) (notes.place.fits place) fits in
    let number = both (four.fits n) (notes.within 1 10000 n) parts.0 in
    let at = both (byte.fits place) (notes.within 1 16 place) parts.1 in
    (ltb-true n (2 ^ 32) number.0, ltb-true place 256 at.0)
version_kept (Main k) fits =
    let number = both (four.fits k) (notes.within 1 50000 k) fits in ltb-true k (2 ^ 32) number.0

final_kept : (f : FinalNote) → notes.final.fits f ≡ true → IsKept f.version
final_kept f fits =
    let parts = both (four.fits f.name) ((pair notes.version notes.file_len).fits (f.version, f.len))
    fits in
    let more = both (notes.version.fits f.version) (notes.file_len.fits f.len) parts.1 in
    version_kept f.version more.0

finals_kept_by : (fs : List FinalNote) (k : ℕ) (d : FinalNote) → all_fit notes.final fs ≡ true
    → k < length fs → IsKept (slice_index_or fs k d).version
finals_kept_by [] k d fit lt = absurd (not-suc-le-zero lt)
finals_kept_by (f ∷ fs) zero d fit lt =
    final_kept f (both (notes.final.fits f) (all_fit notes.final fs) fit).0
finals_kept_by (f ∷ fs) (suc k) d fit lt =
    finals_kept_by fs k d (both (notes.final.fits f) (all_fit notes.final fs) fit).1
    (le_of_suc-le-suc lt)

gate_finals : (g : GateNote) → entry.fits (made.Gate g) ≡ true → all_fit notes.final g.finals ≡ true
unfolding entry
gate_finals g fits =
    let parts = both (gates.gate_fields.fits g) (gates.gate_ok g) fits in
    let names = both (gates.names.fits g.names)
    ((pair gates.finals (pair gates.printed (pair gates.vars gates.actions))).fits
    (g.finals, (g.text, (g.vars, g.actions)))) parts.0 in
    let finals = both (gates.finals.fits g.finals)
    ((pair gates.printed (pair gates.vars gates.actions)).fits (g.text, (g.vars, g.actions)))
    names.1 in
    (both ((notes.up_to 20000 four).fits (length g.finals)) (all_fit notes.final g.finals)
    finals.0).1

-- ---- what is named and the same, is as it was

pub held_kept : (es : List Entry) (g : GateNote) (s : Setup) (n : ℕ) (f h : Folder)
    → entry.fits (made.Gate g) ≡ true → gate_in es ≡ Some g → SameNamed es f h
    → All (IsHeld s n f) g.finals → All (IsHeld s n h) g.finals
held_kept es g s n f h fits noted same held k d lt bytes is =
    same (slice_index_or g.finals k d).version
    (finals_kept_by g.finals k d (gate_finals g fits) lt)
    (gate_named es g (slice_index_or g.finals k d).version noted (final_among g.finals k d lt))
    ∙ held k d lt bytes is

abbrev pub gate_kept : (o : Origin) (es : List Entry) (g : GateNote) (f h : Folder)
    → entry.fits (made.Gate g) ≡ true → gate_in es ≡ Some g → SameNamed es f h
    → IsGateOf o f g → IsGateOf o h g
gate_kept o es g f h fits noted same gate = record {
  setup = gate.setup;
  run_is = gate.run_is;
  questions = gate.questions;
  ends = gate.ends;
  says = gate.says;
  held = held_kept es g gate.setup gate.questions f h fits noted same gate.held;
}

abbrev pub gated_kept : (o : Origin) → KeepRules o.given.ops → (es : List Entry) (f h : Folder)
    → (r : IsGated o f es) → SameNamed es f h
    → ((x : List ℕ) → IsUser x → Outside (names_of (finals_in r.note.names r.note.finals)) x
    → h x ≡ f x) → IsGated o h es
gated_kept o rules es f h r same users = record {
  stage = r.stage;
  are = are_kept o rules es f h same r.are;
  note = r.note;
  noted = r.noted;
  gate = gate_kept o es r.note f h (gate_fits es r.note r.are.in_order r.noted) r.noted same r.gate;
  users = λ x user out. users x user out ∙ r.users x user out;
}

-- the finals' names of what the program left
abbrev pub final_names : GateNote → List (List ℕ)
final_names g = names_of (finals_in g.names g.finals)

abbrev pub gated_image : (o : Origin) → KeepRules o.given.ops → (es : List Entry) (f image : Folder)
    → (r : IsGated o f es) → Keeps (as_in_but (final_names r.note) f) es image
    → IsGated o image es
gated_image o rules es f image r k =
    gated_kept o rules es f image r k.versions (λ x user out. k.user_files x user out)

pub closed_kept : (o : Origin) → KeepRules o.given.ops → (es : List Entry) (f h : Folder)
    → (r : IsClosed o f es) → SameNamed es f h → ((x : List ℕ) → IsUser x → h x ≡ f x)
    → IsClosed o h es
closed_kept o rules es f h r same users = record {
  stage = r.stage;
  are = are_kept o rules es f h same r.are;
  note = r.note;
  noted = r.noted;
  gate = gate_kept o es r.note f h (gate_fits es r.note r.are.in_order r.noted) r.noted same r.gate;
  left = λ x user. ap (option_map Known) (users x user) ∙ r.left x user;
}

-- ---- one entry more

no_gate : (es : List Entry) (o : Option GateNote) → (HasEnded (stage_of es) → ⊥) → gate_in es ≡ o
    → gate_in es ≡ None
no_gate es None goes is = is
no_gate es (Some g) goes is = absurd (goes (has_ended es g is))

gate_push : (es : List Entry) (g : GateNote) → gate_in es ≡ None
    → gate_in (es ++ made.Gate g ∷ []) ≡ Some g
gate_push [] g none = refl
gate_push (made.Header t ∷ es) g none = gate_push es g none
gate_push (made.Done n op os ∷ es) g none = gate_push es g none
gate_push (made.Gate x ∷ es) g none = absurd cc
gate_push (made.Closed ∷ es) g none = gate_push es g none

pub gate_stays : (es : List Entry) (e : Entry) (g : GateNote) → gate_in es ≡ Some g
    → gate_in (es ++ e ∷ []) ≡ Some g
gate_stays [] e g is = absurd cc
gate_stays (made.Header t ∷ es) e g is = gate_stays es e g is
gate_stays (made.Done n op os ∷ es) e g is = gate_stays es e g is
gate_stays (made.Gate x ∷ es) e g is = is
gate_stays (made.Closed ∷ es) e g is = gate_stays es e g is

running_open : (s : Stage) → s ≡ stages.Running → HasEnded s → ⊥
running_open stages.Fresh is ended = ended
running_open stages.Running is ended = ended
running_open stages.Gated is ended = absurd cc
running_open stages.Closed is ended = absurd cc

-- the gate is recorded
pub gated_pushed : (o : Origin) (es : List Entry) (g : GateNote) (f : Folder)
    → entry.fits (made.Gate g) ≡ true → follows es (made.Gate g) ≡ true → IsGateOf o f g
    → IsRunning o f es → IsGated o f (es ++ made.Gate g ∷ [])
gated_pushed o es g f fits may gate r = record {
  stage = stage_after es (made.Gate g) stages.Running r.stage;
  are = are_pushed o es (made.Gate g) f fits may tt r.are;
  note = g;
  noted = gate_push es g (no_gate es (gate_in es) (running_open (stage_of es) r.stage) refl);
  gate = gate;
  users = λ x user out. r.users x user;
}
