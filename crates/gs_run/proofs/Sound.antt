-- A folder that stands has a store that may be used: each version that its entries name is there.
use Rattle.std.proofs.Common.{◌≡◌, ℕ, zero, suc, ◌<◌, ◌==◌, Bool, true, false, ◌&&◌, List, [], ◌∷◌, ◌++◌, length, Option, Some, None, refl, sym, ◌∙◌, ap, subst, arith}
use Rattle.std.proofs.lemmas.Bool.{ltb-true}
use Rattle.std.specs.Prelude.{All, option_map, is_some, if◌then◌else◌, nat_lt}
use Rattle.gs_types.specs.declared.note.Note.{Note}
use Rattle.gs_types.specs.declared.note.Note.TheVariants as note
use Rattle.gs_types.specs.declared.note.OutNote.{OutNote}
use Rattle.gs_types.specs.declared.note.Version.TheVariants.{Out}
use Rattle.gs_types.specs.declared.value.Value.{Value}
use Rattle.gs_types.specs.declared.value.Value.TheVariants as value
use Rattle.gs_idl.specs.Interface.{KeepRules}
use Rattle.gs_disk.specs.Folder.{Folder}
use Rattle.gs_log.specs.Names.{mark_name}
use Rattle.gs_fields.specs.Format.{byte, pair, counted}
use Rattle.gs_entries.specs.Entries.{entry}
use Rattle.gs_entries.specs.Notes as notes
use Rattle.gs_entries.specs.Order.{later, stage_after, stage_by, stage_of, may_follow}
use Rattle.gs_entries.specs.declared.entry.Entry.{Entry}
use Rattle.gs_entries.specs.declared.entry.Entry.TheVariants as made
use Rattle.gs_entries.specs.declared.entry.GateNote.{GateNote}
use Rattle.gs_entries.specs.declared.entry.Stage.{Stage}
use Rattle.gs_entries.specs.declared.entry.Stage.TheVariants as stages
use Rattle.gs_entries.proofs.Ordered.{stage_push}
use Rattle.gs_store.specs.Keeps.{HasEntries}
use Rattle.gs_store.specs.Loading.{IsStoreOf}
use Rattle.gs_store.specs.Ordered.{AreBehind, AreInOrder, gate_in, HasEnded}
use Rattle.gs_store.specs.Versions.{Kept, kept_at, len_of, AllStand, outs_kept, finals_kept, kept_by, kept_in}
use Rattle.gs_verbs.specs.Finding.{IsBad}
use Rattle.gs_verbs.specs.declared.stops.BadStore.{BadStore}
use Rattle.gs_verbs.proofs.Stores.{has_no_bad}
use Rattle.gs_talk.specs.Talk.{Given}
use Rattle.gs_talk.specs.Seq.{seq, output_of}
use Rattle.gs_talk_laws.specs.Versions.{writings}
use Rattle.gs_talk_laws.proofs.Stays.{tasks_read_versions}
use Rattle.gs_history.specs.Notes.{note_of}
use Rattle.gs_tables.specs.Gate.{written_names}
use Rattle.gs_tables.specs.Outs.{outs_noted, noted_at}
use Rattle.gs_tables.proofs.Giving.{task_notes}
use Rattle.gs_engine.proofs.SealingFinals.{held_stand}
use Rattle.gs_life.specs.Origin.{Origin, run_of}
use Rattle.gs_life.specs.Stands.{IsDone, IsRight, IsGateOf, Stands, Fresh, Running, Gated, Closed}
use Rattle.gs_life.proofs.Loading.{in_order_read}
use Rattle.gs_run.specs.Course.{IsRunOf}

-- ---- what a task gave

file_of : (v : Value) (len : ℕ) → note_of v ≡ note.File len
    → (bytes : List ℕ) × (v ≡ value.File bytes) × (length bytes ≡ len)
file_of (value.File bytes) len is = (bytes, refl, let same : length bytes ≡ len = cc in same)
file_of (value.Int v) len is = absurd cc
file_of (value.Str s) len is = absurd cc

value_by : (o : Option Value) (n : Note) → option_map note_of o ≡ Some n
    → (v : Value) × (o ≡ Some v) × (note_of v ≡ n)
value_by (Some v) n is = (v, refl, let same : note_of v ≡ n = cc in same)
value_by None n is = absurd cc

-- a file that is noted stands with its length
noted_stands : (o : Origin) → KeepRules o.given.ops → (f : Folder) (n op : ℕ) (os : List OutNote)
    → IsDone o f n op os → (place len : ℕ) → 0 < place → noted_at os place ≡ Some (note.File len)
    → len_of f (Out n place) ≡ Some len
noted_stands o rules f n op os d zero len above noted = absurd (omega (arith, above))
noted_stands o rules f n op os d (suc j) len above noted =
    let t = d.task in
    let out = d.output in
    let known = tasks_read_versions (run_of o out.fuel) out.is.moment n t out.is.is in
    let told : noted_at (outs_noted 1 t.params d.outs) (suc j)
    ≡ option_map note_of (output_of (Some t) (suc j)) =
    task_notes (run_of o out.fuel) (seq (run_of o out.fuel) out.is.moment).world n t known.0 d.outs
    j rules known.2 out.gave in
    let v = value_by (output_of (Some t) (suc j)) (note.File len)
    (sym told ∙ ap (λ (l : List OutNote). noted_at l (suc j)) (sym d.notes_are) ∙ noted) in
    let file = file_of v.0 len v.2 in
    ap (option_map length) (d.files (suc j) file.0 (v.1 ∙ ap some file.1)) ∙ ap some_length file.2
  where
    some : Value → Option Value
    some x = Some x

    some_length : ℕ → Option ℕ
    some_length x = Some x

-- ---- the files of notes in rising order

both : (a b : Bool) → (a && b) ≡ true → (a ≡ true) × (b ≡ true)
both true b h = (refl, h)
both false b h = absurd cc

same_place : (p : ℕ) → (p == p) ≡ true
same_place p = grind arith

later_place : (p low : ℕ) → p < low → (p == low) ≡ false
later_place p low lt = grind arith

outs_stand : (f : Folder) (n low : ℕ) (os : List OutNote) → notes.rising low os ≡ true
    → ((place len : ℕ) → low < place → noted_at os place ≡ Some (note.File len)
    → len_of f (Out n place) ≡ Some len) → AllStand f (outs_kept n os)
outs_stand f n low [] rises stand = tt
outs_stand f n low (x ∷ os) rises stand =
    let parts = both (nat_lt low x.place) (notes.rising x.place os) rises in
    of_note x.v refl
    (outs_stand f n x.place os parts.1 (λ place len above noted. stand place len
    (let below : low < x.place = ltb-true low x.place parts.0 in omega (arith, below, above))
    (ap (λ (b : Bool). if b then Some x.v else noted_at os place) (later_place x.place place above)
    ∙ noted)))
  where
    here : noted_at (x ∷ os) x.place ≡ Some x.v
    here = ap (λ (b : Bool). if b then Some x.v else noted_at os x.place) (same_place x.place)

    of_note : (v : Note) → x.v ≡ v → AllStand f (outs_kept n os)
        → AllStand f (kept_at n x.place v (outs_kept n os))
    of_note (note.File len) is more = (
      stand x.place len
          (ltb-true low x.place (both (nat_lt low x.place) (notes.rising x.place os) rises).0)
          (here ∙ ap some is),
      more,
    )
      where
        some : Note → Option Note
        some y = Some y
    of_note (note.Int z) is more = more
    of_note (note.Str s) is more = more

outs_rise : (n op : ℕ) (os : List OutNote) → entry.fits (made.Done n op os) ≡ true
    → notes.rising 0 os ≡ true
unfolding entry
outs_rise n op os fits =
    let parts = both (notes.task.fits n) ((pair notes.operation notes.outs).fits (op, os)) fits in
    let more = both (notes.operation.fits op) (notes.outs.fits os) parts.1 in
    (both ((counted byte notes.out).fits os) (notes.rising 0 os) more.1).1

done_stands : (o : Origin) → KeepRules o.given.ops → (f : Folder) (n op : ℕ) (os : List OutNote)
    → entry.fits (made.Done n op os) ≡ true → IsDone o f n op os → AllStand f (outs_kept n os)
done_stands o rules f n op os fits d = outs_stand f n 0 os (outs_rise n op os fits)
    (noted_stands o rules f n op os d)

-- ---- behind the gate

is_closed : (s : Stage) (es : List Entry) (e : Entry) → HasEnded s → may_follow s es e ≡ true
    → e ≡ made.Closed
is_closed stages.Fresh es e ended may = absurd ended
is_closed stages.Running es e ended may = absurd ended
is_closed stages.Gated es (made.Header t) ended may = absurd cc
is_closed stages.Gated es (made.Done n op os) ended may = absurd cc
is_closed stages.Gated es (made.Gate g) ended may = absurd cc
is_closed stages.Gated es made.Closed ended may = refl
is_closed stages.Closed es (made.Header t) ended may = absurd cc
is_closed stages.Closed es (made.Done n op os) ended may = absurd cc
is_closed stages.Closed es (made.Gate g) ended may = absurd cc
is_closed stages.Closed es made.Closed ended may = absurd cc

still_ended : (s : Stage) → HasEnded s → HasEnded (later s stages.Closed)
still_ended stages.Fresh ended = absurd ended
still_ended stages.Running ended = absurd ended
still_ended stages.Gated ended = tt
still_ended stages.Closed ended = tt

gate_ends : (s : Stage) → HasEnded (later s stages.Gated)
gate_ends stages.Fresh = tt
gate_ends stages.Running = tt
gate_ends stages.Gated = tt
gate_ends stages.Closed = tt

-- no entry behind it names a version
none_behind : (f : Folder) (before es : List Entry) → HasEnded (stage_of before)
    → AreBehind before es → AllStand f (kept_in es)
none_behind f before [] ended behind = tt
none_behind f before (e ∷ es) ended behind =
    let is = is_closed (stage_of before) before e ended behind.1 in
    subst (λ (x : Entry). AllStand f (kept_by x ++ kept_in es)) (sym is)
    (none_behind f (before ++ e ∷ []) es
    (subst HasEnded (sym (stage_push stages.Fresh before e
    ∙ ap (λ (x : Entry). later (stage_of before) (stage_by x)) is))
    (still_ended (stage_of before) ended)) behind.2)

-- ---- together

both_stand : (f : Folder) (ks more : List Kept) → AllStand f ks → AllStand f more
    → AllStand f (ks ++ more)
both_stand f [] more all rest = rest
both_stand f (k ∷ ks) more all rest = (all.0, both_stand f ks more all.1 rest)

first_right : (o : Origin) (f : Folder) (e : Entry) (es : List Entry) → All (IsRight o f) (e ∷ es)
    → IsRight o f e
first_right o f e es all = all 0 e (omega arith)

other_right : (o : Origin) (f : Folder) (e : Entry) (es : List Entry) → All (IsRight o f) (e ∷ es)
    → All (IsRight o f) es
other_right o f e es all = λ k d lt. all (suc k) d (omega (arith, lt))

entries_stand : (o : Origin) → KeepRules o.given.ops → (f : Folder) (before es : List Entry)
    → AreBehind before es → All (IsRight o f) es
    → ((g : GateNote) → gate_in es ≡ Some g → AllStand f (finals_kept g.finals))
    → AllStand f (kept_in es)
entries_stand o rules f before [] behind right gate = tt
entries_stand o rules f before (made.Header t ∷ es) behind right gate =
    entries_stand o rules f (before ++ made.Header t ∷ []) es behind.2
    (other_right o f (made.Header t) es right) gate
entries_stand o rules f before (made.Done n op os ∷ es) behind right gate =
    both_stand f (outs_kept n os) (kept_in es)
    (done_stands o rules f n op os behind.0 (first_right o f (made.Done n op os) es right))
    (entries_stand o rules f (before ++ made.Done n op os ∷ []) es behind.2
    (other_right o f (made.Done n op os) es right) gate)
entries_stand o rules f before (made.Gate g ∷ es) behind right gate =
    both_stand f (finals_kept g.finals) (kept_in es) (gate g refl)
    (none_behind f (before ++ made.Gate g ∷ []) es
    (subst HasEnded (sym (stage_push stages.Fresh before (made.Gate g))) (gate_ends (stage_of before)))
    behind.2)
entries_stand o rules f before (made.Closed ∷ es) behind right gate =
    entries_stand o rules f (before ++ made.Closed ∷ []) es behind.2
    (other_right o f made.Closed es right) gate

some_is : (a b : GateNote) → Some a ≡ Some b → a ≡ b
some_is a b e = cc

gate_stand : (o : Origin) (f : Folder) (es : List Entry) (note : GateNote) → gate_in es ≡ Some note
    → IsGateOf o f note → (g : GateNote) → gate_in es ≡ Some g → AllStand f (finals_kept g.finals)
gate_stand o f es note noted gate g is =
    subst (λ (x : GateNote). AllStand f (finals_kept x.finals)) (some_is note g (sym noted ∙ is))
    (held_stand gate.setup gate.questions note.names
    (written_names (writings gate.setup.run gate.questions)) note.finals f
    gate.says.gated.finals_are gate.held)

no_gate : (f : Folder) (es : List Entry) → (s : Stage) → stage_of es ≡ s → (HasEnded s → ⊥)
    → (g : GateNote) → gate_in es ≡ Some g → AllStand f (finals_kept g.finals)
no_gate f es s at goes_on g is = absurd (goes_on (subst HasEnded at (ended_by es stages.Fresh g is)))
  where
    stays : (s t : Stage) → HasEnded s → HasEnded (later s t)
    stays stages.Fresh t ended = absurd ended
    stays stages.Running t ended = absurd ended
    stays stages.Gated stages.Fresh ended = tt
    stays stages.Gated stages.Running ended = tt
    stays stages.Gated stages.Gated ended = tt
    stays stages.Gated stages.Closed ended = tt
    stays stages.Closed stages.Fresh ended = tt
    stays stages.Closed stages.Running ended = tt
    stays stages.Closed stages.Gated ended = tt
    stays stages.Closed stages.Closed ended = tt

    ended_after : (es : List Entry) (s : Stage) → HasEnded s
        → HasEnded (stage_after s es)
    ended_after [] s ended = ended
    ended_after (e ∷ es) s ended = ended_after es (later s (stage_by e)) (stays s (stage_by e) ended)

    ended_by : (es : List Entry) (s : Stage) (g : GateNote) → gate_in es ≡ Some g
        → HasEnded (stage_after s es)
    ended_by [] s g is = absurd cc
    ended_by (made.Header t ∷ es) s g is = ended_by es (later s (stage_by (made.Header t))) g is
    ended_by (made.Done n op os ∷ es) s g is =
        ended_by es (later s (stage_by (made.Done n op os))) g is
    ended_by (made.Gate x ∷ es) s g is =
        ended_after es (later s (stage_by (made.Gate x))) (gate_ends s)
    ended_by (made.Closed ∷ es) s g is = ended_by es (later s (stage_by made.Closed)) g is

pub store_of : (f : Folder) (es : List Entry) → HasEntries es f → AreInOrder es
    → AllStand f (kept_in es)
    → IsStoreOf (record { marked = is_some (f mark_name); entries = es }) f
store_of f es has order all = record {
  mark = refl;
  entries = has;
  read = in_order_read es order;
  files = all;
}

pub rules_of : (o : Origin) (i p : List ℕ) → IsRunOf o i p → KeepRules o.given.ops
rules_of o i p run =
    subst (λ (g : Given). KeepRules g.ops) (sym run.given)
    run.well_formed.rules

abbrev entries_in : (o : Origin) → (f : Folder) → Stands o f → List Entry
entries_in o f (Fresh has fresh) = []
entries_in o f (Running es has r) = es
entries_in o f (Gated es has g) = es
entries_in o f (Closed es has c) = es

-- the store of a folder that stands
pub stored : (o : Origin) (i p : List ℕ) (f : Folder) (stands : Stands o f) → IsRunOf o i p
    → IsStoreOf (record { marked = is_some (f mark_name); entries = entries_in o f stands }) f
stored o i p f (Fresh has fresh) run = store_of f [] has tt tt
stored o i p f (Running es has r) run =
    store_of f es has r.are.in_order (entries_stand o (rules_of o i p run) f [] es r.are.in_order
    r.are.dones (no_gate f es stages.Running r.stage (λ h. h)))
stored o i p f (Gated es has g) run =
    store_of f es has g.are.in_order (entries_stand o (rules_of o i p run) f [] es g.are.in_order
    g.are.dones (gate_stand o f es g.note g.noted g.gate))
stored o i p f (Closed es has c) run =
    store_of f es has c.are.in_order (entries_stand o (rules_of o i p run) f [] es c.are.in_order
    c.are.dones (gate_stand o f es c.note c.noted c.gate))

pub no_bad : (o : Origin) (i p : List ℕ) (f : Folder) (why : BadStore) → IsRunOf o i p → Stands o f
    → IsBad f why → ⊥
no_bad o i p f why run stands bad =
    has_no_bad f (record { marked = is_some (f mark_name); entries = entries_in o f stands }) why
    (stored o i p f stands run) bad
