-- What a task gave is kept in the record.
use Rattle.std.proofs.Common.{◌≡◌, ℕ, Bool, false, List, [], ◌∷◌, ◌++◌, length, Option, Some, Result, refl, sym, ap, subst, ◌∙◌, inl, inr, eq-eqb}
use Rattle.std.specs.Prelude.{if◌then◌else◌}
use Rattle.gs_types.specs.declared.note.Version.{Version}
use Rattle.gs_types.specs.declared.note.Version.TheVariants.{Out}
use Rattle.gs_types.specs.declared.note.Note.TheVariants as note
use Rattle.gs_types.specs.declared.value.Value.{Value}
use Rattle.gs_types.specs.declared.value.Value.TheVariants as value
use Rattle.gs_idl.specs.Interface.{Param, KeepRules}
use Rattle.gs_disk.specs.Folder.{Folder, DiskState}
use Rattle.gs_disk.specs.Moments.{Leaves}
use Rattle.gs_disk.specs.Going.{always_wider}
use Rattle.gs_entries.specs.Order.{has_done}
use Rattle.gs_entries.specs.declared.entry.Entry.{Entry}
use Rattle.gs_store.specs.Spans.{keeps_as_read}
use Rattle.gs_store.specs.State.{StoreState}
use Rattle.gs_store.specs.Versions.{Names, Named}
use Rattle.gs_store.specs.declared.err.StoreErr.{StoreErr}
use Rattle.gs_store.proofs.Following.{done_follows}
use Rattle.gs_store.proofs.Putting.{out_unnamed}
use Rattle.gs_talk.specs.Seq.{Task, seq, output_of}
use Rattle.gs_talk_laws.proofs.Stays.{tasks_read_versions}
use Rattle.gs_tables.specs.Outs.{outs_noted}
use Rattle.gs_keep.specs.Given.{PlacedFile, placed, files_in, file_at, done_entry}
use Rattle.gs_keep.specs.Kept.{outs_with, with_files, HasDone, KeepsOrDone, KeepsOutputs}
use Rattle.gs_keep.proofs.Joining.{same_outs}
use Rattle.gs_keep.proofs.TaskFiles.{task_files}
use Rattle.gs_life.specs.Origin.{Origin, run_of, IsOutput}
use Rattle.gs_life.specs.Standing.{as_in, IsSteady}
use Rattle.gs_life.specs.Called.{Stood}
use Rattle.gs_life.specs.Stands.{IsRunning, Stands, Running}
use Rattle.gs_life.proofs.Entries.{noted_among, noted_kept}
use Rattle.gs_life.proofs.Images.{SameNamed, file_noted, running_kept, image_runs, done_running}
use Rattle.gs_life.proofs.Calls.{ok_gives}

-- ---- what the new entry names

named_last : (v : Version) (es : List Entry) (e : Entry) → Names v e → Named v (es ++ e ∷ [])
named_last v [] e names = inl names
named_last v (x ∷ es) e names = inr (named_last v es e names)

named_before : (v : Version) (es : List Entry) (e : Entry) → Named v es → Named v (es ++ e ∷ [])
named_before v [] e named = absurd named
named_before v (x ∷ es) e (inl here) = inl here
named_before v (x ∷ es) e (inr later) = inr (named_before v es e later)

own_outs : (n place : ℕ) (files : List PlacedFile) (outs : Version → Option (List ℕ))
    → outs_with n files outs (Out n place) ≡ file_at files place
own_outs n place files outs =
    ap (λ (b : Bool). if b then file_at files place else outs (Out n place)) (eq-eqb n n refl)

-- a file that the task gave is one of those that were put
file_put : (o : Origin) → KeepRules o.given.ops → (n place : ℕ) (t : Task) (outs : List Value)
    (bytes : List ℕ) → IsOutput o n t outs → output_of (Some t) place ≡ Some (value.File bytes)
    → file_at (files_in (placed t.params outs)) place ≡ Some bytes
file_put o rules n place t outs bytes out is =
    let known = tasks_read_versions (run_of o out.fuel) out.is.moment n t out.is.is in
    (task_files (run_of o out.fuel) (seq (run_of o out.fuel) out.is.moment).world n t known.0 outs
    place bytes rules known.2 out.gave).1 is

-- ---- images

-- an image that has the new entry and its files
recorded_image : (o : Origin) → KeepRules o.given.ops → (es : List Entry) (n : ℕ) (t : Task)
    (outs : List Value) (f image : Folder) → IsOutput o n t outs → has_done es n ≡ false
    → IsRunning o f es
    → HasDone es (done_entry n t.op t.params outs) n (files_in (placed t.params outs)) (as_in f)
    image
    → IsRunning o image (es ++ done_entry n t.op t.params outs ∷ [])
recorded_image o rules es n t outs f image out undone r has =
    let notes = outs_noted 1 t.params outs in
    let e = done_entry n t.op t.params outs in
    let files = files_in (placed t.params outs) in
    let k = has.kept in
    let same : SameNamed es f image = λ v kept named.
    k.versions v kept (named_before v es e named)
    ∙ same_outs n files (as_in f).outs es v
    (λ j there. out_unnamed es n j r.stage undone there) kept named in
    let run : IsRunning o image es =
    running_kept o rules es f image same (λ x user. k.user_files x user tt) r in
    done_running o es n t.op notes image has.fits (done_follows es n t.op notes r.stage undone)
    (record {
      task = t;
      outs = outs;
      output = out;
      op_is = refl;
      notes_are = refl;
      files = λ place bytes is.
          let noted = file_noted o rules n place t outs bytes out is in
          k.versions (Out n place)
          (noted_kept n t.op place (note.File (length bytes)) notes has.fits noted)
          (named_last (Out n place) es e (noted_among n place (length bytes) notes noted))
          ∙ own_outs n place files (as_in f).outs
          ∙ file_put o rules n place t outs bytes out is;
    }) run

recording_image : (o : Origin) → KeepRules o.given.ops → (es : List Entry) (n : ℕ) (t : Task)
    (outs : List Value) (f image : Folder) → IsOutput o n t outs → has_done es n ≡ false
    → IsRunning o f es
    → KeepsOrDone es (done_entry n t.op t.params outs) n (files_in (placed t.params outs))
    (as_in f) image
    → Stands o image
recording_image o rules es n t outs f image out undone r (inl k) =
    image_runs o rules es f image k r
recording_image o rules es n t outs f image out undone r (inr has) =
    Running (es ++ done_entry n t.op t.params outs ∷ []) has.kept.entries
    (recorded_image o rules es n t outs f image out undone r has)

-- ---- the call

records_task : {T : Type 0} (o : Origin) → KeepRules o.given.ops → (store : StoreState) (n : ℕ)
    (t : Task) (outs : List Value) (a b : DiskState) (r : Result T StoreErr) → Leaves b b.folder
    → IsOutput o n t outs → has_done store.entries n ≡ false → IsSteady store.entries a
    → IsRunning o a.folder store.entries
    → KeepsOutputs store (done_entry n t.op t.params outs) n (files_in (placed t.params outs)) a b
    r
    → Stood o (store.entries ++ done_entry n t.op t.params outs ∷ [])
    (λ f. IsRunning o f (store.entries ++ done_entry n t.op t.params outs ∷ [])) a b r
records_task o rules store n t outs a b r reads out undone steady run told =
    let es = store.entries in
    let e = done_entry n t.op t.params outs in
    let files = files_in (placed t.params outs) in
    let base = as_in a.folder in
    record {
      always = always_wider (KeepsOrDone es e n files base) (Stands o) a b
          (told.any_moment base steady)
          (λ image k. recording_image o rules es n t outs a.folder image out undone run k);
      steady = ok_gives r told.after (λ after.
          keeps_as_read (with_files n files base) (es ++ e ∷ []) b reads
          (λ image left. (after base steady image left).kept));
      holds = ok_gives r told.after (λ after.
          recorded_image o rules es n t outs a.folder b.folder out undone run
          (after base steady b.folder reads));
    }

-- the outputs of a task were kept, at the places of its operation
pub records : {T : Type 0} (o : Origin) → KeepRules o.given.ops → (store : StoreState)
    (n op : ℕ) (ps : List Param) (t : Task) (outs : List Value) (a b : DiskState)
    (r : Result T StoreErr) → op ≡ t.op → ps ≡ t.params → Leaves b b.folder → IsOutput o n t outs
    → has_done store.entries n ≡ false → IsSteady store.entries a
    → IsRunning o a.folder store.entries
    → KeepsOutputs store (done_entry n op ps outs) n (files_in (placed ps outs)) a b r
    → Stood o (store.entries ++ done_entry n op ps outs ∷ [])
    (λ f. IsRunning o f (store.entries ++ done_entry n op ps outs ∷ [])) a b r
records {T} o rules store n op ps t outs a b r op_is ps_are reads out undone steady run =
    subst (λ (q : List Param).
    KeepsOutputs store (done_entry n op q outs) n (files_in (placed q outs)) a b r
    → Stood o (store.entries ++ done_entry n op q outs ∷ [])
    (λ f. IsRunning o f (store.entries ++ done_entry n op q outs ∷ [])) a b r) (sym ps_are)
    (subst (λ (i : ℕ).
    KeepsOutputs store (done_entry n i t.params outs) n (files_in (placed t.params outs)) a b r
    → Stood o (store.entries ++ done_entry n i t.params outs ∷ [])
    (λ f. IsRunning o f (store.entries ++ done_entry n i t.params outs ∷ [])) a b r) (sym op_is)
    (λ told. records_task o rules store n t outs a b r reads out undone steady run told))
