-- What an image stands for while a run goes on, by what the disk reads as.
use Rattle.std.proofs.Common.{◌≡◌, ℕ, zero, suc, true, List, [], ◌∷◌, ◌++◌, length, Option, Some, None, refl, sym, ap, ◌∙◌, append_assoc, arith}
use Rattle.std.specs.Prelude.{All, option_map, slice_index_or}
use Rattle.std.proofs.lemmas.List.Elements.{All-append}
use Rattle.gs_types.specs.declared.note.Version.{Version}
use Rattle.gs_types.specs.declared.note.Version.TheVariants.{Out}
use Rattle.gs_types.specs.declared.note.Note.TheVariants as note
use Rattle.gs_types.specs.declared.note.OutNote.{OutNote}
use Rattle.gs_types.specs.declared.value.Value.{Value}
use Rattle.gs_types.specs.declared.value.Value.TheVariants as value
use Rattle.gs_types.specs.declared.job.Arg.{Arg}
use Rattle.gs_idl.specs.Interface.{KeepRules}
use Rattle.gs_disk.specs.Folder.{Folder, DiskState}
use Rattle.gs_disk.specs.Moments.{Leaves, Always}
use Rattle.gs_disk.specs.Name.{IsUser}
use Rattle.gs_disk.specs.Going.{always_wider}
use Rattle.gs_entries.specs.Entries.{entry}
use Rattle.gs_entries.specs.Order.{follows, later, stage_by, stage_of}
use Rattle.gs_entries.specs.declared.entry.Entry.{Entry}
use Rattle.gs_entries.specs.declared.entry.Entry.TheVariants as made
use Rattle.gs_entries.specs.declared.entry.Stage.{Stage}
use Rattle.gs_entries.specs.declared.entry.Stage.TheVariants as stages
use Rattle.gs_entries.specs.declared.entry.Texts.{Texts}
use Rattle.gs_entries.proofs.Ordered.{stage_push}
use Rattle.gs_store.specs.Names.{version_name, IsKept}
use Rattle.gs_store.specs.Keeps.{Keeps}
use Rattle.gs_store.specs.Ordered.{texts_of}
use Rattle.gs_store.specs.Spans.{Stays, keeps_as_read}
use Rattle.gs_store.specs.Versions.{Names, Named}
use Rattle.gs_store.proofs.Counting.{in_order_push}
use Rattle.gs_talk.specs.Seq.{Task, seq, output_of, output_by}
use Rattle.gs_talk_laws.specs.Fuels.{IsPrefixOf}
use Rattle.gs_talk_laws.proofs.Stays.{tasks_read_versions}
use Rattle.gs_history.specs.Notes.{note_of}
use Rattle.gs_tables.specs.Outs.{outs_noted, noted_at}
use Rattle.gs_tables.proofs.Giving.{task_notes}
use Rattle.gs_life.specs.Origin.{Origin, run_of, IsOutput}
use Rattle.gs_life.specs.Standing.{as_in, IsSteady}
use Rattle.gs_life.specs.Stands.{IsDone, IsRight, AreOf, IsRunning, Stands, Running}
use Rattle.gs_life.proofs.Entries.{all_fits, named_at, noted_among, noted_kept}

-- ---- what a task gave is named

output_zero : (args : Option (List Arg)) (outs : Option (List Value))
    → output_by args outs zero ≡ None
output_zero None outs = refl
output_zero (Some args) None = refl
output_zero (Some []) (Some outs) = refl
output_zero (Some (a ∷ args)) (Some outs) = refl

none_some : (o : Option Value) (v : Value) → o ≡ None → o ≡ Some v → ⊥
none_some (Some x) v none is = absurd cc
none_some None v none is = absurd cc

pub file_noted : (o : Origin) → KeepRules o.given.ops → (n place : ℕ) (t : Task) (outs : List Value)
    (bytes : List ℕ) → IsOutput o n t outs → output_of (Some t) place ≡ Some (value.File bytes)
    → noted_at (outs_noted 1 t.params outs) place ≡ Some (note.File (length bytes))
file_noted o rules n zero t outs bytes out is =
    absurd (none_some (output_of (Some t) 0) (value.File bytes) (output_zero t.args t.outs) is)
file_noted o rules n (suc j) t outs bytes out is =
    let known = tasks_read_versions (run_of o out.fuel) out.is.moment n t out.is.is in
    task_notes (run_of o out.fuel) (seq (run_of o out.fuel) out.is.moment).world n t known.0 outs
    j rules known.2 out.gave ∙ ap (option_map note_of) is

-- ---- what is named and the same, is as right

-- the version files that the entries name read the same
abbrev pub SameNamed : List Entry → (old new : Folder) → Type 0
SameNamed es old new = (v : Version) → IsKept v → Named v es
    → new (version_name v) ≡ old (version_name v)

done_kept : (o : Origin) → KeepRules o.given.ops → (n op : ℕ) (os : List OutNote)
    (f g : Folder) → entry.fits (made.Done n op os) ≡ true
    → ((v : Version) → IsKept v → Names v (made.Done n op os)
    → g (version_name v) ≡ f (version_name v)) → IsDone o f n op os → IsDone o g n op os
done_kept o rules n op os f g fits same d = record {
  task = d.task;
  outs = d.outs;
  output = d.output;
  op_is = d.op_is;
  notes_are = d.notes_are;
  files = λ place bytes is.
      let noted : noted_at os place ≡ Some (note.File (length bytes)) =
      ap (λ (l : List OutNote). noted_at l place) d.notes_are
      ∙ file_noted o rules n place d.task d.outs bytes d.output is in
      same (Out n place) (noted_kept n op place (note.File (length bytes)) os fits noted)
      (noted_among n place (length bytes) os noted) ∙ d.files place bytes is;
}

right_kept : (o : Origin) → KeepRules o.given.ops → (e : Entry) (f g : Folder)
    → entry.fits e ≡ true
    → ((v : Version) → IsKept v → Names v e → g (version_name v) ≡ f (version_name v))
    → IsRight o f e → IsRight o g e
right_kept o rules (made.Done n op os) f g fits same d = done_kept o rules n op os f g fits same d
right_kept o rules (made.Header t) f g fits same d = tt
right_kept o rules (made.Gate x) f g fits same d = tt
right_kept o rules made.Closed f g fits same d = tt

pub are_kept : (o : Origin) → KeepRules o.given.ops → (es : List Entry) (f g : Folder)
    → SameNamed es f g → AreOf o f es → AreOf o g es
are_kept o rules es f g same are = record {
  in_order = are.in_order;
  header = are.header;
  goes_on = are.goes_on;
  dones = λ k d lt. right_kept o rules (slice_index_or es k d) f g
      (all_fits es are.in_order k d lt)
      (λ v kept names. same v kept (named_at es v k d lt names)) (are.dones k d lt);
}

pub running_kept : (o : Origin) → KeepRules o.given.ops → (es : List Entry) (f g : Folder)
    → SameNamed es f g → ((x : List ℕ) → IsUser x → g x ≡ f x) → IsRunning o f es
    → IsRunning o g es
running_kept o rules es f g same users r = record {
  stage = r.stage;
  are = are_kept o rules es f g same r.are;
  users = λ x user. users x user ∙ r.users x user;
}

pub running_image : (o : Origin) → KeepRules o.given.ops → (es : List Entry) (f image : Folder)
    → Keeps (as_in f) es image → IsRunning o f es → IsRunning o image es
running_image o rules es f image k r =
    running_kept o rules es f image k.versions (λ x user. k.user_files x user tt) r

pub image_runs : (o : Origin) → KeepRules o.given.ops → (es : List Entry) (f image : Folder)
    → Keeps (as_in f) es image → IsRunning o f es → Stands o image
image_runs o rules es f image k r = Running es k.entries (running_image o rules es f image k r)

-- ---- calls that add no entry

-- each image stands at every moment, and the run goes on with these entries
pub record RunsOn (o : Origin) (es : List Entry) (a b : DiskState) : Type 0 where
  pub always : Always (Stands o) a b
  pub steady : IsSteady es b
  pub running : IsRunning o b.folder es

pub stays_running : (o : Origin) → KeepRules o.given.ops → (es : List Entry) (a b : DiskState)
    → Leaves b b.folder → IsSteady es a → IsRunning o a.folder es → Stays es a b
    → RunsOn o es a b
stays_running o rules es a b reads steady r stays =
    let kept = stays (as_in a.folder) steady in
    record {
      always = always_wider (Keeps (as_in a.folder) es) (Stands o) a b kept
          (λ image k. image_runs o rules es a.folder image k r);
      steady = keeps_as_read (as_in a.folder) es b reads kept.now;
      running = running_image o rules es a.folder b.folder (kept.now b.folder reads) r;
    }

-- ---- one entry more

header_push : (es : List Entry) (e : Entry) (t : Texts) → texts_of es ≡ Some t
    → texts_of (es ++ e ∷ []) ≡ Some t
header_push [] e t is = absurd cc
header_push (made.Header x ∷ es) e t is = is
header_push (made.Done n op os ∷ es) e t is = absurd cc
header_push (made.Gate g ∷ es) e t is = absurd cc
header_push (made.Closed ∷ es) e t is = absurd cc

prefix_push : (stood es : List Entry) (e : Entry) → IsPrefixOf stood es
    → IsPrefixOf stood (es ++ e ∷ [])
prefix_push stood es e p = (
  p.0 ++ e ∷ [],
  sym (append_assoc stood p.0 (e ∷ []))
      ∙ ap (λ (l : List Entry). l ++ e ∷ []) p.1,
)

one_right : (o : Origin) (f : Folder) (e : Entry) → IsRight o f e → All (IsRight o f) (e ∷ [])
one_right o f e right zero d lt = right
one_right o f e right (suc k) d lt = absurd (omega (arith, lt))

pub are_pushed : (o : Origin) (es : List Entry) (e : Entry) (f : Folder) → entry.fits e ≡ true
    → follows es e ≡ true → IsRight o f e → AreOf o f es → AreOf o f (es ++ e ∷ [])
are_pushed o es e f fits may right are = record {
  in_order = in_order_push es e are.in_order fits may;
  header = header_push es e o.texts are.header;
  goes_on = prefix_push o.stood es e are.goes_on;
  dones = All-append (IsRight o f) es (e ∷ []) are.dones (one_right o f e right);
}

pub stage_after : (es : List Entry) (e : Entry) (s : Stage) → stage_of es ≡ s
    → stage_of (es ++ e ∷ []) ≡ later s (stage_by e)
stage_after es e s is = stage_push stages.Fresh es e
    ∙ ap (λ (t : Stage). later t (stage_by e)) is

-- what task n gave is recorded
pub done_running : (o : Origin) (es : List Entry) (n op : ℕ) (os : List OutNote) (f : Folder)
    → entry.fits (made.Done n op os) ≡ true → follows es (made.Done n op os) ≡ true
    → IsDone o f n op os → IsRunning o f es → IsRunning o f (es ++ made.Done n op os ∷ [])
done_running o es n op os f fits may done r = record {
  stage = stage_after es (made.Done n op os) stages.Running r.stage;
  are = are_pushed o es (made.Done n op os) f fits may done r.are;
  users = r.users;
}
