-- The versions that are read, and how long they are.
use Rattle.std.proofs.Common.{◌≡◌, ◌<◌, ◌≤◌, ◌+◌, ℕ, zero, suc, Bool, true, false, refl, sym, ap, ◌∙◌, subst, List, [], ◌∷◌, length, map, arith, Option, Some, None, IsSome, is_some, if◌then◌else◌, inl, inr, ◌⊎◌}
use Rattle.std.specs.Prelude.{option_map, bytes_eq}
use Rattle.std.specs.List.{slice_get}
use Rattle.std.proofs.lemmas.Option.{slice_get-map}
use Rattle.std.proofs.lemmas.Slice.Eq.{bytes_eq-Decides}
use Rattle.gs_idl.specs.Interface.{Param, writes_file}
use Rattle.gs_idl.specs.declared.idl.Dir.{Dir}
use Rattle.gs_idl.specs.declared.idl.Dir.TheVariants.{Input, Both, Output}
use Rattle.gs_types.specs.declared.note.Note.{Note}
use Rattle.gs_types.specs.declared.note.Note.TheVariants as note
use Rattle.gs_types.specs.declared.note.Version.{Version}
use Rattle.gs_types.specs.declared.note.Version.TheVariants.{Original, Out, Main}
use Rattle.gs_types.specs.declared.value.Value.{Value}
use Rattle.gs_types.specs.declared.value.Value.TheVariants as value
use Rattle.gs_types.specs.declared.job.Arg.{Arg}
use Rattle.gs_types.specs.declared.job.Arg.TheVariants.{Given, Both as both_ways, OutFile}
use Rattle.gs_types.specs.History.{History, outs_in}
use Rattle.gs_names.specs.Table.{writes_in}
use Rattle.gs_names.specs.Writes as table
use Rattle.gs_names.specs.Writes.{Write}
use Rattle.gs_talk.specs.declared.question.CallArg.{CallArg}
use Rattle.gs_talk.specs.declared.question.CallArg.TheVariants as arg
use Rattle.gs_talk.specs.Seq.{Content, Known, Lost, Files, Task, World, task_at, file_given, given, output_of, content_of, is_file as is_file_value}
use Rattle.gs_talk_laws.specs.Numbers.{at_number}
use Rattle.gs_talk_laws.specs.Versions.{Written, latest, latest_from, writings, left_by, closed_as, version_value, IsLeft, IsStored, IsVersionOf}
use Rattle.gs_talk_laws.proofs.Outputs.{takes, is_of_kind, file_writes}
use Rattle.gs_talk_laws.proofs.Places.{TaskPlace, task_place, task_output}
use Rattle.gs_talk_laws.proofs.Stays.{tasks_read_versions, latest_is_stored}
use Rattle.gs_history.specs.Setup.{Setup, world_at}
use Rattle.gs_history.specs.Notes.{note_of}
use Rattle.gs_history.specs.Frontier.{IsDone, IsThere}
use Rattle.gs_history.proofs.Ending.{done_is_true}
use Rattle.gs_history.proofs.Fitting.{notes_fit}
use Rattle.gs_tables.specs.Written.{written_back}
use Rattle.gs_tables.specs.Outs.{noted_in, noted_length}
use Rattle.gs_tables.specs.Lengths.{or_zero, main_length}
use Rattle.gs_tables.specs.Rows.{row_at, row_outs}
use Rattle.gs_tables.specs.Holds.{Holds}
use Rattle.gs_tables.specs.declared.tables.Tables.{Tables}
use Rattle.gs_tables.proofs.Giving.{noted_output, noted_none}

-- ---- the last version

same_test : (a b : List ℕ) → bytes_eq a b ≡ bytes_eq b a
same_test a b = by_test (bytes_eq a b) (bytes_eq b a) refl refl
  where
    by_test : (t u : Bool) → bytes_eq a b ≡ t → bytes_eq b a ≡ u → t ≡ u
    by_test true true e f = refl
    by_test false false e f = refl
    by_test true false e f = let same = (bytes_eq-Decides a b).0 e in let g : bytes_eq b a ≡ true = (bytes_eq-Decides b a).1 (sym same) in let h : false ≡ true = sym f ∙ g in cc
    by_test false true e f = let same = (bytes_eq-Decides b a).0 f in let g : bytes_eq a b ≡ true = (bytes_eq-Decides a b).1 (sym same) in let h : false ≡ true = sym e ∙ g in cc

back_latest : (x : List ℕ) (ws : List Written) (acc : List Write) → table.latest x (written_back ws acc) ≡ latest_from (table.latest x acc) x ws
back_latest x [] acc = refl
back_latest x (w ∷ ws) acc =
    back_latest x ws ((w.name, w.version) ∷ acc) ∙ ap (λ (b : Bool). latest_from (if b then w.version else table.latest x acc) x ws) (same_test x w.name)

pub latest_is : (t : Tables) (s : Setup) (k : ℕ) (h : History) → Holds t s k h → (x : List ℕ) → table.latest x (writes_in t.names) ≡ latest x (writings s.run k)
latest_is t s k h holds x = ap (table.latest x) holds.writes ∙ back_latest x (writings s.run k) []

-- ---- what the program closed

pub main_there : (t : Tables) (s : Setup) (k : ℕ) (h : History) (j : ℕ) (bytes : List ℕ) → Holds t s k h → at_number (world_at s k).closed j ≡ Some bytes → main_length t.mains.items j ≡ length bytes
main_there t s k h zero bytes holds e = absurd cc
main_there t s k h (suc j) bytes holds e =
    let there : slice_get t.mains.items j ≡ option_map length (slice_get (world_at s k).closed j) = ap (λ (l : List ℕ). slice_get l j) holds.mains ∙ slice_get-map length (world_at s k).closed j in
    ap or_zero there ∙ ap (λ (o : Option (List ℕ)). or_zero (option_map length o)) e

-- ---- what a task left

of_kind : (x y : Arg) (v : Value) → ◌≡◌ {A = Option Arg} (Some x) (Some y) → is_of_kind y v ≡ true → is_of_kind x v ≡ true
of_kind x y v e h = let is : x ≡ y = cc in ap (λ (z : Arg). is_of_kind z v) is ∙ h

is_bytes : (v : Value) → is_file_value v ≡ true → (bytes : List ℕ) × (v ≡ value.File bytes)
is_bytes (value.File bytes) e = (bytes, refl)
is_bytes (value.Int n) e = absurd cc
is_bytes (value.Str s) e = absurd cc

given_bytes : (d : Dir) (c : Option Content) (x : Arg) (v : Value) → file_given d c ≡ Some x → takes x ≡ true → is_of_kind x v ≡ true → (bytes : List ℕ) × (v ≡ value.File bytes)
given_bytes Input None x v e t h = absurd cc
given_bytes Input (Some Lost) x v e t h = absurd cc
given_bytes Input (Some (Known bytes)) x v e t h = absurd (let is : Given (value.File bytes) ≡ x = cc in let f : false ≡ true = ap takes is ∙ t in cc)
given_bytes Both None x v e t h = absurd cc
given_bytes Both (Some Lost) x v e t h = absurd cc
given_bytes Both (Some (Known bytes)) x v e t h = is_bytes v (of_kind (both_ways bytes) x v e h)
given_bytes Output c x v e t h = is_bytes v (of_kind OutFile x v e h)

one_param : (p q : Param) → ◌≡◌ {A = Option Param} (Some p) (Some q) → p ≡ q
one_param p q e = cc

left_bytes : (t : Task) (name : List ℕ) (j : ℕ) (p : Param) → slice_get t.params j ≡ Some p → writes_file p ≡ true → TaskPlace t (arg.File name) j → (bytes : List ℕ) × (output_of (Some t) (suc j) ≡ Some (value.File bytes))
left_bytes t name j p at writes h =
    let place = h.place in
    let same : p ≡ place.param = one_param p place.param (sym at ∙ place.takes_it) in
    let takes_one : takes place.arg ≡ true = file_writes place.param name (place.files name) place.arg place.fits place.is ∙ ap writes_file (sym same) ∙ writes in
    let g = place.gives takes_one in
    let b = given_bytes place.param.dir (place.files name) place.arg g.0 place.is takes_one g.2 in
    (b.0, task_output t (arg.File name) j h ∙ g.1 ∙ ap Some b.1)

-- what a task that is done left at a place of a file
pub record Left (t : Tables) (s : Setup) (k n place : ℕ) : Type 0 where
  pub bytes : List ℕ
  pub noted : noted_in (row_outs (row_at t.rows.items n)) place ≡ Some (note.File (length bytes))
  pub holds : version_value s.run.files (world_at s k) (Out n place) ≡ Some (Known bytes)

left_there : (t : Tables) (s : Setup) (k : ℕ) (h : History) (n place : ℕ) (name : List ℕ) (outs : List Value) → Holds t s k h → (left : IsLeft (world_at s k).tasks n place name) → outs_in h n ≡ Some outs → Left t s k n place
left_there t s k h n zero name outs holds left done = absurd (let e = left.takes in cc)
left_there t s k h n (suc j) name outs holds left done =
    let gave = done_is_true s k h n left.task outs holds.good (notes_fit s k holds.fit) left.is done in
    let known = tasks_read_versions s.run k n left.task left.is in
    let b = left_bytes left.task name j left.param left.takes left.writes (task_place s.run (world_at s k) n left.task known.0 j (arg.File name) outs known.2 left.passed gave) in
    record {
      bytes = b.0;
      noted = noted_output t s k h n j left.task outs holds left.is done ∙ ap (option_map note_of) b.1;
      holds = ap (λ (o : Option Task). left_by (output_of o (suc j))) left.is ∙ ap left_by b.1;
    }

some_of : {A : Type 0} (o : Option A) → IsSome o → (x : A) × (o ≡ Some x)
some_of None is = absurd cc
some_of (Some x) is = (x, refl)

pub is_left_of : (s : Setup) (k n place : ℕ) (name : List ℕ) → IsVersionOf (world_at s k) name (Out n place) → IsLeft (world_at s k).tasks n place name
is_left_of s k n place name (inl e) = absurd cc
is_left_of s k n place name (inr left) = left

pub out_there : (t : Tables) (s : Setup) (k : ℕ) (h : History) (n place : ℕ) (name : List ℕ) → Holds t s k h → IsVersionOf (world_at s k) name (Out n place) → IsDone h n → Left t s k n place
out_there t s k h n place name holds is done =
    let outs = some_of (outs_in h n) done in
    left_there t s k h n place name outs.0 holds (is_left_of s k n place name is) outs.1

pub out_waits : (t : Tables) (s : Setup) (k : ℕ) (h : History) (n place : ℕ) (name : List ℕ) → Holds t s k h → IsVersionOf (world_at s k) name (Out n place) → (v : Note) → noted_in (row_outs (row_at t.rows.items n)) place ≡ Some v → IsDone h n
out_waits t s k h n place name holds is v note = of_outs (outs_in h n) refl
  where
    of_outs : (o : Option (List Value)) → outs_in h n ≡ o → IsSome o
    of_outs (Some outs) e = refl
    of_outs None e = let left = is_left_of s k n place name is in let none = noted_none t s k h n place left.task holds left.is e in let f : None ≡ Some v = sym none ∙ note in cc

-- ---- a file that is opened

-- how the latest version of a name is known
pub opens : (t : Tables) (s : Setup) (k : ℕ) (h : History) (name : List ℕ) (v : Version) → Holds t s k h → table.latest name (writes_in t.names) ≡ v → IsVersionOf (world_at s k) name v
opens t s k h name v holds e = subst (IsVersionOf (world_at s k) name) (sym (latest_is t s k h holds name) ∙ e) (latest_is_stored s.run k name)

pub main_stored : (s : Setup) (k j : ℕ) (name : List ℕ) → IsVersionOf (world_at s k) name (Main j) → (bytes : List ℕ) × (at_number (world_at s k).closed j ≡ Some bytes)
main_stored s k j name (inl e) = absurd cc
main_stored s k j name (inr stored) = stored
