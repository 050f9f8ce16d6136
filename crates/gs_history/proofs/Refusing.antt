-- What stands against a call, by the versions that it reads.
use Rattle.std.proofs.Common.{◌≡◌, ℕ, zero, suc, Bool, true, false, refl, sym, ap, ◌∙◌, [], ◌∷◌, Option, Some, None, inl, inr, if◌then◌else◌}
use Rattle.std.specs.Prelude.{List, slice_get}
use Rattle.gs_idl.specs.Interface.{Param, reads_file, writes_file}
use Rattle.gs_idl.specs.declared.idl.Dir.{Dir}
use Rattle.gs_idl.specs.declared.idl.Dir.TheVariants.{Input, Both, Output}
use Rattle.gs_types.specs.declared.value.Value.{Value}
use Rattle.gs_types.specs.declared.value.Value.TheVariants as value
use Rattle.gs_types.specs.declared.job.Arg.{Arg}
use Rattle.gs_types.specs.declared.job.Arg.TheVariants.{Given, Both as both_ways, OutFile}
use Rattle.gs_types.specs.declared.note.Version.{Version}
use Rattle.gs_types.specs.declared.note.Version.TheVariants.{Original, Out, Main}
use Rattle.gs_talk.specs.declared.question.Answer.{Answer}
use Rattle.gs_talk.specs.declared.question.Answer.TheVariants.{TooLong}
use Rattle.gs_talk.specs.declared.question.CallArg.TheVariants as arg
use Rattle.gs_talk.specs.Seq.{Run, Content, Known, Lost, Task, seq, output_of, output_by, content_of, file_given, is_file as is_file_value, refused, or_next, first_refused}
use Rattle.gs_talk_laws.specs.Versions.{latest, writings, version_value, left_by, IsVersionOf, IsLeft, read_by}
use Rattle.gs_talk_laws.proofs.Outputs.{takes, is_of_kind, file_writes}
use Rattle.gs_talk_laws.proofs.Places.{TaskPlace, task_place, task_output}
use Rattle.gs_talk_laws.proofs.Stays.{files_are_versions, latest_is_stored, tasks_read_versions}
use Rattle.gs_history.specs.Refusals.{refused_version, refused_versions, CallsByVersions}

-- ---- what a task left

small_file : (v : Value) → is_file_value v ≡ true → refused (Some (content_of v)) ≡ None
small_file (value.File bytes) e = ap (λ (b : Bool). if b then None else Some TooLong) e
small_file (value.Int n) e = absurd cc
small_file (value.Str s) e = absurd cc

of_kind : (x y : Arg) (v : Value) → ◌≡◌ {A = Option Arg} (Some x) (Some y) → is_of_kind y v ≡ true → is_of_kind x v ≡ true
of_kind x y v e h = let is : x ≡ y = cc in ap (λ (z : Arg). is_of_kind z v) is ∙ h

small_given : (d : Dir) (c : Option Content) (x : Arg) (v : Value) → file_given d c ≡ Some x → takes x ≡ true → is_of_kind x v ≡ true → refused (Some (content_of v)) ≡ None
small_given Input None x v e t h = absurd cc
small_given Input (Some Lost) x v e t h = absurd cc
small_given Input (Some (Known bytes)) x v e t h = absurd (let is : Given (value.File bytes) ≡ x = cc in let f : false ≡ true = ap takes is ∙ t in cc)
small_given Both None x v e t h = absurd cc
small_given Both (Some Lost) x v e t h = absurd cc
small_given Both (Some (Known bytes)) x v e t h = small_file v (of_kind (both_ways bytes) x v e h)
small_given Output c x v e t h = small_file v (of_kind OutFile x v e h)

one_param : (p q : Param) → ◌≡◌ {A = Option Param} (Some p) (Some q) → p ≡ q
one_param p q e = cc

left_small : (t : Task) (name : List ℕ) (j : ℕ) (p : Param) → slice_get t.params j ≡ Some p → writes_file p ≡ true → TaskPlace t (arg.File name) j → refused (left_by (output_of (Some t) (suc j))) ≡ None
left_small t name j p at writes h =
    let place = h.place in
    let same : p ≡ place.param = one_param p place.param (sym at ∙ place.takes_it) in
    let takes_one : takes place.arg ≡ true = file_writes place.param name (place.files name) place.arg place.fits place.is ∙ ap writes_file (sym same) ∙ writes in
    let g = place.gives takes_one in
    ap (λ (o : Option Value). refused (left_by o)) (task_output t (arg.File name) j h ∙ g.1) ∙ small_given place.param.dir (place.files name) place.arg g.0 place.is takes_one g.2

lost_left : (o : Option (List Arg)) (place : ℕ) → output_by o None place ≡ None
lost_left None place = refl
lost_left (Some args) place = refl

left_at : (r : Run) (k n : ℕ) (name : List ℕ) (place : ℕ) (outs : Option (List Value)) → (left : IsLeft (seq r k).world.tasks n place name) → left.task.outs ≡ outs → refused (left_by (output_of (Some left.task) place)) ≡ None
left_at r k n name place None left gave = ap (λ (o : Option (List Value)). refused (left_by (output_by left.task.args o place))) gave ∙ ap (λ (o : Option Value). refused (left_by o)) (lost_left left.task.args place)
left_at r k n name zero (Some outs) left gave = absurd (let e = left.takes in cc)
left_at r k n name (suc j) (Some outs) left gave =
    let known = tasks_read_versions r k n left.task left.is in
    left_small left.task name j left.param left.takes left.writes (task_place r (seq r k).world n left.task known.0 j (arg.File name) outs known.2 left.passed gave)

-- ---- a version

of_version : (r : Run) (k : ℕ) (name : List ℕ) (v : Version) → IsVersionOf (seq r k).world name v → refused (version_value r.files (seq r k).world v) ≡ refused_version r.files (seq r k).world v
of_version r k name (Original x) is = refl
of_version r k name (Main j) is = refl
of_version r k name (Out n place) (inl e) = absurd cc
of_version r k name (Out n place) (inr left) =
    ap (λ (o : Option Task). refused (left_by (output_of o place))) left.is ∙ left_at r k n name place left.task.outs left refl

of_name : (r : Run) (k : ℕ) (name : List ℕ) → refused ((seq r k).world.files name) ≡ refused_version r.files (seq r k).world (latest name (writings r k))
of_name r k name = ap refused (files_are_versions r k name) ∙ of_version r k name (latest name (writings r k)) (latest_is_stored r k name)

-- ---- a call

of_file : (r : Run) (k : ℕ) (name : List ℕ) (b : Bool) (a : Option Answer) (vs : List (Option Version)) → a ≡ refused_versions r.files (seq r k).world vs
    → or_next (if b then refused ((seq r k).world.files name) else None) a ≡ refused_versions r.files (seq r k).world ((if b then Some (latest name (writings r k)) else None) ∷ vs)
of_file r k name true a vs rest = ap (λ (o : Option Answer). or_next o a) (of_name r k name) ∙ ap (or_next (refused_version r.files (seq r k).world (latest name (writings r k)))) rest
of_file r k name false a vs rest = rest

pub calls_by_versions : CallsByVersions
calls_by_versions r k [] args = refl
calls_by_versions r k (p ∷ ps) [] = refl
calls_by_versions r k (p ∷ ps) (arg.File name ∷ args) = of_file r k name (reads_file p) (first_refused (seq r k).world.files ps args) (read_by (writings r k) ps args) (calls_by_versions r k ps args)
calls_by_versions r k (p ∷ ps) (arg.Int v ∷ args) = calls_by_versions r k ps args
calls_by_versions r k (p ∷ ps) (arg.Str s ∷ args) = calls_by_versions r k ps args
calls_by_versions r k (p ∷ ps) (arg.OutInt ∷ args) = calls_by_versions r k ps args
calls_by_versions r k (p ∷ ps) (arg.OutStr ∷ args) = calls_by_versions r k ps args
