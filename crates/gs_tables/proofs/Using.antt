-- A use is answered by what is noted of the task.
use Rattle.std.proofs.Common.{◌≡◌, ◌<◌, ◌+◌, ℕ, zero, suc, Bool, true, false, refl, sym, ap, ◌∙◌, subst, List, [], ◌∷◌, map, arith, Option, Some, None, IsSome, is_some}
use Rattle.std.specs.Prelude.{option_map}
use Rattle.std.specs.List.{slice_get}
use Rattle.gs_types.specs.declared.note.Note.{Note}
use Rattle.gs_types.specs.declared.value.Value.{Value}
use Rattle.gs_types.specs.declared.value.Value.TheVariants as value
use Rattle.gs_types.specs.declared.job.Arg.{Arg}
use Rattle.gs_types.specs.declared.job.Arg.TheVariants.{OutInt, OutStr}
use Rattle.gs_types.specs.History.{History, outs_in}
use Rattle.gs_talk.specs.declared.question.CallArg.{CallArg}
use Rattle.gs_talk.specs.declared.question.CallArg.TheVariants as arg
use Rattle.gs_talk.specs.declared.question.Question.TheVariants.{Use}
use Rattle.gs_talk.specs.declared.question.Answer.{Answer}
use Rattle.gs_talk.specs.declared.question.Answer.TheVariants.{Val}
use Rattle.gs_talk.specs.Talk.{State, Dialogue, Ask}
use Rattle.gs_talk.specs.Seq.{Task, Files, task_at, given, output_at, output_of, val_of}
use Rattle.gs_talk_laws.specs.Numbers.{at_number}
use Rattle.gs_talk_laws.specs.Uses.{is_left}
use Rattle.gs_talk_laws.proofs.Proper.{Proper}
use Rattle.gs_talk_laws.proofs.Telling.{called_all, seq_told}
use Rattle.gs_talk_laws.proofs.Outputs.{takes, is_of_kind}
use Rattle.gs_talk_laws.proofs.Places.{task_place, task_output}
use Rattle.gs_talk_laws.proofs.Stays.{tasks_read_versions}
use Rattle.gs_history.specs.Setup.{Setup, world_at, rest_at}
use Rattle.gs_history.specs.Notes.{note_of}
use Rattle.gs_history.specs.Frontier.{IsDone}
use Rattle.gs_history.proofs.Ending.{done_is_true}
use Rattle.gs_history.proofs.Fitting.{notes_fit}
use Rattle.gs_tables.specs.Outs.{noted_in}
use Rattle.gs_tables.specs.Rows.{row_at, row_outs}
use Rattle.gs_tables.specs.Holds.{Holds}
use Rattle.gs_tables.specs.Asked.{IsDueAnswer, scalar_of, value_of}
use Rattle.gs_tables.specs.declared.answering.Scalar.{Scalar}
use Rattle.gs_tables.specs.declared.tables.Tables.{Tables}
use Rattle.gs_tables.proofs.Giving.{noted_output, noted_none}

some_args : (t : Task) (args : List CallArg) → ◌≡◌ {A = Option (List CallArg)} (Some t.called) (Some args) → t.called ≡ args
some_args t args e = cc

called_get : (tasks : List Task) (i : ℕ) (args : List CallArg) → slice_get (called_all tasks) i ≡ Some args → (t : Task) × (slice_get tasks i ≡ Some t) × (t.called ≡ args)
called_get [] i args e = absurd cc
called_get (t ∷ tasks) zero args e = (t, refl, some_args t args e)
called_get (t ∷ tasks) (suc i) args e = called_get tasks i args e

-- the place that is used: a task's, where a number or a string is left
record IsUse (s : Setup) (k n place : ℕ) : Type 0 where
  task : Task
  at : task_at (world_at s k).tasks n ≡ Some task
  j : ℕ
  place_is : place ≡ suc j
  arg : CallArg
  stands : slice_get task.called j ≡ Some arg
  left : is_left arg ≡ true

use_of : (s : Setup) (k n place : ℕ) (args : List CallArg) (a : CallArg) → at_number (called_all (world_at s k).tasks) n ≡ Some args → at_number args place ≡ Some a → is_left a ≡ true → IsUse s k n place
use_of s k zero place args a called stands left = absurd cc
use_of s k (suc n) zero args a called stands left = absurd cc
use_of s k (suc n) (suc j) args a called stands left =
    let there = called_get (world_at s k).tasks n args called in
    record { task = there.0; at = there.1; j = j; place_is = refl; arg = a; stands = ap (λ (l : List CallArg). slice_get l j) there.2 ∙ stands; left = left }

is_use : (s : Setup) (k n place : ℕ) (st : State) (next : Answer → Dialogue) → rest_at s k ≡ Ask (Use n place) st next → IsUse s k n place
is_use s k n place st next e =
    let h = seq_told s.run k in
    let p : Proper s.run.texts.ops h.told (Ask (Use n place) st next) = subst (Proper s.run.texts.ops h.told) e h.proper in
    let called = p.1.called in
    use_of s k n place called.args called.arg (ap (λ (l : List (List CallArg)). at_number l n) (sym h.calls) ∙ called.called) called.stands called.left

-- a number or a string is a scalar
scalar_value : (x : Arg) (v : Value) → (x ≡ OutInt) → is_of_kind x v ≡ true → (c : Scalar) × (scalar_of (note_of v) ≡ Some c) × (value_of c ≡ v)
scalar_value x (value.Int i) is h = (_, refl, refl)
scalar_value x (value.Str t) is h = absurd (let f : false ≡ true = ap (λ (y : Arg). is_of_kind y (value.Str t)) (sym is) ∙ h in cc)
scalar_value x (value.File b) is h = absurd (let f : false ≡ true = ap (λ (y : Arg). is_of_kind y (value.File b)) (sym is) ∙ h in cc)

string_value : (x : Arg) (v : Value) → (x ≡ OutStr) → is_of_kind x v ≡ true → (c : Scalar) × (scalar_of (note_of v) ≡ Some c) × (value_of c ≡ v)
string_value x (value.Str t) is h = (_, refl, refl)
string_value x (value.Int i) is h = absurd (let f : false ≡ true = ap (λ (y : Arg). is_of_kind y (value.Int i)) (sym is) ∙ h in cc)
string_value x (value.File b) is h = absurd (let f : false ≡ true = ap (λ (y : Arg). is_of_kind y (value.File b)) (sym is) ∙ h in cc)

some_arg : (a b : Arg) → ◌≡◌ {A = Option Arg} (Some a) (Some b) → b ≡ a
some_arg a b e = cc

left_value : (files : Files) (p : _) (a : CallArg) (x : Arg) (v : Value) → is_left a ≡ true → given files p a ≡ Some x → is_of_kind x v ≡ true → (c : Scalar) × (scalar_of (note_of v) ≡ Some c) × (value_of c ≡ v)
left_value files p (arg.File name) x v left e h = absurd cc
left_value files p (arg.Int i) x v left e h = absurd cc
left_value files p (arg.Str t) x v left e h = absurd cc
left_value files p arg.OutInt x v left e h = scalar_value x v (some_arg OutInt x e) h
left_value files p arg.OutStr x v left e h = string_value x v (some_arg OutStr x e) h

left_takes : (files : Files) (p : _) (a : CallArg) (x : Arg) → is_left a ≡ true → given files p a ≡ Some x → takes x ≡ true
left_takes files p (arg.File name) x left e = absurd cc
left_takes files p (arg.Int i) x left e = absurd cc
left_takes files p (arg.Str t) x left e = absurd cc
left_takes files p arg.OutInt x left e = ap takes (some_arg OutInt x e)
left_takes files p arg.OutStr x left e = ap takes (some_arg OutStr x e)

-- once the task is done, the note at the place is the value's
record Found (tables : Tables) (s : Setup) (k n place : ℕ) : Type 0 where
  scalar : Scalar
  noted : Note
  note_is : noted_in (row_outs (row_at tables.rows.items n)) place ≡ Some noted
  scalar_is : scalar_of noted ≡ Some scalar
  output : output_of (task_at (world_at s k).tasks n) place ≡ Some (value_of scalar)

found : (tables : Tables) (s : Setup) (k : ℕ) (h : History) (n place : ℕ) (outs : List Value) → Holds tables s k h → IsUse s k n place → outs_in h n ≡ Some outs → Found tables s k n place
found tables s k h n place outs holds u done =
    let known = tasks_read_versions s.run k n u.task u.at in
    let gave = done_is_true s k h n u.task outs holds.good (notes_fit s k holds.fit) u.at done in
    let tp = task_place s.run (world_at s k) n u.task known.0 u.j u.arg outs known.2 u.stands gave in
    let pl = tp.place in
    let g = pl.gives (left_takes pl.files pl.param u.arg pl.arg u.left pl.is) in
    let c = left_value pl.files pl.param u.arg pl.arg g.0 u.left pl.is g.2 in
    let out : output_of (Some u.task) (suc u.j) ≡ Some g.0 = task_output u.task u.arg u.j tp ∙ g.1 in
    record {
      scalar = c.0;
      noted = note_of g.0;
      note_is = ap (noted_in (row_outs (row_at tables.rows.items n))) u.place_is ∙ noted_output tables s k h n u.j u.task outs holds u.at done ∙ ap (option_map note_of) out;
      scalar_is = c.1;
      output = ap (λ (o : Option Task). output_of o place) u.at ∙ ap (output_of (Some u.task)) u.place_is ∙ out ∙ ap Some (sym c.2);
    }

abbrev pub scalar_in : Option Note → Option Scalar
scalar_in None = None
scalar_in (Some v) = scalar_of v

of_outs : (tables : Tables) (s : Setup) (k : ℕ) (h : History) (n place : ℕ) (o : Option (List Value)) → Holds tables s k h → IsUse s k n place → outs_in h n ≡ o
    → (c : Scalar) → scalar_in (noted_in (row_outs (row_at tables.rows.items n)) place) ≡ Some c → IsDueAnswer s k h (Use n place) (Val (value_of c))
of_outs tables s k h n place None holds u none c e = absurd (let f = ap scalar_in (noted_none tables s k h n place u.task holds u.at none) in let g : None ≡ Some c = sym f ∙ e in cc)
of_outs tables s k h n place (Some outs) holds u done c e =
    let is = found tables s k h n place outs holds u done in
    let same : Some is.scalar ≡ Some c = sym is.scalar_is ∙ sym (ap scalar_in is.note_is) ∙ e in
    let scalar : is.scalar ≡ c = cc in
    record { may = ap is_some done; says = ap val_of is.output ∙ ap (λ (x : Scalar). Some (Val (value_of x))) scalar }

pub use_due : (tables : Tables) (s : Setup) (k : ℕ) (h : History) (n place : ℕ) (st : State) (next : Answer → Dialogue) → Holds tables s k h → rest_at s k ≡ Ask (Use n place) st next
    → (c : Scalar) (v : Note) → noted_in (row_outs (row_at tables.rows.items n)) place ≡ Some v → scalar_of v ≡ Some c → IsDueAnswer s k h (Use n place) (Val (value_of c))
use_due tables s k h n place st next holds e c v note is = of_outs tables s k h n place (outs_in h n) holds (is_use s k n place st next e) refl c (ap scalar_in note ∙ is)

not_done : (tables : Tables) (s : Setup) (k : ℕ) (h : History) (n place : ℕ) (o : Option (List Value)) → Holds tables s k h → IsUse s k n place → outs_in h n ≡ o
    → scalar_in (noted_in (row_outs (row_at tables.rows.items n)) place) ≡ None → IsDone h n → ⊥
not_done tables s k h n place None holds u none e done = let f : false ≡ true = sym (ap is_some none) ∙ done in cc
not_done tables s k h n place (Some outs) holds u is e done =
    let f = found tables s k h n place outs holds u is in
    let same : None ≡ Some f.scalar = sym e ∙ ap scalar_in f.note_is ∙ f.scalar_is in cc

pub use_waits : (tables : Tables) (s : Setup) (k : ℕ) (h : History) (n place : ℕ) (st : State) (next : Answer → Dialogue) → Holds tables s k h → rest_at s k ≡ Ask (Use n place) st next
    → noted_in (row_outs (row_at tables.rows.items n)) place ≡ None → IsDone h n → ⊥
use_waits tables s k h n place st next holds e none = not_done tables s k h n place (outs_in h n) holds (is_use s k n place st next e) refl (ap scalar_in none)

pub use_other : (tables : Tables) (s : Setup) (k : ℕ) (h : History) (n place : ℕ) (st : State) (next : Answer → Dialogue) → Holds tables s k h → rest_at s k ≡ Ask (Use n place) st next
    → (v : Note) → noted_in (row_outs (row_at tables.rows.items n)) place ≡ Some v → scalar_of v ≡ None → IsDone h n → ⊥
use_other tables s k h n place st next holds e v note none = not_done tables s k h n place (outs_in h n) holds (is_use s k n place st next e) refl (ap scalar_in note ∙ none)
