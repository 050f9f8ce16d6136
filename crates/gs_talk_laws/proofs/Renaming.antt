-- Each file holds what its last version holds, and each task takes what the versions hold that it reads.
use Rattle.std.proofs.Common.{◌≡◌, ◌+◌, ℕ, zero, suc, Bool, true, false, refl, sym, ap, ap₂, ◌∙◌, subst, List, [], ◌∷◌, ◌++◌, length, length-append, append-nil, Option, Some, None, arith, slice_get, inl, inr, if◌then◌else◌}
use Rattle.std.specs.Str.{bytes_eq}
use Rattle.gs_idl.specs.Interface.{Param, name_at, params_at, is_input, is_file, reads_file}
use Rattle.gs_idl.specs.declared.idl.Dir.{Dir}
use Rattle.gs_idl.specs.declared.idl.Dir.TheVariants.{Input, Both, Output}
use Rattle.gs_types.specs.Job.{Meaning, inputs}
use Rattle.gs_types.specs.declared.value.Value.{Value}
use Rattle.gs_types.specs.declared.job.Arg.{Arg}
use Rattle.gs_types.specs.declared.note.Version.{Version}
use Rattle.gs_types.specs.declared.note.Version.TheVariants.{Original, Out, Main}
use Rattle.gs_talk.specs.declared.question.CallArg.{CallArg}
use Rattle.gs_talk.specs.declared.question.CallArg.TheVariants as arg
use Rattle.gs_talk.specs.declared.question.Question.{Question}
use Rattle.gs_talk.specs.declared.question.Question.TheVariants.{Call, Use, OpenFile, CloseFile, Barrier, End, Fault, FuelOut}
use Rattle.gs_talk.specs.declared.question.Answer.{Answer}
use Rattle.gs_talk.specs.Talk.{Dialogue, Done, Ask, Stop}
use Rattle.gs_talk.specs.Seq.{Run, World, Files, Content, Known, Lost, Task, Standing, seq, step_by, answered, reply, went_unless, world_after, after_call, first_refused, task_of, ran, with_file, file_given, given, and_all, all_given, gives, fitting, fit, files_by, output_at, output_by, output_of, task_at}
use Rattle.gs_talk_laws.specs.Numbers.{at_number}
use Rattle.gs_talk_laws.specs.Uses.{Told, FitsParam, AreFit}
use Rattle.gs_talk_laws.specs.Versions.{Written, latest_from, latest, written_by, if_goes, written_in, written_next, writings, left_by, closed_as, version_value, IsStored, IsVersionOf, read_at, read_by, read_in, read_next, readings, content_by, all_given_by, IsRead, IsTaskOf}
use Rattle.gs_talk_laws.proofs.Lists.{all_of, prefix_same, number_longer, get_either, get_last}
use Rattle.gs_talk_laws.proofs.Staying.{Grown, next_seq}
use Rattle.gs_talk_laws.proofs.Outputs.{Left, lost_files, set_files, and_true, file_kind, if_same}
use Rattle.gs_talk_laws.proofs.Proper.{Right, Proper}
use Rattle.gs_talk_laws.proofs.Telling.{seq_told}
use Rattle.gs_talk_laws.proofs.Versions.{version_later, value_later, latest-append, AllStored, all_later, all-append, latest_stored, written_stored, task_later, version_before}

abbrev pub Readings : Type 0
Readings = List (List (Option Version))

-- the writings and the readings are those of the world
pub record Sound (r : Run) (w : World) (ws : List Written) (rs : Readings) : Type 0 where
  pub files : (x : List ℕ) → w.files x ≡ version_value r.files w (latest x ws)
  pub stored : AllStored w ws
  pub count : length rs ≡ length w.tasks
  pub tasks : (n : ℕ) (t : Task) → task_at w.tasks n ≡ Some t → (reads : List (Option Version)) × (at_number rs n ≡ Some reads) × IsTaskOf r w n t reads

pub known : (r : Run) (w : World) (ws : List Written) (rs : Readings) → Sound r w ws rs → (x : List ℕ) → IsVersionOf w x (latest x ws)
known r w ws rs s x = latest_stored w x ws (Original x) s.stored (inl refl)

same_sound : (r : Run) (w : World) (ws : List Written) (rs : Readings) → Sound r w ws rs → Sound r w (ws ++ []) (rs ++ [])
same_sound r w ws rs s = subst (λ (us : List Written). Sound r w us (rs ++ [])) (sym (append-nil ws)) (subst (λ (us : Readings). Sound r w ws us) (sym (append-nil rs)) s)

-- ---- what a new task takes

no_input : (d : Dir) (c : Option Content) → is_input d ≡ false → file_given d c ≡ file_given d None
no_input Input c e = absurd (cc)
no_input Both c e = absurd (cc)
no_input Output c e = refl

file_by : (first files : Files) (w : World) (ws : List Written) (p : Param) (name : List ℕ) → FitsParam p (arg.File name) → files name ≡ version_value first w (latest name ws) →
    (b : Bool) → reads_file p ≡ b → file_given p.dir (files name) ≡ file_given p.dir (content_by first w (if b then Some (latest name ws) else None))
file_by first files w ws p name h e true is = ap (file_given p.dir) e
file_by first files w ws p name h e false is = no_input p.dir (files name) (sym (and_true (is_input p.dir) (is_file p.kind) (file_kind p name h)) ∙ is)

given_by : (first files : Files) (w : World) (ws : List Written) → ((x : List ℕ) → files x ≡ version_value first w (latest x ws)) → (p : Param) (a : CallArg) → FitsParam p a →
    given files p a ≡ given (λ name. content_by first w (read_at ws p a)) p a
given_by first files w ws h p (arg.Int k) fits = refl
given_by first files w ws h p (arg.Str s) fits = refl
given_by first files w ws h p arg.OutInt fits = refl
given_by first files w ws h p arg.OutStr fits = refl
given_by first files w ws h p (arg.File name) fits = file_by first files w ws p name fits (h name) (reads_file p) refl

args_by : (first files : Files) (w : World) (ws : List Written) → ((x : List ℕ) → files x ≡ version_value first w (latest x ws)) → (ps : List Param) (args : List CallArg) → AreFit args ps →
    all_given files ps args ≡ all_given_by first w (read_by ws ps args) ps args
args_by first files w ws h [] args fits = refl
args_by first files w ws h (p ∷ ps) [] fits = refl
args_by first files w ws h (p ∷ ps) (a ∷ args) fits = ap₂ and_all (given_by first files w ws h p a fits.0) (args_by first files w ws h ps args fits.1)

read_length : (ws : List Written) (ps : List Param) (args : List CallArg) → AreFit args ps → length (read_by ws ps args) ≡ length args
read_length ws [] [] fits = refl
read_length ws [] (a ∷ args) fits = absurd fits
read_length ws (p ∷ ps) [] fits = refl
read_length ws (p ∷ ps) (a ∷ args) fits = let e = read_length ws ps args fits.1 in omega arith

-- a version that is read is the last one of a file that is passed
abbrev ReadsFile : List Written → List CallArg → (i : ℕ) → Version → Type 0
ReadsFile ws args i v = (name : List ℕ) × (slice_get args i ≡ Some (arg.File name)) × (latest name ws ≡ v)

file_read : (ws : List Written) (p : Param) (name : List ℕ) (args : List CallArg) (v : Version) → (b : Bool) → Some (if b then Some (latest name ws) else None) ≡ Some (Some v) → ReadsFile ws (arg.File name ∷ args) 0 v
file_read ws p name args v true e = (name, refl, let is : latest name ws ≡ v = cc in is)
file_read ws p name args v false e = absurd (cc)

reads_file_at : (ws : List Written) (ps : List Param) (args : List CallArg) (i : ℕ) (v : Version) → slice_get (read_by ws ps args) i ≡ Some (Some v) → ReadsFile ws args i v
reads_file_at ws [] args i v e = absurd (cc)
reads_file_at ws (p ∷ ps) [] i v e = absurd (cc)
reads_file_at ws (p ∷ ps) (arg.File name ∷ args) zero v e = file_read ws p name args v (reads_file p) e
reads_file_at ws (p ∷ ps) (arg.Int k ∷ args) zero v e = absurd (cc)
reads_file_at ws (p ∷ ps) (arg.Str s ∷ args) zero v e = absurd (cc)
reads_file_at ws (p ∷ ps) (arg.OutInt ∷ args) zero v e = absurd (cc)
reads_file_at ws (p ∷ ps) (arg.OutStr ∷ args) zero v e = absurd (cc)
reads_file_at ws (p ∷ ps) (a ∷ args) (suc i) v e = reads_file_at ws ps args i v e

-- ---- the files after a task

pub gives_fit : (law : Meaning) (op : List ℕ) (o : Option (List Arg)) (outs : List Value) → gives law op o ≡ Some outs → (xs : List Arg) × (o ≡ Some xs) × (fit xs outs ≡ true)
gives_fit law op None outs e = absurd (cc)
gives_fit law op (Some xs) outs e = (xs, refl, of_law (law op (inputs xs)) e)
  where
    of_fit : (us : List Value) (b : Bool) → fit xs us ≡ b → (if b then Some us else None) ≡ Some outs → fit xs outs ≡ true
    of_fit us true f g = let is : us ≡ outs = cc in ap (fit xs) (sym is) ∙ f
    of_fit us false f g = absurd (cc)

    of_law : (o : Option (List Value)) → fitting xs o ≡ Some outs → fit xs outs ≡ true
    of_law None g = absurd (cc)
    of_law (Some us) g = of_fit us (fit xs us) refl g

no_output : (o : Option (List Arg)) (place : ℕ) → output_by o None place ≡ None
no_output None place = refl
no_output (Some xs) place = refl

abbrev new_task : (r : Run) (w : World) (op : ℕ) (args : List CallArg) → Task
new_task r w op args = task_of r.law r.texts.ops w.files op args

abbrev new_world : (r : Run) (w : World) (op : ℕ) (args : List CallArg) → World
new_world r w op args = ran (new_task r w op args) w

called_grown : (r : Run) (w : World) (op : ℕ) (args : List CallArg) → Grown w (new_world r w op args)
called_grown r w op args = record { tasks = (new_task r w op args ∷ [], refl); closed = prefix_same w.closed }

number_last : (tasks : List Task) (t : Task) → task_at (tasks ++ t ∷ []) (length tasks + 1) ≡ Some t
number_last tasks t = let e : length tasks + 1 ≡ suc (length tasks) = omega arith in rw e (get_last tasks t)

lost_outputs : (r : Run) (w : World) (op : ℕ) (args : List CallArg) → (new_task r w op args).outs ≡ None → (place : ℕ) → Some Lost ≡ version_value r.files (new_world r w op args) (Out (length w.tasks + 1) place)
lost_outputs r w op args lost place =
    let t = new_task r w op args in
    ap left_by (sym (no_output t.args place) ∙ ap (λ o. output_by t.args o place) (sym lost) ∙ ap (λ o. output_of o place) (sym (number_last w.tasks t)))

outputs_left : (r : Run) (w : World) (op : ℕ) (args : List CallArg) (xs : List Arg) (outs : List Value) → AreFit args (params_at r.texts.ops op) → (new_task r w op args).args ≡ Some xs → (new_task r w op args).outs ≡ Some outs → fit xs outs ≡ true →
    Left w.files (λ place. output_of (Some (new_task r w op args)) place) 0 (params_at r.texts.ops op) args xs outs
outputs_left r w op args xs outs fits ea eo f = record {
  given = ea;
  fits = fits;
  fit = f;
  rest = λ j. let e : suc (0 + j) ≡ suc j = omega arith in ap₂ (λ a o. output_by a o (suc (0 + j))) ea eo ∙ ap (output_at xs outs) e;
}

-- the files hold what the old versions hold, and what the task leaves
files_called : (r : Run) (w : World) (op : ℕ) (args : List CallArg) (x : List ℕ) (v : Version) → AreFit args (params_at r.texts.ops op) → w.files x ≡ version_value r.files (new_world r w op args) v →
    (o : Option (List Value)) → (new_task r w op args).outs ≡ o →
    files_by o (params_at r.texts.ops op) args w.files x ≡ version_value r.files (new_world r w op args) (latest_from v x (written_by (length w.tasks + 1) 1 (params_at r.texts.ops op) args))
files_called r w op args x v fits e None is =
    lost_files (version_value r.files (new_world r w op args)) (length w.tasks + 1) x (lost_outputs r w op args is) (params_at r.texts.ops op) args 1 w.files v e
files_called r w op args x v fits e (Some outs) is =
    let t = new_task r w op args in
    let f = gives_fit r.law (name_at r.texts.ops op) t.args outs is in
    set_files (version_value r.files (new_world r w op args)) (length w.tasks + 1) x (λ place. output_of (Some t) place) (λ place. ap (λ o. left_by (output_of o place)) (sym (number_last w.tasks t)))
    w.files (params_at r.texts.ops op) args 0 f.0 outs w.files v (outputs_left r w op args f.0 outs fits f.1 is f.2) e

new_read : (r : Run) (w : World) (ws : List Written) (rs : Readings) → Sound r w ws rs → (op : ℕ) (args : List CallArg) (i : ℕ) (v : Version) → ReadsFile ws args i v → IsRead (new_world r w op args) (length w.tasks + 1) args i v
new_read r w ws rs s op args i v h =
    let of : IsVersionOf w h.0 v = subst (IsVersionOf w h.0) h.2 (known r w ws rs s h.0) in
    record {
      name = h.0;
      passed = h.1;
      version = version_later w (new_world r w op args) (called_grown r w op args) h.0 v of;
      before = version_before w h.0 v (length w.tasks + 1) (omega arith) of;
    }

new_task_of : (r : Run) (w : World) (ws : List Written) (rs : Readings) → Sound r w ws rs → (op : ℕ) (args : List CallArg) → AreFit args (params_at r.texts.ops op) →
    ((x : List ℕ) → w.files x ≡ version_value r.files (new_world r w op args) (latest x ws)) → IsTaskOf r (new_world r w op args) (length w.tasks + 1) (new_task r w op args) (read_by ws (params_at r.texts.ops op) args)
new_task_of r w ws rs s op args fits files = record {
  params = refl;
  fit = fits;
  places = read_length ws (params_at r.texts.ops op) args fits;
  args = args_by r.files w.files (new_world r w op args) ws files (params_at r.texts.ops op) args fits;
  outs = refl;
  each = λ i v e. new_read r w ws rs s op args i v (reads_file_at ws (params_at r.texts.ops op) args i v e);
}

abbrev Reading : (r : Run) (w : World) (rs : Readings) (n : ℕ) (t : Task) → Type 0
Reading r w rs n t = (reads : List (Option Version)) × (at_number rs n ≡ Some reads) × IsTaskOf r w n t reads

-- the tasks in a world with one task more
tasks_called : (r : Run) (w v : World) (rs : Readings) (t : Task) (reads : List (Option Version)) → Grown w v → length rs ≡ length w.tasks → ((n : ℕ) (u : Task) → task_at w.tasks n ≡ Some u → Reading r w rs n u) →
    IsTaskOf r v (length w.tasks + 1) t reads → (n : ℕ) (u : Task) → task_at (w.tasks ++ t ∷ []) n ≡ Some u → Reading r v (rs ++ reads ∷ []) n u
tasks_called r w v rs t reads g count old new zero u e = absurd (cc)
tasks_called r w v rs t reads g count old new (suc i) u e = elim (get_either w.tasks t i u e) [
  | inl before ↦ (let o = old (suc i) u before in (o.0, number_longer rs (rs ++ reads ∷ []) (suc i) o.0 (reads ∷ [], refl) o.1, task_later r w v g (suc i) u o.0 o.2))
  | inr now ↦ (
      let at : i ≡ length rs = now.0 ∙ sym count in
      let n : length w.tasks + 1 ≡ suc i = (let e = now.0 in omega arith) in
      (reads, ap (λ j. slice_get (rs ++ reads ∷ []) j) at ∙ get_last rs reads, subst (λ (m : ℕ). IsTaskOf r v m u reads) n (subst (λ (x : Task). IsTaskOf r v (length w.tasks + 1) x reads) now.1 new))
      )
]

one_longer : {A B : Type 0} (xs : List A) (ys : List B) (x : A) (y : B) → length xs ≡ length ys → length (xs ++ x ∷ []) ≡ length (ys ++ y ∷ [])
one_longer xs ys x y e = let a = length-append xs (x ∷ []) in let b = length-append ys (y ∷ []) in omega arith

called_sound : (r : Run) (w : World) (ws : List Written) (rs : Readings) → Sound r w ws rs → (op : ℕ) (args : List CallArg) → AreFit args (params_at r.texts.ops op) →
    Sound r (new_world r w op args) (ws ++ written_by (length w.tasks + 1) 1 (params_at r.texts.ops op) args) (rs ++ read_by ws (params_at r.texts.ops op) args ∷ [])
called_sound r w ws rs s op args fits =
    let v = new_world r w op args in
    let t = new_task r w op args in
    let us = written_by (length w.tasks + 1) 1 (params_at r.texts.ops op) args in
    let reads = read_by ws (params_at r.texts.ops op) args in
    let g = called_grown r w op args in
    let files : (x : List ℕ) → w.files x ≡ version_value r.files v (latest x ws) = λ x. s.files x ∙ sym (value_later r.files w v g x (latest x ws) (known r w ws rs s x)) in
    record {
      files = λ x. files_called r w op args x (latest x ws) fits (files x) t.outs refl ∙ ap (version_value r.files v) (sym (latest-append (Original x) x ws us));
      stored = all-append v ws us (all_later w v g ws s.stored) (written_stored v (length w.tasks + 1) t (number_last w.tasks t) (params_at r.texts.ops op) args 1 (all_of (params_at r.texts.ops op)) (all_of args));
      count = one_longer rs w.tasks reads t s.count;
      tasks = tasks_called r w v rs t reads g s.count s.tasks (new_task_of r w ws rs s op args fits files);
    }

-- ---- the files after a close

closed_number : (closed : List (List ℕ)) (bytes : List ℕ) → at_number (closed ++ bytes ∷ []) (length closed + 1) ≡ Some bytes
closed_number closed bytes = let e : length closed + 1 ≡ suc (length closed) = omega arith in rw e (get_last closed bytes)

abbrev closed_world : (w : World) (name bytes : List ℕ) → World
closed_world w name bytes = record w { files = with_file name (Known bytes) w.files; closed = w.closed ++ bytes ∷ [] }

one_stored : (v : World) (name bytes : List ℕ) (k : ℕ) → at_number v.closed k ≡ Some bytes → (i : ℕ) (y : Written) → slice_get (record { name = name; version = Main k } ∷ []) i ≡ Some y → IsStored v y.name y.version
one_stored v name bytes k is zero y e = let same : record { name = name; version = Main k } ≡ y = cc in subst (λ (z : Written). IsStored v z.name z.version) same (bytes, is)
one_stored v name bytes k is (suc i) y e = absurd (cc)

closed_sound : (r : Run) (w : World) (ws : List Written) (rs : Readings) → Sound r w ws rs → (name bytes : List ℕ) →
    Sound r (closed_world w name bytes) (ws ++ record { name = name; version = Main (length w.closed + 1) } ∷ []) (rs ++ [])
closed_sound r w ws rs s name bytes =
    let v = closed_world w name bytes in
    let k = length w.closed + 1 in
    let one : Written = record { name = name; version = Main k } in
    let g : Grown w v = record { tasks = prefix_same w.tasks; closed = (bytes ∷ [], refl) } in
    let here : Some (Known bytes) ≡ version_value r.files v (Main k) = ap closed_as (sym (closed_number w.closed bytes)) in
    let sound : Sound r v (ws ++ one ∷ []) rs = record {
      files = λ x.
          if_same (version_value r.files v) (bytes_eq name x) (Main k) (latest x ws) (Some (Known bytes)) (w.files x) here (s.files x ∙ sym (value_later r.files w v g x (latest x ws) (known r w ws rs s x)))
          ∙ ap (version_value r.files v) (sym (latest-append (Original x) x ws (one ∷ [])));
      stored = all-append v ws (one ∷ []) (all_later w v g ws s.stored) (λ i y e. one_stored v name bytes k (closed_number w.closed bytes) i y e);
      count = s.count;
      tasks = λ n t e. (let o = s.tasks n t e in (o.0, o.1, task_later r w v g n t o.0 o.2));
    } in
    subst (λ (us : Readings). Sound r v (ws ++ one ∷ []) us) (sym (append-nil rs)) sound

-- ---- each question

refused_sound : (r : Run) (w : World) (ws : List Written) (rs : Readings) → Sound r w ws rs → (op : ℕ) (args : List CallArg) → AreFit args (params_at r.texts.ops op) → (o : Option Answer) →
    Sound r (after_call r.law r.texts.ops op args o w) (ws ++ if_goes o (written_by (length w.tasks + 1) 1 (params_at r.texts.ops op) args)) (rs ++ if_goes o (read_by ws (params_at r.texts.ops op) args ∷ []))
refused_sound r w ws rs s op args fits None = called_sound r w ws rs s op args fits
refused_sound r w ws rs s op args fits (Some a) = same_sound r w ws rs s

question_sound : (r : Run) (w : World) (ws : List Written) (rs : Readings) (h : Told) → Sound r w ws rs → (q : Question) → Right r.texts.ops h q →
    Sound r (world_after r.law r.texts.ops w q) (ws ++ written_in r.texts.ops w q) (rs ++ read_in r.texts.ops w ws q)
question_sound r w ws rs h s (Call op line args) right = refused_sound r w ws rs s op args right (first_refused w.files (params_at r.texts.ops op) args)
question_sound r w ws rs h s (CloseFile name bytes) right = closed_sound r w ws rs s name bytes
question_sound r w ws rs h s (Use n place) right = same_sound r w ws rs s
question_sound r w ws rs h s (OpenFile name mode line) right = same_sound r w ws rs s
question_sound r w ws rs h s Barrier right = same_sound r w ws rs s
question_sound r w ws rs h s End right = same_sound r w ws rs s
question_sound r w ws rs h s (Fault line fault) right = same_sound r w ws rs s
question_sound r w ws rs h s FuelOut right = same_sound r w ws rs s

-- a question that isn't answered changes nothing
answered_world : (r : Run) (at : Standing) (q : Question) (next : Answer → Dialogue) → (answered r at q next (reply r.texts.ops at.world q)).world ≡ world_after r.law r.texts.ops at.world q
answered_world r at (Call op line args) next = of_call (first_refused at.world.files (params_at r.texts.ops op) args)
  where
    of_call : (o : Option Answer) → (answered r at (Call op line args) next (went_unless o)).world ≡ world_after r.law r.texts.ops at.world (Call op line args)
    of_call None = refl
    of_call (Some a) = refl
answered_world r at (CloseFile name bytes) next = refl
answered_world r at (Use n place) next = of_reply (reply r.texts.ops at.world (Use n place))
  where
    of_reply : (o : Option Answer) → (answered r at (Use n place) next o).world ≡ at.world
    of_reply None = refl
    of_reply (Some a) = refl
answered_world r at (OpenFile name mode line) next = of_reply (reply r.texts.ops at.world (OpenFile name mode line))
  where
    of_reply : (o : Option Answer) → (answered r at (OpenFile name mode line) next o).world ≡ at.world
    of_reply None = refl
    of_reply (Some a) = refl
answered_world r at Barrier next = of_reply (reply r.texts.ops at.world Barrier)
  where
    of_reply : (o : Option Answer) → (answered r at Barrier next o).world ≡ at.world
    of_reply None = refl
    of_reply (Some a) = refl
answered_world r at End next = refl
answered_world r at (Fault line fault) next = refl
answered_world r at FuelOut next = refl

dialogue_sound : (r : Run) (at : Standing) (ws : List Written) (rs : Readings) (h : Told) → Sound r at.world ws rs → (d : Dialogue) → Proper r.texts.ops h d →
    Sound r (step_by r at d).world (ws ++ written_next r at.world d) (rs ++ read_next r at.world ws d)
dialogue_sound r at ws rs h s (Done n u) p = same_sound r at.world ws rs s
dialogue_sound r at ws rs h s (Stop q u) p = same_sound r at.world ws rs s
dialogue_sound r at ws rs h s (Ask q u next) p =
    subst (λ (w : World). Sound r w (ws ++ written_in r.texts.ops at.world q) (rs ++ read_in r.texts.ops at.world ws q)) (sym (answered_world r at q next)) (question_sound r at.world ws rs h s q p.1)

-- ---- at each moment

pub next_writings : (r : Run) (k : ℕ) → writings r (suc k) ≡ writings r k ++ written_next r (seq r k).world (seq r k).rest
unfolding writings
next_writings r k = refl

pub next_readings : (r : Run) (k : ℕ) → readings r (suc k) ≡ readings r k ++ read_next r (seq r k).world (writings r k) (seq r k).rest
unfolding readings
next_readings r k = refl

no_task : (n : ℕ) (t : Task) → task_at [] n ≡ Some t → ⊥
no_task zero t e = cc
no_task (suc n) t e = cc

first_sound : (r : Run) → Sound r (seq r zero).world (writings r zero) (readings r zero)
unfolding seq writings readings
first_sound r = record { files = λ x. refl; stored = λ i y e. absurd (cc); count = refl; tasks = λ n t e. absurd (no_task n t e) }

pub always_sound : (r : Run) (k : ℕ) → Sound r (seq r k).world (writings r k) (readings r k)
always_sound r zero = first_sound r
always_sound r (suc k) =
    let h = seq_told r k in
    rw (next_seq r k, next_writings r k, next_readings r k) (dialogue_sound r (seq r k) (writings r k) (readings r k) h.told (always_sound r k) (seq r k).rest h.proper)
