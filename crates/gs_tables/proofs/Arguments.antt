-- What a task is given: by what it reads, unless a task is lost whose output it reads.
use Rattle.std.proofs.Common.{◌≡◌, ◌<◌, ◌≤◌, ◌+◌, ◌&&◌, ℕ, zero, suc, Bool, true, false, refl, sym, ap, ◌∙◌, subst, List, [], ◌∷◌, ◌++◌, length, arith, Option, Some, None, IsSome, is_none, if◌then◌else◌, inl, inr, ◌⊎◌}
use Rattle.std.specs.List.{slice_get}
use Rattle.gs_idl.specs.Interface.{Param, params_at, is_input, is_file, reads_file}
use Rattle.gs_idl.specs.declared.idl.Dir.{Dir}
use Rattle.gs_idl.specs.declared.idl.Dir.TheVariants.{Input, Both, Output}
use Rattle.gs_types.specs.declared.note.Version.{Version}
use Rattle.gs_types.specs.declared.note.Version.TheVariants.{Original, Out, Main}
use Rattle.gs_types.specs.declared.value.Value.{Value}
use Rattle.gs_types.specs.declared.job.Arg.{Arg}
use Rattle.gs_talk.specs.declared.question.CallArg.{CallArg}
use Rattle.gs_talk.specs.declared.question.CallArg.TheVariants as arg
use Rattle.gs_talk.specs.declared.question.Answer.{Answer}
use Rattle.gs_talk.specs.Seq.{Run, World, Standing, Content, Known, Lost, Files, Task, seq, step, task_at, is_lost, refused, refused_at, or_next, first_refused, file_given, given, and_all, all_given, content_of, output_of, task_of}
use Rattle.gs_talk_laws.specs.Numbers.{at_number}
use Rattle.gs_talk_laws.specs.Stuck.{AreKnown}
use Rattle.gs_talk_laws.specs.Versions.{Written, latest, writings, read_at, read_by, read_next, if_goes, left_by, closed_as, version_value, readings, IsLeft, IsVersionOf}
use Rattle.gs_talk_laws.proofs.Lists.{get_either, get_within}
use Rattle.gs_talk_laws.proofs.Places.{task_place, left_file}
use Rattle.gs_talk_laws.proofs.Staying.{next_seq}
use Rattle.gs_talk_laws.proofs.Renaming.{next_readings}
use Rattle.gs_talk_laws.proofs.Stays.{files_are_versions, latest_is_stored, tasks_read_versions, readings_stay}
use Rattle.gs_tables.proofs.Lengthening.{as_many}
use Rattle.gs_history.proofs.Called.{NoTask, OneTask, next_adds}

-- the task reads these versions: those that stood after some questions
pub record ReadsBy (r : Run) (t : Task) (reads : List (Option Version)) : Type 0 where
  pub moment : ℕ
  pub are : reads ≡ read_by (writings r moment) t.params t.called

-- a task that the task reads from is lost
pub record ReadsLost (r : Run) (reads : List (Option Version)) : Type 0 where
  pub moment : ℕ
  pub i : ℕ
  pub m : ℕ
  pub place : ℕ
  pub task : Task
  pub read : slice_get reads i ≡ Some (Some (Out m place))
  pub called : task_at (seq r moment).world.tasks m ≡ Some task
  pub lost : is_lost task ≡ true

-- it is given something at each place, or reads from a lost task
abbrev pub HasArgs : Run → Task → List (Option Version) → Type 0
HasArgs r t reads = ((xs : List Arg) × (t.args ≡ Some xs)) ⊎ ReadsLost r reads

-- ---- one place

no_left : (r : Run) (k m place : ℕ) (name : List ℕ) → (left : IsLeft (seq r k).world.tasks m place name) → (o : Option (List Value)) → left.task.outs ≡ o → left_by (output_of (Some left.task) place) ≡ Some Lost → is_lost left.task ≡ true
no_left r k m place name left None gave e = ap is_none gave
no_left r k m zero name left (Some outs) gave e = absurd (let f = left.takes in cc)
no_left r k m (suc j) name left (Some outs) gave e =
    let known = tasks_read_versions r k m left.task left.is in
    let file = left_file left.task name j left.param left.takes left.writes (task_place r (seq r k).world m left.task known.0 j (arg.File name) outs known.2 left.passed gave) in
    let f : Some (content_of file.0) ≡ Some Lost = sym (ap left_by file.1) ∙ e in
    absurd (file.2 (let g : content_of file.0 ≡ Lost = cc in g))

lost_version : (r : Run) (k : ℕ) (name : List ℕ) (v : Version) → AreKnown r.files → IsVersionOf (seq r k).world name v → version_value r.files (seq r k).world v ≡ Some Lost
    → (m : ℕ) × (place : ℕ) × (t : Task) × (v ≡ Out m place) × (task_at (seq r k).world.tasks m ≡ Some t) × (is_lost t ≡ true)
lost_version r k name (Original x) known is e = absurd (known x e)
lost_version r k name (Main zero) known is e = absurd cc
lost_version r k name (Main (suc j)) known is e = absurd (closed_known (slice_get (seq r k).world.closed j) e)
  where
    closed_known : (o : Option (List ℕ)) → closed_as o ≡ Some Lost → ⊥
    closed_known None e = cc
    closed_known (Some bytes) e = let f : Known bytes ≡ Lost = cc in cc
lost_version r k name (Out m place) known (inl same) e = absurd cc
lost_version r k name (Out m place) known (inr left) e =
    (m, place, left.task, refl, left.is, no_left r k m place name left left.task.outs refl (sym (ap (λ (o : Option Task). left_by (output_of o place)) left.is) ∙ e))

file_some : (d : Dir) (bytes : List ℕ) → (x : Arg) × (file_given d (Some (Known bytes)) ≡ Some x)
file_some Input bytes = (_, refl)
file_some Both bytes = (_, refl)
file_some Output bytes = (_, refl)

-- a file at a place, which nothing stands against
abbrev FileHas : Param → Option Content → Type 0
FileHas p c = ((x : Arg) × (file_given p.dir c ≡ Some x)) ⊎ ((reads_file p ≡ true) × (c ≡ Some Lost))

file_has : (p : Param) (c : Option Content) → is_file p.kind ≡ true → (if reads_file p then refused c else None) ≡ None → FileHas p c
file_has p (Some (Known bytes)) file e = inl (file_some p.dir bytes)
file_has p (Some Lost) file e = of_dir p.dir refl
  where
    of_dir : (d : Dir) → p.dir ≡ d → FileHas p (Some Lost)
    of_dir Output is = inl (_, ap (λ (x : Dir). file_given x (Some Lost)) is)
    of_dir Input is = inr (ap (λ (x : Dir). is_input x && is_file p.kind) is ∙ file, refl)
    of_dir Both is = inr (ap (λ (x : Dir). is_input x && is_file p.kind) is ∙ file, refl)
file_has p None file e = of_dir p.dir refl
  where
    not_none : reads_file p ≡ true → ⊥
    not_none r = let f : refused None ≡ None = sym (ap (λ (b : Bool). if b then refused None else None) r) ∙ e in cc

    of_dir : (d : Dir) → p.dir ≡ d → FileHas p None
    of_dir Output is = inl (_, ap (λ (x : Dir). file_given x None) is)
    of_dir Input is = absurd (not_none (ap (λ (x : Dir). is_input x && is_file p.kind) is ∙ file))
    of_dir Both is = absurd (not_none (ap (λ (x : Dir). is_input x && is_file p.kind) is ∙ file))

next_none : (a b : Option Answer) → or_next a b ≡ None → (a ≡ None) × (b ≡ None)
next_none None b e = (refl, e)
next_none (Some x) b e = absurd cc

later : (r : Run) (v : Option Version) (reads : List (Option Version)) → ReadsLost r reads → ReadsLost r (v ∷ reads)
later r v reads is = record { moment = is.moment; i = suc is.i; m = is.m; place = is.place; task = is.task; read = is.read; called = is.called; lost = is.lost }

-- all places of a call
abbrev Has : Run → Option (List Arg) → List (Option Version) → Type 0
Has r o reads = ((xs : List Arg) × (o ≡ Some xs)) ⊎ ReadsLost r reads

both_has : (r : Run) (x : Arg) (o : Option Arg) (rest : Option (List Arg)) (v : Option Version) (reads : List (Option Version)) → o ≡ Some x → Has r rest reads → Has r (and_all o rest) (v ∷ reads)
both_has r x o rest v reads e (inl more) = inl (x ∷ more.0, ap (λ (a : Option Arg). and_all a rest) e ∙ ap (and_all (Some x)) more.1)
both_has r x o rest v reads e (inr lost) = inr (later r v reads lost)

lost_has : (r : Run) (k : ℕ) (p : Param) (name : List ℕ) (o : Option (List Arg)) (reads : List (Option Version)) → AreKnown r.files → reads_file p ≡ true → (seq r k).world.files name ≡ Some Lost → Has r o (read_at (writings r k) p (arg.File name) ∷ reads)
lost_has r k p name o reads known file e =
    let v = latest name (writings r k) in
    let is = lost_version r k name v known (latest_is_stored r k name) (sym (files_are_versions r k name) ∙ e) in
    inr (record {
      moment = k;
      i = 0;
      m = is.0;
      place = is.1;
      task = is.2;
      read = ap (λ (b : Bool). Some (if b then Some v else None)) file ∙ ap (λ (x : Version). Some (Some x)) is.3;
      called = is.4;
      lost = is.5;
    })

all_has : (r : Run) (k : ℕ) (ps : List Param) (args : List CallArg) → AreKnown r.files → Rattle.gs_talk_laws.specs.Uses.AreFit args ps → first_refused (seq r k).world.files ps args ≡ None
    → Has r (all_given (seq r k).world.files ps args) (read_by (writings r k) ps args)
all_has r k [] args known fits e = inl ([], refl)
all_has r k (p ∷ ps) [] known fits e = inl ([], refl)
all_has r k (p ∷ ps) (arg.Int v ∷ args) known fits e = let n = next_none None (first_refused (seq r k).world.files ps args) e in both_has r _ _ (all_given (seq r k).world.files ps args) None (read_by (writings r k) ps args) refl (all_has r k ps args known fits.1 n.1)
all_has r k (p ∷ ps) (arg.Str v ∷ args) known fits e = let n = next_none None (first_refused (seq r k).world.files ps args) e in both_has r _ _ (all_given (seq r k).world.files ps args) None (read_by (writings r k) ps args) refl (all_has r k ps args known fits.1 n.1)
all_has r k (p ∷ ps) (arg.OutInt ∷ args) known fits e = let n = next_none None (first_refused (seq r k).world.files ps args) e in both_has r _ _ (all_given (seq r k).world.files ps args) None (read_by (writings r k) ps args) refl (all_has r k ps args known fits.1 n.1)
all_has r k (p ∷ ps) (arg.OutStr ∷ args) known fits e = let n = next_none None (first_refused (seq r k).world.files ps args) e in both_has r _ _ (all_given (seq r k).world.files ps args) None (read_by (writings r k) ps args) refl (all_has r k ps args known fits.1 n.1)
all_has r k (p ∷ ps) (arg.File name ∷ args) known fits e =
    let n = next_none (refused_at (seq r k).world.files p (arg.File name)) (first_refused (seq r k).world.files ps args) e in
    let file : is_file p.kind ≡ true = ap is_file (sym fits.0.kind) in
    let rest = all_has r k ps args known fits.1 n.1 in
    elim (file_has p ((seq r k).world.files name) file n.0) [
      | inl here ↦ both_has r here.0 (file_given p.dir ((seq r k).world.files name)) (all_given (seq r k).world.files ps args) (read_at (writings r k) p (arg.File name)) (read_by (writings r k) ps args) here.1 rest
      | inr lost ↦ lost_has r k p name _ (read_by (writings r k) ps args) known lost.0 lost.1
    ]

-- ---- all tasks

-- what is known of each task's arguments
pub record Given (r : Run) (t : Task) (reads : List (Option Version)) : Type 0 where
  pub by : ReadsBy r t reads
  pub args : HasArgs r t reads

number_either : {A : Type 0} (xs : List A) (x : A) (n : ℕ) (y : A) → at_number (xs ++ x ∷ []) n ≡ Some y → (at_number xs n ≡ Some y) ⊎ ((n ≡ length xs + 1) × (x ≡ y))
number_either xs x zero y e = absurd cc
number_either xs x (suc n) y e = elim (get_either xs x n y e) [ inl before ↦ inl before | inr last ↦ inr (let at = last.0 in omega arith, last.1) ]

task_either : (xs : List Task) (x : Task) (n : ℕ) (y : Task) → task_at (xs ++ x ∷ []) n ≡ Some y → (task_at xs n ≡ Some y) ⊎ ((n ≡ length xs + 1) × (x ≡ y))
task_either xs x zero y e = absurd cc
task_either xs x (suc n) y e = elim (get_either xs x n y e) [ inl before ↦ inl before | inr last ↦ inr (let at = last.0 in omega arith, last.1) ]

task_below : (xs : List Task) (n : ℕ) (t : Task) → task_at xs n ≡ Some t → n ≤ length xs
task_below xs zero t e = omega arith
task_below xs (suc n) t e = let lt = get_within xs n t e in omega arith

number_below : {A : Type 0} (xs : List A) (n : ℕ) (x : A) → at_number xs n ≡ Some x → n ≤ length xs
number_below xs zero x e = omega arith
number_below xs (suc n) x e = let lt = get_within xs n x e in omega arith

none_yet : (r : Run) (n : ℕ) (t : Task) → task_at (seq r zero).world.tasks n ≡ Some t → ⊥
unfolding seq
none_yet r zero t e = cc
none_yet r (suc n) t e = cc

-- a task that was there before
stays : (r : Run) (k n : ℕ) (t : Task) (reads : List (Option Version)) → ((rs : List (Option Version)) → at_number (readings r k) n ≡ Some rs → Given r t rs) → task_at (seq r k).world.tasks n ≡ Some t → at_number (readings r (suc k)) n ≡ Some reads → Given r t reads
stays r k n t reads before at now =
    let known = tasks_read_versions r k n t at in
    let later = readings_stay r k (suc k) n known.0 (omega arith) known.1 in
    let same : Some known.0 ≡ Some reads = sym later ∙ now in
    let is : known.0 ≡ reads = cc in
    subst (Given r t) is (before known.0 known.1)

-- a task that is called next
called_next : (r : Run) (k n : ℕ) (t : Task) (reads : List (Option Version)) (after : List Task) (added : List Rattle.gs_talk.specs.Actions.Act) → AreKnown r.files → (one : OneTask r (seq r k).world (seq r k).rest after added) → n ≡ length (seq r k).world.tasks + 1
    → task_of r.law r.texts.ops (seq r k).world.files one.op one.args ≡ t → Rattle.gs_talk_laws.specs.Uses.AreFit t.called t.params → at_number (readings r (suc k)) n ≡ Some reads → Given r t reads
called_next r k n t reads after added known one number is fits now =
    let ps = params_at r.texts.ops one.op in
    let mine = read_by (writings r k) ps one.args in
    let more : readings r (suc k) ≡ readings r k ++ mine ∷ [] =
    next_readings r k ∙ ap (λ d. readings r k ++ read_next r (seq r k).world (writings r k) d) one.question ∙ ap (λ (o : Option Answer). readings r k ++ if_goes o (mine ∷ [])) one.goes in
    let many = as_many r k in
    elim (number_either (readings r k) mine n reads (ap (λ (l : List (List (Option Version))). at_number l n) (sym more) ∙ now)) [
      | inl earlier ↦ absurd (let le = number_below (readings r k) n reads earlier in omega arith)
      | inr last ↦
          let same = last.1 in
          let fit : Rattle.gs_talk_laws.specs.Uses.AreFit one.args ps = subst (λ (x : Task). Rattle.gs_talk_laws.specs.Uses.AreFit x.called x.params) (sym is) fits in
          let has = all_has r k ps one.args known fit one.goes in
          record {
            by = record { moment = k; are = sym same ∙ ap (λ (x : Task). read_by (writings r k) x.params x.called) is };
            args = subst (λ (x : Task). HasArgs r x reads) is (subst (λ (l : List (Option Version)). Has r (all_given (seq r k).world.files ps one.args) l) same has);
          }
    ]

pub given_all : (r : Run) (k n : ℕ) (t : Task) (reads : List (Option Version)) → AreKnown r.files → task_at (seq r k).world.tasks n ≡ Some t → at_number (readings r k) n ≡ Some reads → Given r t reads
given_all r zero n t reads known at now = absurd (none_yet r n t at)
given_all r (suc k) n t reads known at now =
    let there : task_at (step r (seq r k)).world.tasks n ≡ Some t = ap (λ (x : Standing). task_at x.world.tasks n) (sym (next_seq r k)) ∙ at in
    let fits = (tasks_read_versions r (suc k) n t at).2.fit in
    elim (next_adds r k) [
      | inl none ↦
          let before = ap (λ (l : List Task). task_at l n) (sym none.same) ∙ there in
          stays r k n t reads (λ rs e. given_all r k n t rs known before e) before now
      | inr one ↦ elim (task_either (seq r k).world.tasks (task_of r.law r.texts.ops (seq r k).world.files one.op one.args) n t (ap (λ (l : List Task). task_at l n) (sym one.more) ∙ there)) [
        | inl before ↦ stays r k n t reads (λ rs e. given_all r k n t rs known before e) before now
        | inr last ↦ called_next r k n t reads _ _ known one last.0 last.1 fits now
      ]
    ]
