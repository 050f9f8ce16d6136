-- What is recorded of a task is of the task that is called next: no entry has another form.
use Rattle.std.proofs.Common.{◌≡◌, ℕ, suc, ◌+◌, ◌&&◌, Bool, true, false, List, [], ◌∷◌, ◌++◌, length, Option, Some, None, refl, sym, ap, subst, ◌∙◌, arith, inl, inr, eq-eqb}
use Rattle.std.specs.Prelude.{All, map, slice_get, if◌then◌else◌, ◌==◌}
use Rattle.std.proofs.lemmas.Bool.Decides.{eqb_tells}
use Rattle.gs_types.specs.Job.{Meaning}
use Rattle.gs_types.specs.History.{History}
use Rattle.gs_types.specs.declared.note.OutNote.{OutNote}
use Rattle.gs_types.specs.declared.value.Value.{Value}
use Rattle.gs_types.specs.declared.value.Value.TheVariants as value
use Rattle.gs_types.specs.declared.job.Arg.{Arg}
use Rattle.gs_types.specs.declared.job.Arg.TheVariants.{Given, Both as both_ways, OutFile, OutInt, OutStr}
use Rattle.gs_idl.specs.Interface.{Param, KeepRules, params_at, name_at, is_output}
use Rattle.gs_idl.specs.declared.idl.Dir.{Dir}
use Rattle.gs_idl.specs.declared.idl.Dir.TheVariants.{Input, Both, Output}
use Rattle.gs_idl.specs.declared.idl.ParamKind.TheVariants as kind
use Rattle.gs_disk.specs.Folder.{Folder, DiskState}
use Rattle.gs_entries.specs.declared.entry.Entry.{Entry}
use Rattle.gs_entries.specs.declared.entry.Entry.TheVariants as made
use Rattle.gs_entries.specs.declared.entry.Stage.{Stage}
use Rattle.gs_entries.specs.declared.entry.Texts.{Texts}
use Rattle.gs_broker.specs.declared.broker.Broker.{Broker}
use Rattle.gs_main.specs.Shown.{talking}
use Rattle.gs_main.specs.declared.dialogue.Main.{Main}
use Rattle.gs_entries.specs.declared.entry.Stage.TheVariants as stages
use Rattle.gs_entries.specs.Order.{stage_of}
use Rattle.gs_talk.specs.declared.question.CallArg.{CallArg}
use Rattle.gs_talk.specs.declared.question.CallArg.TheVariants as arg
use Rattle.gs_talk.specs.declared.question.Question.TheVariants.{Call, Use, OpenFile, CloseFile, Barrier, End, Fault, FuelOut}
use Rattle.gs_talk.specs.declared.question.Answer.{Answer}
use Rattle.gs_talk.specs.Talk.{State, Dialogue, Done, Ask, Stop}
use Rattle.gs_talk.specs.Seq.{Run, Standing, Content, Known, Lost, Files, Task, seq, step, step_by, answered, went_unless, after_call, task_of, task_at, first_refused, given, file_given, fit, is_file, is_int, is_string, IsTask}
use Rattle.gs_talk_laws.specs.Fuels.{with_fuel}
use Rattle.gs_talk_laws.specs.Uses.{FitsParam, AreFit}
use Rattle.gs_talk_laws.proofs.Fuels.{same_tasks}
use Rattle.gs_talk_laws.proofs.Outputs.{takes, is_of_kind, fit_taken, fit_given}
use Rattle.gs_talk_laws.proofs.Renaming.{gives_fit}
use Rattle.gs_talk_laws.proofs.Stays.{tasks_read_versions}
use Rattle.gs_talk_laws.proofs.Staying.{next_seq}
use Rattle.gs_history.specs.Setup.{Noting, Setup, world_at, rest_at, count_at}
use Rattle.gs_history.specs.Notes.{note_of, kind_of, same_kind, gives_first, are_given, is_form, note_at, OtherNext, IsMisfit}
use Rattle.gs_tables.specs.Noted.{noting_of}
use Rattle.gs_tables.specs.Outs.{first_noted, outs_noted}
use Rattle.gs_life.specs.Origin.{Origin, run_of, IsOutput}
use Rattle.gs_life.specs.Stands.{IsDone, IsRight, StandsAt}
use Rattle.gs_engine.specs.Beginning.{notes_in, parts_of, Call as CallOf, Enters}
use Rattle.gs_engine.proofs.BeginningNotes.{later_right, here_right}
use Rattle.gs_engine.proofs.BeginningValues.{AllGiven, all_are_given, AreFileBoth, takes_output, rules_params, rule_next}
use Rattle.gs_engine.proofs.FullCalls.{CallsAreFull, main_full}

-- ---- what is noted of a task is of its places

file_of : (d : Dir) (c : Option Content) (x : Arg) (v : Value) → file_given d c ≡ Some x
    → takes x ≡ true → is_of_kind x v ≡ true → is_file v ≡ true
file_of Input None x v e t is = absurd cc
file_of Input (Some (Known bytes)) x v e t is =
    let same : Given (value.File bytes) ≡ x = cc in
    absurd (let f : takes x ≡ false = ap takes (sym same) in cc)
file_of Input (Some Lost) x v e t is = absurd cc
file_of Both None x v e t is = absurd cc
file_of Both (Some (Known bytes)) x v e t is =
    let same : both_ways bytes ≡ x = cc in ap (λ y. is_of_kind y v) same ∙ is
file_of Both (Some Lost) x v e t is = absurd cc
file_of Output c x v e t is = let same : OutFile ≡ x = cc in ap (λ y. is_of_kind y v) same ∙ is

file_kind : (v : Value) → is_file v ≡ true → same_kind kind.File (kind_of (note_of v)) ≡ true
file_kind (value.File bytes) is = refl
file_kind (value.Int n) is = absurd cc
file_kind (value.Str s) is = absurd cc

int_kind : (v : Value) → is_int v ≡ true → same_kind kind.Int (kind_of (note_of v)) ≡ true
int_kind (value.File bytes) is = absurd cc
int_kind (value.Int n) is = refl
int_kind (value.Str s) is = absurd cc

string_kind : (v : Value) → is_string v ≡ true → same_kind kind.Str (kind_of (note_of v)) ≡ true
string_kind (value.File bytes) is = absurd cc
string_kind (value.Int n) is = absurd cc
string_kind (value.Str s) is = refl

given_not : (u : Value) (x : Arg) → Some (Given u) ≡ Some x → takes x ≡ true → ⊥
given_not u x e t =
    let same : Given u ≡ x = cc in
    let f : takes x ≡ false = ap takes (sym same) in absurd cc

kind_here : (files : Files) (p : Param) (a : CallArg) (x : Arg) (v : Value)
    → given files p a ≡ Some x → FitsParam p a → takes x ≡ true → is_of_kind x v ≡ true
    → same_kind p.kind (kind_of (note_of v)) ≡ true
kind_here files p (arg.File name) x v e fits t is =
    ap (λ k. same_kind k (kind_of (note_of v))) (sym fits.kind)
    ∙ file_kind v (file_of p.dir (files name) x v e t is)
kind_here files p (arg.Int n) x v e fits t is = absurd (given_not (value.Int n) x e t)
kind_here files p (arg.Str s) x v e fits t is = absurd (given_not (value.Str s) x e t)
kind_here files p arg.OutInt x v e fits t is =
    let same : OutInt ≡ x = cc in
    ap (λ k. same_kind k (kind_of (note_of v))) (sym fits.kind)
    ∙ int_kind v (ap (λ y. is_of_kind y v) same ∙ is)
kind_here files p arg.OutStr x v e fits t is =
    let same : OutStr ≡ x = cc in
    ap (λ k. same_kind k (kind_of (note_of v))) (sym fits.kind)
    ∙ string_kind v (ap (λ y. is_of_kind y v) same ∙ is)

all_true : (a b c : Bool) → a ≡ true → b ≡ true → c ≡ true → (a && b && c) ≡ true
all_true true true c p q r = r
all_true true false c p q r = q
all_true false b c p q r = p

are_of_places : (place : ℕ) (ps : List Param) (args : List CallArg) (xs : List Arg)
    (outs : List Value) → length args ≡ length ps → AllGiven ps args xs → AreFit args ps
    → AreFileBoth ps → fit xs outs ≡ true → are_given place ps (outs_noted place ps outs) ≡ true
are_of_places place [] args xs outs many all fits rule f = refl
are_of_places place (p ∷ ps) [] xs outs many all fits rule f = absurd (omega arith)
are_of_places place (p ∷ ps) (a ∷ args) [] outs many all fits rule f = absurd all
are_of_places place (p ∷ ps) (a ∷ args) (x ∷ xs) outs many all fits rule f =
    by_test (λ vs g. are_of_places (suc place) ps args xs vs (omega arith) all.1 fits.1
    (rule_next p ps rule) g) (is_output p.dir)
    (takes_output all.0.0 p a x all.0.1 fits.0 (rule 0 p refl))
  where
    by_test : ((vs : List Value) → fit xs vs ≡ true
        → are_given (suc place) ps (outs_noted (suc place) ps vs) ≡ true) → (b : Bool)
        → takes x ≡ b
        → (if b then gives_first place p.kind (if b then first_noted place outs (outs_noted (suc place) ps)
        else outs_noted (suc place) ps outs) (are_given (suc place) ps)
        else are_given (suc place) ps (if b then first_noted place outs (outs_noted (suc place) ps)
        else outs_noted (suc place) ps outs)) ≡ true
    by_test more true t =
        let h = fit_taken x xs outs t f in
        ap (λ (l : List Value). gives_first place p.kind
        (first_noted place l (outs_noted (suc place) ps)) (are_given (suc place) ps)) h.2
        ∙ all_true (place == place) (same_kind p.kind (kind_of (note_of h.0)))
        (are_given (suc place) ps (outs_noted (suc place) ps h.1)) (eq-eqb place place refl)
        (kind_here all.0.0 p a x h.0 all.0.1 fits.0 t h.4) (more h.1 h.3)
    by_test more false t = more outs (fit_given x xs outs t f)

-- of a task that gave these outputs
outputs_are_of : (o : Origin) (n : ℕ) (t : Task) (outs : List Value) → KeepRules o.given.ops
    → CallsAreFull o → IsOutput o n t outs
    → are_given 1 t.params (outs_noted 1 t.params outs) ≡ true
outputs_are_of o n t outs rules full out =
    let r = run_of o out.fuel in
    let known = tasks_read_versions r out.is.moment n t out.is.is in
    let of = known.2 in
    let f = gives_fit r.law (name_at r.texts.ops t.op) t.args outs (sym of.outs ∙ out.gave) in
    let all : AllGiven t.params t.called f.0 =
    all_are_given r.files (seq r out.is.moment).world known.0 t.params t.called f.0 of.places
    (sym of.args ∙ f.1) in
    let rule : AreFileBoth t.params =
    subst AreFileBoth (sym of.params) (rules_params r.texts.ops t.op rules) in
    are_of_places 1 t.params t.called f.0 outs (full out.fuel n t out.is) all of.fit rule f.2

both_true : (a b : Bool) → a ≡ true → b ≡ true → (a && b) ≡ true
both_true true b p q = q
both_true false b p q = p

note_is_form : (o : Origin) (f : Folder) (n : ℕ) (x : Noting) → KeepRules o.given.ops
    → CallsAreFull o → (d : IsDone o f n x.op x.outs) → is_form x d.task.op d.task.params ≡ true
note_is_form o f n x rules full d =
    both_true (x.op == d.task.op) (are_given 1 d.task.params x.outs)
    (eq-eqb x.op d.task.op d.op_is)
    (ap (λ (l : List OutNote). are_given 1 d.task.params l) d.notes_are
    ∙ outputs_are_of o n d.task d.outs rules full d.output)

-- ---- the note of a task says what was recorded

note_right : (o : Origin) (f : Folder) (i : ℕ) (es : List Entry) (n : ℕ) (x : Noting)
    → All (IsRight o f) es → note_at (map noting_of (notes_in i es)) n ≡ Some x
    → IsDone o f n x.op x.outs
note_right o f i [] n x all e = absurd cc
note_right o f i (made.Header t ∷ es) n x all e =
    note_right o f (suc i) es n x (later_right o f (made.Header t) es all) e
note_right o f i (made.Gate g ∷ es) n x all e =
    note_right o f (suc i) es n x (later_right o f (made.Gate g) es all) e
note_right o f i (made.Closed ∷ es) n x all e =
    note_right o f (suc i) es n x (later_right o f made.Closed es all) e
note_right o f i (made.Done m op os ∷ es) n x all e = elim (eqb_tells m n) [
  | inl same ↦
      let y : Noting = record { index = i; n = m; op = op; outs = os } in
      let found : Some y ≡ Some x = ap (λ (b : Bool). if b then Some y
      else note_at (map noting_of (notes_in (suc i) es)) n) (sym same.0) ∙ e in
      let is : y ≡ x = cc in
      subst (λ (z : Noting). IsDone o f n z.op z.outs) is
      (subst (λ (j : ℕ). IsDone o f j op os) same.1
      (here_right o f (made.Done m op os) es all))
  | inr other ↦
      let y : Noting = record { index = i; n = m; op = op; outs = os } in
      note_right o f (suc i) es n x (later_right o f (made.Done m op os) es all)
      (ap (λ (b : Bool). if b then Some y
      else note_at (map noting_of (notes_in (suc i) es)) n) (sym other.0) ∙ e)
]

-- ---- the task that is called next

last_is : (xs : List Task) (t : Task) → slice_get (xs ++ t ∷ []) (length xs) ≡ Some t
last_is [] t = refl
last_is (x ∷ xs) t = last_is xs t

last_at : (xs : List Task) (t : Task) → task_at (xs ++ t ∷ []) (length xs + 1) ≡ Some t
last_at xs t = let e : length xs + 1 ≡ suc (length xs) = omega arith in rw e (last_is xs t)

called_next : (r : Run) (at : Standing) (op line : ℕ) (args : List CallArg) (st : State)
    (next : Answer → Dialogue) → at.rest ≡ Ask (Call op line args) st next
    → first_refused at.world.files (params_at r.texts.ops op) args ≡ None
    → (step r at).world.tasks
    ≡ at.world.tasks ++ task_of r.law r.texts.ops at.world.files op args ∷ []
called_next r at op line args st next e goes =
    ap (λ (d : Dialogue). (step_by r at d).world.tasks) e
    ∙ ap (λ (o : Option Answer). (answered r at (Call op line args) next (went_unless o)).world.tasks)
    goes
    ∙ ap (λ (o : Option Answer). (after_call r.law r.texts.ops op args o at.world).tasks) goes

-- a task of the run, of which the note has another form
record IsOther (s : Setup) (n : ℕ) (x : Noting) : Type 0 where
  task : Task
  called : IsTask s.run n task
  other : is_form x task.op task.params ≡ false

other_called : (s : Setup) (k : ℕ) (x : Noting) (d : Dialogue) → rest_at s k ≡ d
    → OtherNext s k x d → IsOther s (count_at s k + 1) x
other_called s k x (Done n st) e other = absurd other
other_called s k x (Stop q st) e other = absurd other
other_called s k x (Ask (Use n place) st next) e other = absurd other
other_called s k x (Ask (OpenFile name mode line) st next) e other = absurd other
other_called s k x (Ask (CloseFile name bytes) st next) e other = absurd other
other_called s k x (Ask Barrier st next) e other = absurd other
other_called s k x (Ask End st next) e other = absurd other
other_called s k x (Ask (Fault line fault) st next) e other = absurd other
other_called s k x (Ask FuelOut st next) e other = absurd other
other_called s k x (Ask (Call op line args) st next) e other =
    let r = s.run in
    let t = task_of r.law r.texts.ops (world_at s k).files op args in
    record {
      task = t;
      called = record {
        moment = suc k;
        is = ap (λ (at : Standing). task_at at.world.tasks (count_at s k + 1)) (next_seq r k)
            ∙ ap (λ (ts : List Task). task_at ts (count_at s k + 1))
            (called_next r (seq r k) op line args st next e other.0)
            ∙ last_at (world_at s k).tasks t;
      };
      other = other.1;
    }

-- ---- together

pub right_fit : (o : Origin) (s : Setup) (f : Folder) (es : List Entry)
    → s.run ≡ run_of o s.run.fuel → KeepRules o.given.ops → CallsAreFull o
    → s.notes ≡ map noting_of (notes_in 0 es) → All (IsRight o f) es → (k index : ℕ)
    → IsMisfit s k index → ⊥
right_fit o s f es run rules full notes right k index m =
    let n = count_at s k + 1 in
    let x = m.note in
    let other = other_called s k x (rest_at s k) refl m.other in
    let d : IsDone o f n x.op x.outs = note_right o f 0 es n x right
    (ap (λ (xs : List Noting). note_at xs n) (sym notes) ∙ m.noted) in
    let recorded : IsTask (with_fuel s.run d.output.fuel) n d.task =
    subst (λ (r : Run). IsTask (with_fuel r d.output.fuel) n d.task) (sym run) d.output.is in
    let same : other.task ≡ d.task =
    same_tasks s.run s.run.fuel d.output.fuel n other.task d.task other.called recorded in
    let is : is_form x d.task.op d.task.params ≡ true = note_is_form o f n x rules full d in
    let not : is_form x d.task.op d.task.params ≡ false =
    ap (λ (t : Task). is_form x t.op t.params) (sym same) ∙ other.other in
    absurd cc

stage_right : (o : Origin) (f : Folder) (es : List Entry) (g : Stage) → StandsAt o f es g
    → All (IsRight o f) es
stage_right o f es stages.Fresh at = subst (λ (l : List Entry). All (IsRight o f) l) (sym at.0) none
  where
    none : All (IsRight o f) []
    none k e lt = absurd (omega arith)
stage_right o f es stages.Running at = at.are.dones
stage_right o f es stages.Gated at = at.are.dones
stage_right o f es stages.Closed at = at.are.dones

-- where a call enters, no entry is of a task of another form
pub enters_fit : {D K : Type 0} {state : D → DiskState} {tells : K → History → Type 0}
    {law : K → Meaning} {es : List Entry} {disk : D} {link : K} (texts : Texts) (main : Main)
    (broker : Broker) (window : ℕ) (call : CallOf)
    → Enters state tells law (parts_of texts (talking main) broker window) es disk link call
    → (k index : ℕ) → IsMisfit call.setup k index → ⊥
enters_fit {state = state} {es = es} {disk = disk} texts main broker window call en k index m =
    let o = call.origin in
    let given : (talking main).given ≡ o.given =
    en.given.texts ∙ ap (λ (r : Run). r.texts) call.run_is in
    right_fit o call.setup (state disk).folder es call.run_is en.stands.rules
    (main_full main o given) en.given.notes_are
    (stage_right o (state disk).folder es (stage_of es) en.stands.stands) k index m
