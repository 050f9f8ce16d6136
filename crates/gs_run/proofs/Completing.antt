-- A run that may be served ends in its status, where no count rises.
use Rattle.std.proofs.Common.{◌≡◌, ◌⊎◌, ℕ, ◌+◌, ◌≤◌, List, Option, Some, None, Result, Ok, Err, refl, sym, ◌∙◌, ap, subst, inl, inr, arith}
use Rattle.gs_types.specs.Counts.{Rises}
use Rattle.gs_types.specs.History.{History}
use Rattle.gs_types.specs.Job.{Meaning}
use Rattle.gs_types.specs.declared.settings.FaultKind.{FaultKind}
use Rattle.gs_types.specs.declared.settings.Settings.{Settings}
use Rattle.gs_broker.specs.Text.{Entry, Says}
use Rattle.gs_broker.proofs.OneList.{says_one as one_list}
use Rattle.gs_disk.specs.Folder.{Folder, DiskState}
use Rattle.gs_disk.specs.Moments.{Leaves}
use Rattle.gs_entries.specs.declared.entry.Entry.{Entry as Recorded}
use Rattle.gs_entries.specs.declared.entry.Texts.{Texts}
use Rattle.gs_idl.specs.Interface.{Interface}
use Rattle.gs_tree.specs.Program.{Program}
use Rattle.gs_talk.specs.declared.question.Question.{Question}
use Rattle.gs_talk.specs.declared.question.Question.TheVariants as q
use Rattle.gs_talk.specs.Seq.{Run, last_of, EndsIn}
use Rattle.gs_talk_laws.proofs.Ends.{ends_stay}
use Rattle.gs_verbs.specs.declared.stops.BadStore.{BadStore}
use Rattle.gs_life.specs.Origin.{Origin, run_of}
use Rattle.gs_run.specs.Course.{Takes}
use Rattle.gs_run.specs.Ran.{Begins, Ran, IsServed, IsStatusOf, IsComplete}
use Rattle.gs_run.specs.Ready.{HasResults, MayRun, LacksText, HasFault}
use Rattle.gs_run.specs.Served.{Served, Refused, wrong, bad_list, no_worker}
use Rattle.gs_run.specs.Stop.{status_of}
use Rattle.gs_run.specs.Unserved.{unserved}
use Rattle.gs_run.specs.declared.kinds.TextKind.{TextKind}
use Rattle.gs_run.specs.declared.stop.Stop.{Stop}
use Rattle.gs_run.specs.declared.stop.Stop.TheVariants as stop
use Rattle.gs_run.proofs.OneFolder.{some_none, bytes_are, sources_there, sources_short, one_texts, not_both, not_other}
use Rattle.gs_run.proofs.Holding.{finds}
use Rattle.gs_run.proofs.Verdicts.{not_wrong, one_interface, one_tree}

-- ---- one end

question_is : (a b : Question) → Some a ≡ Some b → a ≡ b
question_is a b e = cc

le_left : (k l : ℕ) → k ≤ k + l
le_left k l = omega arith

le_right : (k l : ℕ) → l ≤ k + l
le_right k l = omega arith

-- a run ends in one question
two_ends : (r : Run) (k l : ℕ) (a b : Question) → EndsIn r k a → EndsIn r l b → a ≡ b
two_ends r k l a b x y =
    let first = ends_stay r k (k + l) (le_left k l) (inl (a, x)) in
    let second = ends_stay r l (k + l) (le_right k l) (inl (b, y)) in
    question_is a b (sym x.last ∙ ap last_of (sym first ∙ second) ∙ y.last)

-- ---- texts that say a run aren't refused

not_refused : (t : Texts) (file : Option (List ℕ)) (i p w name : List ℕ) (line : ℕ) (k : TextKind)
    (one : Interface) (tree : Program) (list : List Entry) → Served t file one tree list
    → Refused t file i p w name line k → ⊥
not_refused t file i p w name line k one tree list s (wrong name1 line1 k1 is) =
    not_wrong (Some t.idl) (Some t.program) i p name line k one tree s.both is
not_refused t file i p w name line k one tree list s (bad_list j x text line1 k1 say there refused) =
    let same = one_interface (Some t.idl) j one say.interface s.both.interface in
    let here : s.list.text ≡ text = bytes_are s.list.text text (sym s.list.there ∙ there) in
    refused.nothing list (subst (λ (b : List ℕ). Says j.ops b list) here
    (subst (λ (x : Interface). Says x.ops s.list.text list) (sym same)
    s.list.says))
not_refused t file i p w name line k one tree list s (no_worker j x other line1 say has un) =
    let same_i = one_interface (Some t.idl) j one say.interface s.both.interface in
    let same_p = one_tree (Some t.program) x tree say.program s.both.program in
    let here : has.text ≡ s.list.text = bytes_are has.text s.list.text (sym has.there ∙ s.list.there) in
    let said : Says one.ops s.list.text other =
    subst (λ (y : Interface). Says y.ops s.list.text other) same_i
    (subst (λ (b : List ℕ). Says j.ops b other) here has.says) in
    let same_l : other ≡ list = one_list one.ops s.list.text other list said s.list.says in
    let e : Some line1 ≡ None = sym un
    ∙ ap (λ (y : Interface). unserved y.ops other x.body) same_i
    ∙ ap (λ (y : Program). unserved one.ops other y.body) same_p
    ∙ ap (λ (l : List Entry). unserved one.ops l tree.body) same_l ∙ s.all in
    absurd cc

-- ---- results are there

abbrev Brings : Result Unit Stop → Type 0
Brings answer = (status_of answer ≡ 0) ⊎ (status_of answer ≡ 12)

lacks_none : (f : Folder) (i p w name : List ℕ) → HasResults f i p → LacksText f i p w name → ⊥
lacks_none f i p w name has (inl missing) =
    sources_there f i p name has.texts has.finds.sources missing
lacks_none f i p w name has (inr lacks) = not_both f i p lacks.0.0 has lacks.0.1

faults_none : (f : Folder) (i p w name : List ℕ) (line : ℕ) (k : TextKind) → HasResults f i p
    → HasFault f i p w name line k → ⊥
faults_none f i p w name line k has (inl long) =
    sources_short f i p name line k has.texts has.finds.sources long
faults_none f i p w name line k has (inr fault) = not_both f i p fault.0 has fault.1

bad_never : (o : Origin) (settings : Settings) (es : List Recorded) (results : Type 0)
    (file : Option (List ℕ)) (why : BadStore) (h : History)
    → Takes {T = Unit} o settings es results file (Err (stop.BadStore why)) h
    → ⊥
bad_never o settings es results file why h (inl by) = by.1
bad_never o settings es results file why h (inr by) = by.1.2.shows

brings : (o : Origin) (settings : Settings) (told wrote : Type 0) (old new : DiskState)
    (law : Meaning) (tells_old tells_new : History → Type 0) (link_old link_new out_old out_new : ℕ)
    (written_old written_new i p w : List ℕ) (past : History) (answer : Result Unit Stop)
    → Begins o i p law tells_old past old
    → Ran settings told wrote old new law tells_old tells_new link_old link_new out_old out_new
    written_old written_new i p w answer
    → told → (Rises old.faults new.faults → ⊥) → (Rises link_old link_new → ⊥)
    → (Rises out_old out_new → ⊥) → HasResults old.folder i p → Brings answer
brings o settings told wrote old new law tells_old tells_new link_old link_new out_old out_new
    written_old written_new i p w past (Ok done) begins ran t disk link out has =
    inl refl
brings o settings told wrote old new law tells_old tells_new link_old link_new out_old out_new
    written_old written_new i p w past (Err (stop.Usage word)) begins ran t disk link out has =
    absurd ran.cause
brings o settings told wrote old new law tells_old tells_new link_old link_new out_old out_new
    written_old written_new i p w past (Err (stop.NoText name)) begins ran t disk link out has =
    absurd (lacks_none old.folder i p w name has (ran.judged t))
brings o settings told wrote old new law tells_old tells_new link_old link_new out_old out_new
    written_old written_new i p w past (Err (stop.BadText name line k)) begins ran t disk link out has =
    absurd (faults_none old.folder i p w name line k has (ran.judged t))
brings o settings told wrote old new law tells_old tells_new link_old link_new out_old out_new
    written_old written_new i p w past (Err (stop.OtherRun what)) begins ran t disk link out has =
    absurd (not_other old.folder i p what has.texts has.store has.finds (ran.judged t))
brings o settings told wrote old new law tells_old tells_new link_old link_new out_old out_new
    written_old written_new i p w past (Err (stop.BadStore why)) begins ran t disk link out has =
    absurd (bad_never o settings (ran.stood t o past begins).0 (HasResults old.folder i p) (old.folder w) why
    (ran.stood t o past begins).2.history (ran.stood t o past begins).2.holds)
brings o settings told wrote old new law tells_old tells_new link_old link_new out_old out_new
    written_old written_new i p w past (Err (stop.Fault line k)) begins ran t disk link out has =
    absurd (not_both old.folder i p (ran.judged t).0 has (ran.judged t).1)
brings o settings told wrote old new law tells_old tells_new link_old link_new out_old out_new
    written_old written_new i p w past (Err (stop.FuelOut steps)) begins ran t disk link out has =
    absurd (not_both old.folder i p (ran.judged t).0 has (ran.judged t).1)
brings o settings told wrote old new law tells_old tells_new link_old link_new out_old out_new
    written_old written_new i p w past (Err (stop.TaskLost n)) begins ran t disk link out has =
    absurd (link ran.cause)
brings o settings told wrote old new law tells_old tells_new link_old link_new out_old out_new
    written_old written_new i p w past (Err (stop.WorkersLost n)) begins ran t disk link out has =
    absurd (link ran.cause)
brings o settings told wrote old new law tells_old tells_new link_old link_new out_old out_new
    written_old written_new i p w past (Err stop.Gated) begins ran t disk link out has =
    absurd ran.cause
brings o settings told wrote old new law tells_old tells_new link_old link_new out_old out_new
    written_old written_new i p w past (Err stop.NoRun) begins ran t disk link out has =
    absurd ran.cause
brings o settings told wrote old new law tells_old tells_new link_old link_new out_old out_new
    written_old written_new i p w past (Err stop.Disk) begins ran t disk link out has =
    absurd (disk ran.cause)
brings o settings told wrote old new law tells_old tells_new link_old link_new out_old out_new
    written_old written_new i p w past (Err stop.Sink) begins ran t disk link out has =
    absurd (out ran.cause)
brings o settings told wrote old new law tells_old tells_new link_old link_new out_old out_new
    written_old written_new i p w past (Err stop.Memory) begins ran t disk link out has =
    inr refl

-- ---- the run may begin or go on

served_there : (f : Folder) (i p w name : List ℕ) → IsServed f i p w → LacksText f i p w name → ⊥
served_there f i p w name s (inl missing) =
    sources_there f i p name s.0 s.1.finds.sources missing
served_there f i p w name s (inr lacks) =
    some_none (f w) s.2.3.list.text s.2.3.list.there lacks.2

served_right : (f : Folder) (i p w name : List ℕ) (line : ℕ) (k : TextKind) → IsServed f i p w
    → HasFault f i p w name line k → ⊥
served_right f i p w name line k s (inl long) =
    sources_short f i p name line k s.0 s.1.finds.sources long
served_right f i p w name line k s (inr fault) =
    let same = one_texts f i p fault.0 s.0 fault.1.finds.sources s.1.finds.sources in
    not_refused s.0 (f w) i p w name line k s.2.0 s.2.1 s.2.2 s.2.3
    (subst (λ (x : Texts). Refused x (f w) i p w name line k) same fault.2.1)

-- how a run that may begin has ended
at_end : (o : Origin) (settings : Settings) (es : List Recorded) (f : Folder) (i p : List ℕ) (file : Option (List ℕ))
    (h : History) (k : ℕ) (x : Question) → ((t : Texts) × MayRun f i p t)
    → EndsIn (run_of o settings.fuel) k x
    → Takes {T = Unit} o settings es (HasResults f i p) file (Ok tt) h
    → q.End ≡ x
at_end o settings es f i p file h k x may ends (inl by) = absurd (not_both f i p may.0 by.1 may.1)
at_end o settings es f i p file h k x may ends (inr by) =
    two_ends (run_of o settings.fuel) by.1.2.shows.0.0 k q.End x by.1.2.shows.0.1 ends

at_fault : (o : Origin) (settings : Settings) (es : List Recorded) (results : Type 0) (file : Option (List ℕ))
    (h : History) (k line : ℕ) (kind : FaultKind)
    (x : Question) → EndsIn (run_of o settings.fuel) k x
    → Takes {T = Unit} o settings es results file (Err (stop.Fault line kind)) h
    → q.Fault line kind ≡ x
at_fault o settings es results file h k line kind x ends (inl by) = absurd by.1
at_fault o settings es results file h k line kind x ends (inr by) =
    two_ends (run_of o settings.fuel) by.1.2.shows.0.0 k (q.Fault line kind) x by.1.2.shows.0.1 ends

at_fuel : (o : Origin) (settings : Settings) (es : List Recorded) (results : Type 0) (file : Option (List ℕ))
    (h : History) (k steps : ℕ) (x : Question) → EndsIn (run_of o settings.fuel) k x
    → Takes {T = Unit} o settings es results file (Err (stop.FuelOut steps)) h
    → q.FuelOut ≡ x
at_fuel o settings es results file h k steps x ends (inl by) = absurd by.1
at_fuel o settings es results file h k steps x ends (inr by) =
    two_ends (run_of o settings.fuel) by.1.2.shows.0.0 k q.FuelOut x by.1.2.shows.0.1 ends

abbrev Comes : Question → Result Unit Stop → Type 0
Comes x answer = IsStatusOf x (status_of answer) ⊎ (status_of answer ≡ 12)

ends : (o : Origin) (settings : Settings) (told wrote : Type 0) (old new : DiskState)
    (law : Meaning) (tells_old tells_new : History → Type 0) (link_old link_new out_old out_new : ℕ)
    (written_old written_new i p w : List ℕ) (past : History) (answer : Result Unit Stop)
    → Begins o i p law tells_old past old
    → Ran settings told wrote old new law tells_old tells_new link_old link_new out_old out_new
    written_old written_new i p w answer
    → told → (Rises old.faults new.faults → ⊥) → (Rises link_old link_new → ⊥)
    → (Rises out_old out_new → ⊥) → IsServed old.folder i p w → (m : ℕ) (x : Question)
    → EndsIn (run_of o settings.fuel) m x → Comes x answer
ends o settings told wrote old new law tells_old tells_new link_old link_new out_old out_new
    written_old written_new i p w past (Ok done) begins ran t disk link out s m x is =
    inl (subst (λ (y : Question). IsStatusOf y 0) (at_end o settings (ran.stood t o past begins).0 old.folder i p (old.folder w)
    (ran.stood t o past begins).2.history m x (s.0, s.1) is (ran.stood t o past begins).2.holds) refl)
ends o settings told wrote old new law tells_old tells_new link_old link_new out_old out_new
    written_old written_new i p w past (Err (stop.Usage word)) begins ran t disk link out s m x is =
    absurd ran.cause
ends o settings told wrote old new law tells_old tells_new link_old link_new out_old out_new
    written_old written_new i p w past (Err (stop.NoText name)) begins ran t disk link out s m x is =
    absurd (served_there old.folder i p w name s (ran.judged t))
ends o settings told wrote old new law tells_old tells_new link_old link_new out_old out_new
    written_old written_new i p w past (Err (stop.BadText name line k)) begins ran t disk link out s m x is =
    absurd (served_right old.folder i p w name line k s (ran.judged t))
ends o settings told wrote old new law tells_old tells_new link_old link_new out_old out_new
    written_old written_new i p w past (Err (stop.OtherRun what)) begins ran t disk link out s m x is =
    absurd (not_other old.folder i p what s.0 s.1.store s.1.finds (ran.judged t))
ends o settings told wrote old new law tells_old tells_new link_old link_new out_old out_new
    written_old written_new i p w past (Err (stop.BadStore why)) begins ran t disk link out s m x is =
    absurd (bad_never o settings (ran.stood t o past begins).0 (HasResults old.folder i p) (old.folder w) why
    (ran.stood t o past begins).2.history (ran.stood t o past begins).2.holds)
ends o settings told wrote old new law tells_old tells_new link_old link_new out_old out_new
    written_old written_new i p w past (Err (stop.Fault line k)) begins ran t disk link out s m x is =
    inl (subst (λ (y : Question). IsStatusOf y 7) (at_fault o settings (ran.stood t o past begins).0 (HasResults old.folder i p)
    (old.folder w) (ran.stood t o past begins).2.history m line k x is (ran.stood t o past begins).2.holds) refl)
ends o settings told wrote old new law tells_old tells_new link_old link_new out_old out_new
    written_old written_new i p w past (Err (stop.FuelOut steps)) begins ran t disk link out s m x is =
    inl (subst (λ (y : Question). IsStatusOf y 8) (at_fuel o settings (ran.stood t o past begins).0 (HasResults old.folder i p)
    (old.folder w) (ran.stood t o past begins).2.history m steps x is (ran.stood t o past begins).2.holds) refl)
ends o settings told wrote old new law tells_old tells_new link_old link_new out_old out_new
    written_old written_new i p w past (Err (stop.TaskLost n)) begins ran t disk link out s m x is =
    absurd (link ran.cause)
ends o settings told wrote old new law tells_old tells_new link_old link_new out_old out_new
    written_old written_new i p w past (Err (stop.WorkersLost n)) begins ran t disk link out s m x is =
    absurd (link ran.cause)
ends o settings told wrote old new law tells_old tells_new link_old link_new out_old out_new
    written_old written_new i p w past (Err stop.Gated) begins ran t disk link out s m x is =
    absurd ran.cause
ends o settings told wrote old new law tells_old tells_new link_old link_new out_old out_new
    written_old written_new i p w past (Err stop.NoRun) begins ran t disk link out s m x is =
    absurd ran.cause
ends o settings told wrote old new law tells_old tells_new link_old link_new out_old out_new
    written_old written_new i p w past (Err stop.Disk) begins ran t disk link out s m x is =
    absurd (disk ran.cause)
ends o settings told wrote old new law tells_old tells_new link_old link_new out_old out_new
    written_old written_new i p w past (Err stop.Sink) begins ran t disk link out s m x is =
    absurd (out ran.cause)
ends o settings told wrote old new law tells_old tells_new link_old link_new out_old out_new
    written_old written_new i p w past (Err stop.Memory) begins ran t disk link out s m x is =
    inr refl

pub complete : (o : Origin) (settings : Settings) (told wrote : Type 0) (old new : DiskState)
    (law : Meaning) (tells_old tells_new : History → Type 0) (link_old link_new out_old out_new : ℕ)
    (written_old written_new i p w : List ℕ) (past : History) (answer : Result Unit Stop)
    → Begins o i p law tells_old past old
    → Ran settings told wrote old new law tells_old tells_new link_old link_new out_old out_new
    written_old written_new i p w answer
    → Leaves old old.folder → told → (Rises old.faults new.faults → ⊥)
    → (Rises link_old link_new → ⊥) → (Rises out_old out_new → ⊥)
    → IsComplete o settings.fuel old.folder i p w (status_of answer)
complete o settings told wrote old new law tells_old tells_new link_old link_new out_old out_new
    written_old written_new i p w past answer begins ran reads t disk link out = record {
      finds = finds o i p w old.folder begins.run_is (begins.stand old.folder reads);
      brings = brings o settings told wrote old new law tells_old tells_new link_old link_new out_old
          out_new written_old written_new i p w past answer begins ran t disk link out;
      ends = ends o settings told wrote old new law tells_old tells_new link_old link_new out_old
          out_new written_old written_new i p w past answer begins ran t disk link out;
    }
