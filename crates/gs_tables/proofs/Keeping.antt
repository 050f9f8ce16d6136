-- Questions that call no task.
use Rattle.std.proofs.Common.{◌≡◌, ◌<◌, ◌≤◌, ◌+◌, ℕ, zero, suc, Bool, true, false, refl, sym, ap, ◌∙◌, subst, List, [], ◌∷◌, ◌++◌, length, map, arith, Option, Some, None, is_some, inl, inr, ◌⊎◌}
use Rattle.std.specs.Bool.{⊤}
use Rattle.std.specs.List.{slice_get}
use Rattle.std.proofs.lemmas.Bool.{cases_lt}
use Rattle.gs_idl.specs.Interface.{params_at}
use Rattle.gs_types.specs.declared.action.Action.{Action}
use Rattle.gs_types.specs.declared.note.Version.{Version}
use Rattle.gs_types.specs.declared.value.Value.{Value}
use Rattle.gs_types.specs.History.{History, outs_in}
use Rattle.gs_names.specs.Table.{names_in, writes_in}
use Rattle.gs_names.specs.Writes.{Write}
use Rattle.gs_graph.specs.Graph.{count_in, done_in, needs_in, actions_in, SameTasks}
use Rattle.gs_graph.specs.declared.graph.Graph.{Graph}
use Rattle.gs_looks.specs.Looked.{looks_in, AreSeen}
use Rattle.gs_talk.specs.declared.question.CallArg.{CallArg}
use Rattle.gs_talk.specs.declared.question.Question.{Question}
use Rattle.gs_talk.specs.declared.question.Question.TheVariants.{Call, Use, OpenFile, CloseFile, Barrier, End, Fault, FuelOut}
use Rattle.gs_talk.specs.declared.question.Answer.{Answer}
use Rattle.gs_talk.specs.Talk.{State, Dialogue, Ask}
use Rattle.gs_talk.specs.Seq.{World, Task, task_at, reply, world_after, first_refused, went_unless, after_call}
use Rattle.gs_talk.specs.Actions.{Act, acts, act_of}
use Rattle.gs_talk_laws.specs.Numbers.{at_number}
use Rattle.gs_talk_laws.specs.Versions.{Written, writings, written_in, readings, read_in}
use Rattle.gs_history.specs.Setup.{Noting, Setup, world_at, rest_at, count_at}
use Rattle.gs_history.specs.Notes.{note_at, OtherNext, IsMisfit, NoMisfit}
use Rattle.gs_history.specs.Frontier.{unfinished, MayAnswer, MayGoOn, IsWithin}
use Rattle.gs_tables.specs.Written.{written_back}
use Rattle.gs_tables.specs.Marks.{with_names, named_by, named_from, names_of, AreMade}
use Rattle.gs_tables.specs.Rows.{IsRow, row_at}
use Rattle.gs_tables.specs.Noted.{noting_in}
use Rattle.gs_tables.specs.Holds.{Waits, IsAhead, HasRow, Holds}
use Rattle.gs_tables.specs.Asked.{IsNext, HasGone, IsDueAnswer}
use Rattle.gs_tables.specs.declared.row.Row.{Row}
use Rattle.gs_tables.specs.declared.noted.Notes.{Notes}
use Rattle.gs_tables.specs.declared.tables.Tables.{Tables}
use Rattle.gs_tables.proofs.Moments.{Moved, moved}

pub with_nothing : {A : Type 0} (xs : List A) → xs ++ [] ≡ xs
with_nothing [] = refl
with_nothing (x ∷ xs) = ap (λ l. x ∷ l) (with_nothing xs)

pub back_both : (xs ys : List Written) (ws : List Write) → written_back ys (written_back xs ws) ≡ written_back (xs ++ ys) ws
back_both [] ys ws = refl
back_both (x ∷ xs) ys ws = back_both xs ys ((x.name, x.version) ∷ ws)

pub named_both : (names : List (List ℕ)) (xs ys : List Act) → named_from (named_from names xs) ys ≡ named_from names (xs ++ ys)
named_both names [] ys = refl
named_both names (x ∷ xs) ys = named_both (with_names names (named_by x)) xs ys

-- ---- the graph's tasks stay

pub waits_same : (old new : Graph) (s : Setup) (k j : ℕ) (h : History) → SameTasks old new → count_at s j ≡ count_at s k → readings s.run j ≡ readings s.run k → Waits old s k h → Waits new s j h
waits_same old new s k j h same count reads waits = record {
  count = same.count ∙ waits.count ∙ sym count;
  done = λ n pos le. same.done n ∙ waits.done n pos (let c = count in omega arith);
  needs = λ n p rs e. same.needs n p ∙ waits.needs n p rs (ap (λ (l : List (List (Option Version))). at_number l n) (sym reads) ∙ e);
}

-- ---- a question that calls no task

-- what it leaves as it is in the tables
pub record Leaves (old new : Tables) : Type 0 where
  pub rows : new.rows ≡ old.rows
  pub notes : new.notes ≡ old.notes
  pub unfinished_is : new.unfinished ≡ old.unfinished
  pub window : new.window ≡ old.window
  pub tasks : SameTasks old.graph new.graph

-- what it changes
pub record Adds (old new : Tables) (s : Setup) (k : ℕ) (q : Question) : Type 0 where
  pub mains : new.mains.items ≡ map length (world_after s.run.law s.run.texts.ops (world_at s k) q).closed
  pub looks : AreSeen (looks_in new.looks) s.run.files
  pub writes : writes_in new.names ≡ written_back (written_in s.run.texts.ops (world_at s k) q) (writes_in old.names)
  pub names : names_in new.names ≡ named_from (names_in old.names) (act_of s.run (world_at s k) q)
  pub made : AreMade (names_in new.names) (actions_in new.graph) (acts s.run k ++ act_of s.run (world_at s k) q)

-- it calls no task
pub record CallsNone (s : Setup) (k : ℕ) (q : Question) : Type 0 where
  pub tasks : (world_after s.run.law s.run.texts.ops (world_at s k) q).tasks ≡ (world_at s k).tasks
  pub reads : read_in s.run.texts.ops (world_at s k) (writings s.run k) q ≡ []

pub within_next : (s : Setup) (h : History) (k : ℕ) (q : Question) (st : State) (next : Answer → Dialogue) → rest_at s k ≡ Ask q st next → IsWithin s h k → MayAnswer s h k q → IsWithin s h (suc k)
unfolding IsWithin
within_next s h k q st next e within may = (within, subst (MayGoOn s h k) (sym e) may)

pub fit_next : (s : Setup) (k : ℕ) → ((j : ℕ) → j < k → NoMisfit s j) → NoMisfit s k → (j : ℕ) → j < suc k → NoMisfit s j
fit_next s k before here j lt = elim (cases_lt j k) [
  | inl below ↦ before j below
  | inr not ↦ let e : k ≡ j = omega arith in subst (NoMisfit s) e here
]

pub goes : (old new : Tables) (s : Setup) (k : ℕ) (h : History) (q : Question) (st : State) (next : Answer → Dialogue) (a : Answer) → Holds old s k h → rest_at s k ≡ Ask q st next → IsDueAnswer s k h q a → NoMisfit s k
    → CallsNone s k q → Leaves old new → Adds old new s k q → HasGone new s k h next a
goes old new s k h q st next a holds e due fits none leaves adds =
    let m = moved s k q st next a e due.says in
    let tasks : (world_at s (suc k)).tasks ≡ (world_at s k).tasks = ap (λ (w : World). w.tasks) m.world ∙ none.tasks in
    let count : count_at s (suc k) ≡ count_at s k = ap length tasks in
    let reads : readings s.run (suc k) ≡ readings s.run k = m.reads ∙ ap (λ (l : List (List (Option Version))). readings s.run k ++ l) none.reads ∙ with_nothing (readings s.run k) in
    record {
      holds = record {
        count = ap (λ r. length r.items) leaves.rows ∙ holds.count ∙ sym count;
        rows = λ n task rs at_t at_r. subst (λ r. HasRow r.items h n task rs) (sym leaves.rows) (holds.rows n task rs (ap (λ (l : List Task). task_at l n) (sym tasks) ∙ at_t) (ap (λ (l : List (List (Option Version))). at_number l n) (sym reads) ∙ at_r));
        mains = adds.mains ∙ sym (ap (λ (w : World). map length w.closed) m.world);
        looks = adds.looks;
        writes = adds.writes ∙ ap (written_back (written_in s.run.texts.ops (world_at s k) q)) holds.writes ∙ back_both (writings s.run k) (written_in s.run.texts.ops (world_at s k) q) [] ∙ sym (ap (λ (l : List Written). written_back l []) m.writes);
        names = adds.names ∙ ap (λ (l : List (List ℕ)). named_from l (act_of s.run (world_at s k) q)) holds.names ∙ named_both [] (acts s.run k) (act_of s.run (world_at s k) q) ∙ sym (ap names_of m.acts_are);
        made = subst (AreMade (names_in new.names) (actions_in new.graph)) (sym m.acts_are) adds.made;
        graph = waits_same old.graph new.graph s k (suc k) h leaves.tasks count reads holds.graph;
        unfinished_is = leaves.unfinished_is ∙ holds.unfinished_is ∙ sym (ap (unfinished h) count);
        window = leaves.window ∙ holds.window;
        notes = λ n. ap (λ (i : Notes). noting_in i n) leaves.notes ∙ holds.notes n;
        ahead = λ n lt. holds.ahead n (let c = count in omega arith);
        within = within_next s h k q st next e holds.within due.may;
        good = holds.good;
        fit = fit_next s k holds.fit fits;
        rules = holds.rules;
        known = holds.known;
      };
      rest = m.rest;
    }

-- ---- which questions call none

abbrev pub IsPlain : Question → Type 0
IsPlain (Call op line args) = ⊥
IsPlain (Use n place) = ⊤
IsPlain (OpenFile name mode line) = ⊤
IsPlain (CloseFile name bytes) = ⊤
IsPlain Barrier = ⊤
IsPlain End = ⊤
IsPlain (Fault line kind) = ⊤
IsPlain FuelOut = ⊤

pub plain_none : (s : Setup) (k : ℕ) (q : Question) → IsPlain q → CallsNone s k q
plain_none s k (Call op line args) plain = absurd plain
plain_none s k (Use n place) plain = record { tasks = refl; reads = refl }
plain_none s k (OpenFile name mode line) plain = record { tasks = refl; reads = refl }
plain_none s k (CloseFile name bytes) plain = record { tasks = refl; reads = refl }
plain_none s k Barrier plain = record { tasks = refl; reads = refl }
plain_none s k End plain = record { tasks = refl; reads = refl }
plain_none s k (Fault line kind) plain = record { tasks = refl; reads = refl }
plain_none s k FuelOut plain = record { tasks = refl; reads = refl }

plain_other : (s : Setup) (k : ℕ) (x : Noting) (q : Question) (st : State) (next : Answer → Dialogue) → IsPlain q → OtherNext s k x (Ask q st next) → ⊥
plain_other s k x (Call op line args) st next plain other = plain
plain_other s k x (Use n place) st next plain other = other
plain_other s k x (OpenFile name mode line) st next plain other = other
plain_other s k x (CloseFile name bytes) st next plain other = other
plain_other s k x Barrier st next plain other = other
plain_other s k x End st next plain other = other
plain_other s k x (Fault line kind) st next plain other = other
plain_other s k x FuelOut st next plain other = other

pub plain_fits : (s : Setup) (k : ℕ) (q : Question) (st : State) (next : Answer → Dialogue) → rest_at s k ≡ Ask q st next → IsPlain q → NoMisfit s k
plain_fits s k q st next e plain = λ i misfit. plain_other s k misfit.note q st next plain (subst (OtherNext s k misfit.note) e misfit.other)

-- a call that a file stands against
pub refused_none : (s : Setup) (k op line : ℕ) (args : List CallArg) (a : Answer) → first_refused (world_at s k).files (params_at s.run.texts.ops op) args ≡ Some a → CallsNone s k (Call op line args)
refused_none s k op line args a e = record { tasks = let to = ap (λ (o : Option Answer). (after_call s.run.law s.run.texts.ops op args o (world_at s k)).tasks) e in to; reads = rw e refl }

pub refused_fits : (s : Setup) (k op line : ℕ) (args : List CallArg) (st : State) (next : Answer → Dialogue) (a : Answer) → rest_at s k ≡ Ask (Call op line args) st next → first_refused (world_at s k).files (params_at s.run.texts.ops op) args ≡ Some a → NoMisfit s k
refused_fits s k op line args st next a e refused = λ i misfit.
    let other = subst (OtherNext s k misfit.note) e misfit.other in
    let none : Some a ≡ None = sym refused ∙ other.0 in cc
