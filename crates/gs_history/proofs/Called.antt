-- The actions call the tasks of the run.
use Rattle.std.proofs.Common.{◌≡◌, ◌<◌, ◌≤◌, ◌+◌, ℕ, zero, suc, refl, sym, ap, ◌∙◌, subst, [], ◌∷◌, ◌++◌, length, length-append, arith, Option, Some, None, inl, inr, ◌⊎◌}
use Rattle.std.specs.Prelude.{List}
use Rattle.std.proofs.lemmas.Bool.{cases_lt}
use Rattle.gs_idl.specs.Interface.{params_at, reads_file, writes_file}
use Rattle.gs_talk.specs.declared.question.CallArg.{CallArg}
use Rattle.gs_talk.specs.declared.question.Question.{Question}
use Rattle.gs_talk.specs.declared.question.Question.TheVariants.{Call, Use, OpenFile, CloseFile, Barrier, End, Fault, FuelOut}
use Rattle.gs_talk.specs.declared.question.Answer.{Answer}
use Rattle.gs_talk.specs.Talk.{State, Dialogue, Done, Ask, Stop}
use Rattle.gs_talk.specs.Seq.{Run, World, Standing, Task, seq, step, step_by, answered, reply, first_refused, went_unless, after_call, task_of}
use Rattle.gs_talk.specs.Actions as act
use Rattle.gs_talk.specs.Actions.{Act, names_where, unless_refused, act_of, acts_by, acts, IsTaskAct, HasTask}
use Rattle.gs_talk_laws.specs.Uses.{Told}
use Rattle.gs_talk_laws.proofs.Proper.{IsLast, Proper}
use Rattle.gs_talk_laws.proofs.Staying.{next_seq}
use Rattle.gs_talk_laws.proofs.Telling.{seq_told}
use Rattle.gs_talk_laws.proofs.Writers.{next_acts}

-- ---- tasks in lists of actions

has_first : (n : ℕ) (xs ys : List Act) → HasTask n xs → HasTask n (xs ++ ys)
has_first n [] ys is = absurd is
has_first n (a ∷ xs) ys (inl here) = inl here
has_first n (a ∷ xs) ys (inr later) = inr (has_first n xs ys later)

has_second : (n : ℕ) (xs ys : List Act) → HasTask n ys → HasTask n (xs ++ ys)
has_second n [] ys is = is
has_second n (a ∷ xs) ys is = inr (has_second n xs ys is)

has_either : (n : ℕ) (xs ys : List Act) → HasTask n (xs ++ ys) → HasTask n xs ⊎ HasTask n ys
has_either n [] ys is = inr is
has_either n (a ∷ xs) ys (inl here) = inl (inl here)
has_either n (a ∷ xs) ys (inr later) = elim (has_either n xs ys later) [ inl x ↦ inl (inr x) | inr y ↦ inr y ]

-- ---- one question

-- the question calls no task
pub record NoTask (tasks after : List Task) (added : List Act) : Type 0 where
  pub same : after ≡ tasks
  pub none : (n : ℕ) → HasTask n added → ⊥

-- or it calls the next one
pub record OneTask (r : Run) (w : World) (d : Dialogue) (after : List Task) (added : List Act) : Type 0 where
  pub op : ℕ
  pub line : ℕ
  pub args : List CallArg
  pub state : State
  pub next : Answer → Dialogue
  pub question : d ≡ Ask (Call op line args) state next
  pub goes : first_refused w.files (params_at r.texts.ops op) args ≡ None
  pub more : after ≡ w.tasks ++ task_of r.law r.texts.ops w.files op args ∷ []
  pub called : added ≡ act.Call (length w.tasks + 1) op (names_where reads_file (params_at r.texts.ops op) args) (names_where writes_file (params_at r.texts.ops op) args) ∷ []

abbrev pub Adds : Run → World → Dialogue → List Task → List Act → Type 0
Adds r w d after added = NoTask w.tasks after added ⊎ OneTask r w d after added

one_none : (tasks : List Task) (a : Act) → ((n : ℕ) → IsTaskAct n (Some a) → ⊥) → NoTask tasks tasks (a ∷ [])
one_none tasks a none = record { same = refl; none = λ n is. elim is [ inl here ↦ none n here | inr later ↦ absurd later ] }

nothing : (tasks : List Task) → NoTask tasks tasks []
nothing tasks = record { same = refl; none = λ n is. absurd is }

-- the answer to a question that is no call
stays : (r : Run) (at : Standing) (q : Question) (next : Answer → Dialogue) (o : Option Answer) (added : List Act) → ((a : Answer) → NoTask at.world.tasks (answered r at q next (Some a)).world.tasks added) → NoTask at.world.tasks at.world.tasks added → NoTask at.world.tasks (answered r at q next o).world.tasks added
stays r at q next None added goes stuck = stuck
stays r at q next (Some a) added goes stuck = goes a

called : (r : Run) (at : Standing) (op line : ℕ) (args : List CallArg) (st : State) (next : Answer → Dialogue) (o : Option Answer) → first_refused at.world.files (params_at r.texts.ops op) args ≡ o
    → Adds r at.world (Ask (Call op line args) st next) (step_by r at (Ask (Call op line args) st next)).world.tasks (act_of r at.world (Call op line args))
called r at op line args st next None e = inr (record {
  op = op;
  line = line;
  args = args;
  state = st;
  next = next;
  question = refl;
  goes = e;
  more = ap (λ (o : Option Answer). (answered r at (Call op line args) next (went_unless o)).world.tasks) e ∙ ap (λ (o : Option Answer). (after_call r.law r.texts.ops op args o at.world).tasks) e;
  called = ap (λ (o : Option Answer). unless_refused o (act.Call (length at.world.tasks + 1) op (names_where reads_file (params_at r.texts.ops op) args) (names_where writes_file (params_at r.texts.ops op) args))) e;
})
called r at op line args st next (Some a) e = inl (record {
  same = ap (λ (o : Option Answer). (answered r at (Call op line args) next (went_unless o)).world.tasks) e ∙ ap (λ (o : Option Answer). (after_call r.law r.texts.ops op args o at.world).tasks) e;
  none = λ n is. subst (HasTask n) (ap (λ (o : Option Answer). unless_refused o (act.Call (length at.world.tasks + 1) op (names_where reads_file (params_at r.texts.ops op) args) (names_where writes_file (params_at r.texts.ops op) args))) e) is;
})

of_question : (r : Run) (at : Standing) (q : Question) (st : State) (next : Answer → Dialogue) → Adds r at.world (Ask q st next) (step_by r at (Ask q st next)).world.tasks (act_of r at.world q)
of_question r at (Call op line args) st next = called r at op line args st next (first_refused at.world.files (params_at r.texts.ops op) args) refl
of_question r at (Use n place) st next = let this = one_none at.world.tasks (act.Use n place) (λ m is. is) in inl (stays r at (Use n place) next (reply r.texts.ops at.world (Use n place)) (act.Use n place ∷ []) (λ a. this) this)
of_question r at (OpenFile name mode line) st next = let this = one_none at.world.tasks (act.Read name) (λ m is. is) in inl (stays r at (OpenFile name mode line) next (reply r.texts.ops at.world (OpenFile name mode line)) (act.Read name ∷ []) (λ a. this) this)
of_question r at (CloseFile name bytes) st next = inl (one_none at.world.tasks (act.Write name) (λ m is. is))
of_question r at Barrier st next = let this = one_none at.world.tasks act.Barrier (λ m is. is) in inl (stays r at Barrier next (reply r.texts.ops at.world Barrier) (act.Barrier ∷ []) (λ a. this) this)
of_question r at End st next = inl (one_none at.world.tasks act.Ends (λ m is. is))
of_question r at (Fault line kind) st next = inl (nothing at.world.tasks)
of_question r at FuelOut st next = inl (nothing at.world.tasks)

of_last : (r : Run) (w : World) (q : Question) → IsLast q → NoTask w.tasks w.tasks (act_of r w q)
of_last r w End last = one_none w.tasks act.Ends (λ m is. is)
of_last r w (Fault line kind) last = nothing w.tasks
of_last r w FuelOut last = nothing w.tasks
of_last r w (Call op line args) last = absurd last
of_last r w (Use n place) last = absurd last
of_last r w (OpenFile name mode line) last = absurd last
of_last r w (CloseFile name bytes) last = absurd last
of_last r w Barrier last = absurd last

of_rest : (r : Run) (at : Standing) (told : Told) (d : Dialogue) → Proper r.texts.ops told d → Adds r at.world d (step_by r at d).world.tasks (acts_by r at.world d)
of_rest r at told (Done n st) proper = inl (nothing at.world.tasks)
of_rest r at told (Ask q st next) proper = of_question r at q st next
of_rest r at told (Stop q st) proper = inl (of_last r at.world q proper)

-- ---- all questions so far

-- the tasks that the actions call are the run's
pub record AreCalled (r : Run) (k : ℕ) : Type 0 where
  pub within : (n : ℕ) → HasTask n (acts r k) → (0 < n) × (n ≤ length (seq r k).world.tasks)
  pub each : (m : ℕ) → m < length (seq r k).world.tasks → HasTask (suc m) (acts r k)

start_called : (r : Run) → AreCalled r zero
unfolding acts seq
start_called r = record { within = λ n is. absurd is; each = λ m lt. absurd (omega arith) }

-- with what one question adds
more_called : (r : Run) (w : World) (d : Dialogue) (after : List Task) (old added : List Act) → ((n : ℕ) → HasTask n old → (0 < n) × (n ≤ length w.tasks)) → ((m : ℕ) → m < length w.tasks → HasTask (suc m) old) → Adds r w d after added
    → ((n : ℕ) → HasTask n (old ++ added) → (0 < n) × (n ≤ length after)) × ((m : ℕ) → m < length after → HasTask (suc m) (old ++ added))
more_called r w d after old added within each (inl none) =
    let count : length after ≡ length w.tasks = ap length none.same in (
      λ n is. elim (has_either n old added is) [
        | inl x ↦ let w = within n x in (w.0, let le = w.1 in omega arith)
        | inr y ↦ absurd (none.none n y)
      ],
      λ m lt. has_first (suc m) old added (each m (omega arith)),
    )
more_called r w d after old added within each (inr one) =
    let count : length after ≡ length w.tasks + 1 = ap length one.more ∙ length-append w.tasks (task_of r.law r.texts.ops w.files one.op one.args ∷ []) in (
      λ n is. elim (has_either n old added is) [
        | inl x ↦ let w = within n x in (w.0, let le = w.1 in omega arith)
        | inr y ↦ elim (subst (HasTask n) one.called y) [ inl here ↦ (omega arith, omega arith) | inr later ↦ absurd later ]
      ],
      λ m lt. elim (cases_lt m (length w.tasks)) [
        | inl below ↦ has_first (suc m) old added (each m below)
        | inr top ↦ has_second (suc m) old added (subst (HasTask (suc m)) (sym one.called) (inl (omega arith)))
      ],
    )

pub are_called : (r : Run) (k : ℕ) → AreCalled r k
are_called r zero = start_called r
are_called r (suc k) =
    let before = are_called r k in
    let told = seq_told r k in
    let adds = of_rest r (seq r k) told.told (seq r k).rest told.proper in
    let grown = more_called r (seq r k).world (seq r k).rest (step r (seq r k)).world.tasks (acts r k) (acts_by r (seq r k).world (seq r k).rest) before.within before.each adds in
    record {
      within = rw (next_acts r k, next_seq r k) grown.0;
      each = rw (next_acts r k, next_seq r k) grown.1;
    }

-- what the next question adds
pub next_adds : (r : Run) (k : ℕ) → Adds r (seq r k).world (seq r k).rest (step r (seq r k)).world.tasks (acts_by r (seq r k).world (seq r k).rest)
next_adds r k = let told = seq_told r k in of_rest r (seq r k) told.told (seq r k).rest told.proper
