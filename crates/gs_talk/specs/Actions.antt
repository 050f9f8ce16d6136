-- The actions of a sequential run: who wrote a file last, which task depends on which, and what an
-- action needs.
use Rattle.std.specs.Prelude.{◌≡◌, ℕ, zero, suc, ◌+◌, Bool, true, false, List, [], ◌∷◌, ◌++◌, length, Option, Some, None, ◌⊎◌, if◌then◌else◌}
use Rattle.std.specs.List.{list_any}
use Rattle.std.specs.Str.{bytes_eq}
use Rattle.gs_idl.specs.Interface.{Param, params_at, reads_file, writes_file}
use Rattle.gs_talk.specs.declared.question.CallArg.{CallArg}
use Rattle.gs_talk.specs.declared.question.CallArg.TheVariants as arg
use Rattle.gs_talk.specs.declared.question.Question.{Question}
use Rattle.gs_talk.specs.declared.question.Question.TheVariants as q
use Rattle.gs_talk.specs.Seq.{Run, World, seq, first_refused}
use Rattle.gs_talk.specs.Talk.{Dialogue, Done, Ask, Stop}

-- an action: what a question does, with the files by their names
pub data Act : Type 0 where
  Call : (n op : ℕ) (reads writes : List (List ℕ)) → Act
  Use : (n place : ℕ) → Act
  Read : (name : List ℕ) → Act
  Write : (name : List ℕ) → Act
  Barrier : Act
  Ends : Act

abbrev pub cons_if : Bool → List ℕ → List (List ℕ) → List (List ℕ)
cons_if true name names = name ∷ names
cons_if false name names = names

-- the files at the places that pass a test, in the order of the places
abbrev pub names_where : (Param → Bool) → List Param → List CallArg → List (List ℕ)
names_where test [] args = []
names_where test (p ∷ ps) [] = []
names_where test (p ∷ ps) (arg.File name ∷ args) = cons_if (test p) name (names_where test ps args)
names_where test (p ∷ ps) (arg.Int v ∷ args) = names_where test ps args
names_where test (p ∷ ps) (arg.Str s ∷ args) = names_where test ps args
names_where test (p ∷ ps) (arg.OutInt ∷ args) = names_where test ps args
names_where test (p ∷ ps) (arg.OutStr ∷ args) = names_where test ps args

abbrev pub unless_refused : {A : Type 0} → Option A → Act → List Act
unless_refused None act = act ∷ []
unless_refused (Some a) act = []

-- what a question does in a world; a call that a file stands against does nothing
abbrev pub act_of : Run → World → Question → List Act
act_of r w (q.Call op line args) =
    let ps = params_at r.texts.ops op in
    unless_refused (first_refused w.files ps args)
    (Call (length w.tasks + 1) op (names_where reads_file ps args)
    (names_where writes_file ps args))
act_of r w (q.Use n place) = Use n place ∷ []
act_of r w (q.OpenFile name mode line) = Read name ∷ []
act_of r w (q.CloseFile name bytes) = Write name ∷ []
act_of r w q.Barrier = Barrier ∷ []
act_of r w q.End = Ends ∷ []
act_of r w (q.Fault line kind) = []
act_of r w q.FuelOut = []

-- what is asked next
abbrev pub acts_by : Run → World → Dialogue → List Act
acts_by r w (Done n s) = []
acts_by r w (Ask q s next) = act_of r w q
acts_by r w (Stop q s) = act_of r w q

-- the actions of the first k questions, in their order
unfoldable pub acts : Run → (k : ℕ) → List Act
acts r zero = []
acts r (suc k) = acts r k ++ acts_by r (seq r k).world (seq r k).rest

-- ---- who wrote a file last

abbrev pub is_among : List ℕ → List (List ℕ) → Bool
is_among name names = list_any (λ x. bytes_eq x name) names

abbrev pub writes : Act → List ℕ → Bool
writes (Call n op reads written) name = is_among name written
writes (Use n place) name = false
writes (Read x) name = false
writes (Write x) name = bytes_eq x name
writes Barrier name = false
writes Ends name = false

abbrev pub reads : Act → List ℕ → Bool
reads (Call n op names written) name = is_among name names
reads (Use n place) name = false
reads (Read x) name = bytes_eq x name
reads (Write x) name = false
reads Barrier name = false
reads Ends name = false

-- the last of these actions that writes the file
abbrev pub or_this : Act → List ℕ → Option Act → Option Act
or_this a name (Some later) = Some later
or_this a name None = if writes a name then Some a else None

abbrev pub last_writer : List Act → List ℕ → Option Act
last_writer [] name = None
last_writer (a ∷ more) name = or_this a name (last_writer more name)

abbrev pub IsTaskAct : ℕ → Option Act → Type 0
IsTaskAct n None = ⊥
IsTaskAct n (Some (Call m op names written)) = m ≡ n
IsTaskAct n (Some (Use m place)) = ⊥
IsTaskAct n (Some (Read name)) = ⊥
IsTaskAct n (Some (Write name)) = ⊥
IsTaskAct n (Some Barrier) = ⊥
IsTaskAct n (Some Ends) = ⊥

-- task j truly depends on task i: i wrote a file last, before j, that j reads
pub record DependsOn (r : Run) (j i : ℕ) : Type 0 where
  pub before : List Act
  pub op : ℕ
  pub names : List (List ℕ)
  pub written : List (List ℕ)
  pub after : List Act
  pub moment : ℕ
  pub actions : acts r moment ≡ before ++ Call j op names written ∷ after
  pub name : List ℕ
  pub reads_it : is_among name names ≡ true
  pub writer : IsTaskAct i (last_writer before name)

-- ---- what an action needs, after those before

abbrev pub HasTask : ℕ → List Act → Type 0
HasTask n [] = ⊥
HasTask n (a ∷ more) = IsTaskAct n (Some a) ⊎ HasTask n more

-- the action after these needs task n
abbrev pub Needs : List Act → Act → ℕ → Type 0
Needs before (Call m op names written) n = ⊥
Needs before (Use m place) n = m ≡ n
Needs before (Read name) n = IsTaskAct n (last_writer before name)
Needs before (Write name) n = ⊥
Needs before Barrier n = HasTask n before
Needs before Ends n = HasTask n before
