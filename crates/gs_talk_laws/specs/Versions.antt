-- Versions: which content of a file stands, and which a task reads.
use Rattle.std.specs.Prelude.{◌≡◌, ℕ, zero, suc, ◌+◌, ◌<◌, ◌≤◌, true, List, [], ◌∷◌, ◌++◌, length, slice_get, Option, Some, None, ◌⊎◌, if◌then◌else◌}
use Rattle.std.specs.Bool.{⊤}
use Rattle.std.specs.Str.{bytes_eq}
use Rattle.gs_idl.specs.Interface.{Param, Signature, name_at, params_at, reads_file, writes_file}
use Rattle.gs_types.specs.declared.value.Value.{Value}
use Rattle.gs_types.specs.declared.job.Arg.{Arg}
use Rattle.gs_types.specs.declared.note.Version.{Version}
use Rattle.gs_types.specs.declared.note.Version.TheVariants.{Original, Out, Main}
use Rattle.gs_talk.specs.declared.question.CallArg.{CallArg}
use Rattle.gs_talk.specs.declared.question.CallArg.TheVariants.{File, Int, Str, OutInt, OutStr}
use Rattle.gs_talk.specs.declared.question.Question.{Question}
use Rattle.gs_talk.specs.declared.question.Question.TheVariants.{Call, Use, OpenFile, CloseFile, Barrier, End, Fault, FuelOut}
use Rattle.gs_talk.specs.declared.question.Answer.{Answer}
use Rattle.gs_talk.specs.Talk.{Dialogue, Done, Ask, Stop}
use Rattle.gs_talk.specs.Seq.{Run, World, Files, Content, Known, Lost, Task, seq, first_refused, given, and_all, gives, content_of, output_of, task_at}
use Rattle.gs_talk_laws.specs.Numbers.{at_number}
use Rattle.gs_talk_laws.specs.Uses.{AreFit}

-- ---- writings

-- a file is written: its name, and the version that it has from then on
pub record Written : Type 0 where
  pub name : List ℕ
  pub version : Version

-- the version after these writings, the oldest first
abbrev pub latest_from : Version → (name : List ℕ) → List Written → Version
latest_from v name [] = v
latest_from v name (w ∷ ws) = latest_from (if bytes_eq w.name name then w.version else v) name ws

-- the last version that was written, else the original
abbrev pub latest : (name : List ℕ) → List Written → Version
latest name ws = latest_from (Original name) name ws

abbrev pub written_at : (n place : ℕ) → Param → CallArg → List Written → List Written
written_at n place p (File name) more = if writes_file p
    then record { name = name; version = Out n place } ∷ more else more
written_at n place p (Int v) more = more
written_at n place p (Str s) more = more
written_at n place p OutInt more = more
written_at n place p OutStr more = more

-- the files that task n leaves, from a place on
abbrev pub written_by : (n place : ℕ) → List Param → List CallArg → List Written
written_by n place [] args = []
written_by n place (p ∷ ps) [] = []
written_by n place (p ∷ ps) (a ∷ args) = written_at n place p a (written_by n (suc place) ps args)

abbrev pub if_goes : {A : Type 0} → Option Answer → List A → List A
if_goes None xs = xs
if_goes (Some a) xs = []

-- what a question writes: tasks, and the contents that the program closes, are numbered from 1
abbrev pub written_in : List Signature → World → Question → List Written
written_in ops w (Call op line args) =
    let ps = params_at ops op in
    if_goes (first_refused w.files ps args) (written_by (length w.tasks + 1) 1 ps args)
written_in ops w (CloseFile name bytes) = record {
  name = name;
  version = Main
      (length w.closed + 1);
} ∷ []
written_in ops w (Use n place) = []
written_in ops w (OpenFile name mode line) = []
written_in ops w Barrier = []
written_in ops w End = []
written_in ops w (Fault line fault) = []
written_in ops w FuelOut = []

abbrev pub written_next : Run → World → Dialogue → List Written
written_next r w (Done n s) = []
written_next r w (Ask q s next) = written_in r.texts.ops w q
written_next r w (Stop q s) = []

-- what the first k questions write, the oldest first
unfoldable pub writings : Run → (k : ℕ) → List Written
writings r zero = []
writings r (suc k) = writings r k ++ written_next r (seq r k).world (seq r k).rest

-- ---- what a version holds

abbrev pub left_by : Option Value → Option Content
left_by None = Some Lost
left_by (Some v) = Some (content_of v)

abbrev pub closed_as : Option (List ℕ) → Option Content
closed_as None = None
closed_as (Some bytes) = Some (Known bytes)

-- a version's content: the file at first, what a task left, or what the program closed
abbrev pub version_value : (first : Files) → World → Version → Option Content
version_value first w (Original name) = first name
version_value first w (Out n place) = left_by (output_of (task_at w.tasks n) place)
version_value first w (Main k) = closed_as (at_number w.closed k)

-- each file holds what its last version holds
abbrev pub FilesAreVersions : Type 0
FilesAreVersions = (r : Run) (k : ℕ) (name : List ℕ) → (seq r k).world.files name
    ≡ version_value r.files (seq r k).world (latest name (writings r k))

-- ---- each version is someone's

-- task n leaves this file at the place
pub record IsLeft (tasks : List Task) (n place : ℕ) (name : List ℕ) : Type 0 where
  pub task : Task
  pub param : Param
  pub is : task_at tasks n ≡ Some task
  pub takes : at_number task.params place ≡ Some param
  pub passed : at_number task.called place ≡ Some (File name)
  pub writes : writes_file param ≡ true

-- a task left this version of the file, or the program closed it
abbrev pub IsStored : World → (name : List ℕ) → Version → Type 0
IsStored w name (Original x) = ⊥
IsStored w name (Out n place) = IsLeft w.tasks n place name
IsStored w name (Main k) = (bytes : List ℕ) × (at_number w.closed k ≡ Some bytes)

-- each writing's version is one that a task left or that the program closed
abbrev pub WritingsAreStored : Type 0
WritingsAreStored = (r : Run) (k i : ℕ) (x : Written) → slice_get (writings r k) i ≡ Some x
    → IsStored (seq r k).world x.name x.version

-- the file's original, or a stored version of it
abbrev pub IsVersionOf : World → (name : List ℕ) → Version → Type 0
IsVersionOf w name v = (v ≡ Original name) ⊎ IsStored w name v

abbrev pub LatestIsStored : Type 0
LatestIsStored = (r : Run) (k : ℕ) (name : List ℕ)
    → IsVersionOf (seq r k).world name (latest name (writings r k))

-- ---- what a task reads

abbrev pub read_at : List Written → Param → CallArg → Option Version
read_at ws p (File name) = if reads_file p then Some (latest name ws) else None
read_at ws p (Int v) = None
read_at ws p (Str s) = None
read_at ws p OutInt = None
read_at ws p OutStr = None

-- the version that a call reads at each place, after these writings; None where it reads no file
abbrev pub read_by : List Written → List Param → List CallArg → List (Option Version)
read_by ws [] args = []
read_by ws (p ∷ ps) [] = []
read_by ws (p ∷ ps) (a ∷ args) = read_at ws p a ∷ read_by ws ps args

abbrev pub read_in : List Signature → World → List Written → Question → List (List (Option Version))
read_in ops w ws (Call op line args) =
    let ps = params_at ops op in
    if_goes (first_refused w.files ps args) (read_by ws ps args ∷ [])
read_in ops w ws (Use n place) = []
read_in ops w ws (OpenFile name mode line) = []
read_in ops w ws (CloseFile name bytes) = []
read_in ops w ws Barrier = []
read_in ops w ws End = []
read_in ops w ws (Fault line fault) = []
read_in ops w ws FuelOut = []

abbrev pub read_next : Run → World → List Written → Dialogue → List (List (Option Version))
read_next r w ws (Done n s) = []
read_next r w ws (Ask q s next) = read_in r.texts.ops w ws q
read_next r w ws (Stop q s) = []

-- what each task of the first k questions reads, by its places
unfoldable pub readings : Run → (k : ℕ) → List (List (Option Version))
readings r zero = []
readings r (suc k) = readings r k ++ read_next r (seq r k).world (writings r k) (seq r k).rest

abbrev pub content_by : (first : Files) → World → Option Version → Option Content
content_by first w None = None
content_by first w (Some v) = version_value first w v

-- what stands at the places of a task that reads these versions
abbrev pub all_given_by : (first : Files) → World → List (Option Version) → List Param
    → List CallArg → Option (List Arg)
all_given_by first w [] ps args = Some []
all_given_by first w (v ∷ vs) [] args = Some []
all_given_by first w (v ∷ vs) (p ∷ ps) [] = Some []
all_given_by first w (v ∷ vs) (p ∷ ps) (a ∷ args) = and_all
    (given (λ name. content_by first w v) p a) (all_given_by first w vs ps args)

-- an original, what the program closed, or what a task before task n left
abbrev pub IsBefore : (n : ℕ) → Version → Type 0
IsBefore n (Original name) = ⊤
IsBefore n (Out m place) = m < n
IsBefore n (Main k) = ⊤

-- task n reads this version of the file at this place, from 0
pub record IsRead (w : World) (n : ℕ) (called : List CallArg) (i : ℕ) (v : Version) : Type 0 where
  pub name : List ℕ
  pub passed : slice_get called i ≡ Some (File name)
  pub version : IsVersionOf w name v
  pub before : IsBefore n v

-- task n stands for a call that fits its operation, and that reads these versions; it takes what
-- they hold, and gives what the law says
pub record IsTaskOf (r : Run) (w : World) (n : ℕ) (t : Task) (reads : List (Option Version)) : Type
    0 where
  pub params : t.params ≡ params_at r.texts.ops t.op
  pub fit : AreFit t.called t.params
  pub places : length reads ≡ length t.called
  pub args : t.args ≡ all_given_by r.files w reads t.params t.called
  pub outs : t.outs ≡ gives r.law (name_at r.texts.ops t.op) t.args
  pub each : (i : ℕ) (v : Version) → slice_get reads i ≡ Some (Some v) → IsRead w n t.called i v

-- what is known of each task
abbrev pub TasksReadVersions : Type 0
TasksReadVersions = (r : Run) (k n : ℕ) (t : Task) → task_at (seq r k).world.tasks n ≡ Some t →
    (reads : List (Option Version)) × (at_number (readings r k) n ≡ Some reads)
    × IsTaskOf r (seq r k).world n t reads

-- ---- what stands, stays

abbrev pub TasksStay : Type 0
TasksStay = (r : Run) (k more n : ℕ) (t : Task) → k ≤ more → task_at (seq r k).world.tasks n
    ≡ Some t → task_at (seq r more).world.tasks n ≡ Some t

abbrev pub ClosedStay : Type 0
ClosedStay = (r : Run) (k more n : ℕ) (bytes : List ℕ) → k ≤ more
    → at_number (seq r k).world.closed n ≡ Some bytes → at_number (seq r more).world.closed n
    ≡ Some bytes

abbrev pub ReadingsStay : Type 0
ReadingsStay = (r : Run) (k more n : ℕ) (reads : List (Option Version)) → k ≤ more
    → at_number (readings r k) n ≡ Some reads → at_number (readings r more) n ≡ Some reads
