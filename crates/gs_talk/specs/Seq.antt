-- The sequential run: a program whose questions a plain world answers.
use Rattle.std.specs.Prelude.{◌≡◌, ℕ, zero, suc, nat_le, Bool, true, false, ◌&&◌, List, [], ◌∷◌, ◌++◌, length, slice_get, Option, Some, None, is_none, if◌then◌else◌}
use Rattle.std.specs.List.{list_any, list_all}
use Rattle.std.specs.Str.{bytes_eq}
use Rattle.gs_idl.specs.Interface.{Param, Signature, name_at, params_at, reads_file, writes_file}
use Rattle.gs_idl.specs.declared.idl.Dir.{Dir}
use Rattle.gs_idl.specs.declared.idl.Dir.TheVariants.{Input, Both, Output}
use Rattle.gs_types.specs.Bytes.{is_text_byte}
use Rattle.gs_types.specs.Job.{Meaning, inputs}
use Rattle.gs_types.specs.declared.limits.TheConstants.{FILE_LIMIT, STRING_LIMIT}
use Rattle.gs_types.specs.declared.value.Value.{Value}
use Rattle.gs_types.specs.declared.value.Value.TheVariants as value
use Rattle.gs_types.specs.declared.job.Arg.{Arg}
use Rattle.gs_types.specs.declared.job.Arg.TheVariants.{Given, Both as both_ways, OutFile, OutInt, OutStr}
use Rattle.gs_talk.specs.declared.question.CallArg.{CallArg}
use Rattle.gs_talk.specs.declared.question.CallArg.TheVariants as arg
use Rattle.gs_talk.specs.declared.question.Question.{Question}
use Rattle.gs_talk.specs.declared.question.Question.TheVariants.{Call, Use, OpenFile, CloseFile, Barrier, End, Fault, FuelOut}
use Rattle.gs_talk.specs.declared.question.Answer.{Answer}
use Rattle.gs_talk.specs.declared.question.Answer.TheVariants.{Went, Val, Bytes, Absent, TooLong}
use Rattle.gs_talk.specs.Talk as talk
use Rattle.gs_talk.specs.Talk.{State, Dialogue, Done, Ask, Stop, dialogue}

-- what a file holds: bytes, or what a lost task would have left
pub data Content : Type 0 where
  Known : List ℕ → Content
  Lost : Content

-- the user's files; None for a file that isn't there
abbrev pub Files : Type 0
Files = List ℕ → Option Content

-- ---- tasks

-- a task: its operation's name and the places of the call, what stands at them where no input is
-- lost, and what it gave; None where it is lost
pub record Task : Type 0 where
  pub op : ℕ
  pub params : List Param
  pub called : List CallArg
  pub args : Option (List Arg)
  pub outs : Option (List Value)

-- the files, the tasks, and the contents that the program closed
pub record World : Type 0 where
  pub files : Files
  pub tasks : List Task
  pub closed : List (List ℕ)

abbrev pub is_lost : Task → Bool
is_lost t = is_none t.outs

abbrev pub with_file : List ℕ → Content → Files → Files
with_file name c files x = if bytes_eq name x then Some c else files x

-- ---- what a call's files are answered

-- the answer for a file that can't be passed
abbrev pub refused : Option Content → Option Answer
refused None = Some Absent
refused (Some (Known bytes)) = if nat_le (length bytes) FILE_LIMIT then None else Some TooLong
refused (Some Lost) = None

abbrev pub refused_at : Files → Param → CallArg → Option Answer
refused_at files p (arg.File name) = if reads_file p then refused (files name) else None
refused_at files p (arg.Int v) = None
refused_at files p (arg.Str s) = None
refused_at files p arg.OutInt = None
refused_at files p arg.OutStr = None

abbrev pub or_next : Option Answer → Option Answer → Option Answer
or_next None next = next
or_next (Some a) next = Some a

-- the answer for the first file from the left that is absent or too long
abbrev pub first_refused : Files → List Param → List CallArg → Option Answer
first_refused files [] args = None
first_refused files (p ∷ ps) [] = None
first_refused files (p ∷ ps) (a ∷ args) = or_next (refused_at files p a)
    (first_refused files ps args)

-- ---- what a task is given and leaves

abbrev pub file_given : Dir → Option Content → Option Arg
file_given Input (Some (Known bytes)) = Some (Given (value.File bytes))
file_given Both (Some (Known bytes)) = Some (both_ways bytes)
file_given Output c = Some OutFile
file_given Input None = None
file_given Input (Some Lost) = None
file_given Both None = None
file_given Both (Some Lost) = None

-- what stands at a place of the task; None for a lost file
abbrev pub given : Files → Param → CallArg → Option Arg
given files p (arg.File name) = file_given p.dir (files name)
given files p (arg.Int v) = Some (Given (value.Int v))
given files p (arg.Str s) = Some (Given (value.Str s))
given files p arg.OutInt = Some OutInt
given files p arg.OutStr = Some OutStr

abbrev pub and_all : {A : Type 0} → Option A → Option (List A) → Option (List A)
and_all None xs = None
and_all (Some x) None = None
and_all (Some x) (Some xs) = Some (x ∷ xs)

abbrev pub all_given : Files → List Param → List CallArg → Option (List Arg)
all_given files [] args = Some []
all_given files (p ∷ ps) [] = Some []
all_given files (p ∷ ps) (a ∷ args) = and_all (given files p a) (all_given files ps args)

abbrev pub is_file : Value → Bool
is_file (value.File bytes) = nat_le (length bytes) FILE_LIMIT
is_file (value.Int v) = false
is_file (value.Str s) = false

abbrev pub is_int : Value → Bool
is_int (value.Int v) = true
is_int (value.File bytes) = false
is_int (value.Str s) = false

abbrev pub is_string : Value → Bool
is_string (value.Str s) = nat_le (length s) STRING_LIMIT && list_all is_text_byte s
is_string (value.Int v) = false
is_string (value.File bytes) = false

abbrev pub fits_first : (Value → Bool) → List Value → (List Value → Bool) → Bool
fits_first test [] rest = false
fits_first test (v ∷ outs) rest = test v && rest outs

-- one output for each place that gives one, in order, of the place's kind and within the limits
abbrev pub fit : List Arg → List Value → Bool
fit [] [] = true
fit [] (v ∷ outs) = false
fit (Given v ∷ args) outs = fit args outs
fit (both_ways bytes ∷ args) outs = fits_first is_file outs (fit args)
fit (OutFile ∷ args) outs = fits_first is_file outs (fit args)
fit (OutInt ∷ args) outs = fits_first is_int outs (fit args)
fit (OutStr ∷ args) outs = fits_first is_string outs (fit args)

abbrev pub fitting : List Arg → Option (List Value) → Option (List Value)
fitting args None = None
fitting args (Some outs) = if fit args outs then Some outs else None

-- what the law gives; outputs that don't fit the places count as none
abbrev pub gives : Meaning → (op : List ℕ) → Option (List Arg) → Option (List Value)
gives law op None = None
gives law op (Some args) = fitting args (law op (inputs args))

abbrev pub task_of : Meaning → List Signature → Files → (op : ℕ) → List CallArg → Task
task_of law ops files op args = record {
  op = op;
  params = params_at ops op;
  called = args;
  args = all_given files (params_at ops op) args;
  outs = gives law (name_at ops op) (all_given files (params_at ops op) args);
}

-- ---- the files after a task

abbrev pub content_of : Value → Content
content_of (value.File bytes) = Known bytes
content_of (value.Int v) = Lost
content_of (value.Str s) = Lost

-- all files that a lost task would have left are lost
abbrev pub all_lost : List Param → List CallArg → Files → Files
all_lost [] args files = files
all_lost (p ∷ ps) [] files = files
all_lost (p ∷ ps) (arg.File name ∷ args) files = all_lost ps args (if writes_file p
    then with_file name Lost files else files)
all_lost (p ∷ ps) (arg.Int v ∷ args) files = all_lost ps args files
all_lost (p ∷ ps) (arg.Str s ∷ args) files = all_lost ps args files
all_lost (p ∷ ps) (arg.OutInt ∷ args) files = all_lost ps args files
all_lost (p ∷ ps) (arg.OutStr ∷ args) files = all_lost ps args files

abbrev pub set_first : List ℕ → List Value → Files → Files
set_first name [] files = files
set_first name (v ∷ outs) files = with_file name (content_of v) files

abbrev pub rest_of : List Value → List Value
rest_of [] = []
rest_of (v ∷ outs) = outs

-- each place that leaves a file takes the next output
abbrev pub all_set : List Param → List CallArg → List Value → Files → Files
all_set [] args outs files = files
all_set (p ∷ ps) [] outs files = files
all_set (p ∷ ps) (arg.File name ∷ args) outs files =
    if writes_file p then all_set ps args (rest_of outs) (set_first name outs files)
    else all_set ps args outs files
all_set (p ∷ ps) (arg.Int v ∷ args) outs files = all_set ps args outs files
all_set (p ∷ ps) (arg.Str s ∷ args) outs files = all_set ps args outs files
all_set (p ∷ ps) (arg.OutInt ∷ args) outs files = all_set ps args (rest_of outs) files
all_set (p ∷ ps) (arg.OutStr ∷ args) outs files = all_set ps args (rest_of outs) files

abbrev pub files_by : Option (List Value) → List Param → List CallArg → Files → Files
files_by None ps args files = all_lost ps args files
files_by (Some outs) ps args files = all_set ps args outs files

abbrev pub ran : Task → World → World
ran t w = record w { files = files_by t.outs t.params t.called w.files; tasks = w.tasks ++ t ∷ [] }

-- ---- outputs by places

-- the output at a place, from 1
abbrev pub output_at : List Arg → List Value → (place : ℕ) → Option Value
output_at [] outs place = None
output_at (a ∷ args) outs zero = None
output_at (Given v ∷ args) outs (suc zero) = None
output_at (both_ways bytes ∷ args) outs (suc zero) = slice_get outs 0
output_at (OutFile ∷ args) outs (suc zero) = slice_get outs 0
output_at (OutInt ∷ args) outs (suc zero) = slice_get outs 0
output_at (OutStr ∷ args) outs (suc zero) = slice_get outs 0
output_at (Given v ∷ args) outs (suc (suc place)) = output_at args outs (suc place)
output_at (both_ways bytes ∷ args) outs (suc (suc place)) = output_at args (rest_of outs)
    (suc place)
output_at (OutFile ∷ args) outs (suc (suc place)) = output_at args (rest_of outs) (suc place)
output_at (OutInt ∷ args) outs (suc (suc place)) = output_at args (rest_of outs) (suc place)
output_at (OutStr ∷ args) outs (suc (suc place)) = output_at args (rest_of outs) (suc place)

-- tasks are numbered from 1
abbrev pub task_at : List Task → ℕ → Option Task
task_at tasks zero = None
task_at tasks (suc n) = slice_get tasks n

abbrev pub output_by : Option (List Arg) → Option (List Value) → (place : ℕ) → Option Value
output_by None outs place = None
output_by (Some args) None place = None
output_by (Some args) (Some outs) place = output_at args outs place

abbrev pub output_of : Option Task → (place : ℕ) → Option Value
output_of None place = None
output_of (Some t) place = output_by t.args t.outs place

-- ---- the answers; None where the run is stuck

abbrev pub went_unless : Option Answer → Option Answer
went_unless None = Some Went
went_unless (Some a) = Some a

abbrev pub val_of : Option Value → Option Answer
val_of None = None
val_of (Some v) = Some (Val v)

abbrev pub opened : Option Content → Option Answer
opened None = Some Absent
opened (Some (Known bytes)) = if nat_le (length bytes) FILE_LIMIT then Some (Bytes bytes)
    else Some TooLong
opened (Some Lost) = None

abbrev pub unless_lost : Bool → Option Answer
unless_lost true = None
unless_lost false = Some Went

abbrev pub any_lost : World → Bool
any_lost w = list_any is_lost w.tasks

abbrev pub reply : List Signature → World → Question → Option Answer
reply ops w (Call op line args) = went_unless (first_refused w.files (params_at ops op) args)
reply ops w (Use n place) = val_of (output_of (task_at w.tasks n) place)
reply ops w (OpenFile name mode line) = opened (w.files name)
reply ops w (CloseFile name bytes) = Some Went
reply ops w Barrier = unless_lost (any_lost w)
reply ops w End = None
reply ops w (Fault line kind) = None
reply ops w FuelOut = None

abbrev pub after_call : Meaning → List Signature → (op : ℕ) → List CallArg → Option Answer → World
    → World
after_call law ops op args None w = ran (task_of law ops w.files op args) w
after_call law ops op args (Some a) w = w

abbrev pub world_after : Meaning → List Signature → World → Question → World
world_after law ops w (Call op line args) = after_call law ops op args
    (first_refused w.files (params_at ops op) args) w
world_after law ops w (Use n place) = w
world_after law ops w (OpenFile name mode line) = w
world_after law ops w (CloseFile name bytes) = record w {
  files = with_file name (Known bytes)
      w.files;
  closed = w.closed ++ bytes ∷ [];
}
world_after law ops w Barrier = w
world_after law ops w End = w
world_after law ops w (Fault line kind) = w
world_after law ops w FuelOut = w

-- ---- the run

-- where a run stands: it goes on as this dialogue in this world
pub record Standing : Type 0 where
  pub world : World
  pub rest : Dialogue

-- what is given: the texts, the law, the files at first, and the fuel
pub record Run : Type 0 where
  pub texts : talk.Given
  pub law : Meaning
  pub files : Files
  pub fuel : ℕ

abbrev pub first_world : Files → World
first_world files = record { files = files; tasks = []; closed = [] }

abbrev pub start : Run → Standing
start r = record { world = first_world r.files; rest = dialogue r.texts r.fuel }

abbrev pub answered : Run → Standing → Question → (Answer → Dialogue) → Option Answer → Standing
answered r at q next None = at
answered r at q next (Some a) = record {
  world = world_after r.law r.texts.ops at.world q;
  rest = next a;
}

abbrev pub step_by : Run → Standing → Dialogue → Standing
step_by r at (Done n s) = at
step_by r at (Stop q s) = at
step_by r at (Ask q s next) = answered r at q next (reply r.texts.ops at.world q)

-- one question is answered; a run that has ended or is stuck stays
abbrev pub step : Run → Standing → Standing
step r at = step_by r at at.rest

-- after k questions
unfoldable pub seq : Run → (k : ℕ) → Standing
seq r zero = start r
seq r (suc k) = step r (seq r k)

-- ---- how it ends

-- the last question, which comes only where no task is lost; None where the run goes on or is stuck
abbrev pub last_by : Bool → Dialogue → Option Question
last_by lost (Done n s) = None
last_by lost (Ask q s next) = None
last_by true (Stop q s) = None
last_by false (Stop q s) = Some q

abbrev pub last_of : Standing → Option Question
last_of at = last_by (any_lost at.world) at.rest

-- the run ends in this question after k answers
pub record EndsIn (r : Run) (k : ℕ) (q : Question) : Type 0 where
  pub last : last_of (seq r k) ≡ Some q

-- the run can go no further: a lost task's value, a lost file, or a last question or a barrier
-- beside a lost task
abbrev pub is_stuck_by : List Signature → World → Dialogue → Bool
is_stuck_by ops w (Done n s) = false
is_stuck_by ops w (Stop q s) = any_lost w
is_stuck_by ops w (Ask q s next) = is_none (reply ops w q)

-- the run is stuck after k answers
pub record IsStuck (r : Run) (k : ℕ) : Type 0 where
  pub stuck : is_stuck_by r.texts.ops (seq r k).world (seq r k).rest ≡ true

-- a task that the run has, at some moment
pub record IsTask (r : Run) (n : ℕ) (t : Task) : Type 0 where
  pub moment : ℕ
  pub is : task_at (seq r moment).world.tasks n ≡ Some t
