-- What a task gets when it starts.
use Rattle.std.specs.Prelude.{◌≡◌, ◌<◌, ◌≤◌, ℕ, max, Bool, true, false, List, [], ◌∷◌, length, slice_get, Option, Some, None}
use Rattle.std.specs.Bool.{⊤}
use Rattle.gs_idl.specs.Interface.{Param, params_at}
use Rattle.gs_idl.specs.declared.idl.Dir.{Dir}
use Rattle.gs_idl.specs.declared.idl.Dir.TheVariants as dir
use Rattle.gs_types.specs.declared.job.Arg.{Arg}
use Rattle.gs_types.specs.declared.job.Arg.TheVariants as arg
use Rattle.gs_types.specs.declared.note.Version.{Version}
use Rattle.gs_types.specs.declared.value.Value.{Value}
use Rattle.gs_types.specs.declared.value.Value.TheVariants as value
use Rattle.gs_types.specs.History.{History}
use Rattle.gs_talk.specs.declared.question.CallArg.{CallArg}
use Rattle.gs_talk.specs.declared.question.CallArg.TheVariants as called
use Rattle.gs_types.specs.declared.limits.TheConstants.{OPERATION_LIMIT}
use Rattle.gs_policy.specs.declared.limits.TheConstants.{BYTES_LIMIT}
use Rattle.gs_talk.specs.Seq.{Files, World, Known, Task, task_at}
use Rattle.gs_talk_laws.specs.Versions.{version_value}
use Rattle.gs_history.specs.Setup.{Setup, world_at}
use Rattle.gs_history.specs.Frontier.{IsThere}
use Rattle.gs_broker.specs.declared.choice.Ready.{Ready}
use Rattle.gs_talk.specs.Actions.{DependsOn}
use Rattle.gs_history.specs.Ready.{input_bytes, IsOpen}
use Rattle.gs_tables.specs.Rows.{given_length}
use Rattle.gs_tables.specs.declared.row.Row.{Row}
use Rattle.gs_tables.specs.declared.row.StartArg.{StartArg}
use Rattle.gs_tables.specs.declared.row.StartArg.TheVariants as start

-- ---- by a row

abbrev pub is_both : Dir → Bool
is_both dir.Input = false
is_both dir.Both = true
is_both dir.Output = false

abbrev pub both_by : Option Param → Bool
both_by None = false
both_by (Some p) = is_both p.dir

-- whether a parameter's file is given back, from 0
abbrev pub both_at : List Param → ℕ → Bool
both_at ps i = both_by (slice_get ps i)

abbrev pub plain_arg : CallArg → StartArg
plain_arg (called.File name) = start.OutFile
plain_arg (called.Int v) = start.Int v
plain_arg (called.Str s) = start.Str s
plain_arg called.OutInt = start.OutInt
plain_arg called.OutStr = start.OutStr

abbrev pub start_arg : List Row → Option Version → (kept : ℕ) → (both : Bool) → CallArg → StartArg
start_arg rows None kept both a = plain_arg a
start_arg rows (Some v) kept both a =
    start.From v (max kept (given_length rows (Some v))) both

-- what stands at the places from one on
abbrev pub start_args_by : List Row → List Param → List (Option Version) → List ℕ → List CallArg
    → List StartArg
start_args_by rows ps [] kept args = []
start_args_by rows ps (v ∷ reads) [] args = []
start_args_by rows ps (v ∷ reads) (n ∷ kept) [] = []
start_args_by rows [] (v ∷ reads) (n ∷ kept) (a ∷ args) =
    start_arg rows v n false a ∷ start_args_by rows [] reads kept args
start_args_by rows (p ∷ ps) (v ∷ reads) (n ∷ kept) (a ∷ args) =
    start_arg rows v n (is_both p.dir) a ∷ start_args_by rows ps reads kept args

abbrev pub start_args : List Row → List Param → Row → List StartArg
start_args rows ps row = start_args_by rows ps row.reads row.kept row.called

-- ---- by the sequential run

-- the version holds these bytes, is there, and has this length
pub record IsFrom (first : Files) (w : World) (h : History) (v : Version) (kept : ℕ)
    (bytes : List ℕ) : Type 0 where
  pub holds : version_value first w v ≡ Some (Known bytes)
  pub there : IsThere h v
  pub length_is : kept ≡ length bytes

-- what the task gets is what stands at the place in the sequential run
abbrev pub IsStartArg : Files → World → History → StartArg → Arg → Type 0
IsStartArg first w h (start.From v kept both) (arg.Given (value.File bytes)) =
    IsFrom first w h v kept bytes × (both ≡ false)
IsStartArg first w h (start.From v kept both) (arg.Both bytes) =
    IsFrom first w h v kept bytes × (both ≡ true)
IsStartArg first w h (start.Int v) (arg.Given (value.Int x)) = v ≡ x
IsStartArg first w h (start.Str s) (arg.Given (value.Str x)) = s ≡ x
IsStartArg first w h start.OutFile arg.OutFile = ⊤
IsStartArg first w h start.OutInt arg.OutInt = ⊤
IsStartArg first w h start.OutStr arg.OutStr = ⊤
IsStartArg first w h x a = ⊥

abbrev pub AreStartArgs : Files → World → History → List StartArg → List Arg → Type 0
AreStartArgs first w h [] [] = ⊤
AreStartArgs first w h [] (a ∷ args) = ⊥
AreStartArgs first w h (x ∷ xs) [] = ⊥
AreStartArgs first w h (x ∷ xs) (a ∷ args) =
    IsStartArg first w h x a × AreStartArgs first w h xs args

-- the task's operation, and what it gets is what stands at its places in the sequential run
abbrev pub Starts : Setup → (k : ℕ) → History → Task → Option (ℕ × List StartArg) → Type 0
Starts s k h t None = ⊥
Starts s k h t (Some x) = (x.0 ≡ t.op)
    × ((args : List Arg) × (t.args ≡ Some args)
    × AreStartArgs s.run.files (world_at s k) h x.1 args)

-- costs tell apart the task's operation, and the length of what it reads
pub record IsSmall (t : Task) : Type 0 where
  pub op : t.op < OPERATION_LIMIT
  pub bytes : input_bytes t.args ≤ BYTES_LIMIT

-- each task of the run is such
abbrev pub AreSmall : Setup → Type 0
AreSmall s = (k n : ℕ) (t : Task) → task_at (world_at s k).tasks n ≡ Some t → IsSmall t

-- an open task is listed with its operation and the length of what it reads
pub record IsEntry (r : Ready) (n : ℕ) (t : Task) : Type 0 where
  pub number : r.n ≡ n
  pub op_is : r.op ≡ t.op
  pub bytes_are : r.bytes ≡ input_bytes t.args

-- whether the task is open
abbrev pub IsOpenSaid : Setup → History → (n : ℕ) → Task → Bool → Type 0
IsOpenSaid s h n t true = IsOpen s h n t
IsOpenSaid s h n t false = IsOpen s h n t → ⊥

-- each task that truly depends on task n is among these
abbrev pub Follow : Setup → (k n : ℕ) → List ℕ → Type 0
Follow s k n followers = (m : ℕ) (t : Task) → task_at (world_at s k).tasks m ≡ Some t
    → DependsOn s.run m n → (i : ℕ) × (slice_get followers i ≡ Some m)
