-- What a row of the table says of a task.
use Rattle.std.specs.Prelude.{◌≡◌, ℕ, zero, suc, ◌+◌, List, [], ◌∷◌, length, slice_get, Option, Some, None, option_map, min, slice_set}
use Rattle.gs_types.specs.declared.note.OutNote.{OutNote}
use Rattle.gs_types.specs.declared.note.Version.{Version}
use Rattle.gs_types.specs.declared.note.Version.TheVariants.{Original, Out, Main}
use Rattle.gs_types.specs.declared.job.Arg.{Arg}
use Rattle.gs_types.specs.declared.job.Arg.TheVariants.{Given, Both, OutFile, OutInt, OutStr}
use Rattle.gs_types.specs.History.{History, outs_in}
use Rattle.gs_policy.specs.declared.limits.TheConstants.{BYTES_LIMIT}
use Rattle.gs_broker.specs.declared.choice.Ready.{Ready}
use Rattle.gs_talk.specs.Seq.{Task}
use Rattle.gs_history.specs.Ready.{value_length}
use Rattle.gs_tables.specs.Outs.{outs_noted, noted_in, noted_length}
use Rattle.gs_tables.specs.declared.row.Row.{Row}

-- tasks are numbered from 1
abbrev pub row_at : List Row → ℕ → Option Row
row_at rows zero = None
row_at rows (suc n) = slice_get rows n

abbrev pub row_outs : Option Row → Option (List OutNote)
row_outs None = None
row_outs (Some row) = row.outs

-- ---- lengths

-- the bytes of a file that stands at a place
abbrev pub arg_length : Arg → ℕ
arg_length (Given v) = value_length v
arg_length (Both bytes) = length bytes
arg_length OutFile = 0
arg_length OutInt = 0
arg_length OutStr = 0

-- the bytes of what is read here, where no task gives it
abbrev pub fixed_length : Option Version → Arg → ℕ
fixed_length None a = 0
fixed_length (Some (Original name)) a = arg_length a
fixed_length (Some (Out n place)) a = 0
fixed_length (Some (Main k)) a = arg_length a

abbrev pub fixed_lengths : List (Option Version) → List Arg → List ℕ
fixed_lengths [] args = []
fixed_lengths (v ∷ reads) [] = []
fixed_lengths (v ∷ reads) (a ∷ args) = fixed_length v a ∷ fixed_lengths reads args

-- the bytes of what is read here, where a task gave it
abbrev pub given_length : List Row → Option Version → ℕ
given_length rows None = 0
given_length rows (Some (Original name)) = 0
given_length rows (Some (Out n place)) = noted_length (noted_in (row_outs (row_at rows n)) place)
given_length rows (Some (Main k)) = 0

-- the bytes of all that is read: what no task gives, and what tasks gave
abbrev pub read_lengths : List Row → List (Option Version) → List ℕ → ℕ
read_lengths rows [] kept = 0
read_lengths rows (v ∷ reads) [] = 0
read_lengths rows (v ∷ reads) (n ∷ kept) = n + given_length rows v + read_lengths rows reads kept

-- ---- a row

-- the row is the task's: its call, the versions that it reads, how long those are that no task
-- gives, and what it gave
pub record IsRow (h : History) (n : ℕ) (t : Task) (reads : List (Option Version)) (row : Row) :
    Type 0 where
  pub op : row.op ≡ t.op
  pub called : row.called ≡ t.called
  pub read : row.reads ≡ reads
  pub kept : (args : List Arg) → t.args ≡ Some args → row.kept ≡ fixed_lengths reads args
  pub outs : row.outs ≡ option_map (outs_noted 1 t.params) (outs_in h n)

-- ---- a task that may be started

abbrev pub listed_row : List Row → ℕ → Option Row → Ready
listed_row rows n None = record { n = n; op = 0; bytes = 0 }
listed_row rows n (Some row) = record {
  n = n;
  op = min row.op 63;
  bytes = min (read_lengths rows row.reads row.kept) BYTES_LIMIT;
}

-- row i, from 0, has these outputs, and the others are as before
pub record IsFinishedRow (i : ℕ) (outs : List OutNote) (old new : List Row) : Type 0 where
  pub row : Row
  pub at : slice_get old i ≡ Some row
  pub rows : new ≡ slice_set old i (record row { outs = Some outs })
