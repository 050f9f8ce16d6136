-- What the tables stand for: the first questions of a sequential run, and a history.
use Rattle.std.specs.Prelude.{◌≡◌, ℕ, ◌<◌, ◌≤◌, [], map, length, is_some, List, Option, Some, None}
use Rattle.gs_idl.specs.Interface.{Signature, KeepRules}
use Rattle.gs_types.specs.declared.note.Version.{Version}
use Rattle.gs_types.specs.declared.value.Value.{Value}
use Rattle.gs_types.specs.History.{History, outs_in}
use Rattle.gs_names.specs.Table.{names_in, writes_in}
use Rattle.gs_graph.specs.Graph.{count_in, done_in, needs_in, actions_in}
use Rattle.gs_graph.specs.declared.graph.Graph.{Graph}
use Rattle.gs_looks.specs.Looked.{looks_in, AreSeen}
use Rattle.gs_talk.specs.Seq.{Task, task_at}
use Rattle.gs_talk.specs.Actions.{acts}
use Rattle.gs_talk_laws.specs.Numbers.{at_number}
use Rattle.gs_talk_laws.specs.Stuck.{AreKnown}
use Rattle.gs_talk_laws.specs.Versions.{writings, readings}
use Rattle.gs_history.specs.Setup.{Noting, Setup, world_at, count_at}
use Rattle.gs_history.specs.Notes.{IsNoted, note_at, NoMisfit}
use Rattle.gs_history.specs.Frontier.{unfinished, IsWithin}
use Rattle.gs_history.specs.Good.{Good}
use Rattle.gs_tables.specs.Rows.{IsRow, row_at}
use Rattle.gs_tables.specs.Noted.{noting_in}
use Rattle.gs_tables.specs.Written.{written_back}
use Rattle.gs_tables.specs.Marks.{names_of, AreMade}
use Rattle.gs_tables.specs.Sources.{feeds}
use Rattle.gs_tables.specs.declared.row.Row.{Row}
use Rattle.gs_tables.specs.declared.tables.Tables.{Tables}

-- the graph has the tasks that were called, which are done, and whose outputs each reads
pub record Waits (g : Graph) (s : Setup) (k : ℕ) (h : History) : Type 0 where
  pub count : count_in g ≡ count_at s k
  pub done : (n : ℕ) → 0 < n → n ≤ count_at s k → done_in g n ≡ is_some (outs_in h n)
  pub needs : (n p : ℕ) (reads : List (Option Version))
      → at_number (readings s.run k) n ≡ Some reads → needs_in g n p ≡ feeds p reads

-- what is done of a task that wasn't called yet is its note
abbrev pub IsAhead : Setup → (n : ℕ) → Option (List Value) → Type 0
IsAhead s n None = note_at s.notes n ≡ None
IsAhead s n (Some outs) = (x : Noting) × (note_at s.notes n ≡ Some x) × IsNoted s x n outs

-- task n has a row
pub record HasRow (rows : List Row) (h : History) (n : ℕ) (t : Task)
    (reads : List (Option Version)) : Type 0 where
  pub row : Row
  pub at : row_at rows n ≡ Some row
  pub is : IsRow h n t reads row

-- the tables stand for the first k questions of the sequential run, and for the history
pub record Holds (t : Tables) (s : Setup) (k : ℕ) (h : History) : Type 0 where
  pub count : length t.rows.items ≡ count_at s k
  pub rows : (n : ℕ) (task : Task) (reads : List (Option Version)) → task_at (world_at s k).tasks n
      ≡ Some task → at_number (readings s.run k) n ≡ Some reads → HasRow t.rows.items h n task reads
  pub mains : t.mains.items ≡ map length (world_at s k).closed
  pub looks : AreSeen (looks_in t.looks) s.run.files
  pub writes : writes_in t.names ≡ written_back (writings s.run k) []
  pub names : names_in t.names ≡ names_of (acts s.run k)
  pub made : AreMade (names_in t.names) (actions_in t.graph) (acts s.run k)
  pub graph : Waits t.graph s k h
  pub unfinished_is : t.unfinished ≡ unfinished h (count_at s k)
  pub window : t.window ≡ s.window
  pub notes : (n : ℕ) → noting_in t.notes n ≡ note_at s.notes n
  pub ahead : (n : ℕ) → count_at s k < n → IsAhead s n (outs_in h n)
  pub within : IsWithin s h k
  pub good : Good s h
  pub fit : (j : ℕ) → j < k → NoMisfit s j
  pub rules : KeepRules s.run.texts.ops
  pub known : AreKnown s.run.files

-- these are the operations of the run
abbrev pub AreOps : List Signature → Setup → Type 0
AreOps ops s = ops ≡ s.run.texts.ops
