-- What the tables say, as plain functions.
use Rattle.std.specs.Prelude.{ℕ, Bool, List, length, Option}
use Rattle.gs_broker.specs.declared.choice.Ready.{Ready}
use Rattle.gs_graph.specs.Graph.{followers_in, ready_in}
use Rattle.gs_graph.specs.Numbers.{has}
use Rattle.gs_looks.specs.Looked.{looks_in}
use Rattle.gs_looks.specs.declared.look.Look.{Look}
use Rattle.gs_tables.specs.Rows.{row_at, listed_row}
use Rattle.gs_tables.specs.declared.tables.Tables.{Tables}

-- how many tasks were called
unfoldable pub called_in : Tables → ℕ
called_in t = length t.rows.items

-- how long the contents are that the program closed
unfoldable pub mains_in : Tables → List ℕ
mains_in t = t.mains.items

-- the files that were looked at for the call that is asked
unfoldable pub looked_in : Tables → List Look
looked_in t = looks_in t.looks

-- the tasks that read what task n gives, in the order of their calls
unfoldable pub followers_of : Tables → ℕ → List ℕ
followers_of t n = followers_in t.graph n

-- whether a task was called and has not finished, and those have finished whose outputs it reads
unfoldable pub is_open : Tables → ℕ → Bool
is_open t n = has n (ready_in t.graph)

-- a task as it is listed to be started
unfoldable pub entry_of : Tables → ℕ → Ready
entry_of t n = listed_row t.rows.items n (row_at t.rows.items n)
