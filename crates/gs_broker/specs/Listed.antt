-- What a list of workers says, as plain functions of the worker's number, from 0.
use Rattle.std.specs.Prelude.{ℕ, Bool, List, Option, length, slice_get, option_map}
use Rattle.gs_broker.specs.Workers.{slots_at, takes_at, program_of}
use Rattle.gs_broker.specs.Text.{Entry}
use Rattle.gs_broker.specs.Reading.{entries_of}
use Rattle.gs_broker.specs.declared.workers.Workers.{Workers}

-- how many workers there are
unfoldable pub count_of : Workers → ℕ
count_of ws = length ws.list.items

-- how many jobs a worker takes at once; none past the list
unfoldable pub slots_of_list : Workers → ℕ → ℕ
slots_of_list ws w = slots_at ws.list.items w

-- whether a worker takes an operation; past the list none does
unfoldable pub takes_of_list : Workers → ℕ → ℕ → Bool
takes_of_list ws w op = takes_at ws.list.items w op

-- a worker's program
unfoldable pub program_in : Workers → ℕ → Option (List ℕ)
program_in ws w = option_map program_of (slice_get ws.list.items w)

-- the workers in order
unfoldable pub entries_in : Workers → List Entry
entries_in ws = entries_of ws.list.items
