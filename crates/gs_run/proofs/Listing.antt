-- What a list of workers says, and its entries.
use Rattle.std.proofs.Common.{◌≡◌, ℕ, zero, suc, List, [], ◌∷◌, refl, sym}
use Rattle.std.specs.Prelude.{slice_get, option_map}
use Rattle.gs_broker.specs.Workers.{slots_at, takes_at, program_of}
use Rattle.gs_broker.specs.Reading.{entries_of}
use Rattle.gs_broker.specs.Listed.{count_of, slots_of_list, takes_of_list, program_in, entries_in}
use Rattle.gs_broker.specs.TextLaws.{slots_by, takes_by, TellsEntries}
use Rattle.gs_broker.specs.declared.workers.Worker.{Worker}
use Rattle.gs_broker.specs.declared.workers.Workers.{Workers}
use Rattle.gs_broker.proofs.Lines.{length_entries}

slots_tell : (ws : List Worker) (w : ℕ) → slots_at ws w ≡ slots_by (slice_get (entries_of ws) w)
slots_tell [] w = refl
slots_tell (x ∷ ws) zero = refl
slots_tell (x ∷ ws) (suc w) = slots_tell ws w

takes_tell : (ws : List Worker) (w op : ℕ)
    → takes_at ws w op ≡ takes_by (slice_get (entries_of ws) w) op
takes_tell [] w op = refl
takes_tell (x ∷ ws) zero op = refl
takes_tell (x ∷ ws) (suc w) op = takes_tell ws w op

program_tells : (ws : List Worker) (w : ℕ) → option_map program_of (slice_get ws w)
    ≡ option_map (λ e. e.program) (slice_get (entries_of ws) w)
program_tells [] w = refl
program_tells (x ∷ ws) zero = refl
program_tells (x ∷ ws) (suc w) = program_tells ws w

pub tells : (ws : Workers) → TellsEntries ws
unfolding count_of slots_of_list takes_of_list program_in entries_in
tells ws = record {
  count = sym (length_entries ws.list.items);
  slots = slots_tell ws.list.items;
  takes = takes_tell ws.list.items;
  program = program_tells ws.list.items;
}
