use Rattle.std.proofs.Common.{◌≡◌, ℕ, map, nat_eq}
use Rattle.std.specs.Prelude.{option_map}
use Rattle.indexmap.specs.IndexMap.{get}
use Rattle.gs_history.specs.Notes.{note_at}
use Rattle.gs_tables.specs.Noted.{noting_of}
use Rattle.gs_tables.proofs.noted.Notes.new.Given as goal

abbrev pub invariant-loop-note : goal.invariant-loop-note
invariant-loop-note l = (n : ℕ) → option_map noting_of (get nat_eq l.map n) ≡ note_at (map noting_of l.yielded) n
