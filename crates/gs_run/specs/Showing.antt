-- How the parts of a check end.
use Rattle.std.specs.Prelude.{◌≡◌, ℕ, ◌≤◌, List, ◌++◌, length, take, Option, Some, None, Result, Ok, Err}
use Rattle.gs_types.specs.Counts.{Rises}
use Rattle.gs_run.specs.Texts.{IsBeyond}
use Rattle.gs_run.specs.declared.kinds.TextKind.{TextKind}
use Rattle.gs_run.specs.declared.refusal.Refusal.{Refusal}
use Rattle.gs_run.specs.declared.refusal.Refusal.TheVariants.{NoText, BadText, Disk, Memory}
use Rattle.gs_run.specs.declared.showing.Unshown.{Unshown}
use Rattle.gs_run.specs.declared.showing.Unshown.TheVariants as unshown
use Rattle.gs_run.specs.declared.stop.Stop.{Stop}
use Rattle.gs_run.specs.declared.stop.Stop.TheVariants as stop

-- reading a text within the limit fails where it is absent or longer, by the disk, or for want of
-- memory
abbrev pub ShortEnds : ℕ → ℕ → Result (List ℕ) Refusal → Type 0
ShortEnds old new (Ok t) = Unit {0}
ShortEnds old new (Err (NoText name)) = Unit {0}
ShortEnds old new (Err (BadText name line k)) = Unit {0}
ShortEnds old new (Err Disk) = Rises old new
ShortEnds old new (Err Memory) = Unit {0}

-- of the file of this name
abbrev pub ShortTold : Option (List ℕ) → (name : List ℕ) → (too_long : TextKind)
    → Result (List ℕ) Refusal → Type 0
ShortTold file name too_long (Ok t) = (file ≡ Some t) × (length t ≤ 65536)
ShortTold file name too_long (Err (NoText n)) = (n ≡ name) × (file ≡ None)
ShortTold file name too_long (Err (BadText n line k)) = (n ≡ name) × (line ≡ 0) × (k ≡ too_long)
    × IsBeyond file
ShortTold file name too_long (Err Disk) = Unit {0}
ShortTold file name too_long (Err Memory) = Unit {0}

-- writing fails only by the output, or for want of memory
abbrev pub ShowEnds : ℕ → ℕ → Result Unit Unshown → Type 0
ShowEnds old new (Ok done) = Unit {0}
ShowEnds old new (Err unshown.Sink) = Rises old new
ShowEnds old new (Err unshown.Memory) = Unit {0}

-- all was written, or a first part, or nothing
abbrev pub ShowWrote : (text old new : List ℕ) → Result Unit Unshown → Type 0
ShowWrote text old new (Ok done) = new ≡ old ++ text
ShowWrote text old new (Err unshown.Sink) =
    (k : ℕ) × (k ≤ length text) × (new ≡ old ++ take k text)
ShowWrote text old new (Err unshown.Memory) = new ≡ old

-- ---- why the whole call stops

abbrev pub stop_of : Refusal → Stop
stop_of (NoText name) = stop.NoText name
stop_of (BadText name line kind) = stop.BadText name line kind
stop_of Disk = stop.Disk
stop_of Memory = stop.Memory

abbrev pub shown_as : Result Unit Unshown → Result Unit Stop
shown_as (Ok done) = Ok done
shown_as (Err unshown.Sink) = Err stop.Sink
shown_as (Err unshown.Memory) = Err stop.Memory
