-- What a reading function gave.
use Rattle.std.specs.Prelude.{◌≡◌, ℕ, List, Option, Some, None, Result, Ok, Err}
use Rattle.gs_fields.specs.Fields.{Reader}
use Rattle.gs_entries.specs.declared.failure.Failure.{Failure}
use Rattle.gs_entries.specs.declared.failure.Failure.TheVariants.{NoMemory, NotEntry}

-- there was nothing to be found, unless memory ran out
abbrev pub Fails : {Y : Type 0} → Failure → Option Y → Type 0
Fails NoMemory found = Unit {0}
Fails NotEntry found = found ≡ None

-- what reading finds, and the reader stands behind it
abbrev pub Gives : {X : Type 0} → Reader → Result X Failure → Option (X × List ℕ) → Type 0
Gives now (Ok x) found = found ≡ Some (x, now.rest)
Gives now (Err e) found = Fails e found

-- what all of the bytes are
abbrev pub Decodes : {X : Type 0} → Result X Failure → Option X → Type 0
Decodes (Ok x) found = found ≡ Some x
Decodes (Err e) found = Fails e found
