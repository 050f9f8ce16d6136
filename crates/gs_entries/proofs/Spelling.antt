-- What a payload that is decoded is, and which payload is decoded.
use Rattle.std.proofs.Common.{◌≡◌, ℕ, List, Some, Result, Ok, Err, ap, ◌∙◌}
use Rattle.std.specs.Prelude.{IfOk}
use Rattle.gs_types.specs.Bytes.{IsBytes}
use Rattle.gs_fields.specs.Format.{whole}
use Rattle.gs_fields.proofs.Laws.{whole_takes, whole_again}
use Rattle.gs_entries.specs.declared.failure.Failure.{Failure}
use Rattle.gs_entries.specs.declared.entry.Entry.{Entry}
use Rattle.gs_entries.specs.Gives.{Decodes}
use Rattle.gs_entries.specs.Entries.{entry, Spells}
use Rattle.gs_entries.proofs.Laws.{entry_law}

-- an entry's spelling is read as the entry
pub whole_spelled : (e : Entry) (b : List ℕ) → Spells e b → whole entry b ≡ Some e
whole_spelled e b s = ap (whole entry) s.is ∙ whole_again entry entry_law e s.fits

-- what bytes are read as they spell
pub spelled_whole : (e : Entry) (b : List ℕ) → IsBytes b → whole entry b ≡ Some e → Spells e b
spelled_whole e b h is = let t = whole_takes entry entry_law b e h is in record { is = t.0; fits = t.1 }

pub found_so : (b : List ℕ) (r : Result Entry Failure) → IsBytes b → Decodes r (whole entry b) → IfOk r (λ e. Spells e b)
found_so b (Ok e) h given = spelled_whole e b h given
found_so b (Err e) h given = tt

pub again_so : (b : List ℕ) (r : Result Entry Failure) (e : Entry) → Decodes r (whole entry b) → Spells e b → Decodes r (Some e)
again_so b r e given s = rw (whole_spelled e b s) at given
