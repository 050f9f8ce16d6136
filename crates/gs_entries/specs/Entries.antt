-- The format of an entry.
use Rattle.std.specs.Prelude.{◌≡◌, ℕ, zero, suc, true, List, Option, Some, None}
use Rattle.gs_types.specs.declared.note.OutNote.{OutNote}
use Rattle.gs_fields.specs.Format.{Format, empty, exactly, never, pair, via, tagged}
use Rattle.gs_entries.specs.Notes.{name, source, task, operation, outs}
use Rattle.gs_entries.specs.Gate.{gate}
use Rattle.gs_entries.specs.declared.entry.Texts.{Texts}
use Rattle.gs_entries.specs.declared.entry.GateNote.{GateNote}
use Rattle.gs_entries.specs.declared.entry.Entry.{Entry}
use Rattle.gs_entries.specs.declared.entry.Entry.TheVariants as made

abbrev pub put_texts : Unit {0} × (List ℕ × (List ℕ × (List ℕ × List ℕ))) → Texts
put_texts p = record {
  idl_name = p.1.0;
  idl = p.1.1.0;
  program_name = p.1.1.1.0;
  program = p.1.1.1.1;
}

abbrev pub text_parts : Texts → Option (Unit {0} × (List ℕ × (List ℕ × (List ℕ × List ℕ))))
text_parts t = Some (tt, (t.idl_name, (t.idl, (t.program_name, t.program))))

-- version 1 of the record, then the names and texts
abbrev pub texts : Format Texts
texts = via put_texts text_parts (pair (exactly 1) (pair name (pair source (pair name source))))

abbrev pub entry_tag : Entry → ℕ
entry_tag (made.Header t) = 1
entry_tag (made.Done n op os) = 2
entry_tag (made.Gate g) = 3
entry_tag made.Closed = 4

abbrev pub header_part : Entry → Option Texts
header_part (made.Header t) = Some t
header_part (made.Done n op os) = None
header_part (made.Gate g) = None
header_part made.Closed = None

abbrev pub put_done : ℕ × (ℕ × List OutNote) → Entry
put_done p = made.Done p.0 p.1.0 p.1.1

abbrev pub done_part : Entry → Option (ℕ × (ℕ × List OutNote))
done_part (made.Header t) = None
done_part (made.Done n op os) = Some (n, (op, os))
done_part (made.Gate g) = None
done_part made.Closed = None

abbrev pub gate_part : Entry → Option GateNote
gate_part (made.Header t) = None
gate_part (made.Done n op os) = None
gate_part (made.Gate g) = Some g
gate_part made.Closed = None

abbrev pub closed_part : Entry → Option (Unit {0})
closed_part (made.Header t) = None
closed_part (made.Done n op os) = None
closed_part (made.Gate g) = None
closed_part made.Closed = Some tt

abbrev pub entry_as : ℕ → Format Entry
entry_as zero = never
entry_as (suc zero) = via made.Header header_part texts
entry_as (suc (suc zero)) = via put_done done_part (pair task (pair operation outs))
entry_as (suc (suc (suc zero))) = via made.Gate gate_part gate
entry_as (suc (suc (suc (suc zero)))) = via (λ _. made.Closed) closed_part empty
entry_as (suc (suc (suc (suc (suc t))))) = never

unfoldable pub entry : Format Entry
entry = tagged entry_tag entry_as

-- these bytes are the spelling of an entry that is within the limits
pub record Spells (e : Entry) (bytes : List ℕ) : Type 0 where
  pub is : bytes ≡ entry.spell e
  pub fits : entry.fits e ≡ true
