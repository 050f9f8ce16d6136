-- Entries in order, the texts that they are of, and what the main program did.
use Rattle.std.specs.Prelude.{◌≡◌, ◌≢◌, true, List, [], ◌∷◌, ◌++◌, Option, Some, None}
use Rattle.gs_entries.specs.Entries.{entry}
use Rattle.gs_entries.specs.Order.{follows}
use Rattle.gs_entries.specs.declared.entry.Entry.{Entry}
use Rattle.gs_entries.specs.declared.entry.Entry.TheVariants as made
use Rattle.gs_entries.specs.declared.entry.Texts.{Texts}
use Rattle.gs_entries.specs.declared.entry.GateNote.{GateNote}
use Rattle.gs_entries.specs.declared.entry.Stage.{Stage}
use Rattle.gs_entries.specs.declared.entry.Stage.TheVariants as stages
use Rattle.gs_store.specs.declared.same.What.{What}
use Rattle.gs_store.specs.declared.same.What.TheVariants.{IdlName, IdlText, ProgramName, ProgramText}

-- each is within the limits, and may stand behind those before it
abbrev pub AreBehind : List Entry → List Entry → Type 0
AreBehind before [] = Unit {0}
AreBehind before (e ∷ es) = (entry.fits e ≡ true) × (follows before e ≡ true)
    × AreBehind (before ++ e ∷ []) es

abbrev pub AreInOrder : List Entry → Type 0
AreInOrder es = AreBehind [] es

-- the texts that a record is of: those of its header, which stands first
abbrev pub texts_of : List Entry → Option Texts
texts_of [] = None
texts_of (made.Header t ∷ es) = Some t
texts_of (made.Done n op os ∷ es) = None
texts_of (made.Gate g ∷ es) = None
texts_of (made.Closed ∷ es) = None

-- what the main program did and left, where an entry says so
abbrev pub gate_in : List Entry → Option GateNote
gate_in [] = None
gate_in (made.Header t ∷ es) = gate_in es
gate_in (made.Done n op os ∷ es) = gate_in es
gate_in (made.Gate g ∷ es) = Some g
gate_in (made.Closed ∷ es) = gate_in es

-- the main program has ended
abbrev pub HasEnded : Stage → Type 0
HasEnded stages.Fresh = ⊥
HasEnded stages.Running = ⊥
HasEnded stages.Gated = Unit {0}
HasEnded stages.Closed = Unit {0}

-- this is the first part in which texts differ from others
abbrev pub DifferFirst : What → Texts → Texts → Type 0
DifferFirst IdlName t u = t.idl_name ≢ u.idl_name
DifferFirst IdlText t u = (t.idl_name ≡ u.idl_name) × (t.idl ≢ u.idl)
DifferFirst ProgramName t u = (t.idl_name ≡ u.idl_name) × (t.idl ≡ u.idl)
    × (t.program_name ≢ u.program_name)
DifferFirst ProgramText t u = (t.idl_name ≡ u.idl_name) × (t.idl ≡ u.idl)
    × (t.program_name ≡ u.program_name) × (t.program ≢ u.program)
