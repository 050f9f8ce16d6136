-- What reading the made texts comes to: what they say, and no fault.
use Rattle.std.specs.Prelude.{◌≡◌, ℕ, ◌≤◌, List}
use Rattle.gs_idl.specs.Interface.{Interface}
use Rattle.gs_idl.specs.Grammar as idl
use Rattle.gs_idl.specs.declared.token.IdlKind.{IdlKind}
use Rattle.gs_tree.specs.Program.{Program}
use Rattle.gs_parse.specs.Faulty.{IsText, IsTextFault}
use Rattle.gs_parse.specs.declared.fault.ParseKind.{ParseKind}
use Rattle.gs_broker.specs.Text as workers
use Rattle.gs_broker.specs.Text.{Entry}
use Rattle.gs_broker.specs.declared.kind.WorkersKind.{WorkersKind}
use Rattle.gs_report.specs.Generator.{idl_text, program_text, workers_text}
use Rattle.gs_made.specs.Texts.{self_interface, self_tree, self_workers}

-- ---- nothing else is said

abbrev pub OneInterface : Type 0
OneInterface = (i : Interface) → idl.Says idl_text i → i ≡ self_interface

abbrev pub OneProgram : Type 0
OneProgram = (seed n : ℕ) (p : Program) → n ≤ 2000 → IsText (program_text seed n) p
    → p ≡ self_tree seed n

abbrev pub OneList : Type 0
OneList = (ws : List Entry) → workers.Says self_interface.ops workers_text ws → ws ≡ self_workers

-- ---- no text is at fault

abbrev pub InterfaceIsRight : Type 0
InterfaceIsRight = (line : ℕ) (kind : IdlKind) → ¬ idl.IsFault idl_text line kind

abbrev pub ProgramIsRight : Type 0
ProgramIsRight = (seed n line : ℕ) (kind : ParseKind) → n ≤ 2000
    → ¬ IsTextFault (program_text seed n) line kind

abbrev pub WorkersAreRight : Type 0
WorkersAreRight = (line : ℕ) (kind : WorkersKind)
    → ¬ workers.IsFault self_interface.ops workers_text line kind
