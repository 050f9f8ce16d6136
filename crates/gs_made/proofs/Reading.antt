-- Reading the made texts gives what they say.
use Rattle.std.proofs.Common.{ℕ, List, arith}
use Rattle.gs_idl.specs.Interface.{Interface}
use Rattle.gs_idl.specs.Grammar.{Says, IsFault, too_long, wrong}
use Rattle.gs_idl.specs.declared.token.IdlKind.{IdlKind}
use Rattle.gs_idl.proofs.Saying.{says_one}
use Rattle.gs_parse.proofs.Texts as parse
use Rattle.gs_broker.proofs.OneList as broker
use Rattle.gs_report.specs.Generator.{idl_text, program_text, workers_text}
use Rattle.gs_made.specs.Texts.{self_interface, self_tree, self_workers}
use Rattle.gs_made.specs.Readings.{OneInterface, OneProgram, OneList, InterfaceIsRight, ProgramIsRight, WorkersAreRight}
use Rattle.gs_made.proofs.Interface.{says_interface}
use Rattle.gs_made.proofs.Saying.{says_program}
use Rattle.gs_made.proofs.Workers.{says_workers}

pub one_interface : OneInterface
one_interface i h = says_one idl_text i self_interface h says_interface

pub one_program : OneProgram
one_program seed n p le h = parse.one_program (program_text seed n) p (self_tree seed n) h (says_program seed n le)

pub one_list : OneList
one_list ws h = broker.says_one self_interface.ops workers_text ws self_workers h says_workers

-- a text that says an interface is at no fault
says_or_fails : (bytes : List ℕ) (i : Interface) (line : ℕ) (kind : IdlKind) → Says bytes i → IsFault bytes line kind → ⊥
says_or_fails bytes i line kind says (too_long b long) = absurd (omega (arith, says.short))
says_or_fails bytes i line kind says (wrong b marks k mark kind' short reads here fault none) = none i says

pub interface_is_right : InterfaceIsRight
interface_is_right line kind fault = says_or_fails idl_text self_interface line kind says_interface fault

pub program_is_right : ProgramIsRight
program_is_right seed n line kind le fault = parse.says_or_fails (program_text seed n) (self_tree seed n) line kind (says_program seed n le) fault

pub workers_are_right : WorkersAreRight
workers_are_right line kind fault = broker.says_or_fails self_interface.ops workers_text line kind self_workers fault says_workers
