-- What a checked program holds.
use Rattle.gs_idl.specs.Interface.{Interface}
use Rattle.gs_tree.specs.Program.{Program}
use Rattle.gs_tree.specs.View.{program_of}
use Rattle.gs_check.specs.declared.checked.Checked.{Checked}

abbrev pub program_in : Checked → Program
program_in c = program_of c.tree

abbrev pub interface_in : Checked → Interface
interface_in c = c.idl
