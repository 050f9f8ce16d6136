-- Lists of statements as plain data.
use Rattle.std.specs.declared.vec.Vec.{Vec}
use Rattle.std.specs.declared.alloc.Global.{Global}
use Rattle.gs_tree.specs.Program.{Codes}
use Rattle.gs_tree.specs.View.{codes_of}
use Rattle.gs_tree.specs.declared.tree.Stmt.{Stmt}
use Rattle.gs_parse.specs.Notation.{Closed}
use Rattle.gs_parse.specs.declared.stmt.Block.{Block}

abbrev pub body_of : Vec Stmt Global → Codes
body_of v = codes_of v.items

abbrev pub closed_of : Block → Closed
closed_of b = record { body = codes_of b.body.items; line = b.line }
