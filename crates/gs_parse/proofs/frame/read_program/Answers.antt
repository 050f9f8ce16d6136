use Rattle.gs_tree.specs.View.{program_of}
use Rattle.gs_parse.proofs.Framing.{typed_int, typed_void, untyped}
use Rattle.gs_parse.proofs.frame.read_program.Goals as goal

pub returns-then-accept-clause-reads : goal.returns-then-accept-clause-reads
returns-then-accept-clause-reads c = typed_int program_of _ _ _ _ c.if-accept.ensures.takes c.read_main.ensures.reads

pub returns-then-accept-2-clause-reads : goal.returns-then-accept-2-clause-reads
returns-then-accept-2-clause-reads c = typed_void program_of _ _ _ _ _ c.if-accept.ensures.takes c.if-accept-2.ensures.takes c.read_main-then-accept-2.ensures.reads

pub returns-clause-reads : goal.returns-clause-reads
returns-clause-reads c = untyped program_of _ _ _ _ _ c.if-accept.ensures.takes c.if-accept-2.ensures.takes c.read_main-2.ensures.reads
