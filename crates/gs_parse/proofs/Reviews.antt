-- The same reading, seen as another value.
use Rattle.std.proofs.Common.{List, Ok, Err}
use Rattle.gs_tree.specs.Sign.{Mark}
use Rattle.gs_tree.specs.declared.tree.Expr.{Expr}
use Rattle.gs_parse.specs.declared.build.Operand.{Operand}
use Rattle.gs_parse.specs.declared.stop.Stop.{Stop}
use Rattle.gs_parse.specs.declared.stop.Stop.TheVariants.{NoMemory, Unfit, TooDeep}
use Rattle.gs_parse.specs.Notation.{Rule, a_term}
use Rattle.gs_parse.specs.Reads.{Reads, lined, seen}

pub expr_ok : (r : Rule a_term) (old : List Mark) (a : Operand) (new : List Mark) → Reads a_term r (seen old) old (Ok a) new → Reads a_term r (lined old) old (Ok a.e) new
unfolding Reads
expr_ok r old a new h = h

pub expr_err : (r : Rule a_term) (old : List Mark) (stop : Stop) (new : List Mark) → Reads {A = Operand} a_term r (seen old) old (Err stop) new → Reads {A = Expr} a_term r (lined old) old (Err stop) new
unfolding Reads
expr_err r old Unfit new h = h
expr_err r old TooDeep new h = h
expr_err r old NoMemory new h = h
