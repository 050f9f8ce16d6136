use Rattle.std.proofs.Common.{map}
use Rattle.gs_tables.specs.Finals.{AreTold}
use Rattle.gs_tables.proofs.tables.Tables.finals.Given as goal

abbrev pub invariant-loop-name : goal.invariant-loop-name
invariant-loop-name l = AreTold l.self (map (λ w. w.0) l.yielded) l.finals
