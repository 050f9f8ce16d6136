use Rattle.std.proofs.Common.{arith}
use Rattle.gs_tree.specs.Quoted.{cut, cut_line}
use Rattle.gs_tree.specs.Quoted as q
use Rattle.gs_tree.proofs.Texts.{within_text}
use Rattle.gs_tree.proofs.string.escape.Goals as goal
use Rattle.gs_tree.proofs.string.escape.Goals.{then-rest-eq1-via-then-rest-eq1, then-rest-eq1-via-else-rest-eq1+then-e-eq10}

pub returns-then-rest-eq1 : goal.returns-then-rest-eq1
returns-then-rest-eq1 c =
    elim c.then-rest-eq1.branch [
      | then-rest-eq1-via-then-rest-eq1 w ↦ cut c.args.room c.args.rest.now c.requires.room c.requires.begins (omega arith)
      | then-rest-eq1-via-else-rest-eq1+then-e-eq10 w ↦ cut_line c.args.room c.args.rest.now c.requires.room c.requires.begins (omega arith)
    ]

pub returns-in-Some : goal.returns-in-Some
returns-in-Some c = (c.requires.room, q.Spells.escape c.args.rest.now c.in-Some.value c.requires.begins (cc), omega arith, omega (arith, within_text c.args.rest.now 0 92 c.requires.begins (omega arith)))

pub returns-in-None : goal.returns-in-None
returns-in-None c = q.IsBroken.escape c.args.room c.args.rest.now c.requires.room c.requires.begins (omega (arith, within_text c.args.rest.now 0 92 c.requires.begins (omega arith))) (omega arith) (cc)
