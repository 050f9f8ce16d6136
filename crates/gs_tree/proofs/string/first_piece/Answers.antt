use Rattle.std.proofs.Common.{arith, inl, inr}
use Rattle.std.proofs.lemmas.Bool.Decides.{nat_tests}
use Rattle.gs_tree.specs.Quoted.{end, line, stray, long}
use Rattle.gs_tree.specs.Quoted as q
use Rattle.gs_tree.proofs.string.first_piece.Goals as goal
use Rattle.gs_tree.proofs.string.first_piece.Goals.{then-is_empty-via-then-is_empty, then-is_empty-via-else-is_empty+then-b-eq10, else-not-plain-via-then-not-plain+else-b-ne92, else-not-plain-via-else-not-plain}

pub returns-then-is_empty : goal.returns-then-is_empty
returns-then-is_empty c =
    elim c.then-is_empty.branch [
      | then-is_empty-via-then-is_empty w ↦ end c.args.room c.args.rest.now (grind (arith, nat_tests))
      | then-is_empty-via-else-is_empty+then-b-eq10 w ↦ line c.args.room c.args.rest.now (omega arith)
    ]

pub returns-then-b-ne92 : goal.returns-then-b-ne92
returns-then-b-ne92 c = stray c.args.room c.args.rest.now (grind (arith, nat_tests)) (cc) (omega arith) (omega arith) (omega arith)

pub returns-then-room-eq0 : goal.returns-then-room-eq0
returns-then-room-eq0 c =
    rw c.if-room-eq0.true
    elim c.else-not-plain.branch [
      | else-not-plain-via-then-not-plain+else-b-ne92 w ↦ long c.args.rest.now (grind (arith, nat_tests)) (inr (omega arith))
      | else-not-plain-via-else-not-plain w ↦ long c.args.rest.now (grind (arith, nat_tests)) (inl (cc))
    ]

pub returns-then-plain : goal.returns-then-plain
returns-then-plain c = (omega arith, rw c.byte_at-b.ensures (q.Spells.plain c.args.rest.now (cc)), omega arith, grind (arith, nat_tests))
