use Rattle.std.proofs.Common.{◌≡◌, ◌+◌, ◌*◌, ◌++◌, drop, max, ℕ, Option, None, Some, Vec, Global}
use Rattle.gs_tree.specs.Printed.{codes_text}
use Rattle.gs_tree.specs.View.{codes_of}
use Rattle.gs_tree.specs.declared.tree.Stmt.{Stmt}
use Rattle.gs_tree.proofs.tree.Stmt.TheLaws.{the_size}
use Rattle.gs_tree.proofs.printer.+statements.Given as goal
use denote.Param.Weighed.{most}

abbrev pub invariant-put_body-loop-s : goal.invariant-put_body-loop-s
invariant-put_body-loop-s l = l.out.items ++ codes_text l.level (codes_of (drop l.s-index l.body)) ≡ l.fn.out.items ++ codes_text l.level (codes_of l.fn.body)

abbrev pub decreases-put_stmt : goal.decreases-put_stmt
decreases-put_stmt l = goal.size-put_stmt l * 5

abbrev pub decreases-put_body : goal.decreases-put_body
decreases-put_body l = goal.size-put_body l * 5 + 1

abbrev pub decreases-put_inner : goal.decreases-put_inner
decreases-put_inner l = goal.size-put_inner l * 5 + 2

abbrev pub decreases-put_block : goal.decreases-put_block
decreases-put_block l = goal.size-put_block l * 5 + 3

abbrev pub decreases-put_while : goal.decreases-put_while
decreases-put_while l = goal.size-put_while l * 5 + 3

abbrev pub decreases-put_for : goal.decreases-put_for
decreases-put_for l = goal.size-put_for l * 5 + 3

abbrev pub decreases-put_else : goal.decreases-put_else
decreases-put_else l = goal.size-put_else l * 5 + 3

-- the depth of the statements after an `else`
abbrev depth_after : Option (Vec Stmt Global) → ℕ
depth_after None = 0
depth_after (Some body) = most the_size body.items

abbrev pub decreases-put_if : goal.decreases-put_if
decreases-put_if l = max (goal.size-put_if l) (depth_after l.no.now) * 5 + 4
