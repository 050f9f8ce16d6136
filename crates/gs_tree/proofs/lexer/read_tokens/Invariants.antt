use Rattle.std.proofs.Common.{length, ◌+◌, ◌-◌, ◌≤◌, map, All}
use Rattle.gs_tree.specs.Lexeme.{lexeme_of, IsSpan, IsInOrder}
use Rattle.gs_tree.proofs.Lexing.{SoFar}
use Rattle.gs_tree.proofs.lexer.read_tokens.Given as goal

abbrev pub invariant-steps : goal.invariant-steps
invariant-steps l = record {
  within : l.at ≤ length l.bytes;
  lines : l.line ≤ l.at + 1;
  so_far : SoFar l.bytes l.at l.line l.is_fresh (map lexeme_of l.items.items);
  in_order : IsInOrder 0 l.at (map lexeme_of l.items.items);
  spans : All (IsSpan (length l.bytes)) l.items.items;
}

abbrev pub decreases-steps : goal.decreases-steps
decreases-steps l = length l.bytes - l.at
