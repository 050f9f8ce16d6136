use Rattle.std.proofs.Common.{◌≡◌, ◌+◌, drop, not}
use Rattle.std.specs.List.{prefix_len}
use Rattle.gs_idl.specs.Lexicon.{is_feed}
use Rattle.gs_idl.proofs.token.line_length.Given as goal

abbrev pub invariant-loop-b : goal.invariant-loop-b
invariant-loop-b l = record {
  index : l.count ≡ l.b-index;
  rest : l.b-index + prefix_len (λ b. not (is_feed b)) (drop l.b-index l.bytes) ≡ prefix_len (λ b. not (is_feed b)) l.bytes;
}
