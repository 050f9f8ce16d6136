use Rattle.std.proofs.Common.{◌≡◌, ◌+◌, drop}
use Rattle.std.specs.List.{prefix_len}
use Rattle.gs_idl.specs.Word.{is_word_byte}
use Rattle.gs_idl.proofs.token.word_length.Given as goal

abbrev pub invariant-loop-b : goal.invariant-loop-b
invariant-loop-b l = record {
  index : l.count ≡ l.b-index;
  rest : l.b-index + prefix_len is_word_byte (drop l.b-index l.bytes) ≡ prefix_len is_word_byte l.bytes;
}
