use Rattle.std.proofs.Common.{◌∙◌, ap}
use Rattle.std.specs.List.{prefix_len}
use Rattle.gs_idl.specs.Word.{is_word_byte}
use Rattle.gs_idl.proofs.Cutting.{word_found, word_long}
use Rattle.gs_idl.proofs.token.word.Goals as goal

pub returns-then-length-gt64 : goal.returns-then-length-gt64
returns-then-length-gt64 c = word_long c.args.line c.word_length-length.result c.args.bytes.now c.requires (c.word_length-length.ensures.value ∙ ap (prefix_len is_word_byte) c.tail.ensures) c.if-length-gt64.true

pub returns : goal.returns
returns c = word_found c.args.line c.word_length-length.result c.args.bytes.now c.head.result.now c.tail-2.result.now c.requires (c.word_length-length.ensures.value ∙ ap (prefix_len is_word_byte) c.tail.ensures) c.if-length-gt64.false c.head.ensures c.tail-2.ensures
