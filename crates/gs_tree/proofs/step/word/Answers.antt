use Rattle.std.proofs.Common.{◌<◌, length, arith, slice_index}
use Rattle.gs_tree.specs.Bytes.{is_letter, is_name_byte}
use Rattle.gs_tree.specs.Lexicon as grammar
use Rattle.gs_tree.proofs.Classes.{class_within, is_letter-zero, is_name_byte-letter, leading-length, leading-some}
use Rattle.gs_tree.proofs.step.word.Goals as goal

pub returns-then-count-gt-MAX_NAME : goal.returns-then-count-gt-MAX_NAME
returns-then-count-gt-MAX_NAME c = grammar.IsFault.long_name c.args.is_fresh c.args.rest.now c.requires (omega arith)

pub returns : goal.returns
returns c =
    let bytes = c.args.rest.now in
    let within : 0 < length bytes = class_within is_letter bytes 0 is_letter-zero c.requires in
    let some = leading-some is_name_byte bytes within (is_name_byte-letter (slice_index bytes 0) c.requires) in
    rw c.name_len-count.ensures
    (grammar.IsToken.name bytes c.requires (omega arith), some, leading-length is_name_byte bytes)
