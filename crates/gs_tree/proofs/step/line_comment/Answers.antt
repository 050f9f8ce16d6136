use Rattle.std.proofs.Common.{drop, length-drop, arith}
use Rattle.std.proofs.lemmas.List.{take_rest}
use Rattle.gs_tree.specs.Bytes.{is_in_line}
use Rattle.gs_tree.specs.Lexicon as grammar
use Rattle.gs_tree.proofs.Classes.{leading-length}
use Rattle.gs_tree.proofs.Texts.{within_text}
use Rattle.gs_tree.proofs.step.line_comment.Goals as goal

pub returns : goal.returns
returns c =
    let bytes = c.args.rest.now in
    let within = within_text bytes 1 47 c.requires.second (omega arith) in
    let run = leading-length is_in_line (drop 2 bytes) in
    let rest_length = length-drop 2 bytes in
    let count = simp take_rest at c.line_len.ensures in
    rw count (grammar.IsGap.line_comment c.args.is_fresh bytes c.requires.first c.requires.second, omega arith, omega arith, omega arith)
