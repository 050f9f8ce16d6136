use Rattle.std.proofs.Common.{◌≡◌, drop, take, length-drop, arith}
use Rattle.std.specs.List.{count_by}
use Rattle.std.proofs.lemmas.List.{take_rest, length-take}
use Rattle.std.proofs.lemmas.List.Sums.{count_by-le-length}
use Rattle.gs_tree.specs.Bytes.{is_line_feed}
use Rattle.gs_tree.specs.Lexicon as grammar
use Rattle.gs_tree.proofs.step.block_comment.Goals as goal

pub returns-in-Some : goal.returns-in-Some
returns-in-Some c =
    let bytes = c.args.rest.now in
    let first = simp take_rest at c.in-Some.ensures.first in
    let within = simp take_rest at c.in-Some.ensures.within in
    let rest_length = length-drop 2 bytes in
    let few = count_by-le-length is_line_feed (take c.in-Some.end (drop 2 bytes)) in
    let body = length-take c.in-Some.end (drop 2 bytes) in
    let lines : c.line_feeds.result ≡ count_by is_line_feed (take c.in-Some.end (drop 2 bytes)) = simp take_rest at c.line_feeds.ensures in
    rw lines (grammar.IsGap.block_comment c.args.is_fresh bytes c.in-Some.end c.requires.first c.requires.second first, omega arith, omega arith, omega arith)

pub returns-in-None : goal.returns-in-None
returns-in-None c = grammar.IsFault.comment c.args.is_fresh c.args.rest.now c.requires.first c.requires.second (simp take_rest at c.in-None.ensures.first)
