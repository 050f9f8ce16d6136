use Rattle.std.proofs.Common.{◌≤◌, length, drop, length-drop, arith}
use Rattle.std.proofs.lemmas.List.{take_rest}
use Rattle.gs_tree.specs.Lexicon as grammar
use Rattle.gs_tree.proofs.Texts.{within_text}
use Rattle.gs_tree.proofs.step.string.Goals as goal

pub returns-in-Closed : goal.returns-in-Closed
returns-in-Closed c =
    let bytes = c.args.rest.now in
    let reads = rw c.in-Closed.is at (simp take_rest at c.in_ok-value.ensures.reads) in
    let within : c.in-Closed.count ≤ length (drop 1 bytes) = rw c.in-Closed.is at (simp take_rest at c.in_ok-value.ensures.within) in
    let some = within_text bytes 0 34 c.requires (omega arith) in
    let rest_length = length-drop 1 bytes in
    (grammar.IsToken.string bytes c.in-Closed.value.items c.in-Closed.count c.requires reads, omega arith, omega arith)

pub returns-in-Broken : goal.returns-in-Broken
returns-in-Broken c =
    let reads = rw c.in-Broken.is at (simp take_rest at c.in_ok-value.ensures.reads) in
    grammar.IsFault.string c.args.is_fresh c.args.rest.now c.in-Broken.kind c.requires reads
