use Rattle.std.proofs.Common.{◌<◌, length, arith}
use Rattle.gs_tree.specs.Bytes.{is_blank}
use Rattle.gs_tree.specs.Lexicon as grammar
use Rattle.gs_tree.proofs.Classes.{class_within, is_blank-zero}
use Rattle.gs_tree.proofs.step.blank.Goals as goal

pub returns-then-byte_at-eq10 : goal.returns-then-byte_at-eq10
returns-then-byte_at-eq10 c =
    let within : 0 < length c.args.rest.now = class_within is_blank c.args.rest.now 0 is_blank-zero c.requires in
    (grammar.IsGap.line_end c.args.is_fresh c.args.rest.now (omega arith), omega arith, omega arith, omega arith)

pub returns : goal.returns
returns c =
    let within : 0 < length c.args.rest.now = class_within is_blank c.args.rest.now 0 is_blank-zero c.requires in
    (grammar.IsGap.blank c.args.is_fresh c.args.rest.now c.requires (omega arith), omega arith, omega arith, omega arith)
