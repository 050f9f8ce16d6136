use Rattle.std.proofs.Common.{sym}
use Rattle.gs_idl.proofs.Cutting.{split_one, some_left, nothing_left, blank_passed, feed_passed, line_passed, symbol_found, bad_found}
use Rattle.gs_idl.proofs.token.first_piece.Goals as goal

pub returns-then-is_empty : goal.returns-then-is_empty
returns-then-is_empty c = nothing_left c.args.line c.args.bytes.now c.if-is_empty.ensures

pub returns-in-Blank : goal.returns-in-Blank
returns-in-Blank c = blank_passed c.args.line _ c.args.bytes.now c.tail-rest.result.now (split_one c.args.bytes.now c.tail-rest.result.now (some_left _ c.if-is_empty.ensures) c.tail-rest.ensures) (sym c.in-Blank.ensures)

pub returns-in-Feed : goal.returns-in-Feed
returns-in-Feed c = feed_passed c.args.line _ c.args.bytes.now c.tail-rest.result.now (split_one c.args.bytes.now c.tail-rest.result.now (some_left _ c.if-is_empty.ensures) c.tail-rest.ensures) (sym c.in-Feed.ensures)

pub returns-in-LineComment : goal.returns-in-LineComment
returns-in-LineComment c =
    line_passed c.args.line _ c.line_length.result c.args.bytes.now c.tail-rest.result.now c.tail.result.now (split_one c.args.bytes.now c.tail-rest.result.now (some_left _ c.if-is_empty.ensures) c.tail-rest.ensures)
    (sym c.in-LineComment.ensures) c.line_length.ensures.value c.tail.ensures

pub returns-in-Symbol : goal.returns-in-Symbol
returns-in-Symbol c = symbol_found c.args.line _ c.args.bytes.now c.tail-rest.result.now c.in-Symbol.symbol (split_one c.args.bytes.now c.tail-rest.result.now (some_left _ c.if-is_empty.ensures) c.tail-rest.ensures) (sym c.in-Symbol.ensures)

pub returns-in-Nothing : goal.returns-in-Nothing
returns-in-Nothing c = bad_found c.args.line _ c.args.bytes.now c.tail-rest.result.now (split_one c.args.bytes.now c.tail-rest.result.now (some_left _ c.if-is_empty.ensures) c.tail-rest.ensures) (sym c.in-Nothing.ensures)
