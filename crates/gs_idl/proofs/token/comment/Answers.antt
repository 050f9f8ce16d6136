use Rattle.gs_idl.proofs.Cutting.{two_begin, comment_fits, comment_closed, comment_open}
use Rattle.gs_idl.proofs.token.comment.Goals as goal

pub tail-requires : goal.tail-requires
tail-requires c = two_begin c.args.bytes.now c.requires.begins

pub tail-requires-in-Some : goal.tail-requires-in-Some
tail-requires-in-Some c = comment_fits c.in-Some.n c.args.bytes.now c.tail.result.now c.tail.ensures c.in-Some.ensures.within

pub returns-in-Some : goal.returns-in-Some
returns-in-Some c =
    comment_closed c.args.line c.in-Some.n c.in-Some.feeds c.args.bytes.now c.tail.result.now c.tail-in-Some.result.now c.requires.begins c.tail.ensures c.in-Some.ensures.value c.in-Some.ensures.feeds c.in-Some.ensures.within c.tail-in-Some.ensures

pub returns-in-None : goal.returns-in-None
returns-in-None c = comment_open c.args.line c.args.bytes.now c.tail.result.now c.requires.begins c.tail.ensures c.in-None.ensures.value
