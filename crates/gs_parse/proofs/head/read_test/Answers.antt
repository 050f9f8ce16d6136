use Rattle.std.proofs.Common.{refl}
use Rattle.gs_tree.specs.Sign.{semicolon}
use Rattle.gs_parse.specs.Grammar.{expr}
use Rattle.gs_parse.specs.Reads.{Anything}
use Rattle.gs_parse.proofs.Chain.{then_word, stop_word, then_choice, else_choice, then_part, stop_part, gave}
use Rattle.gs_tree.specs.View.{term_of}
use Rattle.std.specs.Option.{option_map}
use Rattle.std.proofs.Common.{Some, None}
use Rattle.gs_parse.specs.Notation.{maybe_term}
use Rattle.gs_parse.proofs.head.read_test.Goals as goal

pub returns-then-accept-clause-reads : goal.returns-then-accept-clause-reads
returns-then-accept-clause-reads c = then_choice maybe_term semicolon _ _ _ _ _ _ _ c.if-accept.ensures.takes (gave maybe_term None (option_map term_of) _ _ refl)

pub returns-in-Err-clause-reads : goal.returns-in-Err-clause-reads
returns-in-Err-clause-reads c = else_choice maybe_term semicolon _ _ _ _ _ _ _ c.if-accept.ensures.takes (stop_part maybe_term (expr 0 0) _ _ _ _ _ _ c.in-Err.ensures.reads)

pub returns-in-Err-expect-clause-reads : goal.returns-in-Err-expect-clause-reads
returns-in-Err-expect-clause-reads c = else_choice maybe_term semicolon _ _ _ _ _ _ _ c.if-accept.ensures.takes (then_part maybe_term (expr 0 0) _ _ _ _ _ _ _ _ c.in-Ok.ensures.reads (stop_word maybe_term semicolon Anything _ _ _ _ _ c.in-Err-expect.ensures.expects))

pub returns-in-Ok-expect-clause-reads : goal.returns-in-Ok-expect-clause-reads
returns-in-Ok-expect-clause-reads c = else_choice maybe_term semicolon _ _ _ _ _ _ _ c.if-accept.ensures.takes (then_part maybe_term (expr 0 0) _ _ _ _ _ _ _ _ c.in-Ok.ensures.reads (then_word maybe_term semicolon Anything _ _ _ _ _ _ _ c.in-Ok-expect.ensures.expects (gave maybe_term _ (option_map term_of) _ (Some c.in-Ok.e) refl)))
