use Rattle.std.proofs.Common.{ap, sym, []}
use Rattle.gs_tree.specs.Sign.{semicolon, string}
use Rattle.gs_parse.specs.Reads.{Anything}
use Rattle.gs_parse.proofs.Chain.{then_word, stop_word, then_part, stop_part, gave, then_sign}
use Rattle.gs_parse.specs.Reads.{IsFormat, printed_of}
use Rattle.gs_parse.specs.Notation.{a_printed, more_terms, Printed}
use Rattle.gs_tree.specs.Program.{Formatted}
use Rattle.gs_tree.specs.View.{term_of}
use Rattle.std.specs.Prelude.{map}
use Rattle.gs_parse.proofs.terms.read_printing.Goals as goal

pub returns-in-Err-clause-reads : goal.returns-in-Err-clause-reads
returns-in-Err-clause-reads c = stop_word a_printed (string []) IsFormat _ _ _ _ _ c.in-Err.ensures.expects

pub returns-in-Err-read_more_terms-clause-reads : goal.returns-in-Err-read_more_terms-clause-reads
returns-in-Err-read_more_terms-clause-reads c = then_sign a_printed (string []) IsFormat _ _ _ _ c.in-Ok.format _ _ c.in-Ok.ensures.expects (λ x first named. (stop_part a_printed (more_terms []) _ _ _ _ _ _ c.in-Err-read_more_terms.ensures.reads))

pub returns-in-Ok-expect-clause-reads : goal.returns-in-Ok-expect-clause-reads
returns-in-Ok-expect-clause-reads c = then_sign a_printed (string []) IsFormat _ _ _ _ c.in-Ok.format _ _ c.in-Ok.ensures.expects (λ x first named. (then_part a_printed (more_terms []) _ _ _ _ _ _ _ _ c.in-Ok-read_more_terms.ensures.reads (then_word a_printed semicolon Anything _ _ _ _ _ _ _ c.in-Ok-expect.ensures.expects (gave a_printed _ printed_of _ _ (ap (λ (z : Formatted). let p : Printed = record { format = z; args = map term_of c.in-Ok-read_more_terms.args.items } in p) (sym named))))))

pub returns-in-Err-expect-clause-reads : goal.returns-in-Err-expect-clause-reads
returns-in-Err-expect-clause-reads c = then_sign a_printed (string []) IsFormat _ _ _ _ c.in-Ok.format _ _ c.in-Ok.ensures.expects (λ x first named. (then_part a_printed (more_terms []) _ _ _ _ _ _ _ _ c.in-Ok-read_more_terms.ensures.reads (stop_word a_printed semicolon Anything _ _ _ _ _ c.in-Err-expect.ensures.expects)))
