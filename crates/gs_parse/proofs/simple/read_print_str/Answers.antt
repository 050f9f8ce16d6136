use Rattle.std.proofs.Common.{◌∙◌, ap, sym, []}
use Rattle.gs_tree.specs.Sign.{comma, open_paren, ident}
use Rattle.gs_parse.specs.Reads.{Anything}
use Rattle.gs_parse.proofs.Chain.{then_word, stop_word, then_part, stop_part, gave, then_sign}
use Rattle.gs_parse.specs.Reads.{IsNamed}
use Rattle.gs_parse.specs.Notation.{a_code, printing}
use Rattle.gs_tree.specs.Program.{Name, print_str}
use Rattle.gs_tree.specs.View.{term_of, formatted_of, code_of}
use Rattle.std.specs.Prelude.{map}
use Rattle.gs_parse.proofs.simple.read_print_str.Goals as goal

pub returns-in-Err-clause-reads : goal.returns-in-Err-clause-reads
returns-in-Err-clause-reads c = (stop_word a_code open_paren Anything _ _ _ _ _ c.in-Err.ensures.expects)

pub returns-in-Err-take_name-clause-reads : goal.returns-in-Err-take_name-clause-reads
returns-in-Err-take_name-clause-reads c = (then_word a_code open_paren Anything _ _ _ _ _ _ _ c.in-Ok.ensures.expects (stop_word a_code (ident []) IsNamed _ _ _ _ _ c.in-Err-take_name.ensures.expects))

pub returns-in-Err-expect-clause-reads : goal.returns-in-Err-expect-clause-reads
returns-in-Err-expect-clause-reads c = (then_word a_code open_paren Anything _ _ _ _ _ _ _ c.in-Ok.ensures.expects (then_sign a_code (ident []) IsNamed _ _ _ _ c.in-Ok-take_name.to _ _ c.in-Ok-take_name.ensures.expects (λ x1 first1 named1. (stop_word a_code comma Anything _ _ _ _ _ c.in-Err-expect.ensures.expects))))

pub returns-in-Err-read_printing-clause-reads : goal.returns-in-Err-read_printing-clause-reads
returns-in-Err-read_printing-clause-reads c = (then_word a_code open_paren Anything _ _ _ _ _ _ _ c.in-Ok.ensures.expects (then_sign a_code (ident []) IsNamed _ _ _ _ c.in-Ok-take_name.to _ _ c.in-Ok-take_name.ensures.expects (λ x1 first1 named1. (then_word a_code comma Anything _ _ _ _ _ _ _ c.in-Ok-expect.ensures.expects (stop_part a_code (printing) _ _ _ _ _ _ c.in-Err-read_printing.ensures.reads)))))

pub returns-clause-reads : goal.returns-clause-reads
returns-clause-reads c = (then_word a_code open_paren Anything _ _ _ _ _ _ _ c.in-Ok.ensures.expects (then_sign a_code (ident []) IsNamed _ _ _ _ c.in-Ok-take_name.to _ _ c.in-Ok-take_name.ensures.expects (λ x1 first1 named1. (then_word a_code comma Anything _ _ _ _ _ _ _ c.in-Ok-expect.ensures.expects (then_part a_code (printing) _ _ _ _ _ _ _ _ c.in-Ok-read_printing.ensures.reads (gave a_code _ code_of _ _ (c.print_str_stmt.ensures ∙ ap (λ (z : Name). print_str c.args.line z (formatted_of c.in-Ok-read_printing.printing.format) (map term_of c.in-Ok-read_printing.printing.args.items)) (sym named1))))))))
