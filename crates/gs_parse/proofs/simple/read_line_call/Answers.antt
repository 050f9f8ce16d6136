use Rattle.std.proofs.Common.{◌∙◌, ap, sym, []}
use Rattle.gs_tree.specs.Sign.{comma, open_paren, close_paren, semicolon, ident}
use Rattle.gs_parse.specs.Reads.{Anything}
use Rattle.gs_parse.proofs.Chain.{then_word, stop_word, gave, then_sign}
use Rattle.gs_parse.specs.Reads.{IsNamed}
use Rattle.gs_parse.specs.Notation.{a_code}
use Rattle.gs_tree.specs.Program.{Name, read_line}
use Rattle.gs_tree.specs.View.{name_of, code_of}
use Rattle.gs_parse.specs.Symbols.{name_at}
use Rattle.gs_parse.proofs.simple.read_line_call.Goals as goal

pub returns-in-Err-clause-reads : goal.returns-in-Err-clause-reads
returns-in-Err-clause-reads c = (stop_word a_code open_paren Anything _ _ _ _ _ c.in-Err.ensures.expects)

pub returns-in-Err-take_name-clause-reads : goal.returns-in-Err-take_name-clause-reads
returns-in-Err-take_name-clause-reads c = (then_word a_code open_paren Anything _ _ _ _ _ _ _ c.in-Ok.ensures.expects (stop_word a_code (ident []) IsNamed _ _ _ _ _ c.in-Err-take_name.ensures.expects))

pub returns-in-Err-expect-clause-reads : goal.returns-in-Err-expect-clause-reads
returns-in-Err-expect-clause-reads c = (then_word a_code open_paren Anything _ _ _ _ _ _ _ c.in-Ok.ensures.expects (then_sign a_code (ident []) IsNamed _ _ _ _ c.in-Ok-take_name.handle _ _ c.in-Ok-take_name.ensures.expects (λ x1 first1 named1. (stop_word a_code comma Anything _ _ _ _ _ c.in-Err-expect.ensures.expects))))

pub returns-in-Err-take_name-2-clause-reads : goal.returns-in-Err-take_name-2-clause-reads
returns-in-Err-take_name-2-clause-reads c = (then_word a_code open_paren Anything _ _ _ _ _ _ _ c.in-Ok.ensures.expects (then_sign a_code (ident []) IsNamed _ _ _ _ c.in-Ok-take_name.handle _ _ c.in-Ok-take_name.ensures.expects (λ x1 first1 named1. (then_word a_code comma Anything _ _ _ _ _ _ _ c.in-Ok-expect.ensures.expects (stop_word a_code (ident []) IsNamed _ _ _ _ _ c.in-Err-take_name-2.ensures.expects)))))

pub returns-in-Err-expect-2-clause-reads : goal.returns-in-Err-expect-2-clause-reads
returns-in-Err-expect-2-clause-reads c = (then_word a_code open_paren Anything _ _ _ _ _ _ _ c.in-Ok.ensures.expects (then_sign a_code (ident []) IsNamed _ _ _ _ c.in-Ok-take_name.handle _ _ c.in-Ok-take_name.ensures.expects (λ x1 first1 named1. (then_word a_code comma Anything _ _ _ _ _ _ _ c.in-Ok-expect.ensures.expects (then_sign a_code (ident []) IsNamed _ _ _ _ c.in-Ok-take_name-2.to _ _ c.in-Ok-take_name-2.ensures.expects (λ x2 first2 named2. (stop_word a_code close_paren Anything _ _ _ _ _ c.in-Err-expect-2.ensures.expects)))))))

pub returns-in-Err-expect-3-clause-reads : goal.returns-in-Err-expect-3-clause-reads
returns-in-Err-expect-3-clause-reads c = (then_word a_code open_paren Anything _ _ _ _ _ _ _ c.in-Ok.ensures.expects (then_sign a_code (ident []) IsNamed _ _ _ _ c.in-Ok-take_name.handle _ _ c.in-Ok-take_name.ensures.expects (λ x1 first1 named1. (then_word a_code comma Anything _ _ _ _ _ _ _ c.in-Ok-expect.ensures.expects (then_sign a_code (ident []) IsNamed _ _ _ _ c.in-Ok-take_name-2.to _ _ c.in-Ok-take_name-2.ensures.expects (λ x2 first2 named2. (then_word a_code close_paren Anything _ _ _ _ _ _ _ c.in-Ok-expect-2.ensures.expects (stop_word a_code semicolon Anything _ _ _ _ _ c.in-Err-expect-3.ensures.expects))))))))

pub returns-clause-reads : goal.returns-clause-reads
returns-clause-reads c = (then_word a_code open_paren Anything _ _ _ _ _ _ _ c.in-Ok.ensures.expects (then_sign a_code (ident []) IsNamed _ _ _ _ c.in-Ok-take_name.handle _ _ c.in-Ok-take_name.ensures.expects (λ x1 first1 named1. (then_word a_code comma Anything _ _ _ _ _ _ _ c.in-Ok-expect.ensures.expects (then_sign a_code (ident []) IsNamed _ _ _ _ c.in-Ok-take_name-2.to _ _ c.in-Ok-take_name-2.ensures.expects (λ x2 first2 named2. (then_word a_code close_paren Anything _ _ _ _ _ _ _ c.in-Ok-expect-2.ensures.expects (then_word a_code semicolon Anything _ _ _ _ _ _ _ c.in-Ok-expect-3.ensures.expects (gave a_code _ code_of _ _ (c.line_stmt.ensures ∙ ap (λ (z : Name). read_line c.args.got.line (name_of c.args.got) z (name_of c.in-Ok-take_name-2.to)) (sym named1) ∙ ap (λ (z : Name). read_line c.args.got.line (name_of c.args.got) (name_at x1) z) (sym named2)))))))))))
