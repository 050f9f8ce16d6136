use Rattle.std.proofs.Common.{refl, ◌∙◌, ap, sym, []}
use Rattle.gs_tree.specs.Sign.{ampersand, ident}
use Rattle.gs_parse.specs.Grammar.{expr}
use Rattle.gs_parse.specs.Reads.{left, lined}
use Rattle.gs_parse.proofs.Chain.{stop_word, else_choice, then_part, stop_part, gave, then_sign, choose_sign}
use Rattle.gs_parse.specs.Reads.{IsNamed, line_of}
use Rattle.gs_tree.specs.View.{passed_of}
use Rattle.gs_tree.specs.Program.{Name, var}
use Rattle.std.specs.Prelude.{true, false}
use Rattle.gs_parse.proofs.Choices.{passed_same, takes_stays}
use Rattle.gs_parse.specs.Notation.{a_passed}
use Rattle.gs_parse.proofs.args.read_arg.Goals as goal

pub returns-in-Ok-clause-reads : goal.returns-in-Ok-clause-reads
returns-in-Ok-clause-reads c = choose_sign a_passed ampersand _ _ _ _ _ _ _ c.if-accept.ensures.takes (λ x first. then_sign a_passed (ident []) IsNamed _ _ _ _ c.in-Ok.id _ _ c.in-Ok.ensures.expects (λ y second named. gave a_passed _ passed_of _ _ (passed_same _ _ true _ _ (c.line_at-line.ensures ∙ ap line_of first) (c.variable.ensures ∙ ap (λ (z : Name). var z) (sym named)))))

pub returns-in-Err-clause-reads : goal.returns-in-Err-clause-reads
returns-in-Err-clause-reads c = choose_sign a_passed ampersand _ _ _ _ _ _ _ c.if-accept.ensures.takes (λ x first. stop_word a_passed (ident []) IsNamed _ _ _ _ _ c.in-Err.ensures.expects)

pub returns-in-Ok-read_expr-clause-reads : goal.returns-in-Ok-read_expr-clause-reads
returns-in-Ok-read_expr-clause-reads c = else_choice a_passed ampersand _ _ _ _ _ _ _ c.if-accept.ensures.takes (then_part a_passed (expr 0 0) _ (lined (left c.args.tokens.now c.accept.new.at)) _ _ _ c.in-Ok-read_expr.e _ _ c.in-Ok-read_expr.ensures.reads (gave a_passed _ passed_of _ _ (passed_same _ _ false _ _ (c.line_at-line.ensures ∙ ap line_of (sym (takes_stays _ _ _ c.if-accept.ensures.takes))) refl)))

pub returns-in-Err-read_expr-clause-reads : goal.returns-in-Err-read_expr-clause-reads
returns-in-Err-read_expr-clause-reads c = else_choice a_passed ampersand _ _ _ _ _ _ _ c.if-accept.ensures.takes (stop_part a_passed (expr 0 0) _ _ _ _ _ _ c.in-Err-read_expr.ensures.reads)
