use Rattle.std.proofs.Common.{refl}
use Rattle.gs_tree.specs.Sign.{equal}
use Rattle.gs_parse.specs.Grammar.{expr}
use Rattle.gs_parse.proofs.Chain.{then_part, stop_part, gave}
use Rattle.gs_tree.specs.Sign.{plus_plus, minus_minus, plus_equal, minus_equal}
use Rattle.gs_tree.specs.View.{name_of, term_of, setting_of}
use Rattle.gs_tree.specs.declared.tree.Op.TheVariants.{Add, Sub}
use Rattle.gs_parse.specs.Notation.{a_setting}
use Rattle.gs_parse.proofs.Assigning.{equal_is, plus_plus_is, minus_minus_is, plus_equal_is, minus_equal_is, assigned_by, gave_changed, assigned_none, past, past_both, gave_stepped}
use Rattle.gs_parse.proofs.assign.read_assigned.Goals as goal

pub returns-in-Err-clause-reads : goal.returns-in-Err-clause-reads
returns-in-Err-clause-reads c = assigned_by equal (name_of c.args.to) setting_of _ _ _ _ c.if-accept.ensures.takes equal_is refl (λ x first. (stop_part a_setting (expr 0 0) _ _ _ _ _ _ c.in-Err.ensures.reads))

pub returns-in-Ok-clause-reads : goal.returns-in-Ok-clause-reads
returns-in-Ok-clause-reads c = assigned_by equal (name_of c.args.to) setting_of _ _ _ _ c.if-accept.ensures.takes equal_is refl (λ x first. (then_part a_setting (expr 0 0) _ _ _ _ _ _ _ _ c.in-Ok.ensures.reads (gave a_setting _ setting_of _ _ refl)))

pub returns-clause-reads : goal.returns-clause-reads
returns-clause-reads c = assigned_none (name_of c.args.to) setting_of _ _ _ _ _ _ c.if-accept.ensures.takes c.if-accept-2.ensures.takes c.if-accept-3.ensures.takes c.if-accept-4.ensures.takes c.if-accept-5.ensures.takes

pub returns-then-accept-2-clause-reads : goal.returns-then-accept-2-clause-reads
returns-then-accept-2-clause-reads c = assigned_by plus_plus (name_of c.args.to) setting_of _ _ _ _ (past _ _ _ _ _ c.if-accept.ensures.takes c.if-accept-2.ensures.takes) plus_plus_is refl (λ x first. gave_stepped Add (name_of c.args.to) _ x _ _ _ _ c.line_at-line.ensures first c.stepped.ensures)

pub returns-then-accept-3-clause-reads : goal.returns-then-accept-3-clause-reads
returns-then-accept-3-clause-reads c = assigned_by minus_minus (name_of c.args.to) setting_of _ _ _ _ (past _ _ _ _ _ (past_both _ _ _ _ _ c.if-accept.ensures.takes c.if-accept-2.ensures.takes) c.if-accept-3.ensures.takes) minus_minus_is refl (λ x first. gave_stepped Sub (name_of c.args.to) _ x _ _ _ _ c.line_at-line.ensures first c.stepped-then-accept-3.ensures)

pub returns-in-Err-read_expr-clause-reads : goal.returns-in-Err-read_expr-clause-reads
returns-in-Err-read_expr-clause-reads c = assigned_by plus_equal (name_of c.args.to) setting_of _ _ _ _ (past _ _ _ _ _ (past_both _ _ _ _ _ (past_both _ _ _ _ _ c.if-accept.ensures.takes c.if-accept-2.ensures.takes) c.if-accept-3.ensures.takes) c.if-accept-4.ensures.takes) plus_equal_is refl (λ x first. (stop_part a_setting (expr 1 0) _ _ _ _ _ _ c.in-Err-read_expr.ensures.reads))

pub returns-in-Ok-read_expr-clause-reads : goal.returns-in-Ok-read_expr-clause-reads
returns-in-Ok-read_expr-clause-reads c = assigned_by plus_equal (name_of c.args.to) setting_of _ _ _ _ (past _ _ _ _ _ (past_both _ _ _ _ _ (past_both _ _ _ _ _ c.if-accept.ensures.takes c.if-accept-2.ensures.takes) c.if-accept-3.ensures.takes) c.if-accept-4.ensures.takes) plus_equal_is refl (λ x first. (then_part a_setting (expr 1 0) _ _ _ _ _ _ _ _ c.in-Ok-read_expr.ensures.reads (gave_changed Add (name_of c.args.to) (term_of c.in-Ok-read_expr.e) _ _ c.changed.ensures)))

pub returns-in-Err-read_expr-2-clause-reads : goal.returns-in-Err-read_expr-2-clause-reads
returns-in-Err-read_expr-2-clause-reads c = assigned_by minus_equal (name_of c.args.to) setting_of _ _ _ _ (past _ _ _ _ _ (past_both _ _ _ _ _ (past_both _ _ _ _ _ (past_both _ _ _ _ _ c.if-accept.ensures.takes c.if-accept-2.ensures.takes) c.if-accept-3.ensures.takes) c.if-accept-4.ensures.takes) c.if-accept-5.ensures.takes) minus_equal_is refl (λ x first. (stop_part a_setting (expr 1 0) _ _ _ _ _ _ c.in-Err-read_expr-2.ensures.reads))

pub returns-in-Ok-read_expr-2-clause-reads : goal.returns-in-Ok-read_expr-2-clause-reads
returns-in-Ok-read_expr-2-clause-reads c = assigned_by minus_equal (name_of c.args.to) setting_of _ _ _ _ (past _ _ _ _ _ (past_both _ _ _ _ _ (past_both _ _ _ _ _ (past_both _ _ _ _ _ c.if-accept.ensures.takes c.if-accept-2.ensures.takes) c.if-accept-3.ensures.takes) c.if-accept-4.ensures.takes) c.if-accept-5.ensures.takes) minus_equal_is refl (λ x first. (then_part a_setting (expr 1 0) _ _ _ _ _ _ _ _ c.in-Ok-read_expr-2.ensures.reads (gave_changed Sub (name_of c.args.to) (term_of c.in-Ok-read_expr-2.e) _ _ c.changed-in-Ok-read_expr-2.ensures)))
