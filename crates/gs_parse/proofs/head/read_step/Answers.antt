use Rattle.std.proofs.Common.{refl, []}
use Rattle.gs_tree.specs.Sign.{close_paren, ident}
use Rattle.gs_parse.specs.Reads.{Anything}
use Rattle.gs_parse.proofs.Chain.{then_word, stop_word, then_choice, else_choice, then_part, stop_part, gave, then_named}
use Rattle.gs_parse.specs.Reads.{IsNamed}
use Rattle.gs_parse.specs.Notation.{assigned}
use Rattle.gs_tree.specs.View.{name_of, setting_of}
use Rattle.std.specs.Option.{option_map}
use Rattle.std.proofs.Common.{Some, None}
use Rattle.gs_parse.specs.Notation.{maybe_setting, gives, take}
use Rattle.gs_parse.specs.Grammar.{is}
use Rattle.gs_tree.specs.Program.{Setting}
use Rattle.gs_parse.proofs.head.read_step.Goals as goal

pub returns-then-accept-clause-reads : goal.returns-then-accept-clause-reads
returns-then-accept-clause-reads c = then_choice maybe_setting close_paren _ _ _ _ _ _ _ c.if-accept.ensures.takes (gave maybe_setting None (option_map setting_of) _ _ refl)

pub returns-in-Err-clause-reads : goal.returns-in-Err-clause-reads
returns-in-Err-clause-reads c = else_choice maybe_setting close_paren _ _ _ _ _ _ _ c.if-accept.ensures.takes (stop_word maybe_setting (ident []) IsNamed _ _ _ _ _ c.in-Err.ensures.expects)

pub returns-in-Err-read_assigned-clause-reads : goal.returns-in-Err-read_assigned-clause-reads
returns-in-Err-read_assigned-clause-reads c = else_choice maybe_setting close_paren _ _ _ _ _ _ _ c.if-accept.ensures.takes (then_named maybe_setting assigned (λ n. λ (a : Setting). take (is close_paren) (λ x. gives (Some a))) _ _ _ c.in-Ok.to _ _ c.in-Ok.ensures.expects (stop_part maybe_setting (assigned (name_of c.in-Ok.to)) _ _ _ _ _ _ c.in-Err-read_assigned.ensures.reads))

pub returns-in-Err-expect-clause-reads : goal.returns-in-Err-expect-clause-reads
returns-in-Err-expect-clause-reads c = else_choice maybe_setting close_paren _ _ _ _ _ _ _ c.if-accept.ensures.takes (then_named maybe_setting assigned (λ n. λ (a : Setting). take (is close_paren) (λ x. gives (Some a))) _ _ _ c.in-Ok.to _ _ c.in-Ok.ensures.expects (then_part maybe_setting (assigned (name_of c.in-Ok.to)) _ _ _ _ _ _ _ _ c.in-Ok-read_assigned.ensures.reads (stop_word maybe_setting close_paren Anything _ _ _ _ _ c.in-Err-expect.ensures.expects)))

pub returns-in-Ok-expect-clause-reads : goal.returns-in-Ok-expect-clause-reads
returns-in-Ok-expect-clause-reads c = else_choice maybe_setting close_paren _ _ _ _ _ _ _ c.if-accept.ensures.takes (then_named maybe_setting assigned (λ n. λ (a : Setting). take (is close_paren) (λ x. gives (Some a))) _ _ _ c.in-Ok.to _ _ c.in-Ok.ensures.expects (then_part maybe_setting (assigned (name_of c.in-Ok.to)) _ _ _ _ _ _ _ _ c.in-Ok-read_assigned.ensures.reads (then_word maybe_setting close_paren Anything _ _ _ _ _ _ _ c.in-Ok-expect.ensures.expects (gave maybe_setting _ (option_map setting_of) _ (Some c.in-Ok-read_assigned.a) refl))))
