use Rattle.std.proofs.Common.{◌++◌, ◌∷◌, ◌∙◌, [], ap, List}
use Rattle.gs_types.specs.declared.action.Action.{Action}
use Rattle.gs_types.specs.declared.action.Action.TheVariants as action
use Rattle.gs_tables.proofs.Leaving.{gated}
use Rattle.gs_tables.proofs.tables.Tables.gate.Goals as goal

pub returns : goal.returns
returns c = λ s k h holds done.
    gated c.args.self.now s k h c.in_ok-copy_names.field-0 c.in_ok-finals.field-0 c.in_ok-ended.field-0 holds done
    c.in_ok-copy_names.ensures c.in_ok-finals.ensures (c.in_ok-ended.ensures ∙ ap (λ (l : List Action). l ++ action.End ∷ []) c.actions.ensures)
