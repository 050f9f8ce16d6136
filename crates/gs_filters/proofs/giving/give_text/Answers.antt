use Rattle.std.proofs.Common.{◌≡◌, subst, List, Option, IfOk}
use Rattle.std.specs.Prelude.{option_map}
use Rattle.gs_types.specs.declared.value.Value.{Value}
use Rattle.gs_filters.proofs.Texts.{kept_string}
use Rattle.gs_filters.proofs.giving.give_text.Goals as goal

pub returns-in-Ok : goal.returns-in-Ok
returns-in-Ok c = let is = kept_string c.args.bytes.now c.in-Ok.s c.in-Ok.ensures.0
    c.in-Ok.ensures.1 in
    subst (λ (outs : Option (List Value)). IfOk c.one.result (λ r. option_map (λ v. v.items) r ≡
    outs)) is c.one.ensures
