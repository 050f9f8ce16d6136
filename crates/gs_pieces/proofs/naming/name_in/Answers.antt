use Rattle.std.proofs.Common.{ap, sym, ◌∙◌}
use Rattle.gs_types.specs.NameTest.{is_name, name_gives, bad_name}
use Rattle.gs_pieces.proofs.naming.name_in.Goals as goal

pub returns-in-Ok : goal.returns-in-Ok
returns-in-Ok c = (ap is_name (sym c.in-Ok.ensures.0) ∙ name_gives c.in-Ok.name c.in-Ok.ensures.1, c.in-Ok.ensures.0)

pub returns-in-Err : goal.returns-in-Err
returns-in-Err c = bad_name c.args.text.now c.in-Err.field-0.at c.in-Err.ensures
