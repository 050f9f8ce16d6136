use Rattle.std.proofs.Common.{subst, Err}
use Rattle.gs_parse.specs.Faulty.{IsReadAs}
use Rattle.gs_run.proofs.Judgements.{tree_read, tree_fault}
use Rattle.gs_run.proofs.texts.tree_of.Goals as goal

pub returns-in-Ok-clause-says : goal.returns-in-Ok-clause-says
returns-in-Ok-clause-says c = tree_read c.args.text.now c.in-Ok.tree c.in-Ok.ensures

pub returns-in-Err-At-clause-says : goal.returns-in-Err-At-clause-says
returns-in-Err-At-clause-says c = tree_fault c.args.name.now c.args.text.now c.in-Err-At.line
    c.in-Err-At.kind c.bad_text.result c.bad_text.ensures
    (subst (λ e. IsReadAs c.args.text.now (Err e)) c.in-Err-At.field-0-is c.in-Err-At.ensures)
