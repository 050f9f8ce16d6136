use Rattle.std.proofs.Common.{◌∙◌, ap, Some, Err}
use Rattle.gs_run.proofs.Judgements.{both_interface, both_tree, both_checks}
use Rattle.gs_run.proofs.texts.checked.Goals as goal

pub returns-in-Err-clause-says : goal.returns-in-Err-clause-says
returns-in-Err-clause-says c = both_interface (Some c.args.idl.now) (Some c.args.program.now)
    c.args.idl_name.now c.args.program_name.now c.in-Err.stop c.in-Err.ensures.says

pub returns-in-Err-tree_of-clause-says : goal.returns-in-Err-tree_of-clause-says
returns-in-Err-tree_of-clause-says c = both_tree (Some c.args.idl.now) (Some c.args.program.now)
    c.args.idl_name.now c.args.program_name.now c.in-Ok.idl c.in-Err-tree_of.stop
    c.in-Ok.ensures.says c.in-Err-tree_of.ensures.says

pub returns-in-Err-At-clause-says : goal.returns-in-Err-At-clause-says
returns-in-Err-At-clause-says c = both_checks (Some c.args.idl.now) (Some c.args.program.now)
    c.args.idl_name.now c.args.program_name.now c.in-Ok.idl c.in-Ok-tree_of.tree c.in-Err-At.line
    c.in-Err-At.kind c.bad_text.result c.bad_text.ensures c.in-Ok.ensures.says
    c.in-Ok-tree_of.ensures.says
    (c.check.ensures.fault c.in-Err-At.line c.in-Err-At.kind (c.in-Err-At.is
    ∙ ap Err c.in-Err-At.field-0-is))
