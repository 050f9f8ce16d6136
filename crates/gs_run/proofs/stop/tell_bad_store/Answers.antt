use Rattle.std.proofs.Common.{◌∙◌, ap, [], ◌∷◌}
use Rattle.std.specs.Prelude.{codes}
use Rattle.gs_run.specs.Stop.{bad_store_line}
use Rattle.gs_run.proofs.Answering.{parts_line}
use Rattle.gs_run.proofs.stop.tell_bad_store.Goals as goal

pub returns-in-Log-clause-all : goal.returns-in-Log-clause-all
returns-in-Log-clause-all g c = λ told. parts_line c.tell_parts.result _ _
    (codes "gs: bad store: log at ") _ _ (10 ∷ []) _ (c.as_bytes.ensures.value
    ∙ c.format.ensures.text) (ap bad_store_line c.in-Log.is) (c.tell_parts.ensures.all told)

pub returns-in-Record-clause-all : goal.returns-in-Record-clause-all
returns-in-Record-clause-all g c = λ told. parts_line c.tell_parts-in-Record.result _ _
    (codes "gs: bad store: record ") _ _ (10 ∷ []) _ (c.as_bytes-in-Record.ensures.value
    ∙ c.format-in-Record.ensures.text) (ap bad_store_line c.in-Record.is)
    (c.tell_parts-in-Record.ensures.all told)
