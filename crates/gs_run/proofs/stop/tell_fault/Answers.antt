use Rattle.std.proofs.Common.{◌∙◌, [], ◌∷◌}
use Rattle.std.specs.Prelude.{codes}
use Rattle.gs_run.proofs.Answering.{fault_line}
use Rattle.gs_run.proofs.stop.tell_fault.Goals as goal

pub returns-clause-all : goal.returns-clause-all
returns-clause-all g c = λ told.
    fault_line c.put_all-2.result _ _ _ _ (codes "gs: program fault: line ") _ _ (codes ": ") _ _
    (10 ∷ []) (c.as_bytes.ensures.value ∙ c.format.ensures.text) c.fault_kind_text.ensures
    (c.in_ok-put_all.ensures.all told) (c.in_ok-tell_parts.ensures.all told)
    (c.put_all-2.ensures.all told)
