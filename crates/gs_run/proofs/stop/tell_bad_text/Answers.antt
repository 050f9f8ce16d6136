use Rattle.std.proofs.Common.{◌∙◌, [], ◌∷◌}
use Rattle.std.specs.Prelude.{codes}
use Rattle.gs_run.proofs.Answering.{bad_text_line}
use Rattle.gs_run.proofs.stop.tell_bad_text.Goals as goal

pub returns-clause-all : goal.returns-clause-all
returns-clause-all g c = λ told.
    bad_text_line c.put_all.result _ _ _ _ (codes "gs: bad text: ") _ _ (codes ":") _ _
    (codes ": ") _ _ (10 ∷ []) c.bytes.ensures.value (c.as_bytes.ensures.value
    ∙ c.format.ensures.text) c.kind_text.ensures
    (c.in_ok-tell_parts.ensures.all told) (c.in_ok-tell_parts-2.ensures.all told)
    (c.put_all.ensures.all told)
