use Rattle.std.proofs.Common.{◌∙◌}
use Rattle.std.specs.Prelude.{codes}
use Rattle.gs_run.proofs.Answering.{lost_line}
use Rattle.gs_run.proofs.stop.tell_lost.Goals as goal

pub returns-clause-all : goal.returns-clause-all
returns-clause-all g c = λ told.
    lost_line c.tell_found.result _ _ _ _ (codes "gs: bad store: file ") _ _ (codes " kept ") _ _
    _ (c.bytes.ensures.value ∙ c.version_file-name.ensures) (c.as_bytes.ensures.value
    ∙ c.format.ensures.text) (c.in_ok-tell_parts.ensures.all told)
    (c.in_ok-put_all.ensures.all told) (c.tell_found.ensures.all told)
