use Rattle.std.proofs.Common.{◌∙◌, ap, [], ◌∷◌}
use Rattle.std.specs.Prelude.{codes}
use Rattle.gs_run.specs.Stop.{line_of}
use Rattle.gs_run.proofs.Answering.{parts_line, whole_line}
use Rattle.gs_run.proofs.stop.Stop.tell.Goals as goal

pub returns-in-TaskLost-clause-all : goal.returns-in-TaskLost-clause-all
returns-in-TaskLost-clause-all g c = λ told. parts_line c.tell_parts-in-TaskLost.result _ _
    (codes "gs: task lost: ") _ _ (10 ∷ []) _ (c.as_bytes-in-TaskLost.ensures.value
    ∙ c.format-in-TaskLost.ensures.text) (ap line_of c.in-TaskLost.is) (c.tell_parts-in-TaskLost.ensures.all
    told)

pub returns-in-Disk-clause-all : goal.returns-in-Disk-clause-all
returns-in-Disk-clause-all g c = λ told. whole_line c.put_all-in-Disk.result _ _ _ _
    (ap line_of c.in-Disk.is) (c.put_all-in-Disk.ensures.all told)

pub returns-in-Sink-clause-all : goal.returns-in-Sink-clause-all
returns-in-Sink-clause-all g c = λ told. whole_line c.put_all-in-Sink.result _ _ _ _
    (ap line_of c.in-Sink.is) (c.put_all-in-Sink.ensures.all told)
