use Rattle.gs_entries.proofs.Lengths.{short_so}
use Rattle.gs_entries.proofs.payload.encode.Goals as goal

pub returns-clause-short : goal.returns-clause-short
returns-clause-short c = short_so c.args.e.now c.spelling.result c.spelling.ensures
