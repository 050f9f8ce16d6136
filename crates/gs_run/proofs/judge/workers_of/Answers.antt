use Rattle.gs_run.proofs.LongList.{long_list}
use Rattle.gs_run.proofs.judge.workers_of.Goals as goal

pub returns-in-Long-clause-says : goal.returns-in-Long-clause-says
returns-in-Long-clause-says c = λ file is. long_list c.args.idl.now.ops file c.args.name.now
    c.args.text.now c.bad_text.result c.in-Long.is c.bad_text.ensures is
