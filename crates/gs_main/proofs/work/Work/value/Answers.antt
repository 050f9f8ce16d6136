use Rattle.std.proofs.Common.{refl}
use Rattle.gs_talk.specs.View.{placed_of}
use Rattle.gs_main.specs.Seen.{state_of}
use Rattle.gs_main.proofs.Doing.{has_value, value_meets}
use Rattle.gs_main.proofs.work.Work.value.Goals as goal

pub returns-in-Ok : goal.returns-in-Ok
returns-in-Ok c = (has_value (placed_of c.args.e.now) c.args.line (state_of c.args.self.now) c.deref.result.now c.in-Ok.v c.deref.ensures.value c.in-Ok.ensures, refl)

pub returns-in-Err : goal.returns-in-Err
returns-in-Err c = value_meets (placed_of c.args.e.now) c.args.line c.args.self.now c.deref.result.now c.in-Err.e c.trouble.result c.trouble.new.self c.deref.ensures.value c.in-Err.ensures c.trouble.ensures
