use Rattle.std.proofs.Common.{List, [], sym, subst}
use Rattle.gs_broker.specs.Text.{Entry, LinesSay, no_line}
use Rattle.gs_broker.specs.Reading.{spelled, IsLinesStop}
use Rattle.gs_broker.specs.Listed.{entries_in}
use Rattle.gs_broker.specs.declared.kind.WorkersErr.{WorkersErr}
use Rattle.gs_broker.proofs.Texts.{one_line_more, stops_at}
use Rattle.gs_broker.proofs.reader.read_lines.Goals as goal

pub loop-place-init : goal.loop-place-init
loop-place-init c = subst (λ (ws : List Entry). LinesSay c.args.idl.now.ops [] [] ws) (sym c.requires.none) (no_line [])

pub returns-in-Err : goal.returns-in-Err
returns-in-Err c =
    subst (λ (e : WorkersErr). IsLinesStop c.args.idl.now.ops (spelled c.args.lines.now) e) (sym c.at_line.ensures)
    (stops_at c.args.idl.now.ops c.args.lines.now c.loop-place.place (record { ref_ptr = (0, 0); now = [] }) (entries_in c.loop-place.workers) c.in-Err.stop c.loop-place-test.true c.loop-place.invariant c.in-Err.ensures)

pub loop-place-preserved : goal.loop-place-preserved
loop-place-preserved c =
    one_line_more c.args.idl.now.ops c.args.lines.now c.loop-place.place (record { ref_ptr = (0, 0); now = [] }) [] (entries_in c.loop-place.workers) (entries_in c.read_line.new.workers) c.loop-place-test.true c.loop-place.invariant c.in-Ok.ensures
