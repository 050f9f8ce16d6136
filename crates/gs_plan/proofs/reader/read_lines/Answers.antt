use Rattle.std.proofs.Common.{[], length, sym, subst, ap, ◌∙◌}
use Rattle.gs_list.specs.Lines.{spelled}
use Rattle.gs_plan.specs.Durations.{Given, LinesSay, no_line, none_given}
use Rattle.gs_plan.specs.Reading.{IsLinesStop}
use Rattle.gs_plan.specs.declared.kind.DurErr.{DurErr}
use Rattle.gs_plan.proofs.Giving.{one_line_more, stops_at, length_none}
use Rattle.gs_plan.proofs.reader.read_lines.Goals as goal

pub loop-place-init : goal.loop-place-init
loop-place-init c = record {
  each = ap (λ (g : Given). length g) c.requires.none ∙ length_none (length c.args.idl.now.ops);
  said = subst (λ (g : Given). LinesSay c.args.idl.now.ops [] (none_given c.args.idl.now.ops) g) (sym c.requires.none) (no_line (none_given c.args.idl.now.ops));
}

pub returns-in-Err : goal.returns-in-Err
returns-in-Err c =
    subst (λ (e : DurErr). IsLinesStop c.args.idl.now.ops (spelled c.args.lines.now) e) (sym c.at_line.ensures)
    (stops_at c.args.idl.now.ops c.args.lines.now c.loop-place.place (record { ref_ptr = (0, 0); now = [] }) c.loop-place.given.items c.in-Err.stop c.loop-place-test.true c.loop-place.invariant.said c.in-Err.ensures.line)

pub loop-place-preserved : goal.loop-place-preserved
loop-place-preserved c = record {
  each = c.in-Ok.ensures.each;
  said = one_line_more c.args.idl.now.ops c.args.lines.now c.loop-place.place (record { ref_ptr = (0, 0); now = [] }) (none_given c.args.idl.now.ops) c.loop-place.given.items c.read_line.new.given.items c.loop-place-test.true c.loop-place.invariant.said c.in-Ok.ensures.line;
}
