use Rattle.std.proofs.Common.{Bor, ℕ, List, []}
use Rattle.gs_lines.proofs.Turned.{file_of-take}
use Rattle.gs_lines.proofs.ordering.file_of.Goals as goal

pub loop-line-preserved : goal.loop-line-preserved
loop-line-preserved c = file_of-take (λ (line : Bor (List ℕ)). line.now) c.args.all.now
    c.loop-line.line-index (record { ref_ptr = (0, 0); now = [] }) c.loop-line.file.items
    c.push_line.new.file.items c.loop-line-test.true c.in_ok-push_line.ensures c.loop-line.invariant
