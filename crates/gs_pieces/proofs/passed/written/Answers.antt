use Rattle.std.proofs.Common.{◌+◌, ◌++◌, ℕ, List, drop, ap, ◌∙◌, arith}
use Rattle.gs_idl.specs.Interface.{params_at}
use Rattle.gs_talk.specs.Talk.{written_in}
use Rattle.gs_pieces.proofs.Passing.{written_more, written_end, place_of_both}
use Rattle.gs_pieces.proofs.passed.written.Goals as goal

pub loop-j-preserved : goal.loop-j-preserved
loop-j-preserved c =
    let ps = params_at c.args.idl.now.ops c.args.op in
    let p = place_of_both ps c.loop-j.j c.param-dir.result.0 c.param-dir.result.1 c.param-dir.ensures.dir c.param-dir.ensures.kind in
    ap (λ (names : List (List ℕ)). names ++ written_in (drop (c.loop-j.j + 1) ps) (drop (c.loop-j.j + 1) c.args.args.now)) c.in_ok-push_written.ensures
    ∙ written_more ps c.args.args.now c.loop-j.j p.0 c.index-args-j.result c.leaves_file.result c.loop-j.names.items (written_in ps c.args.args.now) p.1 (omega (arith, c.min-j-end.ensures, c.loop-j-test.true)) c.index-args-j.is
    (c.leaves_file.ensures p.0 p.2 p.3) c.loop-j.invariant

pub returns : goal.returns
returns c =
    let ps = params_at c.args.idl.now.ops c.args.op in
    written_end ps c.args.args.now c.loop-j.j c.loop-j.names.items (written_in ps c.args.args.now) (omega (arith, c.min-j-end.ensures, c.place_count-count.ensures.count, c.loop-j-test.false, c.requires)) c.loop-j.invariant
