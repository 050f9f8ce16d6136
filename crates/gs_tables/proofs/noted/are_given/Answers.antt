use Rattle.std.proofs.Common.{◌≡◌, ◌∙◌, sym, ap, ◌<◌, ◌+◌, ℕ, List, suc, length, drop, arith, false}
use Rattle.gs_idl.specs.Interface.{params_at, is_output}
use Rattle.gs_types.specs.declared.note.OutNote.{OutNote}
use Rattle.gs_history.specs.Notes.{are_given}
use Rattle.gs_tables.specs.Noted.{given_at}
use Rattle.gs_tables.proofs.Amounts.{place_step, given_end}
use Rattle.gs_tables.proofs.noted.are_given.Goals as goal

pub returns-in-None : goal.returns-in-None
returns-in-None c =
    let i = c.loop-i.i in
    let ps = params_at c.args.idl.now.ops c.args.op in
    let os = drop c.loop-i.next c.args.outs.now in
    let more = are_given (suc (suc i)) (drop (suc i) ps) in
    let at : suc i ≡ i + 1 = omega arith in
    let step = place_step i ps os c.param-dir.result.0 c.param-dir.result.1 c.param-dir.ensures.dir c.param-dir.ensures.kind in
    sym (sym c.loop-i.invariant.0 ∙ step ∙ ap (λ (n : ℕ). given_at (is_output c.param-dir.result.0) n c.param-dir.result.1 os more) at ∙ c.in-None.ensures.goes more)

pub loop-i-preserved : goal.loop-i-preserved
loop-i-preserved c =
    let i = c.loop-i.i in
    let ps = params_at c.args.idl.now.ops c.args.op in
    let os = drop c.loop-i.next c.args.outs.now in
    let more = are_given (suc (suc i)) (drop (suc i) ps) in
    let at : suc i ≡ i + 1 = omega arith in
    let step = place_step i ps os c.param-dir.result.0 c.param-dir.result.1 c.param-dir.ensures.dir c.param-dir.ensures.kind in
    (ap (λ (n : ℕ). are_given (suc n) (drop n ps) (drop c.in-Some.n c.args.outs.now)) (sym at) ∙ sym (c.in-Some.ensures.goes more) ∙ ap (λ (n : ℕ). given_at (is_output c.param-dir.result.0) n c.param-dir.result.1 os more) (sym at) ∙ sym step ∙ c.loop-i.invariant.0, c.in-Some.ensures.within)

pub returns : goal.returns
returns c =
    let count = c.param_count-i-end.ensures in
    sym (given_end c.loop-i.i c.loop-i.next (params_at c.args.idl.now.ops c.args.op) c.args.outs.now (omega (arith, c.loop-i-test.false)) c.loop-i.invariant.1) ∙ c.loop-i.invariant.0
