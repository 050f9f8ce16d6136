use Rattle.std.proofs.Common.{◌≡◌, true, false, map, take, sym, ◌∙◌, inl, inr, arith}
use Rattle.std.proofs.lemmas.Option.{slice_get_cases}
use Rattle.std.specs.Prelude.{is_some}
use Rattle.gs_idl.specs.Interface.{params_at}
use Rattle.gs_tree.specs.View.{passed_of, var_of}
use Rattle.gs_check.specs.Faults.{passed_fault}
use Rattle.gs_check.proofs.Calling.{args_at, place_before, stop_here, go_on}
use Rattle.gs_check.proofs.call.args_fault.Goals as goal

pub returns-then-is_some : goal.returns-then-is_some
returns-then-is_some c =
    let params = params_at c.args.idl.now.ops c.args.op in
    let args = c.args.args.now in
    elim (slice_get_cases params c.loop-j.j).1 [
      | inl x ↦
          let found = c.passed_fault-found.ensures x.0 (place_before params args c.loop-j.j x.0 (omega arith) x.2) in
          let step = args_at (map var_of c.args.vars.now) params params args c.loop-j.j x.0 c.index-args-j.result x.2 (omega arith) c.index-args-j.is in
          let seen : is_some (passed_fault (map var_of c.args.vars.now) params (map passed_of (take c.loop-j.j args)) x.0 (passed_of c.index-args-j.result)) ≡ true = rw (← found) (sym c.is_some.ensures ∙ c.if-is_some.true) in
          found ∙ sym (stop_here _ _ seen) ∙ sym step ∙ c.loop-j.invariant
      | inr x ↦ absurd (omega arith)
    ]

pub loop-j-preserved : goal.loop-j-preserved
loop-j-preserved c =
    let params = params_at c.args.idl.now.ops c.args.op in
    let args = c.args.args.now in
    elim (slice_get_cases params c.loop-j.j).1 [
      | inl x ↦
          let found = c.passed_fault-found.ensures x.0 (place_before params args c.loop-j.j x.0 (omega arith) x.2) in
          let step = args_at (map var_of c.args.vars.now) params params args c.loop-j.j x.0 c.index-args-j.result x.2 (omega arith) c.index-args-j.is in
          let seen : is_some (passed_fault (map var_of c.args.vars.now) params (map passed_of (take c.loop-j.j args)) x.0 (passed_of c.index-args-j.result)) ≡ false = rw (← found) (sym c.is_some.ensures ∙ c.if-is_some.false) in
          sym (go_on _ _ seen) ∙ sym step ∙ c.loop-j.invariant
      | inr x ↦ absurd (omega arith)
    ]
