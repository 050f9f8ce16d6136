use Rattle.std.proofs.Common.{◌≡◌, List, Some, take, ap, subst, sym, ◌∙◌, ◌++◌, ◌∷◌, []}
use Rattle.std.specs.Prelude.{option_map, slice_get}
use Rattle.gs_idl.specs.Interface.{Interface, Param, params_at}
use Rattle.gs_talk.specs.declared.question.CallArg.{CallArg}
use Rattle.gs_talk.specs.Talk.{file_fault, file_at, files_fault}
use Rattle.gs_pieces.specs.Places.{arg_in, args_in}
use Rattle.gs_main.specs.Seen.{given_of, state_of}
use Rattle.gs_pieces.proofs.Passing.{place_of_both, files_pass, files_stop, files_end, viewed_more, viewed_all, fault_passes}
use Rattle.gs_main.proofs.work.Work.call_args.Goals as goal

pub returns-in-Err : goal.returns-in-Err
returns-in-Err c =
    let t = given_of c.args.script.now in
    let s = state_of c.args.self.now in
    let ps = params_at t.ops c.args.op in
    let same : params_at c.idl.result.now.ops c.args.op ≡ ps = ap (λ (i : Interface). params_at i.ops c.args.op) c.idl.ensures in
    let p = place_of_both ps c.loop-j.j c.param-dir.result.0 c.param-dir.result.1
    (subst (λ (qs : List Param). option_map (λ q. q.dir) (slice_get qs c.loop-j.j) ≡ Some c.param-dir.result.0) same c.param-dir.ensures.dir)
    (subst (λ (qs : List Param). option_map (λ q. q.kind) (slice_get qs c.loop-j.j) ≡ Some c.param-dir.result.1) same c.param-dir.ensures.kind) in
    let a = c.index-passed-j.result in
    fault_passes (files_fault t s ps (args_in c.args.passed.now)) (args_in c.args.passed.now) (file_fault t s p.0 (file_at (arg_in a))) (arg_in a) c.in-Err.e (c.in-Err.ensures p.0 p.2 p.3)
    (λ kind e. files_stop arg_in t s ps c.args.passed.now c.loop-j.j p.0 a kind (files_fault t s ps (args_in c.args.passed.now)) p.1 c.loop-j-test.true c.index-passed-j.is e c.loop-j.invariant.faults)

pub loop-j-preserved : goal.loop-j-preserved
loop-j-preserved c =
    let t = given_of c.args.script.now in
    let s = state_of c.args.self.now in
    let ps = params_at t.ops c.args.op in
    let same : params_at c.idl.result.now.ops c.args.op ≡ ps = ap (λ (i : Interface). params_at i.ops c.args.op) c.idl.ensures in
    let p = place_of_both ps c.loop-j.j c.param-dir.result.0 c.param-dir.result.1
    (subst (λ (qs : List Param). option_map (λ q. q.dir) (slice_get qs c.loop-j.j) ≡ Some c.param-dir.result.0) same c.param-dir.ensures.dir)
    (subst (λ (qs : List Param). option_map (λ q. q.kind) (slice_get qs c.loop-j.j) ≡ Some c.param-dir.result.1) same c.param-dir.ensures.kind) in
    let a = c.index-passed-j.result in
    let h = c.in-Ok.ensures p.0 p.2 p.3 in record {
      items =
          c.in-Ok-push.ensures.items
          ∙ ap (λ (xs : List CallArg). xs ++ c.in-Ok.a ∷ []) c.loop-j.invariant.items
          ∙ ap (λ (x : CallArg). args_in (take c.loop-j.j c.args.passed.now) ++ x ∷ []) h.1
          ∙ sym (viewed_more arg_in c.args.passed.now c.loop-j.j a c.loop-j-test.true c.index-passed-j.is);
      faults = files_pass arg_in t s ps c.args.passed.now c.loop-j.j p.0 a (files_fault t s ps (args_in c.args.passed.now)) p.1 c.loop-j-test.true c.index-passed-j.is h.0 c.loop-j.invariant.faults;
    }

pub returns : goal.returns
returns c =
    let t = given_of c.args.script.now in
    let s = state_of c.args.self.now in
    let ps = params_at t.ops c.args.op in (
      files_end arg_in t s ps c.args.passed.now c.loop-j.j (files_fault t s ps (args_in c.args.passed.now)) c.loop-j-test.false c.loop-j.invariant.faults,
      c.loop-j.invariant.items ∙ viewed_all arg_in c.args.passed.now c.loop-j.j c.loop-j-test.false,
    )
